-- Fields are parsed again from the bytes that encode them.
use Rattle.std.proofs.Common.{◌≡◌, refl, ℕ, ◌+◌, Bool, false, None, List, [], ◌∷◌, ◌++◌, find}
use Rattle.std.proofs.Common.{length, slice_range, arith}
use Rattle.std.proofs.lemmas.List.{append-nil, take_at}
use Rattle.std.specs.List.{list_any}
use Rattle.ep_icmp.specs.Fields.{EchoFits, TimestampFits, echo_bytes, echo_in, timestamp_bytes, timestamp_in}
use Rattle.ep_icmp.proofs.Outcomes.{neither}
use Rattle.ep_icmp.specs.Layout.{used_bytes, bytes_of_fields}
use Rattle.ep_icmp.specs.declared.transport.icmp_echo_header.IcmpEchoHeader.{IcmpEchoHeader}
use Rattle.ep_icmp.specs.declared.transport.icmpv4.timestamp_message.TimestampMessage.{TimestampMessage}

pub echo_again : (echo : IcmpEchoHeader) (a b c d : ℕ) (rest : List ℕ) → EchoFits echo
    → echo_in (a ∷ b ∷ c ∷ d ∷ (echo_bytes echo ++ rest)) 4 ≡ echo
echo_again echo a b c d rest fits = grind arith

pub timestamp_again : (m : TimestampMessage) (a b c d : ℕ) (rest : List ℕ) → TimestampFits m
    → timestamp_in (a ∷ b ∷ c ∷ d ∷ (timestamp_bytes m ++ rest)) 4 ≡ m
timestamp_again m a b c d rest fits = grind arith

-- four bytes after the checksum
pub bytes_again : (bytes : List ℕ) (a b c d : ℕ) (rest : List ℕ) → length bytes ≡ 4
    → slice_range (a ∷ b ∷ c ∷ d ∷ (bytes_of_fields (used_bytes bytes) ++ rest)) 4 8 ≡ bytes
bytes_again bytes a b c d rest four = rw (append-nil bytes) (take_at bytes rest 4 four)

-- none of some values passes a test
pub none_passes : {A : Type 0} (p : A → Bool) (xs : List A)
    → list_any p xs ≡ false → find p xs ≡ None
none_passes p [] e = refl
none_passes p (x ∷ xs) e =
    let both = neither (p x) (list_any p xs) e in
    rw both.0 (none_passes p xs both.1)
