-- Messages as texts with their checksum as a word in them.
use Rattle.std.proofs.Common.{◌≡◌, ℕ, ◌%◌, List, ◌∷◌, ◌++◌, length, length-append, append_assoc, arith, []}
use Rattle.ep_base.specs.MessageSum.{with_word}
use Rattle.ep_icmp.specs.Icmpv6.{pseudo}
use Rattle.ep_icmp.specs.Layout.{Layout, bytes_of_layout, bytes_of_fields}

-- a pseudo header, a header and a payload, as a text with the checksum as a word in it
pub joined : (l : Layout) (prefix payload : List ℕ) (c : ℕ)
    → prefix ++ bytes_of_layout l c ++ payload ≡ with_word (prefix ++ (l.type_u8 ∷ l.code_u8 ∷ [])) c
    (bytes_of_fields l.fields ++ payload)
joined l prefix payload c = grind (arith, append_assoc)

-- a pseudo header, a type and a code are whole words
pub even_pseudo : (source destination : List ℕ) (len type_u8 code_u8 : ℕ) → length source ≡ 16
    → length destination ≡ 16
    → length (pseudo source destination len ++ (type_u8 ∷ code_u8 ∷ [])) % 2 ≡ 0
even_pseudo source destination len type_u8 code_u8 s d = omega (arith, length-append {A = ℕ}, s, d)
