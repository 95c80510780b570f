-- Messages in which a word is changed.
use Rattle.std.proofs.Common.{◌≡◌, ◌≢◌, ◌⊎◌, inl, inr, ap, ◌∙◌, refl, ℕ, ◌%◌, ◌≤◌, ◌==◌, Bool, [], true, false, List, ◌++◌}
use Rattle.std.proofs.Common.{length, Result, Ok, Err, subst, arith, append-nil}
use Rattle.std.specs.Prelude.{◌&&◌, not, if◌then◌else◌}
use Rattle.std.proofs.lemmas.Bool.{ltb-false}
use Rattle.std.proofs.lemmas.List.{get_or_append_left, length-take-le, take_at}
use Rattle.std.specs.Result.{result_map_both}
use Rattle.etherparse.specs.base.declared.err.layer.Layer.TheVariants as layer
use Rattle.etherparse.specs.base.declared.err.len_error.LenError.{LenError}
use Rattle.etherparse.specs.packet.declared.err.packet.slice_error.SliceError.{SliceError}
use Rattle.etherparse.specs.packet.declared.err.packet.slice_error.SliceError.TheVariants as slice_error
use Rattle.etherparse.specs.tcpudp.Udp.{checksum_of, length_of, summed_udp}
use Rattle.netlines.specs.ChangedWord.{DifferInOneWord, summed_bytes, verdict_after}
use Rattle.etherparse.specs.packet.Readable.{ReadMessage, message_at}
use Rattle.etherparse.specs.packet.Readable.ReadMessage.{Icmpv4, Tcp, Udp, Icmpv6, Raw}
use Rattle.netlines.specs.Sealed.{AddressesFit}
use Rattle.checksum_verdicts.specs.Verdict.{is_unchecked, pseudo, summed_text, verdict_of}
use Rattle.etherparse.specs.packet.declared.addresses.Addresses.{Addresses}
use Rattle.checksum_verdicts.specs.declared.verdict.Verdict.TheVariants as verdict
use Rattle.netlines.proofs.ChangedWordLemmas.{IsChanged, kept, nothing_after, same_len, reported}
use Rattle.netlines.proofs.ReadLemmas.{icmpv4_is, icmpv6_is, segment_is}
use Rattle.netlines.proofs.SealedLemmas.{even_pseudo}

-- what the checksum of a message covers, after the pseudo header where it has one
pub summed_is : (addresses : Addresses) (message : ReadMessage)
    → (summed_text addresses message ≡ summed_bytes message) ⊎ ((number : ℕ)
    × (summed_text addresses message ≡ pseudo addresses number (length (summed_bytes message))
    ++ summed_bytes message))
summed_is addresses (Icmpv4 bytes) = inl refl
summed_is addresses (Tcp bytes) = inr (6, refl)
summed_is addresses (Udp bytes) = inr (17, refl)
summed_is addresses (Icmpv6 bytes) = inr (58, refl)
summed_is addresses (Raw bytes) = inl refl

-- a datagram as it is read: its length field is 0, or at least the header's length and at most the
-- bytes that are there
udp_cases : (a b c d : Bool) (e f g : LenError) (x y : List ℕ) (read : ReadMessage)
    → result_map_both (λ m. Udp m) (λ e. slice_error.Len e)
    (if a then Err e else (if b then Err f else (if not c && d then Err g
    else Ok (if c then x else y)))) ≡ Ok read
    → (read ≡ Udp (if c then x else y))
    × ((a ≡ false) × ((b ≡ false) × ((c ≡ true) ⊎ ((c ≡ false) × (d ≡ false)))))
udp_cases a b c d e f g x y read is = grind arith

record IsDatagram (bytes : List ℕ) (read : ReadMessage) : Type 0 where
  is : read ≡ Udp (summed_udp bytes)
  least : 8 ≤ length (summed_udp bytes)
  covers : ((length_of bytes == 0) ≡ true)
      ⊎ (((length_of bytes == 0) ≡ false) × (length (summed_udp bytes) ≡ length_of bytes))

datagram_is : (bytes : List ℕ) (read : ReadMessage) → message_at 17 bytes ≡ Ok read
    → IsDatagram bytes read
datagram_is bytes read is = grind (arith, udp_cases, ltb-false, length-take-le)

-- fields of the header, where more follows it
fields_before_more : (bytes following : List ℕ) → 8 ≤ length bytes
    → length_of (bytes ++ following) ≡ length_of bytes
fields_before_more bytes following long = grind (arith, get_or_append_left)

-- two messages of one protocol
of_kind : (addresses : Addresses) (kind : List ℕ → ReadMessage) (prefix : ℕ → List ℕ)
    → ((n : ℕ) → length (prefix n) % 2 ≡ 0) → ((x : List ℕ) → summed_bytes (kind x) ≡ x)
    → ((x : List ℕ) → summed_text addresses (kind x) ≡ prefix (length x) ++ x)
    → (message changed : ReadMessage) (old read new : List ℕ) → message ≡ kind old
    → changed ≡ kind read → read ≡ new → length new ≡ length old
    → is_unchecked addresses (kind read) ≡ is_unchecked addresses (kind old)
    → IsChanged addresses message changed new
of_kind addresses kind prefix even whole texts message changed old read new is changed_is same
    len unchecked = record {
      unchecked = grind arith;
      prefix = prefix (length old);
      even = even (length old);
      was = grind arith;
      is = rw (changed_is, same) (rw len at (texts new));
    }

module _ (addresses : Addresses) (bytes following new : List ℕ) (message changed : ReadMessage)
    (cut : bytes ≡ summed_bytes message ++ following) (words : DifferInOneWord (summed_bytes message)
    new) where
  -- nothing follows a message that is read as a whole
  whole_kind : (kind : List ℕ → ReadMessage) (prefix : ℕ → List ℕ)
      → ((n : ℕ) → length (prefix n) % 2 ≡ 0) → ((x : List ℕ) → summed_bytes (kind x) ≡ x)
      → ((x : List ℕ) → summed_text addresses (kind x) ≡ prefix (length x) ++ x)
      → ((x y : List ℕ) → is_unchecked addresses (kind x) ≡ is_unchecked addresses (kind y))
      → message ≡ kind bytes → changed ≡ kind (new ++ following)
      → IsChanged addresses message changed new
  whole_kind kind prefix even whole texts unchecked is changed_is =
      let all : summed_bytes message ≡ bytes = rw is (whole bytes) in
      let none = nothing_after bytes following (rw all at cut) in
      of_kind addresses kind prefix even whole texts message changed bytes (new ++ following) new is
      changed_is (rw none (append-nil new))
      (same_len (summed_bytes message) new words ∙ ap length all) (unchecked (new ++ following) bytes)

  datagram_kind : ((n : ℕ) → length (pseudo addresses 17 n) % 2 ≡ 0)
      → (length words.prefix ≢ 4) × (length words.prefix ≢ 6) → IsDatagram bytes message
      → IsDatagram (new ++ following) changed → IsChanged addresses message changed new
  datagram_kind even other was is =
      let old : List ℕ = summed_bytes message in
      let all : old ≡ summed_udp bytes = ap summed_bytes was.is in
      let long : 8 ≤ length old = rw all was.least in
      let len : length new ≡ length old = same_len old new words in
      let text_long : 8 ≤ length (words.prefix ++ words.old_word ++ words.rest) =
      omega (arith, long, ap length words.old_is) in
      let fields = kept words.prefix words.old_word words.new_word words.rest words.aligned other.0
      other.1 words.size words.same_size text_long in
      let stated : length_of new ≡ length_of old =
      grind arith in
      let stored : checksum_of new ≡ checksum_of old =
      grind arith in
      let same_stated : length_of (new ++ following) ≡ length_of bytes =
      grind (arith, fields_before_more) in
      let read_is : summed_udp (new ++ following) ≡ new =
      grind (arith, nothing_after, append-nil, take_at) in
      of_kind addresses (λ m. Udp m) (pseudo addresses 17) even (λ x. refl) (λ x. refl) message changed
      (summed_udp bytes) (summed_udp (new ++ following)) new was.is is.is read_is
      (len ∙ ap length all)
      (ap (λ (n : ℕ). n == 0) (ap checksum_of read_is ∙ stored ∙ ap checksum_of all))

number_is : (number k : ℕ) → (number ≡ k) ⊎ ((number == k) ≡ false)
number_is number k = grind arith

-- a message of no protocol that is read has no checksum
raw_is : (a b c d : Bool) (e f g h : Result ReadMessage SliceError) (bytes : List ℕ)
    (read : ReadMessage) → a ≡ false → b ≡ false → c ≡ false → d ≡ false
    → (if a then e else (if b then f else (if c then g else (if d then h else Ok (Raw bytes)))))
    ≡ Ok read → read ≡ Raw bytes
raw_is a b c d e f g h bytes read p q r s is = grind arith

module _ (addresses : Addresses) (fit : AddressesFit addresses) (number : ℕ)
    (bytes following new : List ℕ) (message changed : ReadMessage)
    (is : message_at number bytes ≡ Ok message)
    (good : verdict_of addresses message ≡ verdict.Good) (cut : bytes ≡ summed_bytes message
    ++ following)
    (words : DifferInOneWord (summed_bytes message) new)
    (other : number ≡ 17 → (length words.prefix ≢ 4) × (length words.prefix ≢ 6))
    (changed_is : message_at number (new ++ following) ≡ Ok changed) where
  at : (k : ℕ) → number ≡ k → (bytes : List ℕ) (read : ReadMessage)
      → message_at number bytes ≡ Ok read → message_at k bytes ≡ Ok read
  at k same bytes read is = subst (λ (n : ℕ). message_at n bytes ≡ Ok read) same is

  by_kind : IsChanged addresses message changed new
      → verdict_of addresses changed ≡ verdict_after words.old_word words.new_word
      (summed_text addresses changed)
  by_kind kept = reported addresses message changed new good words kept

  unread : (number == 1) ≡ false → (number == 6) ≡ false → (number == 17) ≡ false
      → (number == 58) ≡ false → verdict.None ≡ verdict.Good
  unread p q r s = grind arith

  pub changed_word : verdict_of addresses changed
      ≡ verdict_after words.old_word words.new_word (summed_text addresses changed)
  changed_word =
      elim (number_is number 1) [
        | inl one ↦ by_kind
            (whole_kind addresses bytes following new message changed cut words (λ m. Icmpv4 m)
            (λ n. []) (λ n. refl) (λ x. refl) (λ x. refl) (λ x y. grind arith)
            (icmpv4_is bytes message (at 1 one bytes message is))
            (icmpv4_is (new ++ following) changed (at 1 one (new ++ following) changed changed_is)))
        | inr p ↦ elim (number_is number 6) [
          | inl six ↦ by_kind
              (whole_kind addresses bytes following new message changed cut words (λ m. Tcp m)
              (pseudo addresses 6) (λ n. even_pseudo addresses 6 n fit)
              (λ x. refl) (λ x. refl) (λ x y. refl)
              (segment_is bytes message (at 6 six bytes message is))
              (segment_is (new ++ following) changed (at 6 six (new ++ following) changed changed_is)))
          | inr q ↦ elim (number_is number 17) [
            | inl udp ↦ by_kind
                (datagram_kind addresses bytes following new message changed cut words
                (λ n. even_pseudo addresses 17 n fit) (other udp)
                (datagram_is bytes message (at 17 udp bytes message is))
                (datagram_is (new ++ following) changed
                (at 17 udp (new ++ following) changed changed_is)))
            | inr r ↦ elim (number_is number 58) [
              | inl icmpv6 ↦ by_kind
                  (whole_kind addresses bytes following new message changed cut words (λ m. Icmpv6 m)
                  (pseudo addresses 58) (λ n. even_pseudo addresses 58 n fit)
                  (λ x. refl) (λ x. refl) (λ x y. grind arith)
                  (icmpv6_is bytes message (at 58 icmpv6 bytes message is))
                  (icmpv6_is (new ++ following) changed
                  (at 58 icmpv6 (new ++ following) changed changed_is)))
              | inr s ↦ absurd (cc (unread p q r s))
            ]
          ]
        ]
      ]
