-- An element of options that is parsed from bytes is encoded by them again.
use Rattle.std.proofs.Common.{◌≡◌, ℕ, ◌+◌, ◌<◌, ◌≤◌, true, false, eqb, List, ◌∷◌, ◌++◌, [], length, drop, Option, Some}
use Rattle.std.proofs.Common.{None, Ok, arith, refl, ap, ◌∙◌, subst, append_assoc}
use Rattle.std.proofs.lemmas.Bool.{eqb-true, ltb-false, not-false, or_cases}
use Rattle.ep_base.specs.Bytes.{IsBytes, num}
use Rattle.ep_tcpudp.specs.Options.{kind_at, size_at, of_size, block_at, block_bytes, blocks_at, is_size_of_blocks}
use Rattle.ep_tcpudp.specs.Options.{acknowledgement_at, element_at, element_bytes, packed_element, FitsBlock}
use Rattle.ep_tcpudp.specs.Options.{FitsElement}
use Rattle.ep_tcpudp.specs.declared.transport.tcp_option_element.TcpOptionElement.{TcpOptionElement}
use Rattle.ep_tcpudp.specs.declared.transport.tcp_option_element.TcpOptionElement.TheVariants.{Noop, MaximumSegmentSize}
use Rattle.ep_tcpudp.specs.declared.transport.tcp_option_element.TcpOptionElement.TheVariants.{WindowScale}
use Rattle.ep_tcpudp.specs.declared.transport.tcp_option_element.TcpOptionElement.TheVariants.{SelectiveAcknowledgementPermitted}
use Rattle.ep_tcpudp.specs.declared.transport.tcp_option_element.TcpOptionElement.TheVariants.{SelectiveAcknowledgement}
use Rattle.ep_tcpudp.specs.declared.transport.tcp_option_element.TcpOptionElement.TheVariants.{Timestamp}
use Rattle.ep_base.proofs.Prefixes.{guard_ok, ok_same}
use Rattle.ep_tcpudp.proofs.Guards.{by_test}
use Rattle.ep_tcpudp.proofs.Words.{word_prefix, word_small}

-- an element as it is parsed from the start of bytes
pub record IsRead (bytes : List ℕ) (element : TcpOptionElement) : Type 0 where
  pub encoded : bytes ≡ element_bytes element ++ drop (size_at bytes) bytes
  pub fits : FitsElement element
  pub packed : packed_element element ≡ element

-- kind and size come first
kind_and_size : (kind size : ℕ) (bytes : List ℕ) → 2 ≤ length bytes → kind_at bytes ≡ kind
    → num bytes 1 1 ≡ size → bytes ≡ kind ∷ size ∷ drop 2 bytes
kind_and_size kind size bytes two is_kind is_size = grind arith

-- the size of an option that isn't a no-operation is its second byte
second_size : (kind size : ℕ) (bytes : List ℕ) → kind_at bytes ≡ kind → eqb kind 1 ≡ false
    → num bytes 1 1 ≡ size → size_at bytes ≡ size
second_size kind size bytes is_kind other is_size = rw (is_kind, other) is_size

noop_read : (bytes : List ℕ) → 1 ≤ length bytes → kind_at bytes ≡ 1 → IsRead bytes Noop
noop_read bytes one is_kind = grind arith

maximum_read : (bytes : List ℕ) → IsBytes bytes → 4 ≤ length bytes → kind_at bytes ≡ 2
    → num bytes 1 1 ≡ 4 → IsRead bytes (MaximumSegmentSize (num bytes 2 2))
maximum_read bytes fits least is_kind is_size = grind arith

scale_read : (bytes : List ℕ) → IsBytes bytes → 3 ≤ length bytes → kind_at bytes ≡ 3
    → num bytes 1 1 ≡ 3 → IsRead bytes (WindowScale (num bytes 2 1))
scale_read bytes fits least is_kind is_size = grind arith

permitted_read : (bytes : List ℕ) → 2 ≤ length bytes → kind_at bytes ≡ 4 → num bytes 1 1 ≡ 2
    → IsRead bytes SelectiveAcknowledgementPermitted
permitted_read bytes least is_kind is_size = grind arith

-- two words in a row are a block
block_prefix : (p q : ℕ) (bytes : List ℕ) → IsBytes bytes → p + 8 ≤ length bytes → p + 8 ≡ q
    → drop p bytes ≡ block_bytes (block_at bytes p) ++ drop q bytes
block_prefix p q bytes fits least e = grind (arith, word_prefix, append_assoc)

block_small : (p : ℕ) (bytes : List ℕ) → IsBytes bytes → FitsBlock (Some (block_at bytes p))
block_small p bytes fits = (word_small p bytes fits, word_small (p + 4) bytes fits)

timestamp_read : (bytes : List ℕ) → IsBytes bytes → 10 ≤ length bytes → kind_at bytes ≡ 8
    → num bytes 1 1 ≡ 10 → IsRead bytes (Timestamp (num bytes 2 4) (num bytes 6 4))
timestamp_read bytes fits least is_kind is_size = grind arith

-- the blocks after the first, in an option of one of the four sizes
Acknowledged : List ℕ → List (Option (ℕ × ℕ)) → Type 0
Acknowledged bytes blocks = IsRead bytes (SelectiveAcknowledgement (block_at bytes 2) blocks)

one_block : (bytes : List ℕ) → IsBytes bytes → 10 ≤ length bytes → kind_at bytes ≡ 5
    → num bytes 1 1 ≡ 10 → Acknowledged bytes (None ∷ None ∷ None ∷ [])
unfolding Acknowledged
one_block bytes fits least is_kind is_size = grind arith

two_blocks : (bytes : List ℕ) → IsBytes bytes → 18 ≤ length bytes
    → kind_at bytes ≡ 5 → num bytes 1 1 ≡ 18
    → Acknowledged bytes (Some (block_at bytes 10) ∷ None ∷ None ∷ [])
unfolding Acknowledged
two_blocks bytes fits least is_kind is_size = record {
  encoded = kind_and_size 5 18 bytes (omega arith) is_kind is_size
      ∙ ap (λ (xs : List ℕ). 5 ∷ 18 ∷ xs) (block_prefix 2 10 bytes fits (omega arith) refl)
      ∙ ap (λ (xs : List ℕ). 5 ∷ 18 ∷ (block_bytes (block_at bytes 2) ++ xs))
      (block_prefix 10 18 bytes fits (omega arith) refl)
      ∙ rw (second_size 5 18 bytes is_kind refl is_size) refl;
  fits = (block_small 2 bytes fits, refl, (block_small 10 bytes fits, (tt, (tt, tt))));
  packed = refl;
}

three_blocks : (bytes : List ℕ) → IsBytes bytes → 26 ≤ length bytes
    → kind_at bytes ≡ 5 → num bytes 1 1 ≡ 26
    → Acknowledged bytes (Some (block_at bytes 10) ∷ Some (block_at bytes 18) ∷ None ∷ [])
unfolding Acknowledged
three_blocks bytes fits least is_kind is_size = record {
  encoded = kind_and_size 5 26 bytes (omega arith) is_kind is_size
      ∙ ap (λ (xs : List ℕ). 5 ∷ 26 ∷ xs) (block_prefix 2 10 bytes fits (omega arith) refl)
      ∙ ap (λ (xs : List ℕ). 5 ∷ 26 ∷ (block_bytes (block_at bytes 2) ++ xs))
      (block_prefix 10 18 bytes fits (omega arith) refl)
      ∙ ap (λ (xs : List ℕ). 5 ∷ 26 ∷
      (block_bytes (block_at bytes 2) ++ (block_bytes (block_at bytes 10) ++ xs)))
      (block_prefix 18 26 bytes fits (omega arith) refl)
      ∙ rw (second_size 5 26 bytes is_kind refl is_size) refl;
  fits = grind arith;
  packed = refl;
}

four_blocks : (bytes : List ℕ) → IsBytes bytes → 34 ≤ length bytes
    → kind_at bytes ≡ 5 → num bytes 1 1 ≡ 34
    → Acknowledged bytes (Some (block_at bytes 10) ∷ Some (block_at bytes 18) ∷
    Some (block_at bytes 26) ∷ [])
unfolding Acknowledged
four_blocks bytes fits least is_kind is_size = record {
  encoded = kind_and_size 5 34 bytes (omega arith) is_kind is_size
      ∙ ap (λ (xs : List ℕ). 5 ∷ 34 ∷ xs) (block_prefix 2 10 bytes fits (omega arith) refl)
      ∙ ap (λ (xs : List ℕ). 5 ∷ 34 ∷ (block_bytes (block_at bytes 2) ++ xs))
      (block_prefix 10 18 bytes fits (omega arith) refl)
      ∙ ap (λ (xs : List ℕ). 5 ∷ 34 ∷
      (block_bytes (block_at bytes 2) ++ (block_bytes (block_at bytes 10) ++ xs)))
      (block_prefix 18 26 bytes fits (omega arith) refl)
      ∙ ap (λ (xs : List ℕ). 5 ∷ 34 ∷
      (block_bytes (block_at bytes 2)
      ++ (block_bytes (block_at bytes 10) ++ (block_bytes (block_at bytes 18) ++ xs))))
      (block_prefix 26 34 bytes fits (omega arith) refl)
      ∙ rw (second_size 5 34 bytes is_kind refl is_size) refl;
  fits = grind arith;
  packed = refl;
}

blocks_read : (bytes : List ℕ) → IsBytes bytes → kind_at bytes ≡ 5
    → is_size_of_blocks (num bytes 1 1) ≡ true → num bytes 1 1 ≤ length bytes
    → IsRead bytes (SelectiveAcknowledgement (block_at bytes 2) (blocks_at bytes))
unfolding Acknowledged
blocks_read bytes fits is_kind sized room =
    grind (arith, eqb-true, one_block, two_blocks, three_blocks, four_blocks, or_cases)

acknowledgement_read : (bytes : List ℕ) (x : TcpOptionElement) → IsBytes bytes → kind_at bytes ≡ 5
    → acknowledgement_at bytes ≡ Ok x → IsRead bytes x
acknowledgement_read bytes x fits is_kind h =
    grind (arith, guard_ok, ok_same, blocks_read, not-false, ltb-false)

of_size-read : (size : ℕ) (bytes : List ℕ) (value x : TcpOptionElement)
    → (size ≤ length bytes → num bytes 1 1 ≡ size → IsRead bytes value)
    → of_size size bytes value ≡ Ok x → IsRead bytes x
of_size-read size bytes value x reads h = grind arith

pub element_read : (bytes : List ℕ) (x : TcpOptionElement) → IsBytes bytes → 0 < length bytes
    → element_at bytes ≡ Ok x → IsRead bytes x
element_read bytes x fits some h =
    let P : Type 0 = IsRead bytes x in
    by_test P (eqb (kind_at bytes) 1) _ _ _
    (λ k h. subst (IsRead bytes) (ok_same _ _ h) (noop_read bytes some (eqb-true _ _ k)))
    (λ _ h.
    by_test P (eqb (kind_at bytes) 2) _ _ _
    (λ k h. of_size-read 4 bytes _ x
    (λ room size. maximum_read bytes fits room (eqb-true _ _ k) size) h) (λ _ h.
    by_test P (eqb (kind_at bytes) 3) _ _ _
    (λ k h. of_size-read 3 bytes _ x
    (λ room size. scale_read bytes fits room (eqb-true _ _ k) size) h) (λ _ h.
    by_test P (eqb (kind_at bytes) 4) _ _ _
    (λ k h. of_size-read 2 bytes _ x
    (λ room size. permitted_read bytes room (eqb-true _ _ k) size) h) (λ _ h.
    by_test P (eqb (kind_at bytes) 5) _ _ _
    (λ k h. acknowledgement_read bytes x fits (eqb-true _ _ k) h) (λ _ h.
    by_test P (eqb (kind_at bytes) 8) _ _ _
    (λ k h. of_size-read 10 bytes _ x
    (λ room size. timestamp_read bytes fits room (eqb-true _ _ k) size) h) (λ _ h. cc) h) h)
    h) h) h) h
