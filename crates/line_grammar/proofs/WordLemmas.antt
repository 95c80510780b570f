-- The first words of lines.
use Rattle.std.proofs.Common.{◌≡◌, ◌∙◌, sym, ap, refl, ℕ, ◌+◌, ◌<◌, ◌≤◌, true, false, [], List, ◌∷◌, ◌++◌, length, take}
use Rattle.std.proofs.Common.{drop, get_or, nat_eq, arith, inl, inr, length-append, append_assoc, append-nil}
use Rattle.std.specs.Prelude.{codes}
use Rattle.std.specs.List.{starts_with}
use Rattle.std.proofs.lemmas.Bool.{cases_lt}
use Rattle.std.proofs.lemmas.Bool.Decides.{Decides-eqb}
use Rattle.std.proofs.lemmas.List.{take_at}
use Rattle.std.proofs.lemmas.Slice.Eq.{starts_is}
use Rattle.line_grammar.specs.Commands.{command_of}
use Rattle.line_grammar.specs.Commands.Command.{Bad}
use Rattle.line_grammar.specs.Prefixes.{IsWrong, ReadsHead}
use Rattle.line_grammar.specs.Numbers.{ReadsNumber}
use Rattle.line_grammar.specs.declared.number.Number.{Number}
use Rattle.line_grammar.proofs.CommandLaws.{has_number, has_parts, starts}
use Rattle.line_grammar.proofs.PrefixLemmas.{neither}

starts_there : (text prefix rest : List ℕ) → text ≡ prefix ++ rest → starts_with nat_eq text prefix ≡ true
starts_there text prefix rest parts =
    (starts_is Decides-eqb text prefix (starts_with nat_eq text prefix) refl).1 rest parts

cut_prefix : (a b c d : List ℕ) → a ++ b ≡ c ++ d → length c ≤ length a
    → a ≡ c ++ drop (length c) a
cut_prefix a b [] d same le = refl
cut_prefix [] b (y ∷ c) d same le = absurd (omega arith)
cut_prefix (x ∷ a) b (y ∷ c) d same le =
    let head : x ≡ y = ap (λ l. get_or l 0 0) same in
    let tail : a ++ b ≡ c ++ d = ap (drop 1) same in
    ap (λ z. z ∷ a) head ∙ ap (λ l. y ∷ l) (cut_prefix a b c d tail (omega arith))

cancel : (a b c : List ℕ) → a ++ b ≡ a ++ c → b ≡ c
cancel [] b c same = same
cancel (x ∷ a) b c same = cancel a b c (ap (drop 1) same)

-- a text that begins with another byte
pub other_prefix : (word prefix bytes : List ℕ) → length prefix ≤ length word
    → starts_with nat_eq word prefix ≡ false
    → (more rest : List ℕ) → (prefix ++ bytes) ++ more ≡ word ++ rest → ⊥
other_prefix word prefix bytes le begins more rest same =
    let cut = cut_prefix word rest prefix (bytes ++ more)
    (sym same ∙ append_assoc prefix bytes more) le in
    let there = starts_there word prefix (drop (length prefix) word) cut in cc

module _ (word prefix bytes missing : List ℕ) (begins : starts_with nat_eq word prefix ≡ true)
    (left : missing ≡ drop (length prefix) word) where
  word_parts : word ≡ prefix ++ missing
  word_parts = starts word prefix begins ∙ ap (λ l. prefix ++ l) (sym left)

  pub whole_word : starts_with nat_eq bytes missing ≡ true
      → prefix ++ bytes ≡ word ++ drop (length missing) bytes
  whole_word there = grind (arith, starts, append_assoc, word_parts)

  module _ (not : starts_with nat_eq bytes missing ≡ false) where
    pub prefix_of_word : starts_with nat_eq missing bytes ≡ true
        → (prefix ++ bytes ≡ take (length prefix + length bytes) word)
        × (length prefix + length bytes < length word)
    prefix_of_word there =
        let rest : List ℕ = drop (length bytes) missing in
        let parts : missing ≡ bytes ++ rest = starts missing bytes there in
        let all : word ≡ (prefix ++ bytes) ++ rest = word_parts ∙ ap (λ l. prefix ++ l) parts
        ∙ sym (append_assoc prefix bytes rest) in (
          sym (ap (take (length prefix + length bytes)) all
              ∙ take_at (prefix ++ bytes) rest (length prefix + length bytes)
              (length-append prefix bytes)),
          longer rest parts (ap length all),
        )
      where
        longer : (rest : List ℕ) → missing ≡ bytes ++ rest
            → length word ≡ length ((prefix ++ bytes) ++ rest)
            → length prefix + length bytes < length word
        longer [] parts size =
            let there = starts_there bytes missing []
            (sym (append-nil missing ∙ parts ∙ append-nil bytes)) in cc
        longer (x ∷ rest) parts size = omega (
          arith,
          size,
          length-append (prefix ++ bytes) (x ∷ rest),
          length-append prefix bytes,
        )

    pub no_word : starts_with nat_eq missing bytes ≡ false
        → (more rest : List ℕ) → (prefix ++ bytes) ++ more ≡ word ++ rest → ⊥
    no_word nor more rest same =
        let after : bytes ++ more ≡ missing ++ rest =
        cancel prefix (bytes ++ more) (missing ++ rest)
        (sym (append_assoc prefix bytes more) ∙ same ∙ ap (λ l. l ++ rest) word_parts
        ∙ append_assoc prefix missing rest) in
        elim (cases_lt (length bytes) (length missing)) [
          | inl lt ↦
              let there = starts_there missing bytes (drop (length bytes) missing)
              (cut_prefix missing rest bytes more (sym after) (omega arith)) in cc
          | inr le ↦
              let there = starts_there bytes missing (drop (length missing) bytes)
              (cut_prefix bytes more missing rest after le) in cc
        ]

-- a line that begins with neither word
pub other_words : (text : List ℕ)
    → ((more rest : List ℕ) → text ++ more ≡ codes "frame " ++ rest → ⊥)
    → ((more rest : List ℕ) → text ++ more ≡ codes "forget " ++ rest → ⊥) → IsWrong text
other_words text no_frame no_forget more =
    neither (command_of (text ++ more))
    (λ channel bytes is.
    let f = has_parts (text ++ more) channel bytes is in
    no_frame more (f.number ++ 32 ∷ f.digits) f.parts)
    (λ number is.
    let f = has_number (text ++ more) number is in
    no_forget more f.digits f.parts)

-- a word's prefix alone requests nothing
pub short_prefix : (prefix : List ℕ) → length prefix ≤ 6 → command_of prefix ≡ Bad
short_prefix prefix short =
    neither (command_of prefix)
    (λ channel bytes is.
    let f = has_parts prefix channel bytes is in
    absurd (omega (arith, ap length f.parts, length-append f.number (32 ∷ f.digits))))
    (λ number is.
    let f = has_number prefix number is in
    absurd (omega (arith, ap length f.parts, f.count.0)))

pub word_read : (word : List ℕ) (number : Number) → ReadsNumber [] number
    → ReadsHead word word number
word_read word number r = record { digits = []; parts = sym (append-nil word); reads = r }
