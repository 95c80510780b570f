-- Heads of lines: a first word, and the digits of a number.
use Rattle.std.proofs.Common.{◌≡◌, ◌∙◌, sym, ap, refl, subst, ℕ, zero, suc, ◌+◌, ◌<◌, ◌≤◌, true, false, [], List, ◌∷◌}
use Rattle.std.proofs.Common.{◌++◌, length, drop, get_or, arith, None, length-append, append_assoc, append-nil}
use Rattle.std.specs.Prelude.{codes, ◌⊎◌}
use Rattle.std.specs.Char.{is_ascii_digit}
use Rattle.std.specs.List.{list_all}
use Rattle.std.specs.Str.Parse.{digits_value}
use Rattle.std.proofs.lemmas.Bool.{and_parts}
use Rattle.std.proofs.lemmas.List.{take_at}
use Rattle.std.proofs.lemmas.List.Folds.{list_all-append}
use Rattle.std.proofs.lemmas.Str.Parse.{digits_value-take-le}
use Rattle.line_grammar.specs.Commands.{IsForgetLine, IsFrameLine, command_of}
use Rattle.line_grammar.specs.Commands.Command.{Bad, Forget}
use Rattle.line_grammar.specs.Prefixes.{IsWrong, ReadsDigits, ReadsHead}
use Rattle.line_grammar.specs.Numbers.{GoesOn, IsTooLarge, NoDigit}
use Rattle.line_grammar.specs.declared.hex_digits.HexDigits.{HexDigits}
use Rattle.line_grammar.specs.declared.number.Number.{Number}
use Rattle.line_grammar.proofs.CommandLaws.{forget_lines_are_the_grammar, has_number, has_parts, number_tested}
use Rattle.line_grammar.proofs.CommandLemmas.{decode_of-nil}
use Rattle.line_grammar.proofs.PrefixLemmas.{neither}

-- ---- digits up to another byte

not_both : (byte : ℕ) → is_ascii_digit byte ≡ true → is_ascii_digit byte ≡ false → ⊥
not_both byte is other = let e : true ≡ false = sym is ∙ other in cc

first_of : (byte : ℕ) (digits : List ℕ) → list_all is_ascii_digit (byte ∷ digits) ≡ true
    → (is_ascii_digit byte ≡ true) × (list_all is_ascii_digit digits ≡ true)
first_of byte digits all = and_parts (is_ascii_digit byte) (list_all is_ascii_digit digits) all

heads : (x y : ℕ) (s t : List ℕ) → x ∷ s ≡ y ∷ t → (x ≡ y) × (s ≡ t)
heads x y s t same = (ap (λ l. get_or l 0 0) same, ap (drop 1) same)

same_digits : (a b : List ℕ) (x y : ℕ) (s t : List ℕ) → list_all is_ascii_digit a ≡ true
    → list_all is_ascii_digit b ≡ true → is_ascii_digit x ≡ false → is_ascii_digit y ≡ false
    → a ++ x ∷ s ≡ b ++ y ∷ t → (a ≡ b) × (x ≡ y)
same_digits [] [] x y s t all_a all_b no_x no_y same = (refl, (heads x y s t same).0)
same_digits [] (d ∷ b) x y s t all_a all_b no_x no_y same = grind arith
same_digits (d ∷ a) [] x y s t all_a all_b no_x no_y same = grind arith
same_digits (d ∷ a) (e ∷ b) x y s t all_a all_b no_x no_y same =
    let parts = heads d e (a ++ x ∷ s) (b ++ y ∷ t) same in
    let later = same_digits a b x y s t (first_of d a all_a).1 (first_of e b all_b).1 no_x no_y parts.1
    in
    grind arith

digits_begin : (a s b : List ℕ) (y : ℕ) (t : List ℕ) → list_all is_ascii_digit a ≡ true
    → is_ascii_digit y ≡ false → a ++ s ≡ b ++ y ∷ t → (z : List ℕ) × (b ≡ a ++ z)
digits_begin [] s b y t all no_y same = (b, refl)
digits_begin (d ∷ a) s [] y t all no_y same = grind arith
digits_begin (d ∷ a) s (e ∷ b) y t all no_y same =
    let parts = heads d e (a ++ s) (b ++ y ∷ t) same in
    let later = digits_begin a s b y t (first_of d a all).1 no_y parts.1 in
    grind arith

prefix_value : (a z : List ℕ) → digits_value 10 a ≤ digits_value 10 (a ++ z)
prefix_value a z =
    omega (
      arith,
      digits_value-take-le 10 (a ++ z) (length a) (omega arith),
      ap (digits_value 10) (take_at a z (length a) refl),
    )

too_large : (most : ℕ) (a b z : List ℕ) → b ≡ a ++ z
    → (most < length a) ⊎ (18446744073709551615 < digits_value 10 a)
    → length b ≤ most → digits_value 10 b ≤ 18446744073709551615 → ⊥
too_large most a b z parts h few fits = grind (arith, length-append, prefix_value)

-- ---- what starts with a word requests one thing alone

frame_or_bad : (text : List ℕ)
    → ((channel : ℕ) (bytes : List ℕ) (f : IsFrameLine (codes "frame " ++ text) channel bytes)
    → text ≡ f.number ++ 32 ∷ f.digits → ⊥)
    → command_of (codes "frame " ++ text) ≡ Bad
frame_or_bad text none =
    neither (command_of (codes "frame " ++ text))
    (λ channel bytes is.
    let f = has_parts (codes "frame " ++ text) channel bytes is in
    none channel bytes f (ap (drop 6) f.parts))
    (λ number is.
    let f = has_number (codes "frame " ++ text) number is in
    let e : 114 ≡ 111 = ap (λ l. get_or l 1 0) f.parts in absurd (omega arith))

forget_or_bad : (text : List ℕ)
    → ((number : ℕ) (f : IsForgetLine (codes "forget " ++ text) number) → text ≡ f.digits → ⊥)
    → command_of (codes "forget " ++ text) ≡ Bad
forget_or_bad text none =
    neither (command_of (codes "forget " ++ text))
    (λ channel bytes is.
    let f = has_parts (codes "forget " ++ text) channel bytes is in
    let e : 111 ≡ 114 = ap (λ l. get_or l 1 0) f.parts in absurd (omega arith))
    (λ number is.
    let f = has_number (codes "forget " ++ text) number is in
    none number f (ap (drop 7) f.parts))

-- ---- numbers that are too large

head_more : (word prefix digits bytes : List ℕ) → prefix ≡ word ++ digits
    → prefix ++ bytes ≡ word ++ (digits ++ bytes)
head_more word prefix digits bytes parts = grind (arith, append_assoc)

pub no_channel : (prefix bytes : List ℕ) (number : Number)
    → (h : ReadsHead (codes "frame ") prefix number) → IsTooLarge 10 (h.digits ++ bytes)
    → IsWrong (prefix ++ bytes)
no_channel prefix bytes number h large rest =
    let text : List ℕ = (h.digits ++ bytes) ++ rest in
    ap (λ l. command_of (l ++ rest)) (head_more (codes "frame ") prefix h.digits bytes h.parts)
    ∙ frame_or_bad text
    (λ channel ensured f same.
    let cut = ap (λ l. l ++ rest) large.parts ∙ append_assoc large.digits large.rest rest in
    let begins = digits_begin large.digits (large.rest ++ rest) f.number 32 f.digits large.decimal
    refl (sym cut ∙ same) in
    too_large 10 large.digits f.number begins.0 begins.1 large.large f.count.1
    (omega (arith, f.fits, f.value)))

pub no_line : (prefix bytes : List ℕ) (number : Number)
    → (h : ReadsHead (codes "forget ") prefix number) → IsTooLarge 20 (h.digits ++ bytes)
    → IsWrong (prefix ++ bytes)
no_line prefix bytes number h large rest =
    let text : List ℕ = (h.digits ++ bytes) ++ rest in
    ap (λ l. command_of (l ++ rest)) (head_more (codes "forget ") prefix h.digits bytes h.parts)
    ∙ forget_or_bad text
    (λ line f same.
    let cut = ap (λ l. l ++ rest) large.parts ∙ append_assoc large.digits large.rest rest in
    too_large 20 large.digits f.digits (large.rest ++ rest) (sym same ∙ cut) large.large f.count.1
    (omega (arith, f.fits, f.value)))

-- ---- digits in a row

module _ (word prefix bytes rest : List ℕ) (number next : Number) (h : ReadsHead word prefix number)
    (g : GoesOn h.digits bytes next rest) where
  pub head_goes : ReadsHead word (prefix ++ g.more) next
  head_goes = record {
    digits = h.digits ++ g.more;
    parts = head_more word prefix h.digits g.more h.parts;
    reads = g.reads;
  }

  pub head_and_rest : (prefix ++ g.more) ++ rest ≡ prefix ++ bytes
  head_and_rest = append_assoc prefix g.more rest ∙ ap (λ l. prefix ++ l) (sym g.parts)

  pub head_ends : length rest ≡ 0 → ReadsHead word (prefix ++ bytes) next
  head_ends none = subst (λ (l : List ℕ). ReadsHead word l next) (ends rest none head_and_rest)
      head_goes
    where
      ends : (rest : List ℕ) → length rest ≡ 0 → (prefix ++ g.more) ++ rest ≡ prefix ++ bytes
          → prefix ++ g.more ≡ prefix ++ bytes
      ends [] none same = sym (append-nil (prefix ++ g.more)) ∙ same
      ends (x ∷ rest) none same = absurd (omega arith)

-- no line's number has another byte after it
pub line_and_more : (prefix : List ℕ) (number : Number) (rest : List ℕ)
    → ReadsHead (codes "forget ") prefix number → NoDigit rest → (length rest ≡ 0 → ⊥)
    → IsWrong (prefix ++ rest)
line_and_more prefix number rest h none some =
    grind (
      arith,
      head_more,
      forget_or_bad,
      append_assoc,
      and_parts,
      list_all-append,
      not_both,
      first_of,
    )

-- ---- the byte after a channel

module _ (prefix : List ℕ) (number : Number) (h : ReadsHead (codes "frame ") prefix number)
    (byte : ℕ) where
  pub no_head : is_ascii_digit byte ≡ false
      → (byte ≡ 32 → 1 ≤ number.count → number.value ≤ 4294967295 → ⊥)
      → IsWrong (prefix ++ byte ∷ [])
  no_head other none rest =
      ap (λ l. command_of (l ++ rest)) (head_more (codes "frame ") prefix h.digits (byte ∷ []) h.parts)
      ∙ ap (λ l. command_of (codes "frame " ++ l)) (append_assoc h.digits (byte ∷ []) rest)
      ∙ frame_or_bad (h.digits ++ byte ∷ rest)
      (λ channel bytes f same.
      let e = same_digits h.digits f.number byte 32 rest f.digits h.reads.decimal f.decimal other refl
      same in
      grind arith)

  pub head_read : byte ≡ 32 → 1 ≤ number.count → number.count ≤ 10 → number.value ≤ 4294967295
      → (d : HexDigits) → d.channel ≡ number.value → d.len ≡ 7 + number.count → d.pairs ≡ 0
      → d.half ≡ None → (frame : List ℕ) → ReadsDigits (prefix ++ byte ∷ []) d frame
  head_read space some few fits d channel len none half frame =
      grind (arith, head_more, number_tested, length-append, decode_of-nil)

-- ---- what a line whose digits are read requests

-- no frame has started
pub channel_requests : (prefix : List ℕ) (number : Number) → ReadsHead (codes "frame ") prefix number
    → command_of prefix ≡ Bad
channel_requests prefix number h =
    grind (arith, frame_or_bad, and_parts, list_all-append, not_both, first_of)

module _ (prefix : List ℕ) (number : Number) (h : ReadsHead (codes "forget ") prefix number) where
  pub no_number_requests : number.count ≡ 0 → command_of prefix ≡ Bad
  no_number_requests none = grind (arith, forget_or_bad)

  pub number_requests : (number.count ≡ 0 → ⊥) → number.count ≤ 20
      → number.value ≤ 18446744073709551615 → command_of prefix ≡ Forget number.value
  number_requests some few fits =
      (forget_lines_are_the_grammar prefix number.value).1
      (record {
        digits = h.digits;
        parts = h.parts;
        count = (at_least number.count some h.reads.count, omega (arith, h.reads.count));
        decimal = h.reads.decimal;
        value = h.reads.value;
        fits = fits;
      })
    where
      at_least : (n : ℕ) → (n ≡ 0 → ⊥) → n ≡ length h.digits → 1 ≤ length h.digits
      at_least zero some is = absurd (some refl)
      at_least (suc n) some is = omega (arith, is)
