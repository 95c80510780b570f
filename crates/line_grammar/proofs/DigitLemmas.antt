-- Digits of a frame that are read in turn.
use Rattle.std.proofs.Common.{◌≡◌, ◌∙◌, sym, ap, refl, subst, ℕ, ◌+◌, ◌/◌, ◌%◌, ◌<◌, ◌≤◌, Bool, [], true, false, List}
use Rattle.std.proofs.Common.{◌∷◌, ◌++◌, length, take, arith, inl, inr, Option, Some, None, Result, Ok, Err}
use Rattle.std.proofs.Common.{length-append, append_assoc, append-nil, length-take, drop, take-append-drop}
use Rattle.std.specs.Prelude.{MatchResult, slice_get}
use Rattle.std.specs.List.{AllPass, list_all}
use Rattle.std.proofs.lemmas.Bool.{and_parts, cases_lt}
use Rattle.std.proofs.lemmas.List.Folds.{list_all-append}
use Rattle.std.proofs.lemmas.List.Sums.{AllPass-from_list_all, list_all-from_AllPass}
use Rattle.hex.specs.Hex.{decode_of, is_hex_digit}
use Rattle.hex.specs.declared.error.FromHexError.{FromHexError}
use Rattle.hex.proofs.HexLemmas.{decode_of-digits, decode_of-odd, decode_of-ok}
use Rattle.digits.proofs.Joined.{texts_are_joined}
use Rattle.line_grammar.specs.Commands.{command_of, frame_on}
use Rattle.line_grammar.specs.Commands.Command.{Frame, Bad}
use Rattle.line_grammar.specs.Prefixes.{DigitsFit, IsFramePrefix, IsWrong, ReadsAt, ReadsDigits, half_digit}
use Rattle.line_grammar.specs.declared.hex_digits.HexDigits.{HexDigits}
use Rattle.line_grammar.specs.declared.state.State.{State}
use Rattle.lines.specs.declared.limits.TheConstants.{LINE_LIMIT}
use Rattle.line_grammar.proofs.CommandLaws.{on_bytes}
use Rattle.line_grammar.proofs.CommandLemmas.{command_of-long}
use Rattle.line_grammar.proofs.PrefixLemmas.{prefix_command, more_prefix}

-- ---- a text with a byte that is no digit

part_passes : (a b c : List ℕ) → AllPass is_hex_digit (a ++ (b ++ c)) → AllPass is_hex_digit b
part_passes a b c all =
    let whole = list_all-from_AllPass is_hex_digit (a ++ (b ++ c)) all in
    let later = and_parts (list_all is_hex_digit a) (list_all is_hex_digit (b ++ c))
    (sym (list_all-append is_hex_digit a (b ++ c)) ∙ whole) in
    AllPass-from_list_all is_hex_digit b
    (and_parts (list_all is_hex_digit b) (list_all is_hex_digit c)
    (sym (list_all-append is_hex_digit b c) ∙ later.1)).0

no_frame : (channel : ℕ) (a b c : List ℕ) (e : FromHexError) (d : Result (List ℕ) FromHexError)
    → length b % 2 ≡ 0 → decode_of b ≡ Err e → decode_of (a ++ (b ++ c)) ≡ d
    → frame_on channel d ≡ Bad
no_frame channel a b c e (Ok bytes) even bad is =
    let all = part_passes a b c (decode_of-ok (a ++ (b ++ c)) bytes is).1 in
    let good = (decode_of-digits b even all).1 in cc
no_frame channel a b c e (Err f) even bad is = refl

pub no_hex : (prefix : List ℕ) (channel : ℕ) (a b c : List ℕ) (e : FromHexError)
    → IsFramePrefix prefix channel (a ++ (b ++ c)) → length b % 2 ≡ 0 → decode_of b ≡ Err e
    → IsWrong prefix
no_hex prefix channel a b c e f even bad rest =
    elim (cases_lt LINE_LIMIT (length (prefix ++ rest))) [
      | inl long ↦ command_of-long (prefix ++ rest) long
      | inr short ↦
          (let f : IsFramePrefix (prefix ++ rest) channel (a ++ (b ++ (c ++ rest))) =
          grind (arith, append_assoc, more_prefix) in
          prefix_command (prefix ++ rest) channel (a ++ (b ++ (c ++ rest))) f (omega arith)
          ∙ no_frame channel a b (c ++ rest) e (decode_of (a ++ (b ++ (c ++ rest)))) even bad refl)
    ]

-- ---- what a call of `decode_at` returned

is_err : (d : Result (List ℕ) FromHexError) (prefix all : List ℕ) (result : Bool)
    → MatchResult d (λ value. (result ≡ true) × (all ≡ prefix ++ value)) (λ e. result ≡ false)
    → result ≡ false → (e : FromHexError) × (d ≡ Err e)
is_err d prefix all result ensured failed = grind arith

is_ok : (d : Result (List ℕ) FromHexError) (prefix all : List ℕ) (result : Bool)
    → MatchResult d (λ value. (result ≡ true) × (all ≡ prefix ++ value)) (λ e. result ≡ false)
    → result ≡ true → (value : List ℕ) × (d ≡ Ok value) × (all ≡ prefix ++ value)
is_ok d prefix all result ensured done = grind arith

-- a digit that waited and others are whole pairs, which are decoded after what was
module _ (prefix : List ℕ) (h : HexDigits) (frame : List ℕ) (r : ReadsDigits prefix h frame)
    (bytes whole odd : List ℕ) (same : half_digit h.half ++ bytes ≡ whole ++ odd)
    (even : length whole % 2 ≡ 0) (result : Bool) (frame' : List ℕ)
    (ensured : MatchResult (decode_of whole)
    (λ value. (result ≡ true)
    × (take (h.pairs + length whole / 2) frame' ≡ take h.pairs frame ++ value))
    (λ e. result ≡ false)) where
  on : IsFramePrefix (prefix ++ bytes) h.channel (r.digits ++ (whole ++ odd))
  on = subst (IsFramePrefix (prefix ++ bytes) h.channel)
      (append_assoc r.digits (half_digit h.half) bytes ∙ ap (λ l. r.digits ++ l) same)
      (more_prefix prefix h.channel (r.digits ++ half_digit h.half) bytes r.head)

  pub pairs_refused : result ≡ false → IsWrong (prefix ++ bytes)
  pairs_refused failed =
      let bad = is_err (decode_of whole) (take h.pairs frame)
      (take (h.pairs + length whole / 2) frame') result ensured failed in
      no_hex (prefix ++ bytes) h.channel r.digits whole odd bad.0 on even bad.1

  pub pairs_read : result ≡ true → (next : HexDigits) → next.channel ≡ h.channel
      → next.len ≡ h.len + length bytes → next.pairs ≡ h.pairs + length whole / 2
      → half_digit next.half ≡ odd → ReadsDigits (prefix ++ bytes) next frame'
  pairs_read done next channel len pairs half =
      let good = is_ok (decode_of whole) (take h.pairs frame)
      (take (h.pairs + length whole / 2) frame') result ensured done in
      record {
        digits = r.digits ++ whole;
        head =
            grind (arith, whole, append_assoc, on);
        size = omega (arith, len, r.size, length-append prefix bytes);
        decoded =
            grind (arith, texts_are_joined, whole);
      }

-- at most one byte is left
pub half_left : (odd : List ℕ) (half : Option ℕ) → length odd ≤ 1 → half ≡ slice_get odd 0
    → half_digit half ≡ odd
half_left [] half few is = ap half_digit is
half_left (digit ∷ []) half few is = ap half_digit is
half_left (digit ∷ next ∷ odd) half few is = absurd (omega arith)

pub on_same : (a b frame : List ℕ) (p : State) → a ≡ b → ReadsAt a p frame → ReadsAt b p frame
on_same a b frame p same on = subst (λ l. ReadsAt l p frame) same on

-- ---- what the line requests

module _ (prefix : List ℕ) (h : HexDigits) (frame : List ℕ) (r : ReadsDigits prefix h frame)
    (fits : DigitsFit h) where
  requested : command_of prefix ≡ frame_on h.channel (decode_of (r.digits ++ half_digit h.half))
  requested = grind (arith, prefix_command)

  even : length r.digits % 2 ≡ 0
  even = (decode_of-ok r.digits (take h.pairs frame) r.decoded).0

  pub half_requested : (digit : ℕ) → h.half ≡ Some digit → command_of prefix ≡ Bad
  half_requested digit is = grind (arith, length-append, requested, decode_of-odd, even)

  whole : h.half ≡ None → command_of prefix ≡ frame_on h.channel (Ok (take h.pairs frame))
  whole is = grind (arith, requested, append-nil)

  pub frame_requested : 0 < h.pairs → h.pairs ≤ length frame → h.half ≡ None
      → command_of prefix ≡ Frame h.channel (take h.pairs frame)
  frame_requested some room is = grind (arith, whole, on_bytes, length-take)

  pub no_pair_requested : h.pairs ≡ 0 → (half : Option ℕ) → h.half ≡ half → command_of prefix ≡ Bad
  no_pair_requested none half is = grind (arith, whole, half_requested)

-- a text that is split
pub cut_text : (text a b : List ℕ) (n : ℕ) → a ≡ take n text → b ≡ drop n text → text ≡ a ++ b
cut_text text a b n prefix back = grind (arith, take-append-drop)

-- the bytes from a pair's first one
pub from_half : (half : Option ℕ) (high : ℕ) (bytes more : List ℕ) → half ≡ Some high
    → bytes ≡ more → half_digit half ++ bytes ≡ high ∷ more
from_half half high bytes more is same = grind arith

pub from_pair : (half : Option ℕ) (bytes more : List ℕ) → half ≡ None → bytes ≡ more
    → half_digit half ++ bytes ≡ more
from_pair half bytes more is same = ap (λ h. half_digit h ++ bytes) is ∙ same

pub positive : (n : ℕ) → (n ≡ 0 → ⊥) → 0 < n
positive n some = grind arith
