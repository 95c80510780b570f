-- What a line requests, case by case.
use Rattle.std.proofs.Common.{arith, ◌≡◌, refl, ℕ, ◌<◌, ◌≤◌, Bool, true, false, List, length, drop, Ok, nat_eq, []}
use Rattle.std.specs.Prelude.{if◌then◌else◌, codes}
use Rattle.std.specs.Str.Parse.{digits_value}
use Rattle.std.specs.List.{starts_with}
use Rattle.std.proofs.lemmas.Bool.{le-leb, lt-leb}
use Rattle.hex.specs.Hex.{decode_of, decode_pairs}
use Rattle.lines.specs.declared.limits.TheConstants.{LINE_LIMIT}
use Rattle.line_grammar.specs.Commands.{command_of, frame_command_of, frame_on, is_number}
use Rattle.line_grammar.specs.Commands.Command.{Bad, Forget}

pub command_of-long : (line : List ℕ) → LINE_LIMIT < length line → command_of line ≡ Bad
unfolding command_of
command_of-long line long = rw (lt-leb (length line) LINE_LIMIT long) refl

module _ (line : List ℕ) (short : length line ≤ LINE_LIMIT) where
  pub command_of-frame : starts_with nat_eq line (codes "frame ") ≡ true
      → command_of line ≡ frame_command_of (drop 6 line)
  unfolding command_of
  command_of-frame starts = rw (le-leb (length line) LINE_LIMIT short, starts) refl

  pub command_of-forget : starts_with nat_eq line (codes "frame ") ≡ false
      → starts_with nat_eq line (codes "forget ") ≡ true
      → is_number 20 18446744073709551615 (drop 7 line) ≡ true
      → command_of line ≡ Forget (digits_value 10 (drop 7 line))
  unfolding command_of
  command_of-forget other starts number =
      rw (le-leb (length line) LINE_LIMIT short, other, starts, number) refl

pub decode_of-nil : decode_of [] ≡ Ok []
unfolding decode_pairs
decode_of-nil = refl

pub none_on : (b : Bool) (channel : ℕ) → (if b then frame_on channel (Ok []) else Bad) ≡ Bad
none_on b channel = grind arith
