use Rattle.std.proofs.Common.{◌-◌, ◌≤◌, length}
use Rattle.std.specs.List.{AllPass}
use Rattle.hex.specs.Hex.{is_hex_digit}
use Rattle.digits.specs.Digits.{AreDigitValues, AreDecoded}
use Rattle.digits.proofs.decoding.decode_blocks.Given as goal

abbrev pub invariant-loop-at : goal.invariant-loop-at
invariant-loop-at l = record {
  within : l.at ≤ length l.bytes;
  decoded : AreDigitValues l.largest → AreDecoded l.at l.digits l.bytes;
  digits : AllPass is_hex_digit l.digits → AreDigitValues l.largest;
}

abbrev pub decreases-loop-at : goal.decreases-loop-at
decreases-loop-at l = length l.bytes - l.at
