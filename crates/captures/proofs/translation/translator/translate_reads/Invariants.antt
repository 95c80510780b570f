use Rattle.std.proofs.Common.{◌≡◌, ◌<◌, ◌≤◌, length, take, vec_capacity}
use Rattle.captures.specs.declared.limits.TheConstants.{INPUT_CAPACITY, OUTPUT_CAPACITY}
use Rattle.captures.proofs.Translating.{Translated}
use Rattle.captures.proofs.translation.translator.translate_reads.Given as goal

-- What was read is translated but for a prefix of the input buffer, which is held and leaves space.
abbrev pub invariant-reads : goal.invariant-reads
invariant-reads g l = record {
  translated : Translated (g.T.Translator.task l.translator) g.D.Device.transition
      (g.T.Translator.shows l.translator) l.counter l.fn.device l.device (take l.left l.input);
  room : l.left < length l.input;
  output : OUTPUT_CAPACITY ≤ vec_capacity l.output;
  size : (g.T.Translator.task l.translator).room ≡ INPUT_CAPACITY;
  kept : g.T.Translator.kept l.translator ≡ g.T.Translator.kept l.fn.translator;
}
