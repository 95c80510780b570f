use Rattle.std.proofs.Common.{subst, []}
use Rattle.captures.specs.Parsers.{HasParsed}
use Rattle.captures.specs.declared.unfit.Unfit.{Unfit}
use Rattle.etherparse_structs.proofs.capture.EpCapture.begin.Goals as goal

pub returns-clause-opened : goal.returns-clause-opened
returns-clause-opened c zero = record {
  box = c.in-Ok.opened.value;
  is_open = c.put.ensures.opened;
  held = c.put.ensures.held;
  holds = subst (λ (unfit : Unfit). HasParsed unfit c.in-Ok.opened.value.parser [] [] [])
      c.unfit_by.ensures c.in-Ok.ensures;
}
