use Rattle.std.proofs.Common.{rules, refl, ap}
use Rattle.captures.specs.Framed.{frame_bytes}
use Rattle.captures.specs.Pcapng.Content.{Opens}
use Rattle.captures.proofs.OffsetLemmas.{none_of, stands_empty}
use Rattle.captures.proofs.pcapng.block.begin_section.Goals as goal

pub returns-clause-reads : goal.returns-clause-reads
returns-clause-reads c =
    record {
      content = Opens c.in-Some.first;
      says = (c.requires.kind, search rules, search rules, search rules, search rules);
      becomes = (refl, ap frame_bytes c.nothing.ensures.frame);
    }

pub returns-clause-on : goal.returns-clause-on
returns-clause-on c some = none_of _ c.nothing.ensures.frame some _

pub returns-clause-at : goal.returns-clause-at
returns-clause-at c = stands_empty _ _ _ c.nothing.ensures.at c.nothing.ensures.frame
