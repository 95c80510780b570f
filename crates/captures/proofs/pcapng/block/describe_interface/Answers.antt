use Rattle.std.proofs.Common.{rules, arith, sym, ap, ◌≡◌, ◌∙◌, ◌+◌}
use Rattle.captures.specs.Framed.{frame_bytes}
use Rattle.captures.specs.Pcapng.Content.{Describes}
use Rattle.captures.proofs.BlockLemmas.{described}
use Rattle.captures.proofs.OffsetLemmas.{none_of, stands_empty}
use Rattle.captures.proofs.pcapng.block.describe_interface.Goals as goal

pub returns-clause-reads : goal.returns-clause-reads
returns-clause-reads c =
    let section = c.args.section.now in
    let links = c.in-Some-links_with.links in
    let interfaces : c.in-Some.interfaces ≡ section.interfaces + 1 = search rules in
    record {
      content = Describes c.half-link_type.result c.word.result c.of-clock.result;
      says = (
        c.requires.kind,
        omega arith,
        search rules,
        search rules,
        search rules,
        search rules,
      );
      becomes = (
        links,
        sym c.links_with.ensures ∙ c.in-Some-links_with.is,
        described section _ _ _ _ links interfaces c.first_snap_len-snap_len.ensures
            c.clocks_with-section.ensures,
        ap frame_bytes c.nothing.ensures.frame,
      );
    }

pub returns-clause-on : goal.returns-clause-on
returns-clause-on c some = none_of _ c.nothing.ensures.frame some _

pub returns-clause-at : goal.returns-clause-at
returns-clause-at c = stands_empty _ _ _ c.nothing.ensures.at c.nothing.ensures.frame
