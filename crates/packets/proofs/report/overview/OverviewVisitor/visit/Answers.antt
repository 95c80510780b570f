use Rattle.std.proofs.Common.{◌++◌, map, inl}
use Rattle.packets.specs.Overviews.{CountsOverview}
use Rattle.packets.specs.Transfers.{transfer_of}
use Rattle.packets.proofs.EndLemmas.{by_result, weaker_match}
use Rattle.packets.proofs.WalkLemmas.{counted_more}
use Rattle.packets.proofs.report.overview.OverviewVisitor.visit.Goals as goal

pub returns : goal.returns
returns g c start seen goes = weaker_match c.add.result _ _ _ _
    (λ more counted was. counted_more (CountsOverview _ _ _ c.add.new.self) transfer_of counted seen
    c.args.packet.now (more (counted ++ map transfer_of seen) (goes counted was)))
    (λ error same. inl (λ counted was. same (counted ++ map transfer_of seen) (goes counted was)))
    (by_result c.add.result _ _ c.add.ensures.ok c.add.ensures.err)
