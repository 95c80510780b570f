use Rattle.std.proofs.Common.{inl, inr}
use Rattle.packets.proofs.EndLemmas.{left_either}
use Rattle.packets.proofs.StreamRunLemmas.{unchanged}
use Rattle.packets.proofs.WalkLemmas.{flows_none, none_more}
use Rattle.packets.specs.Streams.{FollowsStreams}
use Rattle.packets.proofs.run.count_flows.count_flows.Goals as goal

pub visit_all-requires : goal.visit_all-requires
visit_all-requires g c = record {
  begins = (
    (λ counted was. flows_none _ c.args.flows.now.flows counted was),
    (λ followed was. none_more (FollowsStreams _ c.args.flows.now.streams) followed was),
    unchanged _ c.args.flows.now.streams,
  );
}

pub returns : goal.returns
returns g c =
    let visited = c.visit_all.ensures in
    let result = c.visit_all.result.result in (
      visited.0,
      visited.1,
      left_either result _ _ _ visited.2 (λ goes. goes.0) (λ memory fails. fails.0),
      left_either result _ _ _ visited.2 (λ goes. goes.1) (λ memory fails. fails.1),
      left_either result _ _ _ visited.2 (λ goes. inl goes.2) (λ memory fails. inr (memory, fails.2)),
    )
