use Rattle.std.proofs.Common.{◌++◌, map}
use Rattle.std.proofs.lemmas.List.{append_assoc}
use Rattle.packets.specs.Flows.{CountsFlows}
use Rattle.packets.specs.Transfers.{transfer_of}
use Rattle.packets.proofs.EndLemmas.{by_both, by_either, weaker_match}
use Rattle.packets.proofs.StreamRunLemmas.{taken_more, taken_or_stopped}
use Rattle.packets.proofs.WalkLemmas.{counted_more}
use Rattle.packets.proofs.run.count_flows.FollowedFlowsVisitor.visit.Goals as goal

pub returns : goal.returns
returns g c = λ start seen goes. weaker_match c.add.result _ _ _ _
    (λ more. (
      (λ counted was. counted_more (CountsFlows _ c.add.new.self.flows) transfer_of counted seen
          c.args.packet.now (more.0.0 (counted ++ map transfer_of seen) (goes.0 counted was))),
      (λ followed was. rw append_assoc at (more.0.1 (followed ++ seen) (goes.1 followed was))),
      taken_more _ _ _ _ seen c.args.packet.now goes.2 more.1,
    ))
    (λ error stays. by_either (taken_or_stopped _ _ _ _ seen c.args.packet.now goes.2 stays.1)
    (λ taken. (
      (λ counted was. stays.0.0 (counted ++ map transfer_of seen) (goes.0 counted was)),
      (λ followed was. stays.0.1 (followed ++ seen) (goes.1 followed was)),
      taken,
    ))
    (λ stops. (
      (λ counted was. stays.0.0 (counted ++ map transfer_of seen) (goes.0 counted was)),
      (λ followed was. stays.0.1 (followed ++ seen) (goes.1 followed was)),
      stops,
    )))
    (by_both c.add.result _ _ _ _ c.add.ensures.ok c.add.ensures.takes c.add.ensures.err c.add.ensures.stops)
