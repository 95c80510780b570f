use Rattle.std.proofs.Common.{◌≡◌}
use Rattle.tcp_streams.specs.Flows.{TestedAt}
use Rattle.tcp_streams.proofs.RetainLemmas.{IsTested}
use Rattle.tcp_streams.proofs.retain_flows.retain_flows.Given as goal

abbrev pub invariant-loop : goal.invariant-loop
invariant-loop g l = record {
  tested : IsTested g.K.PartialEq.eq g.met.K.Eq.laws (TestedAt g.F.FnMut) l.initial.keep l.initial.flows.entries
      l.keep l.flows.entries l.counter;
  most : l.flows.cap ≡ l.initial.flows.cap;
  callable : goal.F-IsAlwaysCallable g l.keep;
}
