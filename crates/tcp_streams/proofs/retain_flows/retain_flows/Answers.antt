use Rattle.std.proofs.Common.{◌∙◌, ap, arith, is_some, of_calls, refl}
use Rattle.std.specs.Map.Iter.{deref_pair}
use Rattle.tcp_streams.specs.declared.flow.Flow.{Flow}
use Rattle.tcp_streams.specs.Flows.{TestedAt}
use Rattle.tcp_streams.proofs.RetainLemmas.{all_tested, last_left, none_tested, one_dropped, one_kept, some_shown}
use Rattle.tcp_streams.proofs.RetainLemmas.{tested_at}
use Rattle.tcp_streams.proofs.retain_flows.retain_flows.Goals.{then-keep, else-keep}
use Rattle.tcp_streams.proofs.retain_flows.retain_flows.Goals as goal

pub loop-init : goal.loop-init
loop-init g c = record {
  tested = none_tested g.K.PartialEq.eq g.met.K.Eq.laws (TestedAt g.F.FnMut) c.args.keep c.args.flows.now.entries
      c.len-end.ensures.valid.0;
  most = refl;
  callable = c.requires.callable;
}

pub unwrap-requires : goal.unwrap-requires
unwrap-requires g c =
    some_shown deref_pair c.peek_lru.result (ap is_some c.peek_lru.ensures
    ∙ last_left g.K.PartialEq.eq g.met.K.Eq.laws (TestedAt g.F.FnMut) _ _ _ _ _ c.loop.invariant.tested
    (omega (arith, c.len-end.ensures.len, c.loop-test.true)))

pub loop-preserved : goal.loop-preserved
loop-preserved g c =
    let same = g.K.PartialEq.eq in
    let laws = g.met.K.Eq.laws in
    let R = TestedAt g.F.FnMut in
    let i = c.loop.invariant in
    let e : g.row.K.Denot × Flow g.row.T.Denot = (c.unwrap.result.0.now, c.unwrap.result.1.now) in
    let is = rw c.unwrap.ensures at c.peek_lru.ensures in
    let is_key = c.requires.copies _ _ (rw c.unwrap-key.ensures at c.clone.ensures.cases) in
    elim c.if-keep.branch [
      | then-keep w ↦ rw (w.flows-is, w.promote.ensures.entries, is_key) (record {
        tested = one_kept same laws R _ _ _ _ _ i.tested (omega (arith, c.len-end.ensures.len, c.loop-test.true))
            e is _ (rw is_key at (tested_at g.F.FnMut c.keep.ensures w.if-keep.true));
        most = i.most;
        callable = search of_calls;
      })
      | else-keep w ↦ rw (w.flows-is, w.pop_lru.ensures.entries) (record {
        tested = one_dropped same laws R _ _ _ _ _ i.tested (omega (arith, c.len-end.ensures.len, c.loop-test.true))
            e is _ (rw is_key at (tested_at g.F.FnMut c.keep.ensures w.if-keep.false));
        most = i.most;
        callable = search of_calls;
      })
    ]

pub returns-clause-flows : goal.returns-clause-flows
returns-clause-flows g c =
    all_tested g.K.PartialEq.eq g.met.K.Eq.laws (TestedAt g.F.FnMut) _ _ _ _ _ c.loop.invariant.tested
    (omega (arith, c.len-end.ensures.len, c.loop-test.false))

pub returns-clause-most : goal.returns-clause-most
returns-clause-most g c = c.loop.invariant.most
