use Rattle.std.proofs.Common.{◌∙◌, arith, refl}
use Rattle.tcp_streams.proofs.CountingLemmas.{gives_up_ends, gives_up_last, gives_up_more, gives_up_none}
use Rattle.tcp_streams.proofs.stream_counter.give_up_by.Goals as goal

pub gaps-init : goal.gaps-init
gaps-init c = record {
  given = λ connection was. gives_up_none c.args.follower.now.window connection c.args.direction c.args.number
      c.args.follower.now was;
  window = refl;
}

pub gaps-preserved : goal.gaps-preserved
gaps-preserved c = record {
  given = λ connection was.
      let given = c.gaps.invariant.given connection was in
      let lost = rw c.gaps.invariant.window at (c.in-Some.ensures.lost _ given.1.follows) in
      gives_up_more c.args.follower.now.window connection c.args.direction c.args.number c.gaps.follower
      c.give_up_in.new.self c.gaps.missing c.gaps.counter _ c.in-Some.gap given lost
      (c.in-Some.ensures.follows _ given.1.follows) (omega (arith, c.saturating_add-missing.ensures, c.saturating_sub.ensures));
  window = c.give_up_in.ensures.window ∙ c.gaps.invariant.window;
}

pub returns-in-None-clause-lost : goal.returns-in-None-clause-lost
returns-in-None-clause-lost c connection was =
    let given = c.gaps.invariant.given connection was in
    let lost = rw c.gaps.invariant.window at (c.in-None.ensures.lost _ given.1.follows) in
    gives_up_last c.args.follower.now.window connection c.args.direction c.args.number c.gaps.follower
    c.give_up_in.new.self c.gaps.missing c.gaps.counter given lost (c.in-None.ensures.follows _ given.1.follows)

pub returns-clause-lost : goal.returns-clause-lost
returns-clause-lost c connection was =
    absurd (gives_up_ends c.args.follower.now.window connection c.args.direction c.args.number c.gaps.follower
    c.gaps.missing c.gaps.counter (c.gaps.invariant.given connection was) (omega (arith, c.gaps-test.false)))
