use Rattle.std.proofs.Common.{arith, map, take, List, ◌≡◌, subst, sym, ◌∙◌, ◌+◌, cond}
use Rattle.std.proofs.lemmas.List.{take_all}
use Rattle.std.proofs.lemmas.Result.{err_from_is_err_and}
use Rattle.etherparse.specs.Fragments.{Fragment, fragment, with_all_accepted}
use Rattle.etherparse.specs.IpDefragBuf.{Shows, rule_of}
use Rattle.etherparse.proofs.Accepted.{accepted_more, count_more, counted_more, stops, same_refusal, same_shown}
use Rattle.etherparse.proofs.Complete.{whole_iff}
use Rattle.etherparse.proofs.Rooms.{no_less_more}
use Rattle.etherparse.proofs.defrag.ip_defrag_buf.IpDefragBuf.add_all.Goals as goal
use Rattle.etherparse.proofs.defrag.ip_defrag_buf.IpDefragBuf.add_all.Goals.{then-branch, else-branch}

pub returns-in_err-accept-clause-err : goal.returns-in_err-accept-clause-err
returns-in_err-accept-clause-err c fs shows =
    let p = err_from_is_err_and c.from_residual.result c.from_residual.ensures.1 in
    rw (p.1, p.2)
    (stops (rule_of c.args.self.now) (λ f. fragment f.0 f.1 f.2.now) fs c.args.fragments.now c.loop-offset.offset-index
    c.loop-offset-item.result c.loop-offset.self c.accept.new.self _
    (omega arith) c.loop-offset-item.is
    (c.loop-offset.invariant.so_far fs shows) c.in_err-accept.ensures.err
    (same_refusal (rule_of c.loop-offset.self) (rule_of c.args.self.now)
    (with_all_accepted (rule_of c.args.self.now) fs
    (map (λ f. fragment f.0 f.1 f.2.now) (take c.loop-offset.offset-index c.args.fragments.now)))
    (fragment c.loop-offset-item.result.0 c.loop-offset-item.result.1
    c.loop-offset-item.result.2.now) c.loop-offset.invariant.rule
    (c.in_err-accept.ensures.memory _ (c.loop-offset.invariant.so_far fs shows)).0)
    (c.in_err-accept.ensures.memory _ (c.loop-offset.invariant.so_far fs shows)).1)

pub returns-in_err-accept-clause-ip_number : goal.returns-in_err-accept-clause-ip_number
returns-in_err-accept-clause-ip_number c = c.accept.ensures.ip_number
    ∙ c.loop-offset.invariant.ip_number

pub returns-in_err-accept-clause-rule : goal.returns-in_err-accept-clause-rule
returns-in_err-accept-clause-rule c = c.accept.ensures.rule ∙ c.loop-offset.invariant.rule

pub loop-offset-preserved : goal.loop-offset-preserved
loop-offset-preserved c =
    let i = c.loop-offset.invariant in
    let more = λ (fs : List Fragment). accepted_more (rule_of c.args.self.now)
    (λ f. fragment f.0 f.1 f.2.now) fs c.args.fragments.now c.loop-offset.offset-index
    c.loop-offset-item.result (omega arith) c.loop-offset-item.is in
    let counts : c.if-branch.count ≡ c.loop-offset.count + cond c.in_ok-accept.field-0 1 0 =
    elim c.if-branch.branch [
      | then-branch w ↦ rw w.if-branch.true w.count-is
      | else-branch w ↦
          rw w.if-branch.false (w.count-is ∙ omega arith)
    ] in
    let before = λ (fs : List Fragment). with_all_accepted (rule_of c.args.self.now) fs
    (map (λ f. fragment f.0 f.1 f.2.now) (take c.loop-offset.offset-index c.args.fragments.now)) in
    let element = fragment c.loop-offset-item.result.0 c.loop-offset-item.result.1
    c.loop-offset-item.result.2.now in
    record {
      few = elim c.if-branch.branch [
        | then-branch w ↦ omega (arith, w.count-is)
        | else-branch w ↦
            omega (arith, w.count-is)
      ];
      so_far = λ fs shows. subst (Shows c.accept.new.self) (sym (more fs))
          (same_shown c.accept.new.self (rule_of c.loop-offset.self) (rule_of c.args.self.now)
          (before fs) element i.rule
          (c.in_ok-accept.ensures.shows _ (i.so_far fs shows)));
      counted = λ fs shows. counts
          ∙ counted_more (rule_of c.loop-offset.self) (rule_of c.args.self.now) (before fs) element
          c.in_ok-accept.field-0 c.loop-offset.count _
          (c.in_ok-accept.ensures.taken _ (i.so_far fs shows)) i.rule (i.counted fs shows)
          ∙ sym (count_more (rule_of c.args.self.now) (λ f. fragment f.0 f.1 f.2.now) fs
          c.args.fragments.now c.loop-offset.offset-index c.loop-offset-item.result (omega arith)
          c.loop-offset-item.is);
      ip_number = c.accept.ensures.ip_number ∙ c.loop-offset.invariant.ip_number;
      rule = c.accept.ensures.rule ∙ i.rule;
      room = no_less_more _ _ _ i.room c.accept.ensures.room;
    }

pub returns-in_err-accept-clause-room : goal.returns-in_err-accept-clause-room
returns-in_err-accept-clause-room c =
    no_less_more _ _ _ c.loop-offset.invariant.room c.accept.ensures.room

pub returns-clause-cover : goal.returns-clause-cover
returns-clause-cover c fs shows =
    let all = take_all c.loop-offset.offset-index c.args.fragments.now (omega arith) in
    whole_iff c.loop-offset.self _ (rw all at (c.loop-offset.invariant.so_far fs shows))
