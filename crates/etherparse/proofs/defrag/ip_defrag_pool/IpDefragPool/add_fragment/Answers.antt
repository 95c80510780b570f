use Rattle.std.proofs.Common.{arith, refl, rules, subst}
use Rattle.std.proofs.lemmas.Grind.{common_steps}
use Rattle.std.specs.Prelude.{IfErr}
use Rattle.etherparse.specs.Counts.{Counts, HasMemoryFor, KeepsMemoryOf}
use Rattle.etherparse.specs.Fragments.{Fragment}
use Rattle.etherparse.specs.IpDefragPool.{AcceptsBy, Accepts, Refuses, same_id}
use Rattle.etherparse.specs.ReassemblyTable.{OthersStay, RefusesBy, Stays, fragment_of, reassembly_at}
use Rattle.etherparse.specs.Repeats.{TakesRepeat}
use Rattle.etherparse.specs.Starts.{StartsAfter}
use Rattle.etherparse.proofs.Returned.{none_reported, whole_reported}
use Rattle.etherparse.proofs.KeptMemory.{keeps_error, keeps_returned, keeps_nothing}
use Rattle.etherparse.proofs.defrag.ip_defrag_pool.IpDefragPool.add_fragment.Goals as goal
use Rattle.etherparse.proofs.defrag.ip_defrag_pool.IpDefragPool.add_fragment.Goals.{in-Ok-Some, in-Ok-None, in-Err}

-- Each clause is shown of the arguments first, and then of what they are equal to.

pub returns-clause-accepted : goal.returns-clause-accepted
returns-clause-accepted g c name f is is_f =
    let rule = c.overlap_rule-rule.result in
    let here : AcceptsBy rule (same_id g.CustomChannelId.PartialEq.eq) c.args.self.now c.add.new.self
    c.args.id (fragment_of c.args.received.now) c.args.timestamp c.match-add.result = λ fs shows.
    elim c.match-add.branch [
      | in-Ok-Some w ↦
          let reported = rw w.in-Ok-Some.field-0-is at
          (w.in-Ok-Some.ensures.accepted rule fs (rw c.self.view_is shows) (λ e. refl)) in
          rw w.result-is
          (whole_reported rule c.args.id c.args.timestamp _ _ _ _ reported
          (λ i. record {
            ip_number = c.args.id.payload_ip_number;
            len_source = c.len_source-len_source.ensures i;
            bytes = w.in-Ok-Some.payload.items;
          }))
      | in-Ok-None w ↦
          let reported = rw w.in-Ok-None.field-0-is at
          (w.in-Ok-None.ensures.accepted rule fs (rw c.self.view_is shows) (λ e. refl)) in
          rw w.result-is (none_reported rule c.args.id c.args.timestamp _ _ reported)
      | in-Err w ↦ rw w.result-is tt
    ] in
    subst (λ (h : Fragment). Accepts (same_id g.CustomChannelId.PartialEq.eq) c.args.self.now
    c.add.new.self name h c.args.timestamp c.match-add.result) is_f
    (rw (c.overlap_rule-rule.ensures, is) at here)

pub returns-clause-refused : goal.returns-clause-refused
returns-clause-refused g c name f is is_f =
    let rule = c.overlap_rule-rule.result in
    let here : RefusesBy rule (same_id g.CustomChannelId.PartialEq.eq) c.args.self.now c.args.id
    (fragment_of c.args.received.now) c.match-add.result = λ fs shows.
    elim c.match-add.branch [
      | in-Ok-Some w ↦ rw w.result-is tt
      | in-Ok-None w ↦ rw w.result-is tt
      | in-Err w ↦ rw w.result-is
          (w.in-Err.ensures.refused rule fs (rw c.self.view_is shows) (λ e. refl))
    ] in
    subst (λ (h : Fragment). Refuses (same_id g.CustomChannelId.PartialEq.eq) c.args.self.now name h
    c.match-add.result) is_f (rw (c.overlap_rule-rule.ensures, is) at here)

pub returns-clause-repeat : goal.returns-clause-repeat
returns-clause-repeat g c name f is is_f =
    let same = same_id g.CustomChannelId.PartialEq.eq in
    let here : TakesRepeat (reassembly_at same c.args.self.now c.args.id)
    (reassembly_at same c.add.new.self c.args.id) (fragment_of c.args.received.now) c.match-add.result =
    elim c.match-add.branch [
      | in-Ok-Some w ↦ rw w.result-is (rw c.self.view_is at w.in-Ok-Some.ensures.repeat)
      | in-Ok-None w ↦ rw w.result-is (rw c.self.view_is at w.in-Ok-None.ensures.repeat)
      | in-Err w ↦ rw w.result-is (rw c.self.view_is at w.in-Err.ensures.repeat)
    ] in
    subst (λ (h : Fragment). TakesRepeat (reassembly_at same c.args.self.now name)
    (reassembly_at same c.add.new.self name) h c.match-add.result) is_f (rw is at here)

pub returns-clause-others : goal.returns-clause-others
returns-clause-others g c name is =
    let here : OthersStay (same_id g.CustomChannelId.PartialEq.eq) c.args.id c.args.self.now c.add.new.self =
    rw c.self.view_is at c.add.ensures.others in
    rw is at here

pub returns-clause-err : goal.returns-clause-err
returns-clause-err g c name is =
    let here : IfErr c.match-add.result (Stays (same_id g.CustomChannelId.PartialEq.eq) c.args.id
    c.args.self.now c.add.new.self) = elim c.match-add.branch [
      | in-Ok-Some w ↦ rw w.result-is tt
      | in-Ok-None w ↦ rw w.result-is tt
      | in-Err w ↦ rw w.result-is (rw c.self.view_is at w.in-Err.ensures.err)
    ] in
    rw is at here

pub returns-clause-counts : goal.returns-clause-counts
returns-clause-counts g c name is =
    let here : Counts (same_id g.CustomChannelId.PartialEq.eq) c.args.self.now c.add.new.self c.args.id
    c.match-add.result = first_of (search rules, grind (arith, common_steps)) in
    rw is at here

pub returns-clause-starts : goal.returns-clause-starts
returns-clause-starts g c name is =
    let here : StartsAfter (same_id g.CustomChannelId.PartialEq.eq) c.args.self.now c.add.new.self c.args.id
    c.match-add.result = first_of (search rules, grind (arith, common_steps)) in
    rw is at here

pub returns-clause-succeeds : goal.returns-clause-succeeds
returns-clause-succeeds g c name f is is_f =
    let here : HasMemoryFor (same_id g.CustomChannelId.PartialEq.eq) c.args.self.now c.args.id
    (fragment_of c.args.received.now) c.match-add.result = λ finds. elim c.match-add.branch [
      | in-Ok-Some w ↦ rw w.result-is tt
      | in-Ok-None w ↦ rw w.result-is tt
      | in-Err w ↦ rw w.result-is ((rw c.self.view_is at w.in-Err.ensures.succeeds) finds)
    ] in
    subst (λ (h : Fragment). HasMemoryFor (same_id g.CustomChannelId.PartialEq.eq) c.args.self.now name h
    c.match-add.result) is_f (rw is at here)

pub returns-clause-memory : goal.returns-clause-memory
returns-clause-memory g c name is =
    let here : KeepsMemoryOf (same_id g.CustomChannelId.PartialEq.eq) c.args.self.now c.add.new.self
    c.args.id c.match-add.result =
    elim c.match-add.branch [
      | in-Ok-Some w ↦
          rw w.result-is (keeps_returned _ _ _ _ _ _ _
          (rw w.in-Ok-Some.field-0-is at (rw c.self.view_is at w.in-Ok-Some.ensures.memory)))
      | in-Ok-None w ↦
          rw w.result-is (keeps_nothing _ _ _ _ _
          (rw w.in-Ok-None.field-0-is at (rw c.self.view_is at w.in-Ok-None.ensures.memory)))
      | in-Err w ↦
          rw w.result-is
          (keeps_error _ _ _ _ _ _ (rw c.self.view_is at w.in-Err.ensures.memory))
    ] in
    rw is at here
