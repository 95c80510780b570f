use Rattle.std.proofs.Common.{rules, ◌∙◌, ap, refl, ℕ, nat_eq, Option, IfSome, IfErr, Result, Ok}
use Rattle.etherparse.specs.IpDefragPool.{Accepts, Refuses, same_id}
use Rattle.etherparse.specs.IpFragId.{fragment_in, id_named}
use Rattle.etherparse.specs.Processed.{Processed}
use Rattle.etherparse.specs.ReassemblyTable.{OthersStay, Pool, Stays}
use Rattle.etherparse.specs.declared.defrag.ip_defrag_error.IpDefragError.{IpDefragError}
use Rattle.etherparse.specs.declared.defrag.ip_defrag_payload_vec.IpDefragPayloadVec.{IpDefragPayloadVec}
use Rattle.etherparse.specs.declared.defrag.ip_frag_id.IpFragId.{IpFragId}
use Rattle.etherparse.specs.packet.Class.{FragmentName, as_class}
use Rattle.etherparse.specs.packet.declared.class.Class.TheVariants.{Cut}
use Rattle.etherparse.specs.packet.declared.class.IpFragment.{IpFragment}
use Rattle.etherparse.specs.Fragments.{Fragment}
use Rattle.netlines.proofs.FragmentLemmas.{pool_answered, fragment_is, fragment_takes_memory}
use Rattle.netlines.proofs.frames.frame_answerer.answer_fragment.Goals as goal

module _ (old new : Pool (IpFragId ℕ) ℕ) (message : IpFragment) (time channel : ℕ)
    (result : Result (Option IpDefragPayloadVec) IpDefragError) where
  -- what holds of the fragment and of its name
  abbrev Holds : (FragmentName → Fragment → Type 0) → Type 0
  Holds P = IfSome (fragment_in (as_class (Cut message))) (λ named. P named.0 named.1)

  -- by the clauses of `process_fragment`
  processed : Holds (λ name f. Accepts (same_id nat_eq) old new (id_named name channel) f time result)
      → Holds (λ name f. Refuses (same_id nat_eq) old (id_named name channel) f result)
      → Holds (λ name f. OthersStay (same_id nat_eq) (id_named name channel) old new)
      → Holds (λ name f. IfErr result (Stays (same_id nat_eq) (id_named name channel) old new))
      → Processed old (as_class (Cut message)) time channel result new
  processed accepted refused others err = record {
    passed = λ none. cc;
    accepted = accepted;
    refused = refused;
    others = others;
    err = err;
  }

pub returns-in-Ok-Some-clause-answers : goal.returns-in-Ok-Some-clause-answers
returns-in-Ok-Some-clause-answers g c lists shows =
    let e = c.process_fragment.ensures in
    let answered = pool_answered c.packets_are_answered.ensures c.memory_errors_are_reported.ensures _ _ _ _
    (fragment_is _ c.args.message refl) _ _ _
    (processed c.args.pool.now c.process_fragment.new.self c.args.message c.args.number c.args.channel
    c.process_fragment.result e.accepted e.refused e.others e.err) lists shows _
    (c.in-Ok-Some.is ∙ ap Ok c.in-Ok-Some.field-0-is) tt in (
      c.answer_completed.ensures.bytes ∙ answered.0,
      c.spare_buffers_show_nothing.ensures c.process_fragment.new.self c.answer_completed.new.pool _
          c.answer_completed.ensures.back.reassemblies answered.1,
    )

pub returns-in-Ok-None-clause-answers : goal.returns-in-Ok-None-clause-answers
returns-in-Ok-None-clause-answers g c lists shows =
    let e = c.process_fragment.ensures in
    let answered = pool_answered c.packets_are_answered.ensures c.memory_errors_are_reported.ensures _ _ _ _
    (fragment_is _ c.args.message refl) _ _ _
    (processed c.args.pool.now c.process_fragment.new.self c.args.message c.args.number c.args.channel
    c.process_fragment.result e.accepted e.refused e.others e.err) lists shows _
    (c.in-Ok-None.is ∙ ap Ok c.in-Ok-None.field-0-is) tt in
    (c.append.ensures.text ∙ answered.0, answered.1)

pub returns-in-Some-clause-answers : goal.returns-in-Some-clause-answers
returns-in-Some-clause-answers g c lists shows =
    let e = c.process_fragment.ensures in
    let answered = pool_answered c.packets_are_answered.ensures c.memory_errors_are_reported.ensures _ _ _ _
    (fragment_is _ c.args.message refl) _ _ _
    (processed c.args.pool.now c.process_fragment.new.self c.args.message c.args.number c.args.channel
    c.process_fragment.result e.accepted e.refused e.others e.err) lists shows _
    c.in-Err.is c.in-Some.ensures.text.0 in (
      c.append-in-Some.ensures.text ∙ c.in-Some.ensures.text.1 c.args.message.addresses 0 ∙ answered.0,
      answered.1,
    )

pub returns-in-None-clause-answers : goal.returns-in-None-clause-answers
returns-in-None-clause-answers g c lists shows =
    let e = c.process_fragment.ensures in
    fragment_takes_memory c.packets_are_answered.ensures c.memory_errors_are_reported.ensures _ _ _ _
    (fragment_is _ c.args.message refl) _ _ _
    (processed c.args.pool.now c.process_fragment.new.self c.args.message c.args.number c.args.channel
    c.process_fragment.result e.accepted e.refused e.others e.err) lists shows _
    c.in-Err.is c.in-None.ensures.text

pub returns-in-Some-clause-buffers : goal.returns-in-Some-clause-buffers
returns-in-Some-clause-buffers g c =
    let text = c.in-Some.ensures.text.1 c.args.message.addresses 0 in
    search rules
