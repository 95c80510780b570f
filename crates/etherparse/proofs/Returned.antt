-- A datagram that is returned, beside its protocol and where its lengths came from.
use Rattle.std.proofs.Common.{arith, ◌≡◌, refl, ℕ, Option, Some, None, List}
use Rattle.etherparse.specs.declared.defrag.ip_frag_id.IpFragId.{IpFragId}
use Rattle.etherparse.specs.declared.defrag.overlap_rule.OverlapRule.{OverlapRule}
use Rattle.etherparse.specs.declared.defrag.reassembly.Reassembly.{Reassembly}
use Rattle.etherparse.specs.IpDefragPool.{Payload, payload_of}
use Rattle.etherparse.specs.Outcome.{Outcome}
use Rattle.etherparse.specs.Outcome.Outcome.{Clash, Completed, Refusal, Waiting}
use Rattle.etherparse.specs.ReassemblyTable.{Becomes}
use Rattle.etherparse.proofs.Retaining.{some_same}

module _ {C T : Type 0} (rule : OverlapRule) (id : IpFragId C) (time : T) (s : Option (Reassembly T)) where
  pub whole_reported : (o : Outcome) (bytes : List ℕ) (whole : Payload)
      → Becomes rule (λ (text : List ℕ). text) o time s (Some bytes) → whole ≡ payload_of id bytes
      → Becomes rule (payload_of id) o time s (Some whole)
  whole_reported (Refusal error) bytes whole h is = absurd h
  whole_reported (Clash error) bytes whole h is = absurd h
  whole_reported (Waiting fs) bytes whole h is = let none = h.0 in cc
  whole_reported (Completed text) bytes whole h is =
      let same : bytes ≡ text = some_same bytes text h.0 in
      grind arith

  pub none_reported : (o : Outcome) → Becomes rule (λ (text : List ℕ). text) o time s None
      → Becomes rule (payload_of id) o time s None
  none_reported (Refusal error) h = absurd h
  none_reported (Clash error) h = absurd h
  none_reported (Waiting fs) h = (refl, h.1)
  none_reported (Completed text) h = let some = h.0 in cc
