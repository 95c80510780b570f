use Rattle.ep_base.specs.declared.err.layer.Layer.TheVariants as layer
use Rattle.std.proofs.Common.{◌∷◌, [], true, false}
use Rattle.packets.specs.Examples.{ipv6_address}
use Rattle.packets.specs.declared.reason.Reason.TheVariants as reason
use Rattle.packets.specs.declared.summary.verified.Verified.TheVariants as verified
use Rattle.packets.proofs.laws.examples.counts.keys_of_the_page.Goals as goal

pub returns-clause-reasons : goal.returns-clause-reasons
returns-clause-reasons g c summary counted = counted.reasons.keys

pub returns-clause-of_reasons : goal.returns-clause-of_reasons
returns-clause-of_reasons g c summary counted =
    let each = counted.reasons.tallied in
    (each (reason.CutOff layer.Ipv4Header), each reason.TcpDataOffset, each (reason.CutOff layer.TcpHeader))

pub returns-clause-senders : goal.returns-clause-senders
returns-clause-senders g c summary counted = counted.senders.keys

pub returns-clause-of_senders : goal.returns-clause-of_senders
returns-clause-of_senders g c summary counted =
    let each = counted.senders.tallied in (
      each (verified.V4 (10 ∷ 0 ∷ 0 ∷ 1 ∷ []) false),
      each (verified.V4 (10 ∷ 0 ∷ 0 ∷ 1 ∷ []) true),
      each (verified.V6 (ipv6_address 1) false),
      each (verified.V6 (ipv6_address 1) true),
    )
