use Rattle.std.proofs.Common.{◌∙◌, ap, arith, inr, length, sym}
use Rattle.ep_ext.specs.Slot.{slot_of as order}
use Rattle.ep_packet.specs.SliceFault.{fault_offset}
use Rattle.ep_packet.proofs.FaultLemmas.{offset_of_ipv6}
use Rattle.ep_packet.proofs.HeaderLemmas.{within_room}
use Rattle.ep_packet.proofs.layer_headers.LayerHeaders.from_ipv6.Goals as goal

pub in_packet-requires : goal.in_packet-requires
in_packet-requires c = inr ((c.ip_headers_are_their_parts.ensures.ipv6 c.args.slice.now c.in-Ok.headers
    c.in-Ok.payload).0 (sym c.in-Ok.ensures.exact))

pub returns-in-Ok-clause-offset : goal.returns-in-Ok-clause-offset
returns-in-Ok-clause-offset c =
    within_room (length c.args.slice.now) c.in_packet.result c.in_packet.ensures.offset

pub returns-in-Err-clause-offset : goal.returns-in-Err-clause-offset
returns-in-Err-clause-offset c = λ n fits.
    omega (
      arith,
      c.faults_can_be_moved.ensures.ipv6_in order c.args.slice.now c.in-Err.error
          (c.refusals_are_first_faults.ensures.ipv6_alone c.args.slice.now c.in-Err.error
          (sym c.in-Err.ensures.exact)) n fits,
      ap fault_offset c.of_ipv6.ensures
          ∙ offset_of_ipv6 c.in-Err.error,
    )
