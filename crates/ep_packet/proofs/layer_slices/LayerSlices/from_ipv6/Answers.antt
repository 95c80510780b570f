use Rattle.std.proofs.Common.{◌∙◌, ap, arith, sym}
use Rattle.ep_packet.specs.SliceFault.{fault_offset}
use Rattle.ep_packet.proofs.FaultLemmas.{offset_of_ipv6}
use Rattle.ep_packet.proofs.layer_slices.LayerSlices.from_ipv6.Goals as goal
use Rattle.ep_ipslice.proofs.Packets.{ipv6_found, ipv6_refused}

pub returns-in-Err-clause-offset : goal.returns-in-Err-clause-offset
returns-in-Err-clause-offset c = λ n fits.
    omega (
      arith,
      c.faults_can_be_moved.ensures.ipv6 c.args.slice.now c.in-Err.error
          (ipv6_refused c.args.slice.now c.in-Err.error (sym c.in-Err.ensures.exact)) n fits,
      ap fault_offset c.of_ipv6.ensures
          ∙ offset_of_ipv6 c.in-Err.error,
    )

pub in_ipv6-requires : goal.in_ipv6-requires
in_ipv6-requires c = ipv6_found c.args.slice.now c.in-Ok.packet (sym c.in-Ok.ensures.exact)
