use Rattle.std.proofs.Common.{rules, ◌≡◌, ◌∙◌, Ok, ap, arith, sym}
use Rattle.ep_ipslice.specs.IpSlice.{ip_packet_at}
use Rattle.ep_ipslice.specs.declared.net.ip_slice.IpSlice.TheVariants as ip
use Rattle.ep_packet.specs.SliceFault.{fault_offset}
use Rattle.ep_packet.proofs.FaultLemmas.{offset_of_ip}
use Rattle.ep_packet.proofs.layer_slices.LayerSlices.from_ip.Goals as goal
use Rattle.ep_ipslice.proofs.Packets.{ip_found, ip_refused}

pub returns-in-Err-clause-offset : goal.returns-in-Err-clause-offset
returns-in-Err-clause-offset c = λ n fits.
    omega (
      arith,
      c.faults_can_be_moved.ensures.ip c.args.slice.now c.in-Err.error
          (ip_refused c.args.slice.now c.in-Err.error (sym c.in-Err.ensures.exact)) n fits,
      ap fault_offset c.of_ip.ensures ∙ offset_of_ip c.in-Err.error,
    )

pub in_ipv4-requires : goal.in_ipv4-requires
in_ipv4-requires c =
    let here : ip_packet_at c.args.slice.now ≡ Ok (ip.Ipv4 c.in-Ok-Ipv4.packet) = search rules in
    ip_found c.args.slice.now (ip.Ipv4 c.in-Ok-Ipv4.packet) here

pub in_ipv6-requires : goal.in_ipv6-requires
in_ipv6-requires c =
    let here : ip_packet_at c.args.slice.now ≡ Ok (ip.Ipv6 c.in-Ok-Ipv6.packet) = search rules in
    ip_found c.args.slice.now (ip.Ipv6 c.in-Ok-Ipv6.packet) here
