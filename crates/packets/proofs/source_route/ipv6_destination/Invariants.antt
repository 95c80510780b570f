use Rattle.std.proofs.Common.{◌≡◌}
use Rattle.ep_ipslice.specs.Ipv6Packet.{extensions_in}
use Rattle.ep_ip.specs.Ipv6.{destination_of}
use Rattle.ep_ipslice.specs.Ipv6Walk.{headers_left}
use Rattle.packets.specs.SourceRoute.{end_of_extensions}
use Rattle.packets.proofs.source_route.ipv6_destination.Given as goal

-- the headers that are left lead to the final destination
abbrev pub invariant-loop-header : goal.invariant-loop-header
invariant-loop-header l =
    (goal.iterator-loop-header).can_next l.header-iterator
    × (goal.iterator-loop-header).is_finite l.header-iterator
    × (end_of_extensions (destination_of l.packet.header) (extensions_in l.packet)
    ≡ end_of_extensions l.destination (headers_left l.header-iterator))
