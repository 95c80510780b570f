-- A packet whose payload is a whole message is no fragment.
use Rattle.std.proofs.Common.{arith, ◌≡◌, false, Bool, cond, ℕ, List, Option, None}
use Rattle.ep_packet.specs.Class.{Class, net_class}
use Rattle.ep_packet.specs.PacketView.{ip_payload_of, is_fragment}
use Rattle.ep_packet.specs.declared.net.net_slice.NetSlice.{NetSlice}
use Rattle.ep_packet.specs.declared.net.net_slice.NetSlice.TheVariants as net
use Rattle.ep_packet.specs.declared.transport.transport_slice.TransportSlice.{TransportSlice}
use Rattle.etherparse.specs.IpFragId.{fragment_in}

whole_is : (fragmented : Bool) (fragment whole : Class) → fragmented ≡ false → fragment_in whole ≡ None
    → fragment_in (cond fragmented fragment whole) ≡ None
whole_is fragmented fragment whole is none = grind arith

pub whole_is_no_fragment : (ids : List ℕ) (o : Option NetSlice) (message : Option TransportSlice)
    → is_fragment (ip_payload_of o) ≡ false → fragment_in (net_class ids o message) ≡ None
whole_is_no_fragment ids o message is = grind arith
