-- Conversations: the packets that go between two ends over a protocol, both ways.
use Rattle.std.specs.Prelude.{◌&&◌, ◌++◌, ◌∷◌, [], not, if◌then◌else◌, Bool, true, false, Option, Some, None, is_none, is_some}
use Rattle.std.specs.Cmp.Lexicographic.{slice_cmp}
use Rattle.std.specs.Hash as fed
use Rattle.std.specs.Ordering.{nat_cmp}
use Rattle.std.specs.declared.cmp.Ordering.{Ordering}
use Rattle.std.specs.declared.cmp.Ordering.TheVariants.{Less, Equal, Greater}
use Rattle.ep_packet.specs.declared.addresses.Addresses.{Addresses}
use Rattle.ep_packet.specs.declared.addresses.Addresses.TheVariants.{V4, V6}
use Rattle.packets.specs.Headers.{net_addresses}
use Rattle.packets.specs.Lengths.{is_cut}
use Rattle.packets.specs.declared.flows.conversation.Conversation.{Conversation}
use Rattle.packets.specs.declared.outline.Net.{Net}
use Rattle.packets.specs.declared.outline.Net.TheVariants as net
use Rattle.packets.specs.declared.outline.Outline.{Outline}
use Rattle.packets.specs.declared.show.endpoints.Ports.{Ports}

-- a packet is left out that is refused, unless bytes of it were cut off as it was captured
abbrev pub is_left_out : Outline → Bool
is_left_out packet = is_some packet.refusal && not (is_cut packet.captured_len packet.wire_len)

-- and one of the others that has no IP header
abbrev pub is_without_ip : Outline → Bool
is_without_ip packet = not (is_left_out packet) && is_none (net_addresses packet.headers.net)

abbrev pub conversation_over : Option Net → Option Ports → Option Conversation
conversation_over None ports = None
conversation_over (Some net.Arp) ports = None
conversation_over (Some (net.Ip addresses number)) ports = Some (record {
  addresses = addresses;
  ports = ports;
  protocol = number;
})

-- the conversation of a packet with these ports, in its direction; packets without an IP header have
-- none
abbrev pub conversation_between : Outline → Option Ports → Option Conversation
conversation_between packet ports =
    if is_left_out packet then None else conversation_over packet.headers.net ports

-- what a hasher is given of a conversation: each address in one write, the ports if there are any, and
-- the protocol
abbrev pub hashed_addresses : Addresses → fed.HashWrites
hashed_addresses (V4 source destination) = source ∷ destination ∷ []
hashed_addresses (V6 source destination) = source ∷ destination ∷ []

abbrev pub hashed_ports : Option Ports → fed.HashWrites
hashed_ports None = []
hashed_ports (Some ports) = fed.u16 ports.source ++ fed.u16 ports.destination

abbrev pub hashed_as : Conversation → fed.HashWrites
hashed_as conversation = hashed_addresses conversation.addresses ++ hashed_ports conversation.ports
    ++ fed.u8 conversation.protocol.0

-- ---- its two directions

abbrev pub turned_addresses : Addresses → Addresses
turned_addresses (V4 source destination) = V4 destination source
turned_addresses (V6 source destination) = V6 destination source

abbrev pub turned_ports : Option Ports → Option Ports
turned_ports None = None
turned_ports (Some ports) = Some (record { source = ports.destination; destination = ports.source })

-- the other direction
abbrev pub turned : Conversation → Conversation
turned conversation = record {
  addresses = turned_addresses conversation.addresses;
  ports = turned_ports conversation.ports;
  protocol = conversation.protocol;
}

-- addresses are ordered by the first byte that differs
abbrev pub address_order : Addresses → Ordering
address_order (V4 source destination) = slice_cmp nat_cmp source destination
address_order (V6 source destination) = slice_cmp nat_cmp source destination

abbrev pub order_of_ports : Option Ports → Ordering
order_of_ports None = Equal
order_of_ports (Some ports) = nat_cmp ports.source ports.destination

abbrev pub ascends_by : (addresses ports : Ordering) → Bool
ascends_by Less ports = true
ascends_by Equal Less = true
ascends_by Equal Equal = true
ascends_by Equal Greater = false
ascends_by Greater ports = false

-- from the lower end to the higher one: by the addresses, and where these are the same by the ports
abbrev pub ascends : Conversation → Bool
ascends conversation =
    ascends_by (address_order conversation.addresses) (order_of_ports conversation.ports)

-- a conversation is named by its direction from the lower end
abbrev pub from_lower : Conversation → Conversation
from_lower conversation = if ascends conversation then conversation else turned conversation
