-- What conversations count of a packet.
use Rattle.std.specs.Prelude.{not, true, false, Option, Some, None}
use Rattle.packets.specs.Conversations.{ascends, conversation_between, from_lower}
use Rattle.packets.specs.LaxLayers.{lax_layers_of}
use Rattle.packets.specs.MessageHeaders.{message_header}
use Rattle.packets.specs.Outlines.{outline_of}
use Rattle.packets.specs.declared.dissection.Dissection.{Dissection}
use Rattle.packets.specs.declared.flows.conversation.Conversation.{Conversation}
use Rattle.packets.specs.declared.flows.transfer.Flags.{Flags}
use Rattle.packets.specs.declared.flows.transfer.Transfer.{Transfer}
use Rattle.packets.specs.declared.message_header.MessageHeader.{MessageHeader}
use Rattle.packets.specs.declared.outline.Outline.{Outline}
use Rattle.packets.specs.declared.show.endpoints.Ports.{Ports}

-- the ports and the flags of a message whose header is there
abbrev pub header_ports : Option MessageHeader → Option Ports
header_ports None = None
header_ports (Some header) = Some (record {
  source = header.source_port;
  destination = header.destination_port;
})

abbrev pub flags_of : Option MessageHeader → Flags
flags_of None = record { syn = false; no_syn = false; fin = false; rst = false }
flags_of (Some header) = record {
  syn = header.syn;
  no_syn = not header.syn;
  fin = header.fin;
  rst = header.rst;
}

abbrev pub transfer_by : Outline → Option Conversation → Flags → Transfer
transfer_by outline None flags = record {
  outline = outline;
  conversation = None;
  ascends = true;
  flags = flags;
}
transfer_by outline (Some conversation) flags = record {
  outline = outline;
  conversation = Some (from_lower conversation);
  ascends = ascends conversation;
  flags = flags;
}

abbrev pub transfer_with : Outline → Option MessageHeader → Transfer
transfer_with outline header = transfer_by outline
    (conversation_between outline (header_ports header)) (flags_of header)

-- of a packet by the header of its message, or of the one that it completes. So a fragment that
-- completes a message has its ports, and other fragments have none
abbrev pub transfer_of : Dissection → Transfer
transfer_of packet = transfer_with (outline_of packet)
    (message_header packet.layers (lax_layers_of packet.header packet.bytes) packet.fragment)
