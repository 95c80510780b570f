-- The key of a packet's connection, as numbers.
use Rattle.std.specs.Prelude.{ℕ, List, [], ◌∷◌, length, min, replicate, slice_get, unwrap_or}
use Rattle.std.specs.Prelude.{Option, Some, None, Result, Ok, Err}
use Rattle.etherparse.specs.packet.declared.err.packet.slice_error.SliceError.{SliceError}
use Rattle.etherparse.specs.packet.declared.sliced_packet.SlicedPacket.{SlicedPacket}
use Rattle.tcp_streams.specs.PacketKeys.{key_of}
use Rattle.tcp_streams.specs.declared.direction.Direction.{Direction}
use Rattle.tcp_streams.specs.declared.endpoint.Endpoint.{Endpoint}
use Rattle.tcp_streams.specs.declared.endpoint.Endpoint.TheVariants.{V4, V6}
use Rattle.tcp_streams.specs.declared.flow_key.FlowKey.{FlowKey}
use Rattle.etherparse_structs.specs.Connection.{direction_number}
use Rattle.etherparse_structs.specs.GroupRecord.{padded}
use Rattle.etherparse_structs.specs.declared.packet_key.EpEndpoint.{EpEndpoint}
use Rattle.etherparse_structs.specs.declared.packet_key.EpFlowKey.{EpFlowKey}
use Rattle.etherparse_structs.specs.declared.packet_key.EpPacketKey.{EpPacketKey}

abbrev pub endpoint_struct : Endpoint → EpEndpoint
endpoint_struct (V4 address port) = record { version = 4; port = port; address = padded address }
endpoint_struct (V6 address port) = record { version = 6; port = port; address = address }

abbrev pub no_endpoint : EpEndpoint
no_endpoint = record { version = 0; port = 0; address = replicate 16 0 }

-- one of the identifiers, 0 where there are fewer
abbrev pub id_at : List ℕ → ℕ → ℕ
id_at ids i = unwrap_or (slice_get ids i) 0

abbrev pub key_struct : FlowKey ℕ → EpFlowKey
key_struct key = record {
  lower = endpoint_struct key.lower;
  higher = endpoint_struct key.higher;
  channel = key.channel_id;
  vlan_ids = id_at key.vlan_ids.items 0 ∷ id_at key.vlan_ids.items 1 ∷ id_at key.vlan_ids.items 2 ∷ [];
  vlan_count = min (length key.vlan_ids.items) 3;
}

-- no key, with this status
abbrev pub no_key : (status : ℕ) → EpPacketKey
no_key status = record {
  status = status;
  direction = 0;
  key = record {
    lower = no_endpoint;
    higher = no_endpoint;
    channel = 0;
    vlan_ids = replicate 3 0;
    vlan_count = 0;
  };
}

-- a key and a direction, or that the packet has no segment with one
abbrev pub keyed_struct : Option (FlowKey ℕ × Direction) → EpPacketKey
keyed_struct None = no_key 6
keyed_struct (Some keyed) = record {
  status = 0;
  direction = direction_number keyed.1;
  key = key_struct keyed.0;
}

-- the key of a packet that bytes were sliced into
abbrev pub packet_key_in : Result SlicedPacket SliceError → (channel : ℕ) → EpPacketKey
packet_key_in (Ok packet) channel = keyed_struct (key_of packet channel)
packet_key_in (Err error) channel = no_key 3
