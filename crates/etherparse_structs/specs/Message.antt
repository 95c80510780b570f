-- A reassembled message, as numbers.
use Rattle.std.specs.Prelude.{length, replicate}
use Rattle.etherparse.specs.IpDefragPool.{Payload}
use Rattle.etherparse.specs.packet.declared.addresses.Addresses.{Addresses}
use Rattle.etherparse.specs.packet.declared.addresses.Addresses.TheVariants.{V4, V6}
use Rattle.etherparse_structs.specs.declared.message.EpMessage.{EpMessage}

abbrev pub no_message : EpMessage
no_message = record {
  len = 0;
  ip_version = 0;
  number = 0;
  ipv4_source = replicate 4 0;
  ipv4_destination = replicate 4 0;
  ipv6_source = replicate 16 0;
  ipv6_destination = replicate 16 0;
}

abbrev pub message_of : Addresses → Payload → EpMessage
message_of (V4 source destination) p = record no_message {
  len = length p.bytes;
  ip_version = 4;
  number = p.ip_number.0;
  ipv4_source = source;
  ipv4_destination = destination;
}
message_of (V6 source destination) p = record no_message {
  len = length p.bytes;
  ip_version = 6;
  number = p.ip_number.0;
  ipv6_source = source;
  ipv6_destination = destination;
}
