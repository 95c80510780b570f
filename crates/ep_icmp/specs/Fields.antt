-- Fields that kinds of ICMP messages share, in bytes and as numbers, high byte first.
use Rattle.std.specs.Prelude.{ℕ, ◌+◌, ◌^◌, ◌<◌, List, ◌++◌}
use Rattle.std.specs.Int.{w16, w32, to_be_bytes}
use Rattle.ep_base.specs.Bytes.{num}
use Rattle.ep_icmp.specs.declared.transport.icmp_echo_header.IcmpEchoHeader.{IcmpEchoHeader}
use Rattle.ep_icmp.specs.declared.transport.icmpv4.timestamp_message.TimestampMessage.{TimestampMessage}

-- an identifier and a sequence number, 2 bytes each (RFC 792, "Echo or Echo Reply Message"; RFC
-- 4443, section 4.1)
abbrev pub echo_bytes : IcmpEchoHeader → List ℕ
echo_bytes echo = to_be_bytes w16 echo.id ++ to_be_bytes w16 echo.seq

abbrev pub echo_in : List ℕ → ℕ → IcmpEchoHeader
echo_in bytes p = record { id = num bytes p 2; seq = num bytes (p + 2) 2 }

-- the same and three times of 4 bytes each (RFC 792, "Timestamp or Timestamp Reply Message")
abbrev pub timestamp_bytes : TimestampMessage → List ℕ
timestamp_bytes m =
    to_be_bytes w16 m.id ++ to_be_bytes w16 m.seq ++ to_be_bytes w32 m.originate_timestamp
    ++ to_be_bytes w32 m.receive_timestamp ++ to_be_bytes w32 m.transmit_timestamp

abbrev pub timestamp_in : List ℕ → ℕ → TimestampMessage
timestamp_in bytes p = record {
  id = num bytes p 2;
  seq = num bytes (p + 2) 2;
  originate_timestamp = num bytes (p + 4) 4;
  receive_timestamp = num bytes (p + 8) 4;
  transmit_timestamp = num bytes (p + 12) 4;
}

-- the ranges of the fields
pub record EchoFits (echo : IcmpEchoHeader) : Type 0 where
  pub id : echo.id < 2 ^ 16
  pub seq : echo.seq < 2 ^ 16

pub record TimestampFits (m : TimestampMessage) : Type 0 where
  pub id : m.id < 2 ^ 16
  pub seq : m.seq < 2 ^ 16
  pub originate_timestamp : m.originate_timestamp < 2 ^ 32
  pub receive_timestamp : m.receive_timestamp < 2 ^ 32
  pub transmit_timestamp : m.transmit_timestamp < 2 ^ 32
