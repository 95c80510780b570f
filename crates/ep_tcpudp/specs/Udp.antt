-- UDP (RFC 768): the bytes of the header, each field by its offset in them, and the whole datagram.
use Rattle.std.specs.Prelude.{◌≡◌, ◌⊎◌, ℕ, ◌+◌, ◌^◌, ◌<◌, ◌≤◌, ◌==◌, nat_lt, if◌then◌else◌, List, ◌++◌, length, take}
use Rattle.std.specs.Int.{w16, to_be_bytes}
use Rattle.ep_base.specs.Bytes.{num}
use Rattle.ep_base.specs.Prefixes.{IsReadAs}
use Rattle.ep_tcpudp.specs.declared.transport.udp_header.UdpHeader.{UdpHeader}

abbrev pub source_port_of : List ℕ → ℕ
source_port_of bytes = num bytes 0 2

abbrev pub destination_port_of : List ℕ → ℕ
destination_port_of bytes = num bytes 2 2

-- the length of header and payload in bytes; 0 says nothing of it (RFC 2675, section 4)
abbrev pub length_of : List ℕ → ℕ
length_of bytes = num bytes 4 2

abbrev pub checksum_of : List ℕ → ℕ
checksum_of bytes = num bytes 6 2

-- a header is any 8 bytes
pub record IsUdpHeader (bytes : List ℕ) : Type 0 where
  pub whole : length bytes ≡ 8

-- the fields that these bytes encode
abbrev pub udp_header_of : List ℕ → UdpHeader
udp_header_of bytes = record {
  source_port = source_port_of bytes;
  destination_port = destination_port_of bytes;
  length = length_of bytes;
  checksum = checksum_of bytes;
}

-- the bytes of a header
abbrev pub encoding : UdpHeader → List ℕ
encoding h = to_be_bytes w16 h.source_port ++ to_be_bytes w16 h.destination_port
    ++ to_be_bytes w16 h.length ++ to_be_bytes w16 h.checksum

-- the header h is read at the start of the bytes, and rest follows it
abbrev pub IsRead : List ℕ → UdpHeader → List ℕ → Type 0
IsRead = IsReadAs IsUdpHeader udp_header_of encoding (λ prefix. prefix)

-- the ranges of the fields
pub record Fits (h : UdpHeader) : Type 0 where
  pub source_port : h.source_port < 2 ^ 16
  pub destination_port : h.destination_port < 2 ^ 16
  pub size : h.length < 2 ^ 16
  pub checksum : h.checksum < 2 ^ 16

-- the header of a payload of so many bytes, without a checksum
abbrev pub unchecked_header : (source_port destination_port payload_len : ℕ) → UdpHeader
unchecked_header source_port destination_port payload_len = record {
  source_port = source_port;
  destination_port = destination_port;
  length = 8 + payload_len;
  checksum = 0;
}

-- the bytes begin with a datagram: a whole header is there, whose length is 0, or that of a header
-- at least, and of as many bytes as are there at most
pub record ReadableUdp (bytes : List ℕ) : Type 0 where
  pub header : 8 ≤ length bytes
  pub covers : (length_of bytes ≡ 0) ⊎ ((8 ≤ length_of bytes) × (length_of bytes ≤ length bytes))

-- the datagram at the start of the bytes: as many as the length field says, and all where it is 0
abbrev pub summed_udp : List ℕ → List ℕ
summed_udp bytes = if length_of bytes == 0 then bytes else take (length_of bytes) bytes

-- the bytes are a datagram, with nothing after it
pub record IsUdp (bytes : List ℕ) : Type 0 where
  pub header : 8 ≤ length bytes
  pub covers : (length_of bytes ≡ 0) ⊎ (length_of bytes ≡ length bytes)

-- what there is of the datagram at the start of the bytes: as many as the length field says, if
-- that counts a header, and all where fewer are there or it counts none
abbrev pub lax_summed_udp : List ℕ → List ℕ
lax_summed_udp bytes = if nat_lt (length_of bytes) 8 then bytes else take (length_of bytes) bytes

-- the bytes are what there is of a datagram: a whole header, and no more bytes than a length field
-- that counts a header says
pub record IsLaxUdp (bytes : List ℕ) : Type 0 where
  pub header : 8 ≤ length bytes
  pub within : 8 ≤ length_of bytes → length bytes ≤ length_of bytes
