-- The IPv6 header (RFC 8200, section 3): its bytes, and each field by its offset in them. The
-- traffic class is the differentiated services code point, 6 bits (RFC 2474, section 3), and
-- explicit congestion notification, 2 bits (RFC 3168, section 5).
use Rattle.std.specs.Prelude.{◌≡◌, ℕ, ◌+◌, ◌*◌, ◌/◌, ◌%◌, ◌^◌, ◌<◌, List, [], ◌∷◌, ◌++◌, length, slice_range}
use Rattle.std.specs.Int.{w16, w32, to_be_bytes}
use Rattle.ep_base.specs.Bytes.{num}
use Rattle.ep_base.specs.Prefixes.{IsReadAs}
use Rattle.ep_base.specs.IpEcn.{ecn_of}
use Rattle.ep_base.specs.declared.net.ip_ecn.IpEcn.{IpEcn}
use Rattle.ep_ip.specs.declared.net.ipv6_header.Ipv6Header.{Ipv6Header}
use Rattle.ep_ip.specs.Ipv4.{version_of}

-- the traffic class, 8 bits after the version
abbrev pub traffic_class_of : List ℕ → ℕ
traffic_class_of bytes = num bytes 0 2 / 2 ^ 4 % 2 ^ 8

-- the flow label, the lower 20 bits of the first 4 bytes
abbrev pub flow_label_of : List ℕ → ℕ
flow_label_of bytes = num bytes 0 4 % 2 ^ 20

abbrev pub payload_length_of : List ℕ → ℕ
payload_length_of bytes = num bytes 4 2

abbrev pub next_header_of : List ℕ → ℕ
next_header_of bytes = num bytes 6 1

abbrev pub hop_limit_of : List ℕ → ℕ
hop_limit_of bytes = num bytes 7 1

abbrev pub source_of : List ℕ → List ℕ
source_of bytes = slice_range bytes 8 24

abbrev pub destination_of : List ℕ → List ℕ
destination_of bytes = slice_range bytes 24 40

-- 40 bytes of version 6
pub record IsIpv6Header (bytes : List ℕ) : Type 0 where
  pub version : version_of bytes ≡ 6
  pub whole : length bytes ≡ 40

-- the header that these bytes encode
abbrev pub ipv6_header_of : List ℕ → Ipv6Header
ipv6_header_of bytes = record {
  traffic_class = traffic_class_of bytes;
  flow_label = flow_label_of bytes;
  payload_length = payload_length_of bytes;
  next_header = record { 0 = next_header_of bytes };
  hop_limit = hop_limit_of bytes;
  source = source_of bytes;
  destination = destination_of bytes;
}

-- the bytes of a header
abbrev pub encoding : Ipv6Header → List ℕ
encoding h =
    to_be_bytes w32 (6 * 2 ^ 28 + h.traffic_class * 2 ^ 20 + h.flow_label)
    ++ to_be_bytes w16 h.payload_length
    ++ h.next_header.0 ∷ h.hop_limit ∷ [] ++ h.source ++ h.destination

-- the header h is read at the start of the bytes, and rest follows it
abbrev pub IsRead : List ℕ → Ipv6Header → List ℕ → Type 0
IsRead = IsReadAs IsIpv6Header ipv6_header_of encoding (λ prefix. prefix)

-- the differentiated services code point and explicit congestion notification in a traffic class
abbrev pub dscp_in : ℕ → ℕ
dscp_in traffic_class = traffic_class / 4

abbrev pub ecn_in : ℕ → IpEcn
ecn_in traffic_class = ecn_of (traffic_class % 4)

-- the ranges of the fields
pub record Fits (h : Ipv6Header) : Type 0 where
  pub traffic_class : h.traffic_class < 2 ^ 8
  pub flow_label : h.flow_label < 2 ^ 20
  pub payload_length : h.payload_length < 2 ^ 16
  pub source : length h.source ≡ 16
  pub destination : length h.destination ≡ 16
