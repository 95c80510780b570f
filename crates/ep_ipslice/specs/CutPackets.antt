-- IP packets of which the first bytes are there, and all headers among them (RFC 791, section 3.1; RFC
-- 8200, sections 3 and 4).
use Rattle.std.specs.Prelude.{ℕ, ◌+◌, ◌-◌, ◌==◌, ◌&&◌, not, nat_lt, Bool, if◌then◌else◌, length, take}
use Rattle.ep_base.specs.declared.len_source.LenSource.{LenSource}
use Rattle.ep_base.specs.declared.len_source.LenSource.TheVariants.{Slice, Ipv4HeaderTotalLen, Ipv6HeaderPayloadLen}
use Rattle.ep_ext.specs.Ipv4Exts.{auth_bytes}
use Rattle.ep_ip.specs.Ipv6.{payload_length_of}
use Rattle.ep_ipslice.specs.LaxPackets.{LaxIpv4Packet, LaxIpv6Packet}
use Rattle.ep_ipslice.specs.Packet.{IpPayload, Ipv4Packet, Ipv6Packet, ipv4_payload}
use Rattle.ep_ipslice.specs.declared.net.ip_slice.IpSlice.{IpSlice}
use Rattle.ep_ipslice.specs.declared.net.ip_slice.IpSlice.TheVariants as whole
use Rattle.ep_ipslice.specs.declared.net.lax_ip_slice.LaxIpSlice.{LaxIpSlice}
use Rattle.ep_ipslice.specs.declared.net.lax_ip_slice.LaxIpSlice.TheVariants.{Ipv4, Ipv6}

-- how many bytes the header and the extension headers have
abbrev pub ipv4_headers_len : Ipv4Packet → ℕ
ipv4_headers_len packet = length packet.header + length (auth_bytes packet.auth)

abbrev pub ipv6_headers_len : Ipv6Packet → ℕ
ipv6_headers_len packet = length packet.header + length packet.exts.slice

abbrev pub ip_headers_len : IpSlice → ℕ
ip_headers_len (whole.Ipv4 packet) = ipv4_headers_len packet
ip_headers_len (whole.Ipv6 packet) = ipv6_headers_len packet

-- the first n bytes of a payload: where bytes are missing, what bounds it are those that are there
abbrev pub cut_payload : (n : ℕ) (incomplete : Bool) → LenSource → IpPayload → IpPayload
cut_payload n incomplete source p = record {
  ip_number = p.ip_number;
  fragmented = p.fragmented;
  len_source = if incomplete then Slice else source;
  payload = take n p.payload;
}

-- of a packet's first n bytes: bytes of the payload are missing
abbrev pub is_ipv4_short : ℕ → Ipv4Packet → Bool
is_ipv4_short n packet = nat_lt (n - ipv4_headers_len packet) (length packet.payload)

-- the first n bytes of a packet
abbrev pub cut_ipv4 : ℕ → Ipv4Packet → LaxIpv4Packet
cut_ipv4 n packet = record {
  header = packet.header;
  auth = packet.auth;
  incomplete = is_ipv4_short n packet;
  payload = cut_payload (n - ipv4_headers_len packet) (is_ipv4_short n packet) Ipv4HeaderTotalLen
      (ipv4_payload packet);
}

-- the same of IPv6, where a payload length of 0 doesn't say how many bytes there are
abbrev pub is_ipv6_short : ℕ → Ipv6Packet → Bool
is_ipv6_short n packet = not (payload_length_of packet.header == 0)
    && nat_lt (n - ipv6_headers_len packet) (length packet.payload.payload)

-- what bounds the payload where none of it is missing: a length of 0 is met by the header alone
abbrev pub cut_ipv6_source : ℕ → Ipv6Packet → LenSource
cut_ipv6_source n packet = if nat_lt 40 n then packet.payload.len_source else Ipv6HeaderPayloadLen

abbrev pub cut_ipv6 : ℕ → Ipv6Packet → LaxIpv6Packet
cut_ipv6 n packet = record {
  header = packet.header;
  exts = packet.exts;
  incomplete = is_ipv6_short n packet;
  payload = cut_payload (n - ipv6_headers_len packet) (is_ipv6_short n packet)
      (cut_ipv6_source n packet) packet.payload;
}

abbrev pub cut_ip : ℕ → IpSlice → LaxIpSlice
cut_ip n (whole.Ipv4 packet) = Ipv4 (cut_ipv4 n packet)
cut_ip n (whole.Ipv6 packet) = Ipv6 (cut_ipv6 n packet)
