-- What of an IP packet as far as it is there stays the same where more bytes are there (RFC 791, section
-- 3.1; RFC 8200, sections 3 and 4).
use Rattle.std.specs.Prelude.{◌≡◌, ◌≢◌, ℕ, List, None, Some}
use Rattle.ep_base.specs.Bytes.{IsContinued}
use Rattle.ep_base.specs.declared.len_source.LenSource.TheVariants.{Ipv4HeaderTotalLen, Ipv6HeaderPayloadLen}
use Rattle.ep_ip.specs.Ipv6.{payload_length_of}
use Rattle.ep_ipslice.specs.LaxPackets.{StoppedIpv4, StoppedIpv6}
use Rattle.ep_ipslice.specs.Packet.{IpPayload}

-- a payload with the same number, of which more may be there
pub record IsPayloadContinued (p q : IpPayload) : Type 0 where
  pub number : q.ip_number ≡ p.ip_number
  pub fragmented : q.fragmented ≡ p.fragmented
  pub bytes : IsContinued p.payload q.payload

-- the header is the same, and an authentication header that was there; if none had a fault, what there is
-- of the extension headers is the same, and more of the payload may be there; and the packet is the same
-- if all bytes that its total length counts were there
pub record KeepsIpv4 (before after : StoppedIpv4) : Type 0 where
  pub header : after.0.header ≡ before.0.header
  pub auth : before.1 ≡ None → after.0.auth ≡ before.0.auth
  pub found : (auth : List ℕ) → before.0.auth ≡ Some auth → after.0.auth ≡ Some auth
  pub going_on : before.1 ≡ None → after.1 ≡ None
  pub payload : before.1 ≡ None → IsPayloadContinued before.0.payload after.0.payload
  pub whole : before.0.payload.len_source ≡ Ipv4HeaderTotalLen → after ≡ before

-- the same of IPv6, where more extension headers may follow those that were there, if one had a fault, and
-- a payload length of 0 counts no bytes
pub record KeepsIpv6 (before after : StoppedIpv6) : Type 0 where
  pub header : after.0.header ≡ before.0.header
  pub exts : before.1 ≡ None → after.0.exts ≡ before.0.exts
  pub found : IsContinued before.0.exts.slice after.0.exts.slice
  pub going_on : before.1 ≡ None → after.1 ≡ None
  pub payload : before.1 ≡ None → IsPayloadContinued before.0.payload after.0.payload
  pub whole : before.0.payload.len_source ≡ Ipv6HeaderPayloadLen
      → payload_length_of before.0.header ≢ 0 → after ≡ before
