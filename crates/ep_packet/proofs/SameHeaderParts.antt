-- Headers of packets that a test of equality finds equal.
use Rattle.std.proofs.Common.{◌≡◌, ap}
use Rattle.std.specs.Bool.{Decides}
use Rattle.std.specs.Cmp.Lexicographic.{pointwise_decides}
use Rattle.ep_base.specs.Traits.{EqualIsSame}
use Rattle.ep_base.proofs.Same.{options_same, two_parts}
use Rattle.ep_link.specs.contracts.link.link_header.LinkHeaderPartialEq.TheImpl as links
use Rattle.ep_base.specs.contracts.err.layer.LayerPartialEq.TheImpl as layers
use Rattle.ep_packet.specs.LaxPacketHeaders.{lax_headers_parsed}
use Rattle.ep_packet.specs.LaxPayload.{lax_payload_parsed}
use Rattle.ep_packet.specs.PacketHeaders.{headers_parsed}
use Rattle.ep_packet.specs.Payload.{payload_parsed}
use Rattle.ep_packet.specs.contracts.err.packet.slice_error.SliceErrorPartialEq.TheImpl as errors
use Rattle.ep_packet.specs.contracts.lax_packet_headers.LaxPacketHeadersPartialEq.TheImpl as lax_packets
use Rattle.ep_packet.specs.contracts.lax_payload_slice.LaxPayloadSlicePartialEq.TheImpl as lax_payloads
use Rattle.ep_packet.specs.contracts.net.net_headers.NetHeadersPartialEq.TheImpl as nets
use Rattle.ep_packet.specs.contracts.packet_headers.PacketHeadersPartialEq.TheImpl as packets
use Rattle.ep_packet.specs.contracts.payload_slice.PayloadSlicePartialEq.TheImpl as payloads
use Rattle.ep_packet.specs.contracts.transport.transport_header.TransportHeaderPartialEq.TheImpl as transports
use Rattle.ep_packet.specs.declared.lax_packet_headers.LaxPacketHeaders.{LaxPacketHeaders}
use Rattle.ep_packet.specs.declared.lax_payload_slice.LaxPayloadSlice.{LaxPayloadSlice}
use Rattle.ep_packet.specs.declared.packet_headers.PacketHeaders.{PacketHeaders}
use Rattle.ep_packet.specs.declared.payload_slice.PayloadSlice.{PayloadSlice}
use Rattle.ep_packet.proofs.SamePackets.{pairs_same}
use Rattle.ep_tag.specs.contracts.link.link_ext_header.LinkExtHeaderPartialEq.TheImpl as tags

pub headers_same : EqualIsSame links.ghosts.eq → EqualIsSame tags.ghosts.eq
    → EqualIsSame nets.ghosts.eq → EqualIsSame transports.ghosts.eq
    → ((a b : PayloadSlice) → Decides (payloads.ghosts.eq a b) (payload_parsed a ≡ payload_parsed b))
    → (a b : PacketHeaders) → Decides (packets.ghosts.eq a b) (headers_parsed a ≡ headers_parsed b)
headers_same link tag net transport payload a b =
    let last = two_parts (options_same transport a.transport b.transport)
    (payload a.payload b.payload) (λ x y. (x, y)) (λ both. both) in
    let layers = two_parts (options_same net a.net b.net) last (λ x y. (x, y)) (λ both. both) in
    let following = two_parts (pointwise_decides tag a.link_exts.items b.link_exts.items) layers
    (λ x y. (x, y)) (λ both. both) in
    two_parts (options_same link a.link b.link) following
    (λ x y i. record {
      link = x i;
      link_exts = y.0 i;
      net = y.1.0 i;
      transport = y.1.1.0 i;
      payload = y.1.1.1 i;
    })
    (λ e. (
      ap (λ h. h.link) e,
      (
        ap (λ h. h.link_exts) e,
        (ap (λ h. h.net) e, (ap (λ h. h.transport) e, ap (λ h. h.payload) e)),
      ),
    ))

pub lax_headers_same : EqualIsSame links.ghosts.eq → EqualIsSame tags.ghosts.eq
    → EqualIsSame nets.ghosts.eq → EqualIsSame transports.ghosts.eq
    → ((a b : LaxPayloadSlice)
    → Decides (lax_payloads.ghosts.eq a b) (lax_payload_parsed a ≡ lax_payload_parsed b))
    → EqualIsSame errors.ghosts.eq → EqualIsSame layers.ghosts.eq
    → (a b : LaxPacketHeaders)
    → Decides (lax_packets.ghosts.eq a b) (lax_headers_parsed a ≡ lax_headers_parsed b)
lax_headers_same link tag net transport payload error layer a b =
    let last = two_parts (payload a.payload b.payload)
    (options_same (pairs_same error layer) a.stop_err b.stop_err) (λ x y. (x, y)) (λ both. both) in
    let message = two_parts (options_same transport a.transport b.transport) last (λ x y. (x, y)) (λ both. both) in
    let packet = two_parts (options_same net a.net b.net) message (λ x y. (x, y)) (λ both. both) in
    let following = two_parts (pointwise_decides tag a.link_exts.items b.link_exts.items) packet
    (λ x y. (x, y)) (λ both. both) in
    two_parts (options_same link a.link b.link) following
    (λ x y i. record {
      link = x i;
      link_exts = y.0 i;
      net = y.1.0 i;
      transport = y.1.1.0 i;
      payload = y.1.1.1.0 i;
      stop = y.1.1.1.1 i;
    })
    (λ e. (
      ap (λ h. h.link) e,
      (
        ap (λ h. h.link_exts) e,
        (
          ap (λ h. h.net) e,
          (ap (λ h. h.transport) e, (ap (λ h. h.payload) e, ap (λ h. h.stop) e)),
        ),
      ),
    ))
