-- Sliced packets that a test of equality finds equal.
use Rattle.std.proofs.Common.{◌&&◌, Bool, ap}
use Rattle.std.specs.Cmp.Lexicographic.{pointwise_decides}
use Rattle.ep_base.specs.Traits.{EqualIsSame}
use Rattle.ep_base.proofs.Same.{field, last_field, options_same, record_same, two_parts}
use Rattle.ep_base.specs.contracts.err.layer.LayerPartialEq.TheImpl as layers
use Rattle.ep_link.specs.contracts.link.link_slice.LinkSlicePartialEq.TheImpl as links
use Rattle.ep_packet.specs.contracts.err.packet.slice_error.SliceErrorPartialEq.TheImpl as errors
use Rattle.ep_packet.specs.contracts.lax_sliced_packet.LaxSlicedPacketPartialEq.TheImpl as lax_packets
use Rattle.ep_packet.specs.contracts.net.lax_net_slice.LaxNetSlicePartialEq.TheImpl as lax_nets
use Rattle.ep_packet.specs.contracts.net.net_slice.NetSlicePartialEq.TheImpl as nets
use Rattle.ep_packet.specs.contracts.sliced_packet.SlicedPacketPartialEq.TheImpl as packets
use Rattle.ep_packet.specs.contracts.transport.transport_slice.TransportSlicePartialEq.TheImpl as transports
use Rattle.ep_tag.specs.contracts.link.lax_link_ext_slice.LaxLinkExtSlicePartialEq.TheImpl as lax_tags
use Rattle.ep_tag.specs.contracts.link.link_ext_slice.LinkExtSlicePartialEq.TheImpl as tags

pub packets_same : EqualIsSame links.ghosts.eq → EqualIsSame tags.ghosts.eq
    → EqualIsSame nets.ghosts.eq → EqualIsSame transports.ghosts.eq
    → EqualIsSame packets.ghosts.eq
packets_same link tag net transport a b = record_same
    (field (options_same link) (λ p. p.link)
    (field (pointwise_decides tag) (λ p. p.link_exts.items)
    (field (options_same net) (λ p. p.net)
    (last_field (options_same transport) (λ p. p.transport)))))
    (λ link tags net transport i. record {
      link = link i;
      link_exts = record { items = tags i };
      net = net i;
      transport = transport i;
    })

pub pairs_same : {A B : Type 0} {first : A → A → Bool} {second : B → B → Bool} → EqualIsSame first
    → EqualIsSame second → EqualIsSame (λ (x y : A × B). first x.0 y.0 && second x.1 y.1)
pairs_same one two a b = two_parts (one a.0 b.0) (two a.1 b.1) (λ x y i. (x i, y i))
    (λ is. (ap (λ (p : _ × _). p.0) is, ap (λ (p : _ × _). p.1) is))

pub lax_packets_same : EqualIsSame links.ghosts.eq → EqualIsSame lax_tags.ghosts.eq
    → EqualIsSame lax_nets.ghosts.eq → EqualIsSame transports.ghosts.eq
    → EqualIsSame errors.ghosts.eq → EqualIsSame layers.ghosts.eq
    → EqualIsSame lax_packets.ghosts.eq
lax_packets_same link tag net transport error layer a b = record_same
    (field (options_same link) (λ p. p.link)
    (field (pointwise_decides tag) (λ p. p.link_exts.items)
    (field (options_same net) (λ p. p.net)
    (field (options_same transport) (λ p. p.transport)
    (last_field (options_same (pairs_same error layer)) (λ p. p.stop_err))))))
    (λ link tags net transport stop i. record {
      link = link i;
      link_exts = record { items = tags i };
      net = net i;
      transport = transport i;
      stop_err = stop i;
    })
