-- Messages of neighbor discovery that a test of equality finds equal.
use Rattle.std.proofs.Common.{ap, refl}
use Rattle.std.proofs.lemmas.Bool.Decides.{Decides-eqb}
use Rattle.std.specs.Cmp.{booleans_Decides}
use Rattle.std.specs.Cmp.Lexicographic.{pointwise_decides}
use Rattle.ep_base.specs.Traits.{EqualIsSame}
use Rattle.ep_base.proofs.Same.{field, last_field, one_part, record_same, two_parts, both}
use Rattle.ep_icmp.specs.contracts.transport.icmpv6.ndp.ndp_header.NdpHeaderPartialEq.TheImpl as headers
use Rattle.ep_icmp.specs.contracts.transport.icmpv6.ndp.ndp_message.NdpMessagePartialEq.TheImpl as messages
use Rattle.ep_icmp.specs.declared.transport.icmpv6.ndp.ndp_message.NdpMessage.TheVariants.{RouterSolicitation}
use Rattle.ep_icmp.specs.declared.transport.icmpv6.ndp.ndp_message.NdpMessage.TheVariants.{RouterAdvertisement}
use Rattle.ep_icmp.specs.declared.transport.icmpv6.ndp.ndp_message.NdpMessage.TheVariants.{NeighborSolicitation}
use Rattle.ep_icmp.specs.declared.transport.icmpv6.ndp.ndp_message.NdpMessage.TheVariants.{NeighborAdvertisement}
use Rattle.ep_icmp.specs.declared.transport.icmpv6.ndp.ndp_message.NdpMessage.TheVariants.{Redirect}

pub same_message : EqualIsSame messages.ghosts.eq
same_message RouterSolicitation RouterSolicitation = (λ is. refl, λ is. refl)
same_message (RouterAdvertisement h m o l r t) (RouterAdvertisement h' m' o' l' r' t') =
    one_part (both (Decides-eqb h h') (both (booleans_Decides m m') (both (booleans_Decides o o')
    (both (Decides-eqb l l') (both (Decides-eqb r r') (Decides-eqb t t'))))))
    (λ p i. RouterAdvertisement (p.0 i) (p.1.0 i) (p.1.1.0 i) (p.1.1.1.0 i) (p.1.1.1.1.0 i)
    (p.1.1.1.1.1 i)) (λ e. (cc, (cc, (cc, (cc, (cc, cc))))))
same_message (NeighborSolicitation t) (NeighborSolicitation t') =
    one_part (pointwise_decides Decides-eqb t t') (ap NeighborSolicitation) (λ e. cc)
same_message (NeighborAdvertisement r s o t) (NeighborAdvertisement r' s' o' t') =
    one_part (both (booleans_Decides r r') (both (booleans_Decides s s') (both (booleans_Decides o o')
    (pointwise_decides Decides-eqb t t'))))
    (λ p i. NeighborAdvertisement (p.0 i) (p.1.0 i) (p.1.1.0 i) (p.1.1.1 i))
    (λ e. (cc, (cc, (cc, cc))))
same_message (Redirect t d) (Redirect t' d') =
    two_parts (pointwise_decides Decides-eqb t t') (pointwise_decides Decides-eqb d d')
    (λ x y i. Redirect (x i) (y i)) (λ e. (cc, cc))
same_message a b = (λ is. cc, λ is. cc)

pub same_header : EqualIsSame headers.ghosts.eq
same_header a b = record_same
    (field same_message (λ h. h.message) (last_field Decides-eqb (λ h. h.checksum)))
    (λ message checksum i. record { message = message i; checksum = checksum i })
