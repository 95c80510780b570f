-- Payloads that may have been cut off and that a test of equality finds equal.
use Rattle.std.proofs.Common.{◌≡◌, Bool, nat_eq, ap, rules, arith}
use Rattle.std.specs.Bool.{Decides}
use Rattle.std.specs.Cmp.{booleans_Decides}
use Rattle.std.specs.Cmp.Lexicographic.{pointwise, bytes_decides}
use Rattle.ep_base.proofs.Same.{one_part, two_parts}
use Rattle.ep_tag.specs.Ether.{EtherPayload, LaxEtherPayload, present_ether}
use Rattle.ep_tag.specs.EtherOrder.{incomplete_index, lax_ordered_as, ordered_as}
use Rattle.ep_tag.specs.MacsecLax.{LaxUnmodified, LaxModified}
use Rattle.ep_tag.specs.MacsecView.{lax_payload_parsed}
use Rattle.ep_tag.specs.contracts.link.lax_macsec_payload_slice.LaxMacsecPayloadSlicePartialEq.TheImpl as payloads
use Rattle.ep_tag.specs.declared.link.lax_macsec_payload_slice.LaxMacsecPayloadSlice.{LaxMacsecPayloadSlice}
use Rattle.ep_tag.specs.declared.link.lax_macsec_payload_slice.LaxMacsecPayloadSlice.TheVariants as slice

flags_same : (x y : Bool) → Decides (nat_eq (incomplete_index x) (incomplete_index y)) (x ≡ y)
flags_same x y = grind arith

present_same : (a b : EtherPayload) → Decides (pointwise nat_eq (ordered_as a) (ordered_as b)) (a ≡ b)
present_same a b = search rules

pub lax_ether_same : (a b : LaxEtherPayload)
    → Decides (pointwise nat_eq (lax_ordered_as a) (lax_ordered_as b)) (a ≡ b)
lax_ether_same a b =
    two_parts (flags_same a.incomplete b.incomplete)
    (present_same (present_ether a) (present_ether b))
    (λ incomplete present i. record {
      incomplete = incomplete i;
      ether_type = (present i).ether_type;
      len_source = (present i).len_source;
      payload = (present i).payload;
    })
    (λ e. (ap (λ (p : LaxEtherPayload). p.incomplete) e, ap present_ether e))

pub lax_macsec_same : (a b : LaxMacsecPayloadSlice)
    → Decides (payloads.ghosts.eq a b) (lax_payload_parsed a ≡ lax_payload_parsed b)
lax_macsec_same (slice.Unmodified p) (slice.Unmodified q) =
    one_part (lax_ether_same p q) (ap LaxUnmodified) (λ e. cc)
lax_macsec_same (slice.Modified x bytes) (slice.Modified y others) =
    two_parts (booleans_Decides x y) (bytes_decides bytes.now others.now)
    (λ flags same i. LaxModified (flags i) (same i)) (λ e. (cc, cc))
lax_macsec_same a b = (λ is. cc, λ is. cc)
