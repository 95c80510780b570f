-- MACsec headers that a test of equality finds equal.
use Rattle.std.proofs.Common.{ap, rules}
use Rattle.std.proofs.lemmas.Bool.Decides.{Decides-eqb}
use Rattle.std.specs.Cmp.{booleans_Decides}
use Rattle.ep_base.specs.Traits.{EqualIsSame}
use Rattle.ep_base.proofs.Same.{field, last_field, one_part, options_same, record_same}
use Rattle.ep_tag.specs.contracts.link.link_ext_header.LinkExtHeaderPartialEq.TheImpl as tags
use Rattle.ep_tag.specs.contracts.link.macsec_header.MacsecHeaderPartialEq.TheImpl as headers
use Rattle.ep_tag.specs.contracts.link.macsec_p_type.MacsecPTypePartialEq.TheImpl as kinds
use Rattle.ep_tag.specs.declared.link.link_ext_header.LinkExtHeader.TheVariants as tag

kinds_same : EqualIsSame kinds.ghosts.eq
kinds_same a b = search rules

pub same_headers : EqualIsSame headers.ghosts.eq
same_headers a b = record_same
    (field kinds_same (λ h. h.ptype)
    (field booleans_Decides (λ h. h.endstation_id)
    (field booleans_Decides (λ h. h.scb)
    (field Decides-eqb (λ h. h.an)
    (field Decides-eqb (λ h. h.short_len)
    (field Decides-eqb (λ h. h.packet_nr)
    (last_field (options_same Decides-eqb) (λ h. h.sci))))))))
    (λ ptype endstation_id scb an short_len packet_nr sci i. record {
      ptype = ptype i;
      endstation_id = endstation_id i;
      scb = scb i;
      an = an i;
      short_len = short_len i;
      packet_nr = packet_nr i;
      sci = sci i;
    })

pub same_tags : EqualIsSame tags.ghosts.eq
same_tags (tag.Vlan a) (tag.Vlan b) = search rules
same_tags (tag.Macsec a) (tag.Macsec b) =
    one_part (same_headers a b) (ap tag.Macsec) (λ e. cc)
same_tags a b = (λ is. cc, λ is. cc)
