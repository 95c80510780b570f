-- What of a tag as far as it is there stays the same where more bytes are there (IEEE 802.1Q, section 9;
-- IEEE 802.1AE, clause 9).
use Rattle.std.specs.Prelude.{◌≡◌}
use Rattle.ep_base.specs.Bytes.{IsContinued}
use Rattle.ep_tag.specs.MacsecLax.{LaxMacsec, LaxMacsecPayload, LaxModified, LaxUnmodified}
use Rattle.ep_tag.specs.declared.link.lax_link_ext_slice.LaxLinkExtSlice.{LaxLinkExtSlice}
use Rattle.ep_tag.specs.declared.link.lax_link_ext_slice.LaxLinkExtSlice.TheVariants.{Vlan, Macsec}

-- a payload under the same ether type, or one that was modified, of which more may be there
abbrev pub IsPayloadContinued : LaxMacsecPayload → LaxMacsecPayload → Type 0
IsPayloadContinued (LaxUnmodified p) (LaxUnmodified q) = (q.ether_type ≡ p.ether_type) × IsContinued p.payload q.payload
IsPayloadContinued (LaxUnmodified p) (LaxModified later all) = ⊥
IsPayloadContinued (LaxModified incomplete bytes) (LaxUnmodified q) = ⊥
IsPayloadContinued (LaxModified incomplete bytes) (LaxModified later all) = IsContinued bytes all

-- the same header, and a payload of which more may be there
pub record KeepsMacsec (before after : LaxMacsec) : Type 0 where
  pub header : after.header ≡ before.header
  pub payload : IsPayloadContinued before.payload after.payload

-- the same tag, and more of what follows it at most
abbrev pub KeepsTag : LaxLinkExtSlice → LaxLinkExtSlice → Type 0
KeepsTag (Vlan bytes) (Vlan all) = IsContinued bytes all
KeepsTag (Vlan bytes) (Macsec m) = ⊥
KeepsTag (Macsec m) (Vlan all) = ⊥
KeepsTag (Macsec m) (Macsec n) = KeepsMacsec m n
