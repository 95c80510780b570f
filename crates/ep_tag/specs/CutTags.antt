-- Tags of which, together with what follows them, the first bytes are there, and all bytes of the tag
-- among them (IEEE 802.1Q, section 9; IEEE 802.1AE, clause 9).
use Rattle.std.specs.Prelude.{ℕ, ◌-◌, nat_lt, Bool, if◌then◌else◌, List, length, take}
use Rattle.ep_base.specs.declared.len_source.LenSource.TheVariants.{Slice}
use Rattle.ep_base.specs.declared.link.ether_type.EtherType.{EtherType}
use Rattle.ep_tag.specs.Ether.{EtherPayload, LaxEtherPayload}
use Rattle.ep_tag.specs.MacsecLax.{LaxMacsec, LaxMacsecPayload, LaxModified, LaxUnmodified}
use Rattle.ep_tag.specs.MacsecPayload.{Macsec, MacsecPayload, Modified, Unmodified, payload_len_of}
use Rattle.ep_tag.specs.declared.link.lax_link_ext_slice.LaxLinkExtSlice.{LaxLinkExtSlice}
use Rattle.ep_tag.specs.declared.link.lax_link_ext_slice.LaxLinkExtSlice.TheVariants as lax_tag
use Rattle.ep_tag.specs.declared.link.link_ext_slice.LinkExtSlice.{LinkExtSlice}
use Rattle.ep_tag.specs.declared.link.link_ext_slice.LinkExtSlice.TheVariants as tag

-- of the first n bytes of a header and what follows it: some of those that the short length promises are
-- missing
abbrev pub is_macsec_short : ℕ → Macsec → Bool
is_macsec_short n m = nat_lt (n - length m.header) (payload_len_of m.header)

-- the first n bytes of a payload: where bytes are missing, what bounds it are those that are there
abbrev pub cut_macsec_payload : (n : ℕ) (incomplete : Bool) → MacsecPayload → LaxMacsecPayload
cut_macsec_payload n incomplete (Unmodified p) = LaxUnmodified (record {
  incomplete = incomplete;
  ether_type = p.ether_type;
  len_source = if incomplete then Slice else p.len_source;
  payload = take n p.payload;
})
cut_macsec_payload n incomplete (Modified bytes) = LaxModified incomplete (take n bytes)

-- the first n bytes of a header and its payload
abbrev pub cut_macsec : ℕ → Macsec → LaxMacsec
cut_macsec n m = record {
  header = m.header;
  payload = cut_macsec_payload (n - length m.header) (is_macsec_short n m) m.payload;
}

-- the first n bytes of a tag and what follows it
abbrev pub cut_tag : ℕ → LinkExtSlice → LaxLinkExtSlice
cut_tag n (tag.Vlan bytes) = lax_tag.Vlan (take n bytes)
cut_tag n (tag.Macsec m) = lax_tag.Macsec (cut_macsec n m)

-- an ether type and the bytes that it names
abbrev pub Named : Type 0
Named = EtherType × List ℕ

abbrev pub named_bytes : LaxEtherPayload → Named
named_bytes p = (p.ether_type, p.payload)

-- the same of the first n bytes
abbrev pub cut_named : ℕ → EtherPayload → Named
cut_named n p = (p.ether_type, take n p.payload)
