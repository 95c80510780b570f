-- What is read of bytes, as far as it is there, lies within them.
use Rattle.std.proofs.Common.{◌≡◌, sym, ap, subst, refl, ℕ, zero, suc, ◌+◌, ◌≤◌, Bool, true, false, List, []}
use Rattle.std.proofs.Common.{◌∷◌, length, take, drop, Option, Some, None, Result, Ok, Err, IfOk, IfErr, IfSome, arith}
use Rattle.std.specs.Option.{option_map}
use Rattle.std.proofs.lemmas.Bool.{ltb-false}
use Rattle.std.proofs.lemmas.List.{length-drop, length-take-le}
use Rattle.ep_base.specs.declared.err.layer.Layer.{Layer}
use Rattle.ep_base.specs.declared.err.slice_error.SliceError.{SliceError as HeaderSliceError}
use Rattle.ep_packet.specs.LaxFits.{StopFits, TagsFit}
use Rattle.ep_packet.specs.LaxTags.{LaxTagged, Stop, lax_tag_at, lax_tags_in, stop_by}
use Rattle.ep_packet.specs.Tags.{is_macsec_type}
use Rattle.std.specs.Prelude.{if◌then◌else◌}
use Rattle.ep_base.specs.declared.err.layer.Layer.TheVariants.{VlanHeader}
use Rattle.ep_base.specs.declared.err.len_error.LenError.{LenError}
use Rattle.ep_packet.specs.SliceFault.{fault_offset, offset_by}
use Rattle.ep_packet.specs.declared.err.packet.slice_error.SliceError.{SliceError}
use Rattle.ep_packet.proofs.LaxTagsLemmas.{joined, lax_from_tag, lax_macsec_tag, lax_read_further, lax_tags_turn}
use Rattle.ep_packet.proofs.LaxTagsLemmas.{lax_vlan_tag, tag_fault_at_start}
use Rattle.ep_tag.specs.Ether.{LaxEtherPayload}
use Rattle.ep_tag.specs.LinkExt.{lax_payload_after, lax_tag_len}
use Rattle.ep_tag.specs.Macsec.{header_len_of}
use Rattle.ep_tag.specs.MacsecFault.{header_at}
use Rattle.ep_tag.specs.MacsecLax.{LaxMacsec, lax_macsec_after, lax_macsec_at, lax_macsec_with, lax_named_payload}
use Rattle.ep_tag.specs.declared.err.macsec.header_error.HeaderError.{HeaderError}
use Rattle.ep_tag.specs.MacsecPayload.{bytes_under}
use Rattle.ep_tag.specs.Prefix.{whole_at}
use Rattle.ep_tag.specs.Vlan.{is_vlan_type, vlan_len}
use Rattle.ep_tag.specs.declared.link.lax_link_ext_slice.LaxLinkExtSlice.{LaxLinkExtSlice}
use Rattle.ep_tag.specs.declared.link.lax_link_ext_slice.LaxLinkExtSlice.TheVariants as tag
use Rattle.ep_base.proofs.Cells.{take_fits}

-- a tag in so many bytes
abbrev TagFits : ℕ → Option LaxLinkExtSlice → Type 0
TagFits size found = IfSome found (λ t. (lax_tag_len t ≤ size)
    × IfSome (lax_payload_after t) (λ next. lax_tag_len t + length next.payload ≤ size))

-- a VLAN tag
vlan_fits : (layer : Layer) (bytes vlan : List ℕ) → Ok vlan ≡ whole_at layer vlan_len bytes
    → TagFits (length bytes) (Some (tag.Vlan vlan))
vlan_fits layer bytes vlan same = grind (arith, length-drop)

-- a MACsec header is the first bytes
header_is : (bytes header : List ℕ) → Ok header ≡ header_at bytes
    → (header ≡ take (header_len_of bytes) bytes) × (header_len_of bytes ≤ length bytes)
header_is bytes header same = grind (arith, ltb-false)

header_fits : (bytes header : List ℕ) → Ok header ≡ header_at bytes
    → length header + length (drop (length header) bytes) ≤ length bytes
header_fits bytes header same =
    let is = header_is bytes header same in
    omega (
      arith,
      ap length is.0,
      length-take-le (header_len_of bytes) bytes is.1,
      is.1,
      length-drop (length header) bytes,
    )

under_fits : (header rest : List ℕ) → length (bytes_under header rest) ≤ length rest
under_fits header rest = grind (arith, take_fits)

payload_fits : (header rest : List ℕ)
    → IfSome (lax_named_payload (lax_macsec_with header rest).payload)
    (λ next. length next.payload ≤ length rest)
payload_fits header rest = grind (arith, under_fits)

after_header : (header rest size : ℕ) (next : Option LaxEtherPayload)
    → IfSome next (λ q. length q.payload ≤ rest) → header + rest ≤ size
    → IfSome next (λ q. header + length q.payload ≤ size)
after_header header rest size None inside fits = tt
after_header header rest size (Some q) inside fits = omega (arith, inside, fits)

macsec_case : (bytes : List ℕ) (r : Result (List ℕ) (HeaderSliceError HeaderError)) (macsec : LaxMacsec)
    → header_at bytes ≡ r → Ok macsec ≡ lax_macsec_after bytes r
    → TagFits (length bytes) (Some (tag.Macsec macsec))
macsec_case bytes (Ok header) macsec at same =
    let rest : List ℕ = drop (length header) bytes in
    let fits = header_fits bytes header (sym at) in
    let inside = payload_fits header rest in
    let here : TagFits (length bytes) (Some (tag.Macsec (lax_macsec_with header rest))) = (
      omega (arith, fits),
      after_header (length header) (length rest) (length bytes) (lax_named_payload (lax_macsec_with header rest).payload) inside fits,
    ) in
    let is : macsec ≡ lax_macsec_with header rest = cc in
    subst (λ (m : LaxMacsec). TagFits (length bytes) (Some (tag.Macsec m))) (sym is) here
macsec_case bytes (Err e) macsec at same = cc

macsec_fits : (bytes : List ℕ) (macsec : LaxMacsec) → Ok macsec ≡ lax_macsec_at bytes
    → TagFits (length bytes) (Some (tag.Macsec macsec))
macsec_fits bytes macsec same = macsec_case bytes (header_at bytes) macsec refl same

offset_later : (e : SliceError) (n m : ℕ) → fault_offset e + n ≤ m → n ≤ m
    → fault_offset (offset_by n e) ≤ m
offset_later e n m fits least = grind arith

vlan_found : (bytes : List ℕ) (r : Result (List ℕ) LenError) → whole_at VlanHeader vlan_len bytes ≡ r
    → IfOk (lax_vlan_tag r) (TagFits (length bytes))
vlan_found bytes (Ok vlan) at = vlan_fits VlanHeader bytes vlan (sym at)
vlan_found bytes (Err e) at = tt

macsec_found : (bytes : List ℕ) (r : Result LaxMacsec (HeaderSliceError HeaderError))
    → lax_macsec_at bytes ≡ r → IfOk (lax_macsec_tag r) (TagFits (length bytes))
macsec_found bytes (Ok macsec) at = macsec_fits bytes macsec (sym at)
macsec_found bytes (Err e) at = tt

tag_case : (vlan macsec : Bool) (p : LaxEtherPayload)
    → IfOk (if vlan then lax_vlan_tag (whole_at VlanHeader vlan_len p.payload)
    else (if macsec then lax_macsec_tag (lax_macsec_at p.payload) else Ok None))
    (TagFits (length p.payload))
tag_case true macsec p = vlan_found p.payload (whole_at VlanHeader vlan_len p.payload) refl
tag_case false true p = macsec_found p.payload (lax_macsec_at p.payload) refl
tag_case false false p = tt

of_tag : (p : LaxEtherPayload) → IfOk (lax_tag_at p) (TagFits (length p.payload))
of_tag p = tag_case (is_vlan_type p.ether_type) (is_macsec_type p.ether_type) p

last_later : (len n m size : ℕ) (last : Option LaxEtherPayload)
    → IfSome last (λ p. n + length p.payload ≤ m) → len + m ≤ size
    → IfSome last (λ p. len + n + length p.payload ≤ size)
last_later len n m size None fits most = tt
last_later len n m size (Some p) fits most = omega (arith, fits, most)

stop_later : (len m size : ℕ) (stop : Option Stop) → StopFits m stop → len + m ≤ size
    → StopFits size (option_map (stop_by len) stop)
stop_later len m size None fits most = tt
stop_later len m size (Some stop) fits most =
    offset_later stop.0 len size (omega (arith, fits, most)) (omega (arith, most))

further_fits : (read : LaxEtherPayload → LaxTagged) (size : ℕ) (t : LaxLinkExtSlice)
    (next : Option LaxEtherPayload) → ((q : LaxEtherPayload) → TagsFit (length q.payload) (read q))
    → lax_tag_len t ≤ size → IfSome next (λ q. lax_tag_len t + length q.payload ≤ size)
    → TagsFit size (joined (t ∷ []) (lax_tag_len t) (lax_read_further read next))
further_fits read size t None each least most = record {
  tags = omega (arith, least);
  last = tt;
  stop = tt;
}
further_fits read size t (Some q) each least most = record {
  tags = omega (arith, (each q).tags, most);
  last = last_later (lax_tag_len t) (read q).len (length q.payload) size (read q).last (each q).last most;
  stop = stop_later (lax_tag_len t) (length q.payload) size (read q).stop (each q).stop most;
}

from_fits : (read : LaxEtherPayload → LaxTagged) (p : LaxEtherPayload)
    (found : Result (Option LaxLinkExtSlice) Stop)
    → ((q : LaxEtherPayload) → TagsFit (length q.payload) (read q))
    → IfOk found (TagFits (length p.payload)) → IfErr found (λ s. fault_offset s.0 ≡ 0)
    → TagsFit (length p.payload) (lax_from_tag read p found)
from_fits read p (Err stop) each fits start = record {
  tags = omega arith;
  last = tt;
  stop = omega (arith, start);
}
from_fits read p (Ok None) each fits start = record {
  tags = omega arith;
  last = omega arith;
  stop = tt;
}
from_fits read p (Ok (Some t)) each fits start =
    further_fits read (length p.payload) t (lax_payload_after t) each fits.0 fits.1

pub tags_fit : (n : ℕ) (p : LaxEtherPayload) → TagsFit (length p.payload) (lax_tags_in n p)
unfolding lax_tags_in
tags_fit zero p = record { tags = omega arith; last = omega arith; stop = tt }
tags_fit (suc n) p = subst (TagsFit (length p.payload)) (sym (lax_tags_turn n p))
    (from_fits (lax_tags_in n) p (lax_tag_at p) (tags_fit n) (of_tag p) (tag_fault_at_start p))
