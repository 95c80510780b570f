-- The fault at which the reading of tags ends is that of the first tag that isn't whole or breaks
-- its format.
use Rattle.std.proofs.lemmas.Bool.Decides.{nat_tests}
use Rattle.std.proofs.Common.{◌≡◌, ℕ, zero, suc, ◌<◌, Bool, true, false, cond, List, [], ◌∷◌, length, Option, Some}
use Rattle.std.proofs.Common.{None, Result, Ok, Err, arith, refl, sym, ◌∙◌}
use Rattle.ep_base.proofs.Prefixes.{err_same}
use Rattle.ep_base.specs.declared.err.layer.Layer.TheVariants.{VlanHeader}
use Rattle.ep_base.specs.declared.err.slice_error.SliceError.{SliceError as HeaderSliceError}
use Rattle.ep_packet.specs.FrameFault.{IsTagFault, OfMacsec}
use Rattle.ep_packet.specs.IsTagged.{AreTags}
use Rattle.ep_packet.specs.Parts.{tags_len}
use Rattle.ep_packet.specs.SliceFault.{offset_by}
use Rattle.ep_packet.specs.Tags.{Tagged, is_macsec_type, tag_at, tags_in}
use Rattle.ep_packet.specs.declared.err.packet.slice_error.SliceError.{SliceError}
use Rattle.ep_packet.proofs.TaggedLaws.{MacsecIsRead, tag_read}
use Rattle.ep_packet.proofs.TagsLemmas.{from_tag, macsec_tag, read_further, tags_turn, vlan_tag, with_tag}
use Rattle.ep_tag.specs.Ether.{EtherPayload}
use Rattle.ep_tag.specs.Prefix.{whole_at}
use Rattle.ep_tag.specs.LinkExt.{payload_after, tag_len}
use Rattle.ep_tag.specs.MacsecPayload.{Macsec, macsec_at}
use Rattle.ep_tag.specs.Vlan.{is_vlan_type, vlan_len}
use Rattle.ep_tag.specs.declared.err.macsec.header_error.HeaderError.{HeaderError}
use Rattle.ep_tag.specs.declared.link.link_ext_slice.LinkExtSlice.{LinkExtSlice}

abbrev MaybeTag : Type 0
MaybeTag = Option LinkExtSlice

macsec_faulty : (p : EtherPayload) (r : Result Macsec (HeaderSliceError HeaderError))
    (e : SliceError) → is_vlan_type p.ether_type ≡ false → is_macsec_type p.ether_type ≡ true
    → macsec_at p.payload ≡ r → macsec_tag r ≡ Err e → IsTagFault p e
macsec_faulty p (Ok macsec) e no_vlan named at is = cc
macsec_faulty p (Err fault) e no_vlan named at is =
    OfMacsec fault no_vlan named at (sym (err_same {A = MaybeTag} _ _ is))

faulty_by : (vlan sec : Bool) (p : EtherPayload) (e : SliceError)
    → is_vlan_type p.ether_type ≡ vlan → is_macsec_type p.ether_type ≡ sec
    → cond vlan (vlan_tag (whole_at VlanHeader vlan_len p.payload))
    (cond sec (macsec_tag (macsec_at p.payload)) (Ok None)) ≡ Err e → IsTagFault p e
faulty_by true sec p e v s is = grind arith
faulty_by false true p e v s is = macsec_faulty p (macsec_at p.payload) e v s refl is
faulty_by false false p e v s is = cc

tag_faulty : (p : EtherPayload) (e : SliceError) → tag_at p ≡ Err e → IsTagFault p e
tag_faulty p e is =
    faulty_by (is_vlan_type p.ether_type) (is_macsec_type p.ether_type) p e refl refl is

-- fewer than n whole tags, and one after them with a fault
pub record AreTagsToFault (n : ℕ) (p : EtherPayload) (e : SliceError) : Type 0 where
  pub tags : List LinkExtSlice
  pub next : EtherPayload
  pub fault : SliceError
  pub few : length tags < n
  pub are : AreTags p tags (Some next)
  pub tag : IsTagFault next fault
  pub error : e ≡ offset_by (tags_len tags) fault

abbrev IsFirst : ℕ → Type 0
IsFirst n = (p : EtherPayload) (e : SliceError) → tags_in n p ≡ Err e → AreTagsToFault n p e

-- after a tag, an Err is that of what was read there
err_after : (t : LinkExtSlice) (r : Result Tagged SliceError) (e : SliceError)
    → with_tag t r ≡ Err e
    → (more : SliceError) × (r ≡ Err more) × (e ≡ offset_by (tag_len t) more)
err_after t r e is = grind arith

one_more : (n : ℕ) (p : EtherPayload) (t : LinkExtSlice) (o : Option EtherPayload)
    (e more : SliceError) → MacsecIsRead → IsFirst n → tag_at p ≡ Ok (Some t)
    → payload_after t ≡ o → read_further (tags_in n) o ≡ Err more
    → e ≡ offset_by (tag_len t) more → AreTagsToFault (suc n) p e
one_more n p t None e more law first read named is error = cc
one_more n p t (Some q) e more law first read named is error =
    let rest = first q more is in
    record {
      tags = t ∷ rest.tags;
      next = rest.next;
      fault = rest.fault;
      few = let few = rest.few in omega (arith, few);
      are = (
        tag_read law p (Some t) read,
        grind arith,
      );
      tag = rest.tag;
      error = grind arith;
    }

from_tag_first : MacsecIsRead → (n : ℕ) (p : EtherPayload)
    (r : Result (Option LinkExtSlice) SliceError) (e : SliceError) → IsFirst n → tag_at p ≡ r
    → from_tag (tags_in n) p r ≡ Err e → AreTagsToFault (suc n) p e
from_tag_first law n p (Err x) e first read is = record {
  tags = [];
  next = p;
  fault = x;
  few = omega arith;
  are = refl;
  tag = tag_faulty p x read;
  error = grind arith;
}
from_tag_first law n p (Ok None) e first read is = cc
from_tag_first law n p (Ok (Some t)) e first read is = grind (arith, nat_tests, err_after, one_more)

pub tags_first : MacsecIsRead → (n : ℕ) → IsFirst n
unfolding tags_in
tags_first law zero p e is = cc
tags_first law (suc n) p e is = from_tag_first law n p (tag_at p) e (tags_first law n) refl (sym (tags_turn n p) ∙ is)
