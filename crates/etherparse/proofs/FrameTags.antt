-- The class of an Ethernet II frame whose header and tags were built, by what follows them.
use Rattle.std.proofs.Common.{◌≡◌, ◌∙◌, sym, ap, refl, ℕ, zero, suc, ◌+◌, ◌*◌, ◌/◌, ◌%◌, ◌^◌, ◌≤◌, Bool, false, List, [], ◌∷◌, ◌++◌}
use Rattle.std.proofs.Common.{length, drop, get_or, Option, Some, None, Ok, arith, append_assoc, length-append}
use Rattle.std.proofs.Common.{if◌then◌else◌}
use Rattle.std.specs.Prelude.{nat_lt}
use Rattle.std.specs.Int.{w16, to_be_bytes}
use Rattle.std.proofs.lemmas.List.{drop_at, get_or_at, get_or-append_right, drop-drop}
use Rattle.std.proofs.lemmas.Bool.{le-ltb}
use Rattle.ep_base.specs.Bytes.{num}
use Rattle.ep_base.specs.declared.len_source.LenSource.TheVariants.{Slice}
use Rattle.ep_link.specs.Ethernet.{Fits}
use Rattle.ep_link.specs.declared.link.ethernet2_header.Ethernet2Header.{Ethernet2Header}
use Rattle.ep_link.specs.declared.link.link_header.LinkHeader.TheVariants.{Ethernet2}
use Rattle.ep_packet.proofs.ClassLemmas.{tagged_class}
use Rattle.ep_packet.specs.Class.{class_of, payload_class}
use Rattle.ep_packet.specs.Tags.{is_macsec_type, tag_at, tags_in}
use Rattle.ep_packet.proofs.TagsLemmas.{from_tag, tags_turn, with_tag, without_tags}
use Rattle.ep_tag.specs.Vlan.{is_vlan_type}
use Rattle.ep_tag.specs.Ether.{EtherPayload}
use Rattle.ep_tag.specs.Vlan as vlan
use Rattle.ep_tag.specs.declared.link.link_ext_slice.LinkExtSlice.TheVariants as tag
use Rattle.ep_tag.specs.declared.link.single_vlan_header.SingleVlanHeader.{SingleVlanHeader}
use Rattle.ep_tag.specs.declared.link.vlan_header.VlanHeader.{VlanHeader}
use Rattle.ep_tag.specs.declared.link.vlan_header.VlanHeader.TheVariants as header
use Rattle.etherparse.specs.Built.{first_type, link_bytes, vlan_bytes}
use Rattle.etherparse.specs.BuiltFrames.{TagsFit, ids_in}

-- two bytes that encode a number
pub two_bytes : (n : ℕ) → n ≤ 65535 → 256 * (n / 256 % 256) + n % 256 ≡ n
two_bytes n small = omega arith

-- what follows an ether type
abbrev pub named : ℕ → List ℕ → EtherPayload
named ether_type payload =
    record { ether_type = record { 0 = ether_type }; len_source = Slice; payload = payload }

-- an ether type that names no tag
pub record NamesNoTag (ether_type : ℕ) : Type 0 where
  pub vlan : is_vlan_type (record { 0 = ether_type }) ≡ false
  pub macsec : is_macsec_type (record { 0 = ether_type }) ≡ false
  pub short : ether_type ≤ 65535

untagged_after : (n ether_type : ℕ) (payload : List ℕ) → NamesNoTag ether_type
    → from_tag (tags_in n) (named ether_type payload) (tag_at (named ether_type payload))
    ≡ Ok (without_tags (Some (named ether_type payload)))
untagged_after n ether_type payload plain = grind arith

untagged_in : (n ether_type : ℕ) (payload : List ℕ) → NamesNoTag ether_type
    → tags_in n (named ether_type payload) ≡ Ok (without_tags (Some (named ether_type payload)))
unfolding tags_in
untagged_in zero ether_type payload plain = refl
untagged_in (suc n) ether_type payload plain =
    tags_turn n (named ether_type payload) ∙ untagged_after n ether_type payload plain

-- the tag of an identifier
identifier : (pcp id : ℕ) (eligible : Bool) → pcp ≤ 7 → id ≤ 4095
    → let n = pcp * 2 ^ 13 + (if eligible then 2 ^ 12 else 0) + id in
    (256 * (n / 256 % 256) + n % 256) % 2 ^ 12 ≡ id
identifier pcp id eligible small short = grind arith

module _ (t : SingleVlanHeader) (fits : vlan.Fits t) (ether_type : ℕ) (rest : List ℕ) where
  abbrev naming : List ℕ
  naming = vlan.encoding (record t { ether_type = record { 0 = ether_type } }) ++ rest

  tag_id : vlan.vlan_id_of naming ≡ t.vlan_id
  tag_id = identifier t.pcp t.vlan_id t.drop_eligible_indicator fits.pcp fits.vlan_id

  single_after : (n : ℕ) → ether_type ≤ 65535
      → from_tag (tags_in n) (named 0x8100 naming) (tag_at (named 0x8100 naming))
      ≡ with_tag (tag.Vlan naming) (tags_in n (named ether_type rest))
  single_after n short = grind arith

  single_in : (n : ℕ) → ether_type ≤ 65535
      → tags_in (suc n) (named 0x8100 naming)
      ≡ with_tag (tag.Vlan naming) (tags_in n (named ether_type rest))
  single_in n short = tags_turn n (named 0x8100 naming) ∙ single_after n short

  service_after : (n : ℕ) → ether_type ≤ 65535
      → from_tag (tags_in n) (named 0x88a8 naming) (tag_at (named 0x88a8 naming))
      ≡ with_tag (tag.Vlan naming) (tags_in n (named ether_type rest))
  service_after n short = grind arith

  service_in : (n : ℕ) → ether_type ≤ 65535
      → tags_in (suc n) (named 0x88a8 naming)
      ≡ with_tag (tag.Vlan naming) (tags_in n (named ether_type rest))
  service_in n short = tags_turn n (named 0x88a8 naming) ∙ service_after n short

-- the class of what follows an Ethernet header
pub class_after : (v : Option VlanHeader) (ether_type : ℕ) (packet : List ℕ) → TagsFit v
    → NamesNoTag ether_type
    → tagged_class (tags_in 3 (named (first_type v ether_type) (vlan_bytes v ether_type ++ packet)))
    ≡ payload_class (ids_in v) (named ether_type packet)
class_after None ether_type packet fits plain = grind (arith, untagged_in)
class_after (Some (header.Single t)) ether_type packet fits plain =
    ap tagged_class (single_in t fits ether_type packet 2 plain.short
    ∙ ap (with_tag (tag.Vlan (naming t fits ether_type packet)))
    (untagged_in 2 ether_type packet plain))
    ∙ ap (λ id. payload_class (id ∷ []) (named ether_type packet)) (tag_id t fits ether_type packet)
class_after (Some (header.Double t)) ether_type packet fits plain =
    let inner = naming t.inner fits.1 ether_type packet in
    let outer = naming t.outer fits.0 0x8100 inner in
    ap (λ (xs : List ℕ). tagged_class (tags_in 3 (named 0x88a8 xs)))
    (append_assoc (vlan.encoding (record t.outer { ether_type = record { 0 = 0x8100 } }))
    (vlan.encoding (record t.inner { ether_type = record { 0 = ether_type } })) packet)
    ∙ ap tagged_class (service_in t.outer fits.0 0x8100 inner 2 (omega arith)
    ∙ ap (with_tag (tag.Vlan outer)) (single_in t.inner fits.1 ether_type packet 1 plain.short
    ∙ ap (with_tag (tag.Vlan inner)) (untagged_in 1 ether_type packet plain)))
    ∙ ap (λ id. payload_class (id ∷ vlan.vlan_id_of inner ∷ []) (named ether_type packet))
    (tag_id t.outer fits.0 0x8100 inner)
    ∙ ap (λ id. payload_class (t.outer.vlan_id ∷ id ∷ []) (named ether_type packet))
    (tag_id t.inner fits.1 ether_type packet)

-- a header of 14 bytes
class_where : (bytes rest : List ℕ) (ether_type : ℕ) → nat_lt (length bytes) 14 ≡ false
    → num bytes 12 2 ≡ ether_type → drop 14 bytes ≡ rest
    → class_of bytes ≡ tagged_class (tags_in 3 (named ether_type rest))
class_where bytes rest ether_type long is cut = grind arith

class_headed : (prefix rest : List ℕ) (ether_type : ℕ) → length prefix ≡ 12 → ether_type ≤ 65535
    → class_of (prefix ++ (to_be_bytes w16 ether_type ++ rest))
    ≡ tagged_class (tags_in 3 (named ether_type rest))
class_headed prefix rest ether_type twelve short =
    let high = ether_type / 256 % 256 in
    let low = ether_type % 256 in
    let bytes = prefix ++ high ∷ low ∷ rest in
    let first : get_or bytes 12 0 ≡ high = get_or_at prefix high (low ∷ rest) 0 12 twelve in
    let second : get_or bytes 13 0 ≡ low =
    get_or-append_right prefix (high ∷ low ∷ rest) 12 13 0 twelve (omega arith) in
    class_where bytes rest ether_type
    (le-ltb (length bytes) 14 (omega (arith, length-append prefix (high ∷ low ∷ rest))))
    (rw (first, second) (two_bytes ether_type short))
    (sym (drop-drop 2 12 bytes) ∙ ap (drop 2) (drop_at prefix (high ∷ low ∷ rest) 12 twelve))

pub short_first : (v : Option VlanHeader) (ether_type : ℕ) → ether_type ≤ 65535
    → first_type v ether_type ≤ 65535
short_first v ether_type short = grind arith

-- the class of a frame, by what follows header and tags
pub class_framed : (link : Ethernet2Header) (v : Option VlanHeader) (ether_type : ℕ)
    (packet : List ℕ) → Fits link → TagsFit v → NamesNoTag ether_type
    → class_of (link_bytes (Some (Ethernet2 link)) v ether_type
    ++ (vlan_bytes v ether_type ++ packet)) ≡ payload_class (ids_in v) (named ether_type packet)
class_framed link v ether_type packet fits tags plain =
    grind (arith, append_assoc, class_headed, length-append, short_first, class_after)
