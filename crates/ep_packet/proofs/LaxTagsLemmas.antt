-- Tags read one after the other, as far as they are there.
use Rattle.std.proofs.Common.{◌≡◌, ℕ, suc, ◌+◌, List, [], ◌∷◌, ◌++◌, Option, Some, None, Result, Ok, Err, IfErr, IfSome}
use Rattle.std.proofs.Common.{ap, arith, refl, subst, sym, ◌≤◌}
use Rattle.std.specs.Option.{option_map}
use Rattle.std.specs.Prelude.{unwrap_or}
use Rattle.std.specs.Result.{result_map_both}
use Rattle.ep_base.specs.declared.err.layer.Layer.TheVariants.{MacsecHeader, VlanHeader}
use Rattle.ep_base.specs.declared.err.len_error.LenError.{LenError}
use Rattle.ep_base.specs.declared.err.slice_error.SliceError.{SliceError as HeaderSliceError}
use Rattle.ep_packet.specs.LaxTags.{LaxTagged, Stop, lax_tag_at, lax_tags_in, stop_by}
use Rattle.ep_packet.specs.SliceFault.{CanMove, fault_offset, of_macsec}
use Rattle.ep_packet.specs.Tags.{find_tags, tags_from, no_tags}
use Rattle.ep_packet.specs.declared.err.packet.slice_error.SliceError.{SliceError}
use Rattle.ep_packet.specs.declared.err.packet.slice_error.SliceError.TheVariants.{Len}
use Rattle.ep_packet.proofs.FaultLemmas.{moved_nothing, moved_twice}
use Rattle.ep_packet.proofs.FoundTagsLemmas.{stop_is}
use Rattle.ep_tag.specs.Ether.{LaxEtherPayload}
use Rattle.ep_tag.specs.LinkExt.{lax_payload_after, lax_tag_len}
use Rattle.ep_tag.specs.MacsecLax.{LaxMacsec}
use Rattle.ep_tag.specs.declared.err.macsec.header_error.HeaderError.{HeaderError}
use Rattle.ep_tag.specs.declared.link.lax_link_ext_slice.LaxLinkExtSlice.{LaxLinkExtSlice}
use Rattle.ep_tag.specs.declared.link.lax_link_ext_slice.LaxLinkExtSlice.TheVariants as tag

abbrev pub lax_vlan_tag : Result (List ℕ) LenError → Result (Option LaxLinkExtSlice) Stop
lax_vlan_tag r = result_map_both (λ bytes. Some (tag.Vlan bytes)) (λ e. (Len e, VlanHeader)) r

abbrev pub lax_macsec_tag : Result LaxMacsec (HeaderSliceError HeaderError)
    → Result (Option LaxLinkExtSlice) Stop
lax_macsec_tag r = result_map_both (λ macsec. Some (tag.Macsec macsec)) (λ e. (of_macsec e, MacsecHeader)) r

-- tags of so many bytes, and what was read after them
abbrev pub joined : List LaxLinkExtSlice → ℕ → LaxTagged → LaxTagged
joined tags len more = record {
  tags = tags ++ more.tags;
  len = len + more.len;
  last = more.last;
  stop = option_map (stop_by len) more.stop;
}

abbrev pub lax_read_further : (LaxEtherPayload → LaxTagged) → Option LaxEtherPayload → LaxTagged
lax_read_further read None = no_tags None None
lax_read_further read (Some p) = read p

abbrev pub lax_from_tag : (LaxEtherPayload → LaxTagged) → LaxEtherPayload
    → Result (Option LaxLinkExtSlice) Stop → LaxTagged
lax_from_tag read p (Err stop) = no_tags None (Some stop)
lax_from_tag read p (Ok None) = no_tags (Some p) None
lax_from_tag read p (Ok (Some t)) = joined (t ∷ []) (lax_tag_len t) (lax_read_further read (lax_payload_after t))

abbrev lax_found_in : ℕ → LaxEtherPayload → LaxTagged
lax_found_in n p = find_tags lax_tag_at lax_tag_len lax_payload_after n p

-- with the fault counted from the start of the tags
abbrev from_start : LaxTagged → LaxTagged
from_start found = record {
  tags = found.tags;
  len = found.len;
  last = found.last;
  stop = option_map (stop_by found.len) found.stop;
}

stop_twice : (m n : ℕ) (stop : Option Stop)
    → option_map (stop_by (m + n)) stop ≡ option_map (stop_by m) (option_map (stop_by n) stop)
stop_twice m n None = refl
stop_twice m n (Some stop) =
    ap (λ (e : SliceError). Some (e, stop.1)) (sym (moved_twice m n stop.0))

further : (n : ℕ) (t : LaxLinkExtSlice) (o : Option LaxEtherPayload)
    → let more : LaxTagged = unwrap_or (option_map (lax_found_in n) o) (no_tags None None) in
    from_start (record { tags = t ∷ more.tags; len = lax_tag_len t + more.len; last = more.last; stop = more.stop })
    ≡ joined (t ∷ []) (lax_tag_len t) (lax_read_further (lax_tags_in n) o)
unfolding lax_tags_in
further n t None = refl
further n t (Some q) =
    let more = lax_found_in n q in
    ap (λ (stop : Option Stop). record {
      tags = t ∷ more.tags;
      len = lax_tag_len t + more.len;
      last = more.last;
      stop = stop;
    }) (stop_twice (lax_tag_len t) more.len more.stop)

turn : (n : ℕ) (p : LaxEtherPayload) (r : Result (Option LaxLinkExtSlice) Stop)
    → from_start (tags_from lax_tag_len lax_payload_after (lax_found_in n) p r)
    ≡ lax_from_tag (lax_tags_in n) p r
turn n p (Err stop) =
    ap (λ (e : SliceError). no_tags None (Some (e, stop.1))) (moved_nothing stop.0)
turn n p (Ok None) = refl
turn n p (Ok (Some t)) = further n t (lax_payload_after t)

-- one tag is read, and then the others
pub lax_tags_turn : (n : ℕ) (p : LaxEtherPayload)
    → lax_tags_in (suc n) p ≡ lax_from_tag (lax_tags_in n) p (lax_tag_at p)
unfolding lax_tags_in
lax_tags_turn n p = turn n p (lax_tag_at p)

-- what is found is what is read
pub found_lax : (p : LaxEtherPayload) (found : LaxTagged) (stop : Option Stop)
    → found ≡ lax_found_in 3 p → stop ≡ option_map (stop_by found.len) found.stop
    → record { tags = found.tags; len = found.len; last = found.last; stop = stop } ≡ lax_tags_in 3 p
unfolding lax_tags_in
found_lax p found stop is moved = rw moved (ap from_start is)

pub tag_fault_at_start : (p : LaxEtherPayload) → IfErr (lax_tag_at p) (λ s. fault_offset s.0 ≡ 0)
tag_fault_at_start p = grind arith

-- a fault is counted from its tag
pub stop_at_start : (n : ℕ) (p : LaxEtherPayload)
    → IfSome (lax_found_in n p).stop (λ s. fault_offset s.0 ≡ 0)
stop_at_start n p =
    stop_is lax_tag_at lax_tag_len lax_payload_after (λ s. fault_offset s.0 ≡ 0) tag_fault_at_start n p

can_move : (stop : Option Stop) (n : ℕ) → IfSome stop (λ s. fault_offset s.0 ≡ 0) → n ≤ 48
    → IfSome stop (λ s. CanMove s.0 n)
can_move None n start most = tt
can_move (Some stop) n start most = omega (arith, start, most)

pub stops_can_move : (p : LaxEtherPayload) (found : LaxTagged) → found ≡ lax_found_in 3 p → found.len ≤ 48
    → IfSome found.stop (λ s. CanMove s.0 found.len)
stops_can_move p found is most = can_move found.stop found.len
    (subst (λ (f : LaxTagged). IfSome f.stop (λ s. fault_offset s.0 ≡ 0)) (sym is) (stop_at_start 3 p)) most
