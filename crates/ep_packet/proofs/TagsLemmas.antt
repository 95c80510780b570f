-- Tags of a payload that has to be whole, one after the other.
use Rattle.std.proofs.Common.{◌≡◌, ◌∙◌, ℕ, suc, ◌+◌, List, [], ◌∷◌, Option, Some, None, Result, Ok, Err, arith, refl}
use Rattle.std.proofs.Common.{IfErr, IfSome, ap, sym}
use Rattle.std.specs.Prelude.{option_map, unwrap_or}
use Rattle.std.specs.Result.{result_map_both}
use Rattle.ep_base.specs.declared.err.len_error.LenError.{LenError}
use Rattle.ep_base.specs.declared.err.slice_error.SliceError.{SliceError as HeaderSliceError}
use Rattle.ep_packet.specs.SliceFault.{fault_offset, of_macsec, offset_by}
use Rattle.ep_packet.specs.Tags.{FoundTags, Tagged, find_tags, tag_at, tags_from, tags_in, no_tags}
use Rattle.ep_packet.specs.declared.err.packet.slice_error.SliceError.{SliceError}
use Rattle.ep_packet.specs.declared.err.packet.slice_error.SliceError.TheVariants.{Len}
use Rattle.ep_packet.proofs.FaultLemmas.{moved_nothing, moved_twice}
use Rattle.ep_packet.proofs.FoundTagsLemmas.{stop_is}
use Rattle.ep_tag.specs.Ether.{EtherPayload}
use Rattle.ep_tag.specs.LinkExt.{payload_after, tag_len}
use Rattle.ep_tag.specs.MacsecPayload.{Macsec}
use Rattle.ep_tag.specs.declared.err.macsec.header_error.HeaderError.{HeaderError}
use Rattle.ep_tag.specs.declared.link.link_ext_slice.LinkExtSlice.{LinkExtSlice}
use Rattle.ep_tag.specs.declared.link.link_ext_slice.LinkExtSlice.TheVariants as tag

abbrev pub vlan_tag : Result (List ℕ) LenError → Result (Option LinkExtSlice) SliceError
vlan_tag r = result_map_both (λ bytes. Some (tag.Vlan bytes)) Len r

abbrev pub macsec_tag : Result Macsec (HeaderSliceError HeaderError)
    → Result (Option LinkExtSlice) SliceError
macsec_tag r = result_map_both (λ macsec. Some (tag.Macsec macsec)) of_macsec r

abbrev pub without_tags : Option EtherPayload → Tagged
without_tags last = record { tags = []; len = 0; last = last }

-- a tag and what was read after it
abbrev pub with_tag : LinkExtSlice → Result Tagged SliceError → Result Tagged SliceError
with_tag t (Ok more) =
    Ok (record { tags = t ∷ more.tags; len = tag_len t + more.len; last = more.last })
with_tag t (Err e) = Err (offset_by (tag_len t) e)

abbrev pub read_further : (EtherPayload → Result Tagged SliceError) → Option EtherPayload
    → Result Tagged SliceError
read_further read None = Ok (without_tags None)
read_further read (Some p) = read p

abbrev pub from_tag : (EtherPayload → Result Tagged SliceError) → EtherPayload
    → Result (Option LinkExtSlice) SliceError → Result Tagged SliceError
from_tag read p (Err e) = Err e
from_tag read p (Ok None) = Ok (without_tags (Some p))
from_tag read p (Ok (Some t)) = with_tag t (read_further read (payload_after t))

abbrev pub Found : Type 0
Found = FoundTags LinkExtSlice EtherPayload SliceError

abbrev pub found_in : ℕ → EtherPayload → Found
found_in n p = find_tags tag_at tag_len payload_after n p

-- tags in order, or the fault after them
abbrev pub unless_stopped : Found → Result Tagged SliceError
unless_stopped found = unwrap_or (option_map (λ e. Err (offset_by found.len e)) found.stop)
    (Ok (record { tags = found.tags; len = found.len; last = found.last }))

one_more : (t : LinkExtSlice) (tags : List LinkExtSlice) (len : ℕ) (last : Option EtherPayload)
    (stop : Option SliceError)
    → unless_stopped (record { tags = t ∷ tags; len = tag_len t + len; last = last; stop = stop })
    ≡ with_tag t (unless_stopped (record { tags = tags; len = len; last = last; stop = stop }))
one_more t tags len last None = refl
one_more t tags len last (Some e) =
    ap (λ (x : SliceError). Err x) (sym (moved_twice (tag_len t) len e))

further : (n : ℕ) (t : LinkExtSlice) (o : Option EtherPayload)
    → let more : Found = unwrap_or (option_map (found_in n) o) (no_tags None None) in
    unless_stopped (record { tags = t ∷ more.tags; len = tag_len t + more.len; last = more.last; stop = more.stop })
    ≡ with_tag t (read_further (tags_in n) o)
unfolding tags_in
further n t None = refl
further n t (Some q) =
    let more = found_in n q in one_more t more.tags more.len more.last more.stop

turn : (n : ℕ) (p : EtherPayload) (r : Result (Option LinkExtSlice) SliceError)
    → unless_stopped (tags_from tag_len payload_after (found_in n) p r) ≡ from_tag (tags_in n) p r
turn n p (Err e) = ap (λ (x : SliceError). Err x) (moved_nothing e)
turn n p (Ok None) = refl
turn n p (Ok (Some t)) = further n t (payload_after t)

-- one tag is read, and then the others
pub tags_turn : (n : ℕ) (p : EtherPayload) → tags_in (suc n) p ≡ from_tag (tags_in n) p (tag_at p)
unfolding tags_in
tags_turn n p = turn n p (tag_at p)

stop_none : (found : Found) → found.stop ≡ None
    → Ok (record { tags = found.tags; len = found.len; last = found.last }) ≡ unless_stopped found
stop_none found none = rw none refl

stop_some : (found : Found) (e : SliceError) → found.stop ≡ Some e
    → Err (offset_by found.len e) ≡ unless_stopped found
stop_some found e faulty = rw faulty refl

-- what is found is what is read
pub found_whole : (p : EtherPayload) (found : Found) → found ≡ found_in 3 p → found.stop ≡ None
    → Ok (record { tags = found.tags; len = found.len; last = found.last }) ≡ tags_in 3 p
unfolding tags_in
found_whole p found is none = stop_none found none ∙ ap unless_stopped is

pub found_faulty : (p : EtherPayload) (found : Found) (e : SliceError) → found ≡ found_in 3 p
    → found.stop ≡ Some e → Err (offset_by found.len e) ≡ tags_in 3 p
unfolding tags_in
found_faulty p found e is faulty = stop_some found e faulty ∙ ap unless_stopped is

tag_fault_at_start : (p : EtherPayload) → IfErr (tag_at p) (λ e. fault_offset e ≡ 0)
tag_fault_at_start p = grind arith

-- a fault is counted from its tag
pub stop_at_start : (n : ℕ) (p : EtherPayload) → IfSome (found_in n p).stop (λ e. fault_offset e ≡ 0)
stop_at_start n p = stop_is tag_at tag_len payload_after (λ e. fault_offset e ≡ 0) tag_fault_at_start n p
