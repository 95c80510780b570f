-- Whether bytes are missing after tags, tag by tag.
use Rattle.std.proofs.Common.{◌≡◌, ◌∙◌, ℕ, ◌+◌, ◌<◌, Bool, true, false, List, [], ◌∷◌, ◌++◌, length, take, get_or}
use Rattle.std.proofs.Common.{refl, ap, arith, take-suc, Option, Some, None, IfSome}
use Rattle.std.specs.Option.{option_map}
use Rattle.etherparse.specs.base.declared.len_source.LenSource.{LenSource}
use Rattle.etherparse.specs.packet.LaxView.{bound_after, bound_by, bounded}
use Rattle.etherparse.specs.tag.Ether.{LaxEtherPayload}
use Rattle.etherparse.specs.tag.MacsecLax.{LaxModified}
use Rattle.etherparse.specs.tag.declared.link.lax_link_ext_slice.LaxLinkExtSlice.{LaxLinkExtSlice}
use Rattle.etherparse.specs.tag.declared.link.lax_link_ext_slice.LaxLinkExtSlice.TheVariants as tag
use Rattle.etherparse_structs.specs.LaxPacket.{incomplete_of}

after_last : (bound : Bool × LenSource) (tags : List LaxLinkExtSlice) (t : LaxLinkExtSlice)
    → bound_after bound (tags ++ t ∷ []) ≡ bound_by (bound_after bound tags) t
after_last bound [] t = refl
after_last bound (u ∷ tags) t = after_last (bound_by bound u) tags t

pub after_one_more : (bound : Bool × LenSource) (tags : List LaxLinkExtSlice) (i : ℕ) (t : LaxLinkExtSlice)
    → i < length tags → t ≡ get_or tags i t
    → bound_after bound (take (i + 1) tags) ≡ bound_by (bound_after bound (take i tags)) t
after_one_more bound tags i t below is =
    let next : take (i + 1) tags ≡ take i tags ++ t ∷ [] = grind (arith, take-suc) in
    ap (bound_after bound) next ∙ after_last bound (take i tags) t

pub bound_is_said : (bound : Bool × LenSource) (o : Option LaxEtherPayload)
    → IfSome (option_map (bounded bound) o) (λ p. bound.0 ≡ p.incomplete)
bound_is_said bound None = tt
bound_is_said bound (Some p) = refl

pub modified : (missing : Bool) (bytes : List ℕ) → incomplete_of None (tag.Macsec (record {
  header = 12 ∷ 40 ∷ 0 ∷ 0 ∷ 0 ∷ 9 ∷ [];
  payload = LaxModified missing bytes;
}) ∷ []) ≡ missing
modified true bytes = refl
modified false bytes = refl
