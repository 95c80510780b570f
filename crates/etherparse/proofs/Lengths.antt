-- How long the bytes of accepted fragments are.
use Rattle.std.proofs.Common.{ℕ, ◌<◌, ◌≤◌, List, [], ◌∷◌, length, arith, ap, ◌∙◌}
use Rattle.std.proofs.Math.Bridge.{le_prop}
use Rattle.std.proofs.Math.Logic.{∥∥₁_elim}
use Rattle.std.proofs.lemmas.List.Elements.{All-from_recursion}
use Rattle.std.proofs.lemmas.List.FromFn.{length-map-range_with_len}
use Rattle.std.specs.List.{AllByRecursion}
use Rattle.std.specs.Prelude.{unwrap_or}
use Rattle.etherparse.specs.Fragments.{Fragment, end_of, greatest_end, named_end, AgreesWith, Covered, IsAccepted}
use Rattle.etherparse.specs.IpDefragBuf.{Contents, ShowsAccepted, Shows, rule_of}
use Rattle.etherparse.specs.FragmentBytes.{byte_at}
use Rattle.etherparse.proofs.AcceptedLists.{stored_fragments}

greatest_short : (fs gs : List Fragment) → AllByRecursion (AgreesWith fs) gs
    → greatest_end gs ≤ 65535
greatest_short fs [] h = omega arith
greatest_short fs (g ∷ gs) h = omega (arith, h.0.short, greatest_short fs gs h.1)

named_short : (fs gs : List Fragment) (other : ℕ) → AllByRecursion (AgreesWith fs) gs
    → other ≤ 65535 → unwrap_or (named_end gs) other ≤ 65535
named_short fs [] other h short = short
named_short fs (g ∷ gs) other h short = grind (arith, named_short fs gs other h.1 short)

kept_short : {N : Type 0} (buf : Contents N) (fs : List Fragment) → IsAccepted (rule_of buf) fs
    → Shows buf fs → length buf.bytes ≤ 65535
kept_short buf fs is shows =
    let agree = stored_fragments (rule_of buf) fs is in
    let len = ap length shows.kept ∙ length-map-range_with_len (λ p. unwrap_or (byte_at fs p) 0) 0
    (unwrap_or (named_end fs) (greatest_end fs)) in
    omega (arith, len, named_short fs fs (greatest_end fs) agree (greatest_short fs fs agree))

-- the bytes of a buffer fit into the greatest datagram
pub contents_short : {N : Type 0} (buf : Contents N) → ShowsAccepted buf → length buf.bytes ≤ 65535
contents_short buf shows_accepted = ∥∥₁_elim shows_accepted le_prop (λ p. kept_short buf p.0 p.1 p.2)

covered_short : (fs gs : List Fragment) (p : ℕ) → AllByRecursion (AgreesWith fs) gs → Covered gs p
    → p < 65535
covered_short fs gs p agree c =
    let agrees = All-from_recursion (AgreesWith fs) gs agree c.0 c.1 c.2 in
    let same = ap end_of c.3 in
    omega (arith, agrees.short, same, c.4.1)

-- and so do the offsets of whatever it shows
pub offsets_short : {N : Type 0} (buf : Contents N) (fs : List Fragment) (p : ℕ) → ShowsAccepted buf
    → Shows buf fs → Covered fs p → p < 65535
offsets_short buf fs p shows_accepted shows c = ∥∥₁_elim shows_accepted le_prop (λ h.
    covered_short h.0 h.0 p (stored_fragments (rule_of buf) h.0 h.1)
    ((h.2.offsets p).0 ((shows.offsets p).1 c)))
