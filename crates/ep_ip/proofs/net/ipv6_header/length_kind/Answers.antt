-- The table is held against the definition at each of the 256 numbers, by computing.
use Rattle.std.proofs.Common.{◌≡◌, ℕ, ◌<◌, map, get_or, refl, ap, ◌∙◌, arith}
use Rattle.std.proofs.lemmas.List.FromFn.{get_or-map-range_with_len}
use Rattle.std.specs.List.{range_with_len}
use Rattle.ep_ip.specs.Skip.{length_kind}
use Rattle.ep_ip.specs.declared.net.ipv6_header.TheConstants.{LENGTH_KINDS}
use Rattle.ep_ip.proofs.net.ipv6_header.length_kind.Goals as goal

table_is : LENGTH_KINDS ≡ map length_kind (range_with_len 0 256)
table_is = refl

read : (n : ℕ) → n < 256 → get_or LENGTH_KINDS n 0 ≡ length_kind n
read n h =
    ap (λ t. get_or t n 0) table_is
    ∙ get_or-map-range_with_len length_kind 0 256 n n 0 h (omega arith)

pub returns : goal.returns
returns c = rw c.from.ensures (read c.args.number.0 (omega arith))
