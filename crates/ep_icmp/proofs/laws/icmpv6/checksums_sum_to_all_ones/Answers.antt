use Rattle.std.proofs.Common.{◌++◌, ◌+◌, ◌∷◌, [], length}
use Rattle.ep_icmp.specs.Icmpv6.{layout_of, pseudo}
use Rattle.ep_icmp.specs.Layout.{bytes_of_fields}
use Rattle.ep_icmp.proofs.Sums.{even_pseudo, joined}
use Rattle.ep_icmp.proofs.laws.icmpv6.checksums_sum_to_all_ones.Goals as goal

pub returns : goal.returns
returns c = λ kind source destination payload four six.
    let l = layout_of kind in
    let prefix = pseudo source destination (8 + length payload) in
    rw (joined l prefix payload 0, joined l prefix payload _)
    (c.checksum_sums_to_all_ones.ensures.complement (prefix ++ l.type_u8 ∷ l.code_u8 ∷ [])
    (bytes_of_fields l.fields ++ payload)
    (even_pseudo source destination (8 + length payload) l.type_u8 l.code_u8 four six))
