use Rattle.std.proofs.Common.{refl, ◌++◌, ◌∷◌, []}
use Rattle.ep_icmp.specs.Icmpv4.{layout_of}
use Rattle.ep_icmp.specs.Layout.{bytes_of_fields}
use Rattle.ep_icmp.proofs.laws.icmpv4.checksums_sum_to_all_ones.Goals as goal

pub returns : goal.returns
returns c = λ kind payload.
    let l = layout_of kind in
    c.checksum_sums_to_all_ones.ensures.complement (l.type_u8 ∷ l.code_u8 ∷ [])
    (bytes_of_fields l.fields ++ payload) refl
