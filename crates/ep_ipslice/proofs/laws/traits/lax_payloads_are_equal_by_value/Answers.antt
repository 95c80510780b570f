use Rattle.std.specs.Cmp.{booleans_Decides}
use Rattle.std.specs.Cmp.Lexicographic.{bytes_decides}
use Rattle.ep_base.proofs.Same.{one_part, both}
use Rattle.ep_ipslice.proofs.laws.traits.lax_payloads_are_equal_by_value.Goals as goal

pub returns : goal.returns
returns c = λ a b.
    let types = c.types_are_plain_data.ensures in
    one_part
    (both (booleans_Decides a.incomplete b.incomplete)
    (both (types.ip_number.equals a.ip_number b.ip_number)
    (both (booleans_Decides a.fragmented b.fragmented)
    (both (types.len_source.equals a.len_source b.len_source)
    (bytes_decides a.payload.now b.payload.now)))))
    (λ same i. (
      same.0 i,
      record {
        ip_number = same.1.0 i;
        fragmented = same.1.1.0 i;
        len_source = same.1.1.1.0 i;
        payload = same.1.1.1.1 i;
      },
    ))
    (λ e. (
      λ i. (e i).0,
      (
        λ i. (e i).1.ip_number,
        (
          λ i. (e i).1.fragmented,
          (λ i. (e i).1.len_source, λ i. (e i).1.payload),
        ),
      ),
    ))
