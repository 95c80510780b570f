-- Buffers that are compared as the same are the same.
use Rattle.std.proofs.Common.{◌&&◌, IsTrue, ◌↔◌, ◌≡◌, nat_eq, ap, refl, sym}
use Rattle.std.proofs.lemmas.Bool.Decides.{Decides-eqb}
use Rattle.std.specs.Bool.{Decides}
use Rattle.std.specs.Cmp.{booleans_Decides}
use Rattle.std.specs.Cmp.Lexicographic.{pointwise, pointwise_decides, bytes_decides}
use Rattle.std.specs.Option.{option_eq}
use Rattle.ep_base.specs.Traits.{EqualIsSame}
use Rattle.ep_base.specs.declared.net.ip_number.IpNumber.{IpNumber}
use Rattle.ep_base.proofs.Same.{field, last_field, one_part, options_same, record_same}
use Rattle.etherparse.specs.IpDefragBuf.{Contents, SameButRoom, with_room}
use Rattle.etherparse.specs.IpFragRange.{same_range}
use Rattle.etherparse.specs.StoredFragment.{same_stored}

numbers_same : EqualIsSame (λ (a b : IpNumber). nat_eq a.0 b.0)
numbers_same a b = one_part (Decides-eqb a.0 b.0) (λ e i. record { 0 = e i }) (ap (λ n. n.0))

ranges_same : EqualIsSame same_range
ranges_same a b = record_same
    (field Decides-eqb (λ r. r.start) (last_field Decides-eqb (λ r. r.end)))
    (λ start end i. record { start = start i; end = end i })

stored_same : EqualIsSame same_stored
stored_same a b = record_same
    (field Decides-eqb (λ m. m.start)
    (field Decides-eqb (λ m. m.end) (last_field booleans_Decides (λ m. m.more_fragments))))
    (λ start end more_fragments i. record {
      start = start i;
      end = end i;
      more_fragments = more_fragments i;
    })

contents_alike : (a b : Contents IpNumber) → a.room ≡ b.room
    → Decides (nat_eq a.ip_number.0 b.ip_number.0
    && (pointwise nat_eq a.bytes b.bytes
    && (pointwise same_range a.sections b.sections && (option_eq nat_eq a.end b.end
    && option_eq (pointwise same_stored) a.stored_fragments b.stored_fragments)))) (a ≡ b)
contents_alike a b room = record_same
    (field numbers_same (λ c. c.ip_number)
    (field bytes_decides (λ c. c.bytes)
    (field (pointwise_decides ranges_same) (λ c. c.sections)
    (field (options_same Decides-eqb) (λ c. c.end)
    (last_field (options_same (pointwise_decides stored_same)) (λ c. c.stored_fragments))))))
    (λ ip_number bytes sections end stored_fragments i. record {
      ip_number = ip_number i;
      bytes = bytes i;
      sections = sections i;
      end = end i;
      stored_fragments = stored_fragments i;
      room = room i;
    })

pub contents_same : (a b : Contents IpNumber)
    → IsTrue (nat_eq a.ip_number.0 b.ip_number.0
    && (pointwise nat_eq a.bytes b.bytes
    && (pointwise same_range a.sections b.sections && (option_eq nat_eq a.end b.end
    && option_eq (pointwise same_stored) a.stored_fragments b.stored_fragments)))) ↔ SameButRoom a b
contents_same a b =
    let same = contents_alike (with_room a b.room) b refl in
    ((λ test. sym (same.0 test)), (λ is. same.1 (sym is)))
