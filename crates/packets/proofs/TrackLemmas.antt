-- The order of starts has each datagram of which fragments wait, once, and no other.
use Rattle.std.proofs.Common.{arith, ◌≡◌, ◌∙◌, refl, sym, ap, ℕ, ◌==◌, ◌&&◌, ◌||◌, nat_lt, Bool, true, false, not}
use Rattle.std.proofs.Common.{[], ◌∷◌, ◌++◌, inl, inr}
use Rattle.std.proofs.lemmas.Bool.{and_parts, cases_Bool, eqb-true}
use Rattle.std.proofs.lemmas.Bool.Decides.{nat_tests}
use Rattle.std.specs.Prelude.{◌↔◌, IsTrue, filter}
use Rattle.etherparse.specs.IpFragId.{same_name}
use Rattle.etherparse.specs.PoolCalls.{Lists}
use Rattle.ep_packet.specs.Class.{FragmentName}
use Rattle.packets.specs.ReassemblyMemory.{AreDistinct, DatagramName, Order, Tracks, has, is_same, lists_within, lists_without}
use Rattle.packets.specs.ReassemblyMemory.{order_by, order_within, taken, waits, order_of_waiting}

module _ (alike : (a b : FragmentName) → IsTrue (same_name a b) ↔ (a ≡ b)) where
  same_is : (d e : DatagramName) → is_same d e ≡ true → d ≡ e
  same_is d e t =
      let both = and_parts (same_name d.0 e.0) (d.1 == e.1) t in
      let names : d.0 ≡ e.0 = (alike d.0 e.0).0 both.0 in
      let channels : d.1 ≡ e.1 = eqb-true d.1 e.1 both.1 in
      λ i. (names i, channels i)

  same_self : (d : DatagramName) → is_same d d ≡ true
  same_self d =
      let names : same_name d.0 d.0 ≡ true = (alike d.0 d.0).1 refl in
      grind (arith, nat_tests, names)

  same_turned : (d e : DatagramName) → is_same d e ≡ is_same e d
  same_turned d e = elim (cases_Bool (is_same d e)) [
    | inl t ↦ let s = same_is d e t in rw s refl
    | inr t ↦ elim (cases_Bool (is_same e d)) [
      | inl u ↦ let s = same_is e d u in rw s refl
      | inr u ↦ t ∙ sym u
    ]
  ]

  -- a test of a datagram, of one that is the same
  same_test : (test : DatagramName → Bool) (d e : DatagramName) → is_same d e ≡ true → test d ≡ test e
  same_test test d e t = ap test (same_is d e t)

  has_filter : (test : DatagramName → Bool) (order : Order) (d : DatagramName)
      → has (filter test order) d ≡ (has order d && test d)
  has_filter test [] d = refl
  has_filter test (e ∷ order) d = elim (cases_Bool (is_same d e)) [
    | inl t ↦ grind (arith, same_test test d e t, has_filter test order d, t)
    | inr t ↦ grind (arith, has_filter test order d, t)
  ]

  distinct_filter : (test : DatagramName → Bool) (order : Order) → AreDistinct order
      → AreDistinct (filter test order)
  distinct_filter test [] d = tt
  distinct_filter test (e ∷ order) d =
      grind (arith, has_filter test order e, distinct_filter test order d.1)

  has_push : (order : Order) (e d : DatagramName) → has (order ++ e ∷ []) d ≡ (has order d || is_same d e)
  has_push [] e d = grind arith
  has_push (x ∷ order) e d = grind (arith, has_push order e d)

  distinct_push : (order : Order) (e : DatagramName) → AreDistinct order → has order e ≡ false
      → AreDistinct (order ++ e ∷ [])
  distinct_push [] e d h = (refl, tt)
  distinct_push (x ∷ order) e d h =
      grind (arith, has_push order e x, distinct_push order e d.1, same_turned x e)

  -- the datagrams of which fragments wait still
  pub tracked_waiting : (lists left : Lists) (order : Order) → Tracks lists order
      → ((d : DatagramName) → waits left d ≡ true → waits lists d ≡ true)
      → Tracks left (order_of_waiting left order)
  tracked_waiting lists left order t fewer = record {
    distinct = distinct_filter (waits left) order t.distinct;
    each = λ d. has_filter (waits left) order d ∙ grind (arith, t.each d, fewer d);
  }

  -- one datagram's fragments change, and no other's
  pub tracked_by : (lists left : Lists) (order : Order) (d : DatagramName) → Tracks lists order
      → ((e : DatagramName) → is_same d e ≡ false → waits left e ≡ waits lists e)
      → Tracks left (order_by (waits lists d) (waits left d) d order)
  tracked_by lists left order d t others = by (waits lists d) (waits left d) refl refl
    where
      each : (before after : Bool) → waits lists d ≡ before → waits left d ≡ after → (e : DatagramName)
          → (b : Bool) → is_same d e ≡ b → has (order_by before after d order) e ≡ waits left e
      each false true was is e true s =
          has_push order d e ∙ grind (arith, same_turned e d, s, same_test (waits left) d e s, is)
      each false true was is e false s =
          has_push order d e ∙ grind (arith, same_turned e d, s, others e s, t.each e)
      each true false was is e true s =
          has_filter (λ x. not (is_same d x)) order e ∙ grind (arith, s, same_test (waits left) d e s, is)
      each true false was is e false s =
          has_filter (λ x. not (is_same d x)) order e ∙ grind (arith, s, others e s, t.each e)
      each false false was is e true s =
          t.each e ∙ sym (same_test (waits lists) d e s) ∙ was ∙ sym is ∙ same_test (waits left) d e s
      each false false was is e false s = t.each e ∙ sym (others e s)
      each true true was is e true s =
          t.each e ∙ sym (same_test (waits lists) d e s) ∙ was ∙ sym is ∙ same_test (waits left) d e s
      each true true was is e false s = t.each e ∙ sym (others e s)

      apart : (before after : Bool) → waits lists d ≡ before → AreDistinct (order_by before after d order)
      apart false true was = distinct_push order d t.distinct (t.each d ∙ was)
      apart true false was = distinct_filter (λ x. not (is_same d x)) order t.distinct
      apart false false was = t.distinct
      apart true true was = t.distinct

      by : (before after : Bool) → waits lists d ≡ before → waits left d ≡ after
          → Tracks left (order_by before after d order)
      by before after was is = record {
        distinct = apart before after was;
        each = λ e. each before after was is e (is_same d e) refl;
      }

  without_first : (lists : Lists) (d : DatagramName) (ds : Order) → Tracks lists (d ∷ ds)
      → Tracks (lists_without d lists) ds
  without_first lists d ds t = record {
    distinct = t.distinct.1;
    each = λ e. elim (cases_Bool (is_same d e)) [
      | inl s ↦ sym (same_test (has ds) d e s) ∙ t.distinct.0 ∙ rw s refl
      | inr s ↦ rw s (grind (arith, t.each e, s, same_turned d e))
    ];
  }

  -- those that are left within a limit
  pub tracked_within : (limit : ℕ) (lists : Lists) (order : Order) → Tracks lists order
      → Tracks (lists_within limit lists order) (order_within limit lists order)
  tracked_within limit lists [] t = t
  tracked_within limit lists (d ∷ ds) t = elim (cases_Bool (nat_lt limit (taken lists (d ∷ ds)))) [
    | inl above ↦ rw above (tracked_within limit (lists_without d lists) ds (without_first lists d ds t))
    | inr fits ↦ rw fits t
  ]
