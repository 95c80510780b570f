-- Datagrams are dropped one after the other, until the others take no more than a limit.
use Rattle.std.proofs.Common.{arith, ◌≡◌, ◌∙◌, refl, sym, ℕ, ◌+◌, ◌<◌, ◌≤◌, true, false, [], ◌∷◌, true≢false}
use Rattle.captures.specs.Numbers.{capped}
use Rattle.etherparse.specs.PoolCalls.{Lists}
use Rattle.packets.specs.ReassemblyMemory.{DropsOldest, KeepsStarted, KeepsWithin, Order, ShowsOrder, dropped_within}
use Rattle.packets.specs.ReassemblyMemory.{lists_within, lists_without, order_within, taken}
use Rattle.packets.specs.Started.{ShowsFragments}
use Rattle.packets.specs.declared.datagrams.Datagrams.{Datagrams}
use Rattle.packets.proofs.WithinLemmas.{nothing_dropped, one_more}

module _ {S H : Type 0} (start : Datagrams S H) (limit : ℕ) (lists : Lists) (order : Order) where
  -- so many were dropped, and as many more are dropped of those that are left as of all
  pub record Dropped (now : Datagrams S H) (dropped : ℕ) : Type 0 where
    pub left_lists : Lists
    pub left : Order
    pub fragments : ShowsFragments now left_lists
    pub order_is : ShowsOrder now left
    pub same_lists : lists_within limit left_lists left ≡ lists_within limit lists order
    pub same_order : order_within limit left_lists left ≡ order_within limit lists order
    pub count : capped (dropped + dropped_within limit left_lists left) ≡ capped (dropped_within limit lists order)
    pub few : dropped ≤ 18446744073709551615
    pub started : KeepsStarted start now

  pub begins : ShowsFragments start lists → ShowsOrder start order → Dropped start 0
  begins shows has = record {
    left_lists = lists;
    left = order;
    fragments = shows;
    order_is = has;
    same_lists = refl;
    same_order = refl;
    count = grind arith;
    few = omega arith;
    started = λ started kept. kept;
  }

  -- no more are dropped where the others take no more than the limit
  pub ends : (now : Datagrams S H) (dropped : ℕ) (d : Dropped now dropped) → taken d.left_lists d.left ≤ limit
      → KeepsWithin start now limit dropped lists order
  ends now dropped d fits =
      let nothing = nothing_dropped limit d.left_lists d.left fits in
      record {
        fragments = rw (← d.same_lists, nothing.0) d.fragments;
        order_is = rw (← d.same_order, nothing.1) d.order_is;
        count = done (dropped_within limit d.left_lists d.left) nothing.2 d.count;
        started = d.started;
      }
    where
      done : (n : ℕ) → n ≡ 0 → capped (dropped + n) ≡ capped (dropped_within limit lists order)
          → dropped ≡ capped (dropped_within limit lists order)
      done n none count = grind (arith, none, count, d.few)

  -- none is left
  pub none_left : (before now : Datagrams S H) (dropped : ℕ) (d : Dropped before dropped)
      → DropsOldest before now d.left_lists d.left false → KeepsWithin start now limit dropped lists order
  none_left before now dropped d drops = by d.left refl
    where
      by : (left : Order) → d.left ≡ left → KeepsWithin start now limit dropped lists order
      by [] is =
          let none = rw is at drops in
          ends now dropped (record {
            left_lists = d.left_lists;
            left = [];
            fragments = none.1;
            order_is = none.2;
            same_lists = rw is at d.same_lists;
            same_order = rw is at d.same_order;
            count = rw is at d.count;
            few = d.few;
            started = λ started kept. none.3 started (d.started started kept);
          }) (omega arith)
      by (x ∷ xs) is = let some = rw is at drops in absurd (true≢false (sym some.0))

  -- one more is dropped
  pub one_dropped : (before now : Datagrams S H) (dropped : ℕ) (d : Dropped before dropped)
      → limit < taken d.left_lists d.left → DropsOldest before now d.left_lists d.left true
      → Dropped now (capped (dropped + 1))
  one_dropped before now dropped d above drops = by d.left refl
    where
      by : (left : Order) → d.left ≡ left → Dropped now (capped (dropped + 1))
      by [] is = let none = rw is at above in absurd (omega (arith, none))
      by (x ∷ xs) is =
          let some = rw is at drops in
          let more = one_more limit d.left_lists x xs (rw is at above) in
          record {
            left_lists = lists_without x d.left_lists;
            left = xs;
            fragments = some.1;
            order_is = some.2;
            same_lists = more.0 ∙ (rw is at d.same_lists);
            same_order = more.1 ∙ (rw is at d.same_order);
            count = counted (dropped_within limit (lists_without x d.left_lists) xs)
                (dropped_within limit d.left_lists (x ∷ xs)) more.2 (rw is at d.count);
            few = grind arith;
            started = λ started kept. some.3 started (d.started started kept);
          }
        where
          counted : (n m : ℕ) → 1 + n ≡ m → capped (dropped + m) ≡ capped (dropped_within limit lists order)
              → capped (capped (dropped + 1) + n) ≡ capped (dropped_within limit lists order)
          counted n m is count = grind (arith, is, count)
