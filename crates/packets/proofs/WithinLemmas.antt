-- What is dropped to keep datagrams within a limit.
use Rattle.std.proofs.Common.{arith, ◌≡◌, refl, ℕ, ◌+◌, ◌*◌, ◌<◌, ◌≤◌, nat_lt, Bool, true, false}
use Rattle.std.proofs.Common.{[], ◌∷◌, length, map, inl, inr}
use Rattle.std.proofs.lemmas.Bool.{cases_Bool}
use Rattle.std.proofs.lemmas.Bool.Decides.{nat_tests}
use Rattle.std.specs.Prelude.{filter}
use Rattle.etherparse.specs.PoolCalls.{Lists}
use Rattle.etherparse.specs.ReassemblyTable.{Pool, reassembly_at}
use Rattle.etherparse.specs.declared.defrag.ip_frag_id.IpFragId.{IpFragId}
use Rattle.packets.specs.ReassemblyMemory.{DatagramName, Order, id_of, lists_within, lists_without, order_within, taken}
use Rattle.packets.specs.ReassemblyMemory.{dropped_within, taken_by, waits, order_of_waiting}
use Rattle.etherparse.specs.StartedBytes.{bytes_held_if, bytes_of}

-- what is left takes no more than the limit
pub held_within : (limit : ℕ) (lists : Lists) (order : Order)
    → taken (lists_within limit lists order) (order_within limit lists order) ≤ limit
held_within limit lists [] = omega arith
held_within limit lists (d ∷ ds) = elim (cases_Bool (nat_lt limit (taken lists (d ∷ ds)))) [
  | inl t ↦ rw t (held_within limit (lists_without d lists) ds)
  | inr t ↦ rw t (grind (arith, nat_tests, t))
]

-- nothing is dropped of what takes no more
pub nothing_dropped : (limit : ℕ) (lists : Lists) (order : Order) → taken lists order ≤ limit
    → (lists_within limit lists order ≡ lists) × (order_within limit lists order ≡ order)
    × (dropped_within limit lists order ≡ 0)
nothing_dropped limit lists [] fits = (refl, refl, refl)
nothing_dropped limit lists (d ∷ ds) fits =
    let t : nat_lt limit (taken lists (d ∷ ds)) ≡ false = grind (arith, nat_tests, fits) in
    (rw t refl, rw t refl, rw t refl)

-- with a limit of 0 all are dropped
pub none_within : (lists : Lists) (order : Order) → order_within 0 lists order ≡ []
none_within lists [] = refl
none_within lists (d ∷ ds) =
    let t : nat_lt 0 (taken lists (d ∷ ds)) ≡ true = grind (arith, nat_tests) in
    rw t (none_within (lists_without d lists) ds)

-- the first one is dropped where all take more
pub one_more : (limit : ℕ) (lists : Lists) (d : DatagramName) (ds : Order) → limit < taken lists (d ∷ ds)
    → (lists_within limit (lists_without d lists) ds ≡ lists_within limit lists (d ∷ ds))
    × (order_within limit (lists_without d lists) ds ≡ order_within limit lists (d ∷ ds))
    × (1 + dropped_within limit (lists_without d lists) ds ≡ dropped_within limit lists (d ∷ ds))
one_more limit lists d ds above =
    let t : nat_lt limit (taken lists (d ∷ ds)) ≡ true = grind (arith, nat_tests, above) in
    (rw t refl, rw t refl, rw t refl)

-- the bytes that a pool counts, and what is counted for each name
pub pool_takes : {T : Type 0} (same : IpFragId ℕ → IpFragId ℕ → Bool) (pool : Pool (IpFragId ℕ) T) (lists : Lists)
    (order : Order)
    → ((d : DatagramName) → bytes_held_if (reassembly_at same pool (id_of d)) + 640
    ≡ taken_by (lists d.0 d.1).fragments)
    → bytes_of same pool (map id_of order) + 640 * length (map id_of order) ≡ taken lists order
pool_takes same pool lists [] each = refl
pool_takes same pool lists (d ∷ ds) each = omega (arith, each d, pool_takes same pool lists ds each)

-- the names that are left are those of datagrams of which fragments wait
pub names_waiting : (there : IpFragId ℕ → Bool) (lists : Lists) (order : Order)
    → ((d : DatagramName) → waits lists d ≡ there (id_of d))
    → filter there (map id_of order) ≡ map id_of (order_of_waiting lists order)
names_waiting there lists [] each = refl
names_waiting there lists (d ∷ ds) each = grind (arith, each d, names_waiting there lists ds each)
