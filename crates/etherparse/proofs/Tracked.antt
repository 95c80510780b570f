-- The order of starts and the bytes that are held, after an entry is added, replaced or removed.
use Rattle.std.proofs.Common.{◌≡◌, ℕ, ◌+◌, ◌-◌, ◌<◌, ◌≤◌, Bool, false, List, [], ◌∷◌, ◌++◌, length, Option, Some, None}
use Rattle.std.proofs.Common.{arith, refl, sym, subst, ap, ◌∙◌}
use Rattle.std.proofs.Common.{Ok, Err}
use Rattle.std.proofs.lemmas.Bool.Decides.{nat_tests}
use Rattle.std.proofs.lemmas.Grind.{common_steps}
use Rattle.std.proofs.lemmas.List.{length-map, length-set, length-take}
use Rattle.std.proofs.lemmas.List.Sums.{sum_by-swap_remove}
use Rattle.etherparse.specs.declared.defrag.ip_defrag_error.IpDefragError.{IpDefragError}
use Rattle.etherparse.specs.declared.defrag.overlap_rule.OverlapRule.{OverlapRule}
use Rattle.etherparse.specs.Fragments.{Fragment, end_of, refusal_of}
use Rattle.etherparse.specs.IpDefragBuf.{AnswersAdd}
use Rattle.etherparse.specs.IpDefragError.{is_overlap}
use Rattle.etherparse.specs.Outcome.{outcome}
use Rattle.etherparse.specs.ReassemblyTable.{IsErrorOf, ShowsReassembly}
use Rattle.std.proofs.lemmas.Option.{get_or_from_slice_get, slice_get_cases, slice_get_within}
use Rattle.std.specs.Prelude.{◌^◌, ◌*◌, IfNone, IsSome, set, slice_get}
use Rattle.std.proofs.Common.{get_or}
use Rattle.std.specs.List.{swap_remove}
use Rattle.std.specs.Map.{keys_of, lookup}
use Rattle.indexmap.specs.IndexMap.{insert_entry, swap_remove_entry}
use Rattle.etherparse.specs.declared.defrag.reassembly.Reassembly.{Reassembly}
use Rattle.etherparse.specs.StartOrder.{IsOrder}
use Rattle.etherparse.specs.Starts.{EntriesAfter, Tracks, bytes_held, bytes_in, change_of, names_in}
use Rattle.etherparse.proofs.TableTotals.{keys-new, keys-there, length-swap_removed}
use Rattle.etherparse.proofs.TableTotals.{total-le, total-lookup, total-new, total-swap_remove, total-there}

held_short : {T : Type 0} (s : Reassembly T) → bytes_held s ≤ 65535
held_short s = omega arith

module _ {K T : Type 0} (eq : K → K → Bool) (k : K) (order : List ℕ) (held : ℕ)
    (es : List (K × Reassembly T)) (t : Tracks order held es) where
  -- there is space for one more datagram in the sum
  pub held_fits : held ≤ 65535 * 4294967295
  held_fits =
      let most = total-le bytes_held held_short es in omega (arith, most, t.count, t.fits, t.bytes)

  pub part_fits : (s : Reassembly T) (n : ℕ) → lookup (eq k) es ≡ Some s → n ≡ length s.buf.bytes
      → n ≤ 65535 → n ≤ held
  part_fits s n at is short = omega (arith, total-lookup bytes_held (eq k) es s at, t.bytes)

  length-there : (s v : Reassembly T) → lookup (eq k) es ≡ Some s → length (insert_entry eq es k v) ≡ length es
  length-there s v at =
      sym (length-map (insert_entry eq es k v) (λ (e : K × Reassembly T). e.0))
      ∙ ap (λ (ks : List K). length ks) (keys-there bytes_held eq k v es s at)
      ∙ length-map es (λ (e : K × Reassembly T). e.0)

  pub tracks_replaced : (s v : Reassembly T) (before after : ℕ) (new : List (K × Reassembly T))
      → lookup (eq k) es ≡ Some s → new ≡ insert_entry eq es k v → before ≡ length s.buf.bytes → before ≤ 65535
      → after ≡ length v.buf.bytes → after ≤ 65535 → Tracks order (held - before + after) new
  tracks_replaced s v before after new at is b b' a a' =
      let more = total-there bytes_held eq k v es s at in
      let part = total-lookup bytes_held (eq k) es s at in
      rw is (record {
        is_order = t.is_order;
        count = omega (arith, t.count, length-there s v at);
        fits = t.fits;
        bytes = omega (arith, more, part, t.bytes);
      })

  pub tracks_same : (s v : Reassembly T) (new : List (K × Reassembly T))
      → lookup (eq k) es ≡ Some s → new ≡ insert_entry eq es k v → v.buf.bytes ≡ s.buf.bytes → Tracks order held new
  tracks_same s v new at is same =
      let more = total-there bytes_held eq k v es s at in
      let equal = ap (λ (bs : List ℕ). length bs) same in
      rw is (record {
        is_order = t.is_order;
        count = omega (arith, t.count, length-there s v at);
        fits = t.fits;
        bytes = omega (arith, more, t.bytes, equal);
      })

  pub tracks_ended : (s : Reassembly T) (before : ℕ) (order' : List ℕ) (new : List (K × Reassembly T))
      → lookup (eq k) es ≡ Some s → new ≡ swap_remove_entry (eq k) es → before ≡ length s.buf.bytes → before ≤ 65535
      → IsOrder order' → length order' + 1 ≡ length order → Tracks order' (held - before) new
  tracks_ended s before order' new at is b b' o len =
      let less = total-swap_remove bytes_held (eq k) es s at in
      rw is (record {
        is_order = o;
        count = omega (arith, t.count, len, length-swap_removed (eq k) es s at);
        fits = omega (arith, t.fits, len);
        bytes = omega (arith, less, t.bytes);
      })

  pub tracks_started : (v : Reassembly T) (after : ℕ) (order' : List ℕ) (new : List (K × Reassembly T))
      → lookup (eq k) es ≡ None → new ≡ insert_entry eq es k v → after ≡ length v.buf.bytes → after ≤ 65535
      → IsOrder order' → length order' ≡ length order + 1 → length order' < 2 ^ 32 → Tracks order' (held + after) new
  tracks_started v after order' new none is a a' o len fits =
      let more = total-new bytes_held eq k v es none in
      let keys = ap (λ (ks : List K). length ks) (keys-new bytes_held eq k v es none) in
      let count = length-map (insert_entry eq es k v) (λ (e : K × Reassembly T). e.0) in
      let old = length-map es (λ (e : K × Reassembly T). e.0) in
      let one = length-one (keys_of es) k in
      rw is (record {
        is_order = o;
        count = omega (arith, t.count, len, keys, count, old, one);
        fits = fits;
        bytes = omega (arith, more, t.bytes);
      })
    where
      length-one : {X : Type 0} (xs : List X) (x : X) → length (xs ++ x ∷ []) ≡ length xs + 1
      length-one [] x = refl
      length-one (y ∷ xs) x = omega (arith, length-one xs x)

-- ---- an entry that is removed by its index

module _ {K T : Type 0} (order : List ℕ) (held : ℕ) (es : List (K × Reassembly T))
    (t : Tracks order held es) (i : ℕ) (k : K) (s : Reassembly T) (at : slice_get es i ≡ Some (k, s)) where
  entry_is : get_or es i (k, s) ≡ (k, s)
  entry_is = get_or_from_slice_get es i (k, s) (k, s) at

  pub index_within : i < length order
  index_within = omega (arith, t.count, slice_get_within es i (k, s) at)

  less : bytes_in (swap_remove es i (k, s)) + bytes_held s ≡ bytes_in es
  less = rw entry_is at (sum_by-swap_remove (λ (e : K × Reassembly T). bytes_held e.1) es i (k, s)
      (slice_get_within es i (k, s) at))

  pub part_at : (n : ℕ) → n ≡ length s.buf.bytes → n ≤ 65535 → n ≤ held
  part_at n is short = omega (arith, less, t.bytes)

  pub tracks_removed : (before : ℕ) (order' : List ℕ) (new : List (K × Reassembly T))
      → new ≡ swap_remove es i (k, s) → before ≡ length s.buf.bytes → before ≤ 65535
      → IsOrder order' → length order' + 1 ≡ length order → Tracks order' (held - before) new
  tracks_removed before order' new is b b' o len =
      let within = slice_get_within es i (k, s) at in
      let x = get_or es (length es - 1) (k, s) in
      rw is (record {
        is_order = o;
        count = omega (arith, t.count, len, within, length-take (length es - 1) (set es i x), length-set es i x);
        fits = omega (arith, t.fits, len);
        bytes = omega (arith, less, t.bytes);
      })

-- a slot that is there has an entry
pub some_at : {X : Type 0} (xs : List X) (i : ℕ) → i < length xs → IsSome (slice_get xs i)
some_at xs i h = grind (arith, slice_get_cases xs i)

-- no slot has no name
pub no_names : {K : Type 0} (keys : List K) (order : List ℕ) → slice_get order 0 ≡ None
    → names_in keys order ≡ []
no_names keys [] h = refl
no_names keys (slot ∷ order) h = grind arith

pub if_none : {X : Type 0} (r : Option X) (P : Type 0) → P → IfNone r P
if_none None P p = p
if_none (Some x) P p = tt

-- a table with no entries
pub tracks_none : {K T : Type 0} (order : List ℕ) (es : List (K × Reassembly T)) → order ≡ [] → es ≡ []
    → Tracks order 0 es
tracks_none {K} {T} order es none empty =
    let t : Tracks {K = K} {T = T} [] 0 [] = record {
      is_order = record { distinct = tt; members = λ slot. grind (arith, nat_tests) };
      count = refl;
      fits = omega arith;
      bytes = refl;
    } in
    rw (none, empty) t

-- ---- the entries, by what becomes of a fragment

module _ {K T : Type 0} (X : Type 0) (eq : K → K → Bool) (k : K) (es new : List (K × Reassembly T)) where
  pub entries_waiting : (s v : Reassembly T) (old : Option (Reassembly T)) → old ≡ Some s
      → lookup (eq k) es ≡ old → new ≡ insert_entry eq es k v
      → EntriesAfter (eq k) k (change_of {X = X} (Ok None) old) es new
  entries_waiting s v None was at is = cc
  entries_waiting s v (Some r) was at is = rw is (keys-there bytes_held eq k v es r at)

  pub entries_started : (v : Reassembly T) (old : Option (Reassembly T)) → old ≡ None
      → lookup (eq k) es ≡ old → new ≡ insert_entry eq es k v
      → EntriesAfter (eq k) k (change_of {X = X} (Ok None) old) es new
  entries_started v None none at is = rw is (keys-new bytes_held eq k v es at)
  entries_started v (Some r) none at is = cc

  pub entries_refused : (error : IpDefragError) (s v : Reassembly T) (old : Option (Reassembly T)) → old ≡ Some s
      → is_overlap error ≡ false → lookup (eq k) es ≡ old → new ≡ insert_entry eq es k v
      → EntriesAfter (eq k) k (change_of {X = X} (Err error) old) es new
  entries_refused error s v None was apart at is = cc
  entries_refused error s v (Some r) was apart at is = rw (apart, is) (keys-there bytes_held eq k v es r at)

-- a first fragment that is refused
answers_first : (rule : OverlapRule) (f : Fragment) (error : IpDefragError)
    → AnswersAdd {X = Unit {0}} (refusal_of rule [] f) (end_of f) (Err error)
    → IsErrorOf f (outcome rule [] f) error
answers_first rule f error h = grind (arith, common_steps)

pub first_refused : {T : Type 0} (kept rule used : OverlapRule) (f : Fragment) (error : IpDefragError)
    (old : Option (Reassembly T)) (fs : List Fragment) → used ≡ rule → old ≡ None
    → ShowsReassembly kept old fs → (fs ≡ [] → kept ≡ rule)
    → AnswersAdd {X = Unit {0}} (refusal_of used [] f) (end_of f) (Err error)
    → IsErrorOf f (outcome kept fs f) error
first_refused {T} kept rule used f error old fs same none shows begins answered =
    let empty : fs ≡ [] = subst (λ (o : Option (Reassembly T)). ShowsReassembly kept o fs) none shows in
    let answered' = subst (λ (r : OverlapRule). AnswersAdd {X = Unit {0}} (refusal_of r [] f) (end_of f) (Err error)) same answered in
    subst (λ (r : OverlapRule). IsErrorOf f (outcome r fs f) error) (sym (begins empty))
    (subst (λ (gs : List Fragment). IsErrorOf f (outcome rule gs f) error) (sym empty)
    (answers_first rule f error answered'))
