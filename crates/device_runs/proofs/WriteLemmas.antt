-- Writes one after another.
use Rattle.std.proofs.Common.{arith, ◌≡◌, sym, refl, ℕ, ◌-◌, ◌<◌, ◌≤◌, List, ◌∷◌, ◌++◌, [], length, take, drop, Option}
use Rattle.std.proofs.Common.{Some, append_assoc, append-nil, take-append-drop}
use Rattle.std.proofs.lemmas.List.{take_rest}
use Rattle.std.proofs.lemmas.List.Concat.{flat_map-append}
use Rattle.device_runs.specs.declared.fault.Fault.{Fault}
use Rattle.device_runs.specs.Calls.{Call, Writes, fault_of}
use Rattle.device_runs.specs.Endings.{Ending, Done, Stopped, OutOfMemory, OutOfReads, Refused}
use Rattle.device_runs.specs.Writes.{TakesBytes, Written, Stops, Delivers}
use Rattle.device_runs.proofs.CallLemmas.{AllByRecursion-append, Makes-append}

module _ {D : Type 0} (transition : D → Call → D → Type 0) where
  pub Written-nil : (a : D) → Written transition a [] a
  Written-nil a = record { calls = []; each = tt; made = refl; whole = refl }

  pub Written-append : (a b c : D) (xs ys : List ℕ) → Written transition a xs b
      → Written transition b ys c → Written transition a (xs ++ ys) c
  Written-append a b c xs ys p q = record {
    calls = p.calls ++ q.calls;
    each = AllByRecursion-append TakesBytes p.calls q.calls p.each q.each;
    made = Makes-append transition a b c p.calls q.calls p.made q.made;
    whole = grind (arith, flat_map-append);
  }

  -- one more write
  pub Written-more : (a b c : D) (xs bytes : List ℕ) (n : ℕ) → Written transition a xs b
      → transition b (Writes bytes (Some n)) c → 0 < n → n ≤ length bytes
      → Written transition a (xs ++ take n bytes) c
  Written-more a b c xs bytes n p call some fits =
      Written-append a b c xs (take n bytes) p (record {
        calls = Writes bytes (Some n) ∷ [];
        each = ((some, fits), tt);
        made = (c, call, refl);
        whole = append-nil (take n bytes);
      })

  -- a write of what is left ended a run
  pub Stops-now : (e : Fault) (a b c : D) (bytes prefix rest : List ℕ) (taken : Option ℕ)
      → bytes ≡ prefix ++ rest → 0 < length rest → Written transition a prefix b
      → transition b (Writes rest taken) c → fault_of (Writes rest taken) ≡ Some e
      → Stops transition e a bytes c
  Stops-now e a b c bytes prefix rest taken whole some before stop fault = record {
    prefix = prefix;
    missing = rest;
    whole = whole;
    mid = b;
    before = before;
    offered = rest;
    later = [];
    next = sym (append-nil rest);
    taken = taken;
    some = some;
    stop = stop;
    is_fault = fault;
  }

  pub Stops-after : (e : Fault) (a b c : D) (xs ys : List ℕ) → Written transition a xs b
      → Stops transition e b ys c → Stops transition e a (xs ++ ys) c
  Stops-after e a b c xs ys p s = record {
    prefix = xs ++ s.prefix;
    missing = s.missing;
    whole = grind (arith, append_assoc);
    mid = s.mid;
    before = Written-append a b s.mid xs s.prefix p s.before;
    offered = s.offered;
    later = s.later;
    next = s.next;
    taken = s.taken;
    some = s.some;
    stop = s.stop;
    is_fault = s.is_fault;
  }

  -- what stops before the end of some bytes stops before the end of more
  pub Stops-more : (e : Fault) (a b : D) (xs ys : List ℕ) → Stops transition e a xs b
      → Stops transition e a (xs ++ ys) b
  Stops-more e a b xs ys s = record {
    prefix = s.prefix;
    missing = s.missing ++ ys;
    whole = grind (arith, append_assoc);
    mid = s.mid;
    before = s.before;
    offered = s.offered;
    later = s.later ++ ys;
    next = grind (arith, append_assoc);
    taken = s.taken;
    some = s.some;
    stop = s.stop;
    is_fault = s.is_fault;
  }

  pub Delivers-after : {R : Type 0} (a b c : D) (xs ys : List ℕ) (ending : Ending R)
      → Written transition a xs b → Delivers transition b ys ending c
      → Delivers transition a (xs ++ ys) ending c
  Delivers-after a b c xs ys Done p d = Written-append a b c xs ys p d
  Delivers-after a b c xs ys (Stopped fault) p d = Stops-after fault a b c xs ys p d
  Delivers-after a b c xs ys OutOfMemory p d = d
  Delivers-after a b c xs ys OutOfReads p d = d
  Delivers-after a b c xs ys (Refused reason) p d = d

-- n more bytes of what is left
pub split_more : (bytes prefix rest : List ℕ) (n : ℕ) → bytes ≡ prefix ++ rest
    → bytes ≡ (prefix ++ take n rest) ++ take (length rest - n) (drop n rest)
split_more bytes prefix rest n whole = grind (arith, take-append-drop, append_assoc, take_rest)
