-- A prefix of some bytes, which is taken after tests that may fail with an error.
use Rattle.std.proofs.Common.{◌≡◌, ℕ, ◌-◌, Bool, true, false, cond, List, ◌++◌, length, take, drop, Result, Ok, Err}
use Rattle.std.proofs.Common.{IfOk, arith, refl, sym, ap, ◌∙◌}
use Rattle.std.proofs.lemmas.List.{get_or_append_left, get_or_past, take_rest, drop_at}
use Rattle.ep_base.specs.Bytes.{IsBytes}
use Rattle.ep_base.specs.Prefixes.{IsReadAs, TakesPrefix}

-- after a test that gives an error where it holds, `Ok` says that it doesn't hold
pub guard_ok : {A E : Type 0} (b : Bool) (e : E) (r : Result A E) (x : A) → cond b (Err e) r ≡ Ok x
    → (b ≡ false) × (r ≡ Ok x)
guard_ok true e r x h = cc
guard_ok false e r x h = (refl, h)

-- where the test doesn't hold, the result is what follows it
pub guard_through : {A E : Type 0} (b : Bool) (e : E) (r : Result A E)
    → b ≡ false → cond b (Err e) r ≡ r
guard_through true e r h = cc
guard_through false e r h = refl

pub ok_same : {A E : Type 0} (x y : A) → ◌≡◌ {A = Result A E} (Ok x) (Ok y) → x ≡ y
ok_same x y h = cc

pub err_same : {A E : Type 0} (x y : E) → ◌≡◌ {A = Result A E} (Err x) (Err y) → x ≡ y
err_same x y h = cc

pub ok_err : {A E : Type 0} (x : A) (y : E) → ◌≡◌ {A = Result A E} (Ok x) (Err y) → ⊥
ok_err x y h = cc

pub err_ok : {A E : Type 0} (e : E) (x : A) → ◌≡◌ {A = Result A E} (Err e) (Ok x) → ⊥
err_ok e x h = cc

-- a prefix of bytes consists of bytes
pub prefix_fits : (bytes prefix rest : List ℕ) → bytes ≡ prefix ++ rest → IsBytes bytes → IsBytes prefix
prefix_fits bytes prefix rest e fits i = grind (arith, get_or_append_left, get_or_past)

-- the bytes after the prefix, as the code takes them
pub rest_of : (n : ℕ) (bytes prefix rest : List ℕ) → bytes ≡ prefix ++ rest → length prefix ≡ n
    → take (length bytes - n) (drop n bytes) ≡ rest
rest_of n bytes prefix rest e whole = take_rest bytes n ∙ rw e (drop_at prefix rest n whole)

if_ok : {A E : Type 0} (P : A → Type 0) (r : Result A E) → ((x : A) → r ≡ Ok x → P x) → IfOk r P
if_ok P (Ok x) each = each x refl
if_ok P (Err e) each = tt

-- a reader that takes no other prefixes than such, and each of these whatever follows it
pub takes : {E : Type 0} (IsPrefix : List ℕ → Type 0) (read : List ℕ → Result (List ℕ) E)
    → ((bytes prefix : List ℕ) → read bytes ≡ Ok prefix
    → IsPrefix prefix × ((rest : List ℕ) × (bytes ≡ prefix ++ rest)))
    → ((prefix rest : List ℕ) → IsPrefix prefix → read (prefix ++ rest) ≡ Ok prefix)
    → (bytes : List ℕ) (taken : Result (List ℕ) E) → taken ≡ read bytes
    → TakesPrefix IsPrefix bytes taken
takes IsPrefix read found again bytes taken is = record {
  found = if_ok (λ prefix. IsPrefix prefix × ((rest : List ℕ) × (bytes ≡ prefix ++ rest))) taken
      (λ prefix ok. found bytes prefix (sym is ∙ ok));
  only = λ prefix rest is_prefix position. is ∙ ap read position ∙ again prefix rest is_prefix;
}

-- the header that is read from a prefix
pub is_read : {H E : Type 0} (IsHeader : List ℕ → Type 0) (header_of : List ℕ → H) (encoding : H
    → List ℕ) (kept : List ℕ → List ℕ)
    → ((prefix : List ℕ) → IsHeader prefix → IsBytes prefix → encoding (header_of prefix) ≡ kept prefix)
    → (bytes prefix : List ℕ) (n : ℕ) (h : H) → TakesPrefix {E = E} IsHeader bytes (Ok prefix)
    → IsBytes bytes → length prefix ≡ n → h ≡ header_of prefix
    → IsReadAs IsHeader header_of encoding kept bytes h (take (length bytes - n) (drop n bytes))
is_read IsHeader header_of encoding kept encoded bytes prefix n h takes fits size fields =
    let rest = takes.found.1.0 in
    let position = takes.found.1.1 in
    record {
      prefix = prefix;
      header = takes.found.0;
      position = position ∙ ap (λ (xs : List ℕ). prefix ++ xs)
          (sym (rest_of n bytes prefix rest position size));
      fields = fields;
      again = ap encoding fields ∙ encoded prefix takes.found.0
          (prefix_fits bytes prefix rest position fits);
    }

pub only_read : {H E : Type 0} (IsHeader : List ℕ → Type 0) (header_of : List ℕ → H)
    (bytes taken : List ℕ) (n : ℕ) (h : H)
    → TakesPrefix {E = E} IsHeader bytes (Ok taken) → length taken ≡ n → h ≡ header_of taken
    → (prefix rest : List ℕ) → IsHeader prefix → bytes ≡ prefix ++ rest
    → (h ≡ header_of prefix) × (take (length bytes - n) (drop n bytes) ≡ rest)
only_read IsHeader header_of bytes taken n h takes size fields prefix rest is position =
    let same : taken ≡ prefix = ok_same taken prefix (takes.only prefix rest is position) in
    (fields ∙ ap header_of same, rest_of n bytes prefix rest position (ap length (sym same) ∙ size))
