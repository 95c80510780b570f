-- The records of multicast groups, step by step.
use Rattle.std.proofs.Common.{◌≡◌, ℕ, zero, suc, ◌+◌, ◌-◌, ◌<◌, ◌≤◌, [], List, ◌∷◌, ◌++◌}
use Rattle.std.proofs.Common.{length, take, drop, map, Option, Some, None, Result, Ok, Err, arith, sym, refl, ap, ◌∙◌, append_assoc, zero-add}
use Rattle.std.specs.Prelude.{⊤}
use Rattle.std.specs.Iterator.{item_count, MakesProgress}
use Rattle.std.specs.List.{All, concat}
use Rattle.std.proofs.lemmas.Bool.Decides.{nat_tests}
use Rattle.std.proofs.lemmas.List.{append-nil, length-take-le, take-append-drop, get_or-take, take_at, drop_at}
use Rattle.std.proofs.lemmas.List.{get_or_append_left, length-append}
use Rattle.std.proofs.lemmas.List.Elements.{All-cons, All-head, All-nil, All-tail}
use Rattle.ep_base.specs.Bytes.{num}
use Rattle.ep_icmp.specs.Multicast.{AreRecords, EndsAs, IsCutOff, IsRecord, NoOtherRecords, RecordsAreEncoded, RecordsLeft}
use Rattle.ep_icmp.specs.Multicast.{items_and, record_and, record_len, records_of, records_within, size_at}
use Rattle.ep_icmp.specs.declared.transport.multicast.multicast_error.GroupRecordError.{GroupRecordError}

abbrev pub Item : Type 0
Item = Result (List ℕ) GroupRecordError

abbrev pub left_of : List ℕ → ℕ → ℕ → RecordsLeft
left_of rest end count = record { rest = rest; end = end; count = count }

pub none_left : (n end count : ℕ) (bytes : List ℕ) → count ≡ 0
    → records_of n (left_of bytes end count) ≡ []
unfolding records_within
none_left n end zero bytes h = refl
none_left n end (suc count) bytes h = absurd (omega arith)

-- at a record and at a fault
pub step_ok : (n end count less size : ℕ) (bytes : List ℕ) → count ≡ less + 1
    → size_at n (end - length bytes) bytes ≡ Ok size
    → records_of n (left_of bytes end count)
    ≡ Ok (take size bytes) ∷ records_of n (left_of (drop size bytes) end less)
unfolding records_within
step_ok n end zero less size bytes one sized = absurd (omega arith)
step_ok n end (suc count) less size bytes one sized =
    let same : count ≡ less = omega arith in
    λ i. record_and (sized i) bytes (records_within n end (same i))

pub step_err : (n end count : ℕ) (f : GroupRecordError) (bytes rest : List ℕ) → 0 < count
    → size_at n (end - length bytes) bytes ≡ Err f
    → records_of n (left_of bytes end count) ≡ Err f ∷ records_of n (left_of rest end 0)
unfolding records_within
step_err n end zero f bytes rest some sized = absurd (omega arith)
step_err n end (suc count) f bytes rest some sized =
    ap (λ (r : Result ℕ GroupRecordError). record_and r bytes (records_within n end count)) sized

pub progress : (n : ℕ) (s t : RecordsLeft) (item : Item) → records_of n s ≡ item ∷ records_of n t
    → MakesProgress (λ (left : RecordsLeft). ⊤) (item_count (records_of n)) s (Some item) t
progress n s t item e = grind arith

-- ---- what is left is read as records

sized : (n offset size : ℕ) (bytes : List ℕ) → size_at n offset bytes ≡ Ok size
    → (size ≡ record_len n bytes) × (size ≤ length bytes)
sized n offset size bytes h = grind (arith, nat_tests)

is_record : (n offset size : ℕ) (bytes : List ℕ) → size_at n offset bytes ≡ Ok size
    → IsRecord n (take size bytes)
is_record n offset size bytes h =
    let e = sized n offset size bytes h in
    let first : num (take size bytes) 1 1 ≡ num bytes 1 1 = get_or-take size bytes 1 0 (omega arith) in
    let high : num (take size bytes) 2 1 ≡ num bytes 2 1 = get_or-take size bytes 2 0 (omega arith) in
    let low : num (take size bytes) 3 1 ≡ num bytes 3 1 = get_or-take size bytes 3 0 (omega arith) in
    let whole = length-take-le size bytes e.1 in
    record { prefix = omega arith; whole = rw (first, high, low) (whole ∙ e.0) }

is_cut_off : (n offset : ℕ) (f : GroupRecordError) (bytes : List ℕ) → size_at n offset bytes ≡ Err f
    → IsCutOff n offset bytes f
is_cut_off n offset f bytes h = grind (arith, nat_tests)

after : (n end count : ℕ) (bytes : List ℕ) (r : Result ℕ GroupRecordError)
    → size_at n (end - length bytes) bytes ≡ r
    → ((rest : List ℕ) → AreRecords n (left_of rest end count) (records_of n (left_of rest end count)))
    → AreRecords n (left_of bytes end (suc count)) (records_of n (left_of bytes end (suc count)))
after n end count bytes (Ok size) e more =
    let later = more (drop size bytes) in
    record {
      records = take size bytes ∷ later.records;
      fault = later.fault;
      rest = later.rest;
      more = later.more;
      each = All-cons (IsRecord n) (take size bytes) later.records
          (is_record n (end - length bytes) size bytes e) later.each;
      encoded = sym (take-append-drop size bytes)
          ∙ ap (λ (xs : List ℕ). take size bytes ++ xs) later.encoded
          ∙ sym (append_assoc (take size bytes) (concat later.records) later.rest);
      counted = omega (arith, later.counted);
      ends = later.ends;
      all = grind (arith, step_ok n end (suc count) count size bytes (omega arith) e, later.all);
    }
after n end count bytes (Err f) e more = record {
  records = [];
  fault = Some f;
  rest = bytes;
  more = suc count;
  each = All-nil (IsRecord n);
  encoded = refl;
  counted = omega arith;
  ends = (omega arith, is_cut_off n (end - length bytes) f bytes e);
  all = step_err n end (suc count) f bytes [] (omega arith) e
      ∙ ap (λ (xs : List Item). Err f ∷ xs) (none_left n end 0 [] refl);
}

encoded_within : (n end count : ℕ) (bytes : List ℕ)
    → AreRecords n (left_of bytes end count) (records_of n (left_of bytes end count))
encoded_within n end zero bytes = record {
  records = [];
  fault = None;
  rest = bytes;
  more = 0;
  each = All-nil (IsRecord n);
  encoded = refl;
  counted = refl;
  ends = refl;
  all = none_left n end 0 bytes refl;
}
encoded_within n end (suc count) bytes =
    after n end count bytes (size_at n (end - length bytes) bytes) refl
    (λ rest. encoded_within n end count rest)

pub records_encoded : RecordsAreEncoded
records_encoded n left = encoded_within n left.end left.count left.rest

-- ---- and in one way

size_with : (n offset : ℕ) (record' rest : List ℕ) → IsRecord n record'
    → size_at n offset (record' ++ rest) ≡ Ok (length record')
size_with n offset record' rest is =
    let first : num (record' ++ rest) 1 1 ≡ num record' 1 1 =
    get_or_append_left record' rest 0 1 (omega (arith, is.prefix)) in
    let high : num (record' ++ rest) 2 1 ≡ num record' 2 1 =
    get_or_append_left record' rest 0 2 (omega (arith, is.prefix)) in
    let low : num (record' ++ rest) 3 1 ≡ num record' 3 1 =
    get_or_append_left record' rest 0 3 (omega (arith, is.prefix)) in
    let len = length-append record' rest in
    grind (arith, nat_tests)

one_more : (n end count less : ℕ) (record' rest : List ℕ) → IsRecord n record' → count ≡ less + 1
    → records_of n (left_of (record' ++ rest) end count)
    ≡ Ok record' ∷ records_of n (left_of rest end less)
one_more n end count less record' rest is one =
    step_ok n end count less (length record') (record' ++ rest) one
    (size_with n (end - length (record' ++ rest)) record' rest is)
    ∙ rw (take_at record' rest (length record') refl, drop_at record' rest (length record') refl) refl

read_again : (n end more : ℕ) (records : List (List ℕ)) (rest : List ℕ) → All (IsRecord n) records
    → records_of n (left_of (concat records ++ rest) end (length records + more))
    ≡ map (λ x. Ok x) records ++ records_of n (left_of rest end more)
read_again n end more [] rest each =
    ap (λ (k : ℕ). records_of n (left_of rest end k)) (zero-add more)
read_again n end more (record' ∷ records) rest each =
    rw (append_assoc record' (concat records) rest)
    (one_more n end (length (record' ∷ records) + more) (length records + more) record'
    (concat records ++ rest) (All-head (IsRecord n) record' records each) (omega arith)
    ∙ ap (λ (xs : List Item). Ok record' ∷ xs)
    (read_again n end more records rest (All-tail (IsRecord n) record' records each)))

cut_size : (n offset : ℕ) (bytes : List ℕ) (f : GroupRecordError) → IsCutOff n offset bytes f
    → size_at n offset bytes ≡ Err f
cut_size n offset bytes f is = grind (arith, nat_tests)

ended : (n end more : ℕ) (fault : Option GroupRecordError) (rest : List ℕ)
    → EndsAs n (end - length rest) more fault rest → (records : List (List ℕ))
    → map (λ x. Ok x) records ++ records_of n (left_of rest end more) ≡ items_and records fault
ended n end more None rest ends records = rw (none_left n end more rest ends) (append-nil _)
ended n end more (Some f) rest ends records = rw (
  step_err n end more f rest [] ends.0 (cut_size n (end - length rest) rest f ends.1),
  none_left n end 0 [] refl,
) refl

pub no_other : NoOtherRecords
no_other n left items are =
    are.all ∙ sym ((λ i. records_of n (left_of (are.encoded i) left.end (are.counted i)))
    ∙ read_again n left.end are.more are.records are.rest are.each
    ∙ ended n left.end are.more are.fault are.rest are.ends are.records)
