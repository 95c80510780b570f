-- The items of options of neighbor discovery, step by step.
use Rattle.std.proofs.Common.{◌≡◌, ⊎_elim, ℕ, zero, suc, ◌-◌, ◌<◌, ◌≤◌, true, false, eqb, [], List, ◌∷◌}
use Rattle.std.proofs.Common.{◌++◌, length, take, drop, map, Option, Some, None, Result, Ok, Err, arith, sym, refl, ap, ◌∙◌, append_assoc}
use Rattle.std.specs.Prelude.{⊤}
use Rattle.std.specs.Iterator.{item_count, MakesProgress}
use Rattle.std.specs.List.{All, concat}
use Rattle.std.proofs.lemmas.Bool.Decides.{nat_tests}
use Rattle.std.proofs.lemmas.Bool.{cases_Bool}
use Rattle.std.proofs.lemmas.List.{append-nil, length-drop, length-take-le, take-append-drop, get_or-take}
use Rattle.std.proofs.lemmas.List.{take_at, drop_at, get_or_append_left, length-append}
use Rattle.std.proofs.lemmas.List.Elements.{All-cons, All-head, All-nil, All-tail}
use Rattle.ep_base.specs.Bytes.{num}
use Rattle.ep_icmp.specs.NdpOptions.{AreItems, EndsAs, IsFault, IsOption, ItemsAreEncoded, Left, NoOtherItems, is_end}
use Rattle.ep_icmp.specs.NdpOptions.{option_or_fault, items_and, items_of, items_within, left_after, offset_of, option_at, option_of}
use Rattle.ep_icmp.specs.NdpOptions.{rest_after, size_at, size_of}
use Rattle.ep_icmp.specs.declared.transport.icmpv6.ndp.ndp_option.NdpOption.{NdpOption}
use Rattle.ep_icmp.specs.declared.transport.icmpv6.ndp.ndp_option_error.NdpOptionError.{NdpOptionError}
use Rattle.ep_icmp.specs.declared.transport.icmpv6.ndp.ndp_option_error.NdpOptionError.TheVariants as fault

abbrev pub Item : Type 0
Item = Result NdpOption NdpOptionError

-- an option that is read: its size, which is among the bytes
pub sized : (offset n : ℕ) (bytes : List ℕ) → size_at offset bytes ≡ Ok n
    → (n ≡ size_of bytes) × (0 < n) × (n ≤ length bytes) × (2 ≤ length bytes)
sized offset n bytes h = grind (arith, nat_tests)

shorter : (r : Result ℕ NdpOptionError) (offset : ℕ) (bytes : List ℕ) → r ≡ size_at offset bytes
    → 0 < length bytes → length (rest_after r bytes) < length bytes
shorter (Ok n) offset bytes e some = omega (arith, sized offset n bytes (sym e), length-drop n bytes)
shorter (Err f) offset bytes e some = some

less_left : (left : Left) → is_end left ≡ false
    → length (left_after left).rest < length left.rest
less_left left goes =
    shorter (size_at (offset_of left) left.rest) (offset_of left) left.rest refl
    (grind (arith, nat_tests))

within_end : (n : ℕ) (left : Left) → is_end left ≡ true → items_within n left ≡ []
unfolding items_within
within_end n left e = grind arith

empty_end : (left : Left) → length left.rest ≤ 0 → is_end left ≡ true
empty_end left h = grind (arith, nat_tests)

-- however many steps there may be, if they are enough
within_enough : (n m : ℕ) (left : Left) → length left.rest ≤ n → length left.rest ≤ m
    → items_within n left ≡ items_within m left
unfolding items_within
within_enough zero m left p q = sym (within_end m left (empty_end left p))
within_enough (suc n) zero left p q = within_end (suc n) left (empty_end left q)
within_enough (suc n) (suc m) left p q =
    ⊎_elim
    (λ (ends : is_end left ≡ true). rw ends refl)
    (λ (goes : is_end left ≡ false).
    let less = less_left left goes in
    rw goes (ap (λ (xs : List Item). option_at left ∷ xs)
    (within_enough n m (left_after left) (omega arith) (omega arith))))
    (cases_Bool (is_end left))

-- no items are left at the end
pub items-end : (left : Left) → is_end left ≡ true → items_of left ≡ []
items-end left ends = within_end (length left.rest) left ends

within_step : (n : ℕ) (left : Left) → length left.rest ≡ suc n → is_end left ≡ false
    → items_within (suc n) left ≡ option_at left ∷ items_of (left_after left)
unfolding items_within
within_step n left size goes =
    let less = less_left left goes in
    rw goes (ap (λ (xs : List Item). option_at left ∷ xs)
    (within_enough n (length (left_after left).rest) (left_after left) (omega arith) (omega arith)))

step_from : (k : ℕ) (left : Left) → length left.rest ≡ k → is_end left ≡ false
    → items_within k left ≡ option_at left ∷ items_of (left_after left)
step_from zero left size goes = absurd (cc (empty_end left (omega arith), goes))
step_from (suc n) left size goes = within_step n left size goes

-- the first item, and those of what is left
pub items-step : (left : Left) → is_end left ≡ false
    → items_of left ≡ option_at left ∷ items_of (left_after left)
items-step left goes = step_from (length left.rest) left refl goes

abbrev pub left_of : List ℕ → ℕ → Left
left_of rest end = record { rest = rest; end = end }

-- at an option and at a fault
pub step_ok : (end size : ℕ) (bytes : List ℕ) → eqb (length bytes) 0 ≡ false
    → size_at (end - length bytes) bytes ≡ Ok size
    → items_of (left_of bytes end)
    ≡ Ok (option_of (take size bytes)) ∷ items_of (left_of (drop size bytes) end)
step_ok end size bytes goes sized =
    items-step (left_of bytes end) goes
    ∙ (λ i. option_or_fault (sized i) bytes ∷ items_of (left_of (rest_after (sized i) bytes) end))

pub step_err : (end : ℕ) (f : NdpOptionError) (bytes : List ℕ) → eqb (length bytes) 0 ≡ false
    → size_at (end - length bytes) bytes ≡ Err f
    → items_of (left_of bytes end) ≡ Err f ∷ items_of (left_of [] end)
step_err end f bytes goes sized =
    items-step (left_of bytes end) goes
    ∙ (λ i. option_or_fault (sized i) bytes ∷ items_of (left_of (rest_after (sized i) bytes) end))

-- an item makes progress
pub progress : (s t : Left) (item : Item) → items_of s ≡ item ∷ items_of t
    → MakesProgress (λ (left : Left). ⊤) (item_count items_of) s (Some item) t
progress s t item e = grind arith

-- ---- each list is encoded

none_encoded : (left : Left) → is_end left ≡ true → AreItems left (items_of left)
none_encoded left h = record {
  options = [];
  faulty = None;
  rest = left.rest;
  each = All-nil IsOption;
  encoded = refl;
  ends = grind (arith, nat_tests);
  all = items-end left h;
}

is_fault : (offset : ℕ) (bytes : List ℕ) (f : NdpOptionError) → size_at offset bytes ≡ Err f
    → IsFault offset bytes f
is_fault offset bytes f h = grind (arith, nat_tests)

is_option : (offset n : ℕ) (bytes : List ℕ) → size_at offset bytes ≡ Ok n → IsOption (take n bytes)
is_option offset n bytes h =
    let size = sized offset n bytes h in
    let second : num (take n bytes) 1 1 ≡ num bytes 1 1 = get_or-take n bytes 1 0 (omega arith) in
    let whole = length-take-le n bytes size.2 in
    record { some = rw second (omega arith); whole = rw second (omega arith) }

one_encoded : (end : ℕ) (bytes : List ℕ) (r : Result ℕ NdpOptionError)
    → size_at (end - length bytes) bytes ≡ r → eqb (length bytes) 0 ≡ false
    → ((n : ℕ) → r ≡ Ok n → AreItems (left_of (drop n bytes) end) (items_of (left_of (drop n bytes) end)))
    → AreItems (left_of bytes end) (items_of (left_of bytes end))
one_encoded end bytes (Ok n) e goes more =
    let later = more n refl in
    record {
      options = take n bytes ∷ later.options;
      faulty = later.faulty;
      rest = later.rest;
      each = All-cons IsOption (take n bytes) later.options (is_option (end - length bytes) n bytes e)
          later.each;
      encoded = sym (take-append-drop n bytes)
          ∙ rw (later.encoded) (sym (append_assoc (take n bytes) (concat later.options) later.rest));
      ends = later.ends;
      all = grind (arith, step_ok end n bytes goes e, later.all);
    }
one_encoded end bytes (Err f) e goes more = record {
  options = [];
  faulty = Some f;
  rest = bytes;
  each = All-nil IsOption;
  encoded = refl;
  ends = (grind (arith, nat_tests), is_fault (end - length bytes) bytes f e);
  all = step_err end f bytes goes e ∙ ap (λ (xs : List Item). Err f ∷ xs) (items-end (left_of [] end) refl);
}

encoded_within : (n end : ℕ) (bytes : List ℕ) → length bytes ≤ n
    → AreItems (left_of bytes end) (items_of (left_of bytes end))
encoded_within zero end bytes h = none_encoded (left_of bytes end) (empty_end (left_of bytes end) h)
encoded_within (suc n) end bytes h =
    ⊎_elim (λ (ends : eqb (length bytes) 0 ≡ true). none_encoded (left_of bytes end) ends)
    (λ (goes : eqb (length bytes) 0 ≡ false).
    one_encoded end bytes (size_at (end - length bytes) bytes) refl goes
    (λ k e. encoded_within n end (drop k bytes)
    (omega (arith, sized (end - length bytes) k bytes e, length-drop k bytes))))
    (cases_Bool (eqb (length bytes) 0))

pub items_encoded : ItemsAreEncoded
items_encoded left = encoded_within (length left.rest) left.end left.rest (omega arith)

-- ---- and in one way

-- an option with what follows it
size_with : (offset : ℕ) (option rest : List ℕ) → IsOption option
    → size_at offset (option ++ rest) ≡ Ok (length option)
size_with offset option rest is =
    let second : num (option ++ rest) 1 1 ≡ num option 1 1 =
    get_or_append_left option rest 0 1 (omega (arith, is.some, is.whole)) in
    let len = length-append option rest in
    grind (arith, nat_tests)

not_empty : (option rest : List ℕ) → IsOption option → eqb (length (option ++ rest)) 0 ≡ false
not_empty option rest is = grind (arith, nat_tests, length-append)

one_more : (end : ℕ) (option rest : List ℕ) → IsOption option
    → items_of (left_of (option ++ rest) end) ≡ Ok (option_of option) ∷ items_of (left_of rest end)
one_more end option rest is =
    step_ok end (length option) (option ++ rest) (not_empty option rest is)
    (size_with (end - length (option ++ rest)) option rest is)
    ∙ rw (take_at option rest (length option) refl, drop_at option rest (length option) refl) refl

read_again : (end : ℕ) (options : List (List ℕ)) (rest : List ℕ) → All IsOption options
    → items_of (left_of (concat options ++ rest) end)
    ≡ map (λ x. Ok x) (map option_of options) ++ items_of (left_of rest end)
read_again end [] rest each = refl
read_again end (option ∷ options) rest each =
    rw (append_assoc option (concat options) rest)
    (one_more end option (concat options ++ rest) (All-head IsOption option options each)
    ∙ ap (λ (xs : List Item). Ok (option_of option) ∷ xs) (read_again end options rest (All-tail IsOption option options each)))

fault_size : (offset : ℕ) (bytes : List ℕ) (f : NdpOptionError) → IsFault offset bytes f
    → size_at offset bytes ≡ Err f
fault_size offset bytes (fault.UnexpectedEnd named needed left) is = grind (arith, nat_tests)
fault_size offset bytes (fault.ZeroLength named) is = grind (arith, nat_tests)

ended : (end : ℕ) (faulty : Option NdpOptionError) (rest : List ℕ)
    → EndsAs (end - length rest) faulty rest → (options : List NdpOption)
    → map (λ x. Ok x) options ++ items_of (left_of rest end) ≡ items_and options faulty
ended end None rest ends options =
    rw (items-end (left_of rest end) (grind (arith, nat_tests))) (append-nil _)
ended end (Some f) rest ends options =
    rw (
      step_err end f rest (grind (arith, nat_tests)) (fault_size (end - length rest) rest f ends.1),
      items-end (left_of [] end) refl,
    ) refl

pub no_other : NoOtherItems
no_other left items are =
    are.all ∙ sym (ap (λ (xs : List ℕ). items_of (left_of xs left.end)) are.encoded
    ∙ read_again left.end are.options are.rest are.each
    ∙ ended left.end are.faulty are.rest are.ends (map option_of are.options))
