-- The items of options, step by step.
use Rattle.std.proofs.lemmas.Bool.Decides.{nat_tests}
use Rattle.std.proofs.Common.{◌≡◌, ⊎_elim, ℕ, zero, suc, ◌-◌, ◌<◌, ◌≤◌, Bool, true, false, eqb, [], List, ◌∷◌, length}
use Rattle.std.proofs.Common.{take, drop, Result, Ok, Err, Some, arith, sym, refl, ap, ◌∙◌}
use Rattle.std.specs.Prelude.{⊤}
use Rattle.std.specs.Iterator.{item_count, MakesProgress}
use Rattle.std.proofs.lemmas.Bool.{cases_Bool}
use Rattle.std.proofs.lemmas.List.{length-drop, take_rest}
use Rattle.ep_base.specs.Bytes.{num}
use Rattle.ep_tcpudp.specs.Options.{kind_at, size_at, element_at, is_end, rest_after, items_within, items_of, rest_at}
use Rattle.ep_tcpudp.specs.declared.transport.tcp_option_element.TcpOptionElement.{TcpOptionElement}
use Rattle.ep_tcpudp.specs.declared.transport.tcp_option_read_error.TcpOptionReadError.{TcpOptionReadError}
use Rattle.ep_base.proofs.Cells.{nothing_after}

size_of : (bytes : List ℕ) → eqb (kind_at bytes) 1 ≡ false → 0 < num bytes 1 1 → 0 < size_at bytes
size_of bytes no_noop positive = rw no_noop positive

one_size : (bytes : List ℕ) → eqb (kind_at bytes) 1 ≡ true → 0 < size_at bytes
one_size bytes noop = rw noop (omega arith)

sized : (bytes : List ℕ) (size : ℕ) → eqb (kind_at bytes) 1 ≡ false → num bytes 1 1 ≡ size
    → 0 < size → 0 < size_at bytes
sized bytes size other is positive = size_of bytes other (rw is positive)

-- an element takes some bytes
pub element_size : (bytes : List ℕ) (x : TcpOptionElement)
    → element_at bytes ≡ Ok x → 0 < size_at bytes
element_size bytes x h = grind (arith, nat_tests)

-- not the end is some bytes
pub some_left : (bytes : List ℕ) → is_end bytes ≡ false → 0 < length bytes
some_left bytes h = grind arith

shorter : (r : Result TcpOptionElement TcpOptionReadError) (bytes : List ℕ) → r ≡ element_at bytes
    → 0 < length bytes → length (rest_after r bytes) < length bytes
shorter (Ok x) bytes e some = grind (arith, nat_tests, element_size, length-drop)
shorter (Err f) bytes e some = some

within_end : (n : ℕ) (bytes : List ℕ) → is_end bytes ≡ true → items_within n bytes ≡ []
unfolding items_within
within_end n bytes e = grind arith

empty_end : (bytes : List ℕ) → length bytes ≤ 0 → is_end bytes ≡ true
empty_end bytes h = grind arith

-- however many steps there may be, if they are enough
within_enough : (n m : ℕ) (bytes : List ℕ) → length bytes ≤ n → length bytes ≤ m
    → items_within n bytes ≡ items_within m bytes
unfolding items_within
within_enough zero m bytes p q = sym (within_end m bytes (empty_end bytes p))
within_enough (suc n) zero bytes p q = within_end (suc n) bytes (empty_end bytes q)
within_enough (suc n) (suc m) bytes p q =
    ⊎_elim
    (λ (ends : is_end bytes ≡ true). rw ends refl)
    (λ (goes : is_end bytes ≡ false).
    let less = shorter (element_at bytes) bytes refl (some_left bytes goes) in
    rw goes (ap (λ (xs : List (Result TcpOptionElement TcpOptionReadError)). element_at bytes ∷ xs)
    (within_enough n m (rest_after (element_at bytes) bytes) (omega arith) (omega arith))))
    (cases_Bool (is_end bytes))

-- no items are left at the end
pub items-end : (bytes : List ℕ) → is_end bytes ≡ true → items_of bytes ≡ []
items-end bytes ends = within_end (length bytes) bytes ends

within_step : (n : ℕ) (bytes : List ℕ) → length bytes ≡ suc n → is_end bytes ≡ false
    → items_within (suc n) bytes ≡ element_at bytes ∷ items_of (rest_after (element_at bytes) bytes)
unfolding items_within
within_step n bytes size goes = grind (arith, shorter, some_left, within_enough)

-- the first item, and those of what is left
pub items-step : (bytes : List ℕ) → is_end bytes ≡ false
    → items_of bytes ≡ element_at bytes ∷ items_of (rest_after (element_at bytes) bytes)
items-step bytes goes = grind (arith, nat_tests, some_left, within_step)

pub items-none : items_of [] ≡ []
items-none = items-end [] refl

pub none_after : (xs : List ℕ) → items_of (take (length xs - length xs) (drop (length xs) xs)) ≡ []
none_after xs = ap items_of (nothing_after xs) ∙ items-none

-- what the code does at an element and at a fault
pub step_ok : (bytes xs : List ℕ) (element : TcpOptionElement) (size : ℕ) (ends : Bool) → xs ≡ bytes
    → ends ≡ is_end xs → ends ≡ false
    → Ok element ≡ element_at xs → size ≡ size_at xs
    → items_of bytes ≡ Ok element ∷ items_of (take (length xs - size) (drop size xs))
step_ok bytes xs element size ends view is goes item sizes = grind (arith, items-step, take_rest)

pub step_err : (bytes xs : List ℕ) (fault : TcpOptionReadError) (ends : Bool) → xs ≡ bytes
    → ends ≡ is_end xs → ends ≡ false
    → Err fault ≡ element_at xs → items_of bytes ≡ Err fault ∷
    items_of (take (length xs - length xs) (drop (length xs) xs))
step_err bytes xs fault ends view is goes item = grind (arith, items-step, items-none, none_after)

pub rest_ok : (bytes xs : List ℕ) (element : TcpOptionElement) (size : ℕ) (ends : Bool) → xs ≡ bytes
    → ends ≡ is_end xs → ends ≡ false
    → Ok element ≡ element_at xs → size ≡ size_at xs
    → take (length xs - size) (drop size xs) ≡ rest_at bytes
rest_ok bytes xs element size ends view is goes item sizes = grind (arith, take_rest)

-- an item makes progress
pub progress : (s t : List ℕ) (item : Result TcpOptionElement TcpOptionReadError)
    → items_of s ≡ item ∷ items_of t
    → MakesProgress (λ (bytes : List ℕ). ⊤) (item_count items_of) s (Some item) t
progress s t item e = grind arith
