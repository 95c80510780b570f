-- The options of neighbor discovery that are left in a part of bytes.
use Rattle.std.proofs.Common.{◌≡◌, ◌∙◌, sym, ap, subst, refl, ⊎_elim, ℕ, zero, suc, ◌+◌, ◌-◌, ◌≤◌, ◌==◌, Bool, true, false}
use Rattle.std.proofs.Common.{List, [], ◌∷◌, length, take, drop, Option, Some, None, Result, Ok, Err, IfSome, arith, eqb}
use Rattle.std.specs.Prelude.{if◌then◌else◌}
use Rattle.std.specs.Iterator.{YieldsFirst}
use Rattle.std.proofs.lemmas.Bool.Decides.{nat_tests}
use Rattle.std.proofs.lemmas.Bool.{cases_Bool}
use Rattle.std.proofs.lemmas.List.{drop_all, get_or-take, length-drop, length-take-le, take_all}
use Rattle.etherparse.specs.base.Bytes.{num}
use Rattle.etherparse.specs.icmp.NdpOptions.{IsOption, item_at, items_of, items_within, left_after, option_of}
use Rattle.etherparse.specs.icmp.NdpOptions.{option_of_kind, option_or_fault, rest_after, size_at}
use Rattle.etherparse.specs.icmp.declared.transport.icmpv6.ndp.ndp_option.NdpOption.{NdpOption}
use Rattle.etherparse.specs.icmp.declared.transport.icmpv6.ndp.ndp_option_error.NdpOptionError.{NdpOptionError}
use Rattle.ep_icmp.proofs.NdpItems.{items-end, left_of, sized, step_err, step_ok}
use Rattle.etherparse_structs.specs.NdpOption.{carried_bytes, carried_in, fault_struct, item_len, item_struct, left_in, ndp_options_left}
use Rattle.etherparse_structs.specs.NdpOption.{option_len, option_struct, option_struct_in, some_ndp_option, structs_from}
use Rattle.etherparse_structs.specs.Part.{part_after, part_at, part_bytes}
use Rattle.etherparse_structs.specs.declared.ndp_option.EpNdpOption.{EpNdpOption}
use Rattle.etherparse_structs.specs.declared.part.EpPart.{EpPart}
use Rattle.etherparse_structs.proofs.OptionLemmas.{after_first, inner_part, part_most}

abbrev Item : Type 0
Item = Result NdpOption NdpOptionError

-- ---- the sizes of options

option_size : (bytes : List ℕ) → IsOption bytes → option_len (option_of bytes) ≡ length bytes
option_size bytes is =
    let two = length-drop 2 bytes in
    let eight = length-drop 8 bytes in
    grind (arith, nat_tests, is.some, is.whole, two, eight)

taken_size : (offset n : ℕ) (bytes : List ℕ) → size_at offset bytes ≡ Ok n
    → option_len (option_of (take n bytes)) ≡ n
taken_size offset n bytes h =
    let size = sized offset n bytes h in
    let second : num (take n bytes) 1 1 ≡ num bytes 1 1 = get_or-take n bytes 1 0 (omega arith) in
    let whole = length-take-le n bytes size.2 in
    option_size (take n bytes) (record { some = rw second (omega arith); whole = rw second (omega arith) })
    ∙ whole

most_by : (r : Result ℕ NdpOptionError) (offset : ℕ) (bytes : List ℕ) → size_at offset bytes ≡ r
    → (item_len (option_or_fault r bytes) ≤ length bytes) × (length (rest_after r bytes) ≤ length bytes)
most_by (Ok n) offset bytes h =
    let fits = sized offset n bytes h in
    let size = taken_size offset n bytes h in
    (omega (arith, fits.2, size), omega (arith, length-drop n bytes))
most_by (Err f) offset bytes h = grind arith

pub item_most : (bytes : List ℕ) (item : Option Item)
    → item ≡ item_at (record { rest = bytes; end = length bytes })
    → IfSome item (λ i. item_len i ≤ length bytes)
item_most bytes item is =
    let most = most_by (size_at (length bytes - length bytes) bytes) (length bytes - length bytes) bytes refl in
    rw is (grind (arith, most))

pub rest_most : (bytes : List ℕ)
    → length (left_after (record { rest = bytes; end = length bytes })).rest ≤ length bytes
rest_most bytes =
    (most_by (size_at (length bytes - length bytes) bytes) (length bytes - length bytes) bytes refl).1

-- ---- what is read doesn't depend on the offset that a fault names

abbrev Alike : Result ℕ NdpOptionError → Result ℕ NdpOptionError → Type 0
Alike (Ok n) (Ok m) = n ≡ m
Alike (Err f) (Err g) = (place : ℕ) → fault_struct place f ≡ fault_struct place g
Alike (Ok n) (Err g) = ⊥
Alike (Err f) (Ok m) = ⊥

sizes_alike : (o o' : ℕ) (bytes : List ℕ) → Alike (size_at o bytes) (size_at o' bytes)
sizes_alike o o' bytes = grind (arith, nat_tests)

none_within : (n end : ℕ) → items_within n (left_of [] end) ≡ []
unfolding items_within
none_within zero end = refl
none_within (suc n) end = refl

fault_len : (f : NdpOptionError) → item_len (Err f) ≡ 0
fault_len f = grind arith

-- the structs of a step
abbrev stepped : ℕ → ℕ → ℕ → List ℕ → Result ℕ NdpOptionError → List EpNdpOption
stepped n end place bytes r =
    structs_from place (option_or_fault r bytes ∷ items_within n (left_of (rest_after r bytes) end))

step_alike : (n end end' place : ℕ) (bytes : List ℕ) (r r' : Result ℕ NdpOptionError) → Alike r r'
    → ((rest : List ℕ) (from : ℕ) → structs_from from (items_within n (left_of rest end))
    ≡ structs_from from (items_within n (left_of rest end')))
    → stepped n end place bytes r ≡ stepped n end' place bytes r'
step_alike n end end' place bytes (Ok k) (Ok m) alike later =
    subst (λ (j : ℕ). stepped n end place bytes (Ok k) ≡ stepped n end' place bytes (Ok j)) alike
    (ap (λ (xs : List EpNdpOption). option_struct place (option_of (take k bytes)) ∷ xs)
    (later (drop k bytes) (place + item_len (Ok (option_of (take k bytes))))))
step_alike n end end' place bytes (Err f) (Err g) alike later =
    rw (none_within n end, none_within n end')
    (ap (λ (x : EpNdpOption). x ∷ []) (alike place))
step_alike n end end' place bytes (Ok k) (Err g) alike later = absurd alike
step_alike n end end' place bytes (Err f) (Ok m) alike later = absurd alike

end_free : (n end end' place : ℕ) (bytes : List ℕ)
    → structs_from place (items_within n (left_of bytes end))
    ≡ structs_from place (items_within n (left_of bytes end'))
unfolding items_within
end_free zero end end' place bytes = refl
end_free (suc n) end end' place bytes =
    ⊎_elim (λ (ends : eqb (length bytes) 0 ≡ true). rw ends refl)
    (λ (goes : eqb (length bytes) 0 ≡ false).
    rw goes (step_alike n end end' place bytes (size_at (end - length bytes) bytes)
    (size_at (end' - length bytes) bytes)
    (sizes_alike (end - length bytes) (end' - length bytes) bytes)
    (λ rest from. end_free n end end' from rest)))
    (cases_Bool (eqb (length bytes) 0))

-- ---- the option that a step returns is the first of those that were left

-- the options of these bytes, from an offset on
abbrev from_start : ℕ → List ℕ → List EpNdpOption
from_start place bytes = structs_from place (items_of (left_of bytes (length bytes)))

-- a struct that is one
is_some : (place : ℕ) (item : Item) → some_ndp_option (item_struct place item) ≡ Some (item_struct place item)
is_some place item = grind arith

step_by : (bytes : List ℕ) (place : ℕ) (r : Result ℕ NdpOptionError)
    → size_at (length bytes - length bytes) bytes ≡ r → eqb (length bytes) 0 ≡ false
    → from_start place bytes ≡ item_struct place (option_or_fault r bytes)
    ∷ from_start (place + (length bytes - length (rest_after r bytes))) (rest_after r bytes)
step_by bytes place (Ok n) h goes =
    let fits = sized (length bytes - length bytes) n bytes h in
    let taken : item_len (Ok (option_of (take n bytes))) ≡ length bytes - length (drop n bytes) =
    taken_size (length bytes - length bytes) n bytes h ∙ omega (arith, fits.2, length-drop n bytes) in
    ap (structs_from place) (step_ok (length bytes) n bytes goes h)
    ∙ ap (λ (xs : List EpNdpOption). item_struct place (Ok (option_of (take n bytes))) ∷ xs)
    (end_free (length (drop n bytes)) (length bytes) (length (drop n bytes))
    (place + item_len (Ok (option_of (take n bytes)))) (drop n bytes)
    ∙ ap (λ (k : ℕ). from_start (place + k) (drop n bytes)) taken)
step_by bytes place (Err f) h goes =
    ap (structs_from place) (step_err (length bytes) f bytes goes h)
    ∙ rw (items-end (left_of [] (length bytes)) refl, items-end (left_of [] 0) refl) refl

-- where the part moves on, its bytes are the rest
moved_to : (bytes : List ℕ) (left after : EpPart) (rest : List ℕ)
    → rest ≡ drop (length (part_bytes bytes left) - length rest) (part_bytes bytes left)
    → after ≡ part_after (length (part_bytes bytes left) - length rest) left
    → part_bytes bytes after ≡ rest
moved_to bytes left after rest suffix moved =
    ap (part_bytes bytes) moved
    ∙ after_first bytes left (length (part_bytes bytes left) - length rest)
    (omega (arith, part_most bytes left))
    ∙ sym suffix

suffix_by : (r : Result ℕ NdpOptionError) (offset : ℕ) (bytes : List ℕ) → size_at offset bytes ≡ r
    → rest_after r bytes ≡ drop (length bytes - length (rest_after r bytes)) bytes
suffix_by (Ok n) offset bytes h =
    let fits = sized offset n bytes h in
    ap (λ (k : ℕ). drop k bytes) (omega (arith, fits.2, length-drop n bytes))
suffix_by (Err f) offset bytes h = sym (drop_all (length bytes - 0) bytes (omega arith))

-- nothing is left at the end
rest_none : (offset : ℕ) (bytes : List ℕ) → eqb (length bytes) 0 ≡ true
    → rest_after (size_at offset bytes) bytes ≡ []
rest_none offset bytes ends = grind (arith, nat_tests)

none_case : (bytes : List ℕ) (left after : EpPart)
    → eqb (length (part_bytes bytes left)) 0 ≡ true → part_bytes bytes after ≡ []
    → YieldsFirst (ndp_options_left bytes) left
    (some_ndp_option (option_struct_in left.offset (item_at (left_in bytes left)))) after
none_case bytes left after ends is =
    let none : eqb (length (part_bytes bytes after)) 0 ≡ true = rw is refl in
    rw ends (
      ap (structs_from left.offset) (items-end (left_in bytes left) ends),
      ap (structs_from after.offset) (items-end (left_in bytes after) none),
    )

abbrev size_here : List ℕ → Result ℕ NdpOptionError
size_here bytes = size_at (length bytes - length bytes) bytes

some_case : (bytes : List ℕ) (left after : EpPart)
    → eqb (length (part_bytes bytes left)) 0 ≡ false
    → part_bytes bytes after ≡ rest_after (size_here (part_bytes bytes left)) (part_bytes bytes left)
    → after.offset ≡ left.offset + (length (part_bytes bytes left)
    - length (rest_after (size_here (part_bytes bytes left)) (part_bytes bytes left)))
    → YieldsFirst (ndp_options_left bytes) left
    (some_ndp_option (option_struct_in left.offset (item_at (left_in bytes left)))) after
some_case bytes left after goes is at =
    let here = part_bytes bytes left in
    let item = option_or_fault (size_here here) here in
    let x = item_struct left.offset item in
    rw goes (subst (λ (o : Option EpNdpOption). YieldsFirst (ndp_options_left bytes) left o after)
    (sym (is_some left.offset item))
    (step_by here left.offset (size_here here) refl goes
    ∙ ap (λ (k : ℕ). x ∷ from_start k (rest_after (size_here here) here)) (sym at)
    ∙ ap (λ (xs : List ℕ). x ∷ from_start after.offset xs) (sym is)))

pub option_is_first : (bytes : List ℕ) (left after : EpPart) (option : EpNdpOption)
    → option ≡ option_struct_in left.offset (item_at (left_in bytes left))
    → after ≡ part_after (length (part_bytes bytes left) - length (left_after (left_in bytes left)).rest) left
    → YieldsFirst (ndp_options_left bytes) left (some_ndp_option option) after
option_is_first bytes left after option same moved =
    let here = part_bytes bytes left in
    let none = length here - length here in
    let is : part_bytes bytes after ≡ rest_after (size_here here) here =
    moved_to bytes left after (rest_after (size_here here) here)
    (suffix_by (size_here here) none here refl) moved in
    let at : after.offset ≡ left.offset + (length here - length (rest_after (size_here here) here)) =
    ap (λ (p : EpPart). p.offset) moved in
    rw same (⊎_elim
    (λ (ends : eqb (length here) 0 ≡ true). none_case bytes left after ends (is ∙ rest_none none here ends))
    (λ (goes : eqb (length here) 0 ≡ false). some_case bytes left after goes is at)
    (cases_Bool (eqb (length here) 0)))

-- ---- what an option carries

-- what follows the first bytes of an option is where it is
follows : (bytes : List ℕ) (part : EpPart) (from size : ℕ) → from ≤ size
    → size ≤ length (part_bytes bytes part)
    → part_bytes bytes (part_at (part.offset + from) (drop from (take size (part_bytes bytes part))))
    ≡ drop from (take size (part_bytes bytes part))
follows bytes part from size fits most =
    let option = take size (part_bytes bytes part) in
    let long : length option ≡ size = length-take-le size (part_bytes bytes part) most in
    let all : take (size - from) (drop from option) ≡ drop from option =
    take_all (size - from) (drop from option) (omega (arith, long, length-drop from option)) in
    subst (λ (xs : List ℕ). part_bytes bytes (part_at (part.offset + from) xs) ≡ xs) all
    (inner_part bytes part from (size - from) size (omega (arith, fits)) most)

abbrev IsCarried : List ℕ → ℕ → NdpOption → Type 0
IsCarried bytes place x = part_bytes bytes (option_struct place x).carried ≡ carried_bytes x

option_carried : (bytes option : List ℕ) (place kind units : ℕ)
    → part_bytes bytes (part_at (place + 2) (drop 2 option)) ≡ drop 2 option
    → part_bytes bytes (part_at (place + 8) (drop 8 option)) ≡ drop 8 option
    → IsCarried bytes place (option_of_kind kind units option)
option_carried bytes option place kind units two eight = grind (arith, nat_tests, two, eight)

carried_by : (bytes : List ℕ) (left : EpPart) (r : Result ℕ NdpOptionError)
    → size_here (part_bytes bytes left) ≡ r
    → part_bytes bytes (item_struct left.offset (option_or_fault r (part_bytes bytes left))).carried
    ≡ carried_in (Some (option_or_fault r (part_bytes bytes left)))
carried_by bytes left (Ok n) h =
    let here = part_bytes bytes left in
    let fits = sized (length here - length here) n here h in
    option_carried bytes (take n here) left.offset (num (take n here) 0 1) (num (take n here) 1 1)
    (follows bytes left 2 n (omega (arith, fits)) fits.2)
    (follows bytes left 8 n (omega (arith, fits)) fits.2)
carried_by bytes left (Err f) h = grind arith

carried_case : (bytes : List ℕ) (left : EpPart) (ends : Bool) (item : Item)
    → part_bytes bytes (item_struct left.offset item).carried ≡ carried_in (Some item)
    → part_bytes bytes (option_struct_in left.offset (if ends then None else Some item)).carried
    ≡ carried_in (if ends then None else Some item)
carried_case bytes left true item is = refl
carried_case bytes left false item is = is

pub bytes_carried : (bytes : List ℕ) (left : EpPart) (option : EpNdpOption)
    → option ≡ option_struct_in left.offset (item_at (left_in bytes left))
    → part_bytes bytes option.carried ≡ carried_in (item_at (left_in bytes left))
bytes_carried bytes left option same =
    let here = part_bytes bytes left in
    rw same (carried_case bytes left (length here == 0) (option_or_fault (size_here here) here)
    (carried_by bytes left (size_here here) refl))
