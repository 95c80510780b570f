-- The records of multicast groups that are left in a part of bytes.
use Rattle.std.proofs.Common.{◌≡◌, ◌∙◌, sym, ap, subst, refl, ℕ, zero, suc, ◌+◌, ◌-◌, ◌≤◌, ◌==◌, Bool, true, false}
use Rattle.std.proofs.Common.{List, [], ◌∷◌, length, take, drop, Option, Some, None, Result, Ok, Err, arith}
use Rattle.std.specs.Iterator.{YieldsFirst}
use Rattle.std.specs.Prelude.{if◌then◌else◌}
use Rattle.std.proofs.lemmas.Bool.Decides.{nat_tests}
use Rattle.std.proofs.lemmas.List.{get_or-take, length-take-le, take-take}
use Rattle.etherparse.specs.base.Bytes.{num}
use Rattle.etherparse.specs.icmp.Multicast.{record_and, record_len, records_within, size_at, sources_end, sources_of}
use Rattle.etherparse.specs.icmp.declared.transport.multicast.multicast_error.GroupRecordError.{GroupRecordError}
use Rattle.etherparse_structs.specs.GroupRecord.{address_len, after_size, cut_struct, first_record, group_records_left, group_struct}
use Rattle.etherparse_structs.specs.GroupRecord.{group_structs, no_group_record, record_of_size, record_struct, records_after}
use Rattle.etherparse_structs.specs.GroupRecord.{some_group_record, struct_of_first}
use Rattle.etherparse_structs.specs.Part.{part_after, part_bytes}
use Rattle.etherparse_structs.specs.declared.group_record.EpGroupRecord.{EpGroupRecord}
use Rattle.etherparse_structs.specs.declared.group_record.EpGroupRecords.{EpGroupRecords}
use Rattle.etherparse_structs.specs.declared.part.EpPart.{EpPart}
use Rattle.etherparse_structs.proofs.OptionLemmas.{after_first, inner_part, part_most}

abbrev Size : Type 0
Size = Result ℕ GroupRecordError

abbrev Item : Type 0
Item = Result (List ℕ) GroupRecordError

size_most : (n offset size : ℕ) (bytes : List ℕ) → size_at n offset bytes ≡ Ok size → size ≤ length bytes
size_most n offset size bytes h = grind (arith, nat_tests)

-- ---- what is read doesn't depend on the offset that a fault names

abbrev Alike : Size → Size → Type 0
Alike (Ok n) (Ok m) = n ≡ m
Alike (Err f) (Err g) = (f.needed_len ≡ g.needed_len) × (f.actual_len ≡ g.actual_len)
Alike (Ok n) (Err g) = ⊥
Alike (Err f) (Ok m) = ⊥

sizes_alike : (n o o' : ℕ) (bytes : List ℕ) → Alike (size_at n o bytes) (size_at n o' bytes)
sizes_alike n o o' bytes = grind (arith, nat_tests)

-- the structs of records within some bytes
abbrev within : Bool → ℕ → ℕ → ℕ → List ℕ → List EpGroupRecord
within v place end count bytes =
    group_structs place v (records_within (address_len v) end count bytes)

-- those of a record of this size and of the rest
abbrev stepped : Bool → ℕ → ℕ → ℕ → List ℕ → Size → List EpGroupRecord
stepped v place end count bytes r =
    group_structs place v (record_and r bytes (records_within (address_len v) end count))

step_alike : (v : Bool) (place end end' count : ℕ) (bytes : List ℕ) (r r' : Size) → Alike r r'
    → ((from : ℕ) (rest : List ℕ) → within v from end count rest ≡ within v from end' count rest)
    → stepped v place end count bytes r ≡ stepped v place end' count bytes r'
step_alike v place end end' count bytes (Ok k) (Ok m) alike later =
    subst (λ (j : ℕ). stepped v place end count bytes (Ok k) ≡ stepped v place end' count bytes (Ok j))
    alike (ap (λ (xs : List EpGroupRecord). record_struct place v (take k bytes) ∷ xs)
    (later (place + length (take k bytes)) (drop k bytes)))
step_alike v place end end' count bytes (Err f) (Err g) alike later =
    rw (alike.0, alike.1) refl
step_alike v place end end' count bytes (Ok k) (Err g) alike later = absurd alike
step_alike v place end end' count bytes (Err f) (Ok m) alike later = absurd alike

end_free : (v : Bool) (count place end end' : ℕ) (bytes : List ℕ)
    → within v place end count bytes ≡ within v place end' count bytes
unfolding records_within
end_free v zero place end end' bytes = refl
end_free v (suc count) place end end' bytes =
    step_alike v place end end' count bytes (size_at (address_len v) (end - length bytes) bytes)
    (size_at (address_len v) (end' - length bytes) bytes)
    (sizes_alike (address_len v) (end - length bytes) (end' - length bytes) bytes)
    (λ from rest. end_free v count from end end' rest)

-- ---- the record that a step returns is the first of those that were left

-- the records of these bytes, so many, from an offset on
abbrev from_start : Bool → ℕ → ℕ → List ℕ → List EpGroupRecord
from_start v place count bytes = within v place (length bytes) count bytes

none_left : (v : Bool) (place : ℕ) (bytes : List ℕ) → from_start v place 0 bytes ≡ []
unfolding records_within
none_left v place bytes = refl

abbrev size_here : Bool → List ℕ → Size
size_here v bytes = size_at (address_len v) 0 bytes

one_left : (v : Bool) (place count : ℕ) (bytes : List ℕ)
    → from_start v place (suc count) bytes
    ≡ stepped v place (length bytes) count bytes (size_here v bytes)
unfolding records_within
one_left v place count bytes =
    let none : length bytes - length bytes ≡ 0 = omega arith in
    ap (λ (o : ℕ). stepped v place (length bytes) count bytes (size_at (address_len v) o bytes)) none

is_some : (place : ℕ) (v : Bool) (item : Item)
    → some_group_record (group_struct place v item) ≡ Some (group_struct place v item)
is_some place v (Ok bytes) = refl
is_some place v (Err e) = refl

-- a part of which so many bytes, and its count and kind
abbrev left_with : EpPart → ℕ → Bool → EpGroupRecords
left_with part count v = record { left = part; count = count; is_ipv6 = v }

step_by : (bytes : List ℕ) (part : EpPart) (count : ℕ) (v : Bool) (r : Size)
    → size_here v (part_bytes bytes part) ≡ r
    → group_records_left bytes (left_with part (suc count) v)
    ≡ group_struct part.offset v (record_of_size (part_bytes bytes part) r)
    ∷ group_records_left bytes (after_size bytes (left_with part (suc count) v) r)
step_by bytes part count v (Ok size) h =
    let here = part_bytes bytes part in
    let most = size_most (address_len v) 0 size here h in
    let moved : part_bytes bytes (part_after size part) ≡ drop size here =
    after_first bytes part size (omega (arith, most, part_most bytes part)) in
    let long : length (take size here) ≡ size = length-take-le size here most in
    let less : suc count - 1 ≡ count = omega arith in
    one_left v part.offset count here
    ∙ ap (stepped v part.offset (length here) count here) h
    ∙ ap (λ (xs : List EpGroupRecord). record_struct part.offset v (take size here) ∷ xs)
    (end_free v count (part.offset + length (take size here)) (length here) (length (drop size here)) (drop size here)
    ∙ ap (λ (k : ℕ). from_start v (part.offset + k) count (drop size here)) long
    ∙ ap (from_start v (part.offset + size) count) (sym moved)
    ∙ ap (λ (k : ℕ). from_start v (part.offset + size) k (part_bytes bytes (part_after size part))) (sym less))
step_by bytes part count v (Err e) h =
    let here = part_bytes bytes part in
    one_left v part.offset count here
    ∙ ap (stepped v part.offset (length here) count here) h
    ∙ ap (λ (xs : List EpGroupRecord). cut_struct part.offset e ∷ xs)
    (sym (none_left v (part.offset + length here) (part_bytes bytes (part_after (length here) part))))

step_case : (bytes : List ℕ) (part : EpPart) (count : ℕ) (v : Bool)
    → YieldsFirst (group_records_left bytes) (left_with part count v)
    (some_group_record (struct_of_first bytes (left_with part count v)))
    (records_after bytes (left_with part count v))
step_case bytes part zero v =
    (none_left v part.offset (part_bytes bytes part), none_left v part.offset (part_bytes bytes part))
step_case bytes part (suc count) v =
    let here = part_bytes bytes part in
    let some : (suc count == 0) ≡ false = grind arith in
    rw some (subst (λ (o : Option EpGroupRecord). YieldsFirst (group_records_left bytes) (left_with part (suc count) v) o
    (after_size bytes (left_with part (suc count) v) (size_here v here)))
    (sym (is_some part.offset v (record_of_size here (size_here v here))))
    (step_by bytes part count v (size_here v here) refl))

pub record_is_first : (bytes : List ℕ) (left after : EpGroupRecords) (r : EpGroupRecord)
    → r ≡ struct_of_first bytes left → after ≡ records_after bytes left
    → YieldsFirst (group_records_left bytes) left (some_group_record r) after
record_is_first bytes left after r same moved =
    rw (same, moved) (step_case bytes left.left left.count left.is_ipv6)

-- ---- where its parts are

-- the sources of a record are among its bytes
sources_most : (n size : ℕ) (bytes : List ℕ) → size_at n 0 bytes ≡ Ok size
    → (4 + n ≤ sources_end n (take size bytes)) × (sources_end n (take size bytes) ≤ size)
sources_most n size bytes h =
    let e : (size ≡ record_len n bytes) × (size ≤ length bytes) = grind (arith, nat_tests) in
    let high : num (take size bytes) 2 1 ≡ num bytes 2 1 = get_or-take size bytes 2 0 (omega arith) in
    let low : num (take size bytes) 3 1 ≡ num bytes 3 1 = get_or-take size bytes 3 0 (omega arith) in
    rw (high, low) (omega (arith, e.0), omega (arith, e.0))

parts_of_size : (bytes : List ℕ) (part : EpPart) (v : Bool) (size : ℕ)
    → size_here v (part_bytes bytes part) ≡ Ok size
    → (part_bytes bytes (record_struct part.offset v (take size (part_bytes bytes part))).bytes
    ≡ take size (part_bytes bytes part))
    × (part_bytes bytes (record_struct part.offset v (take size (part_bytes bytes part))).sources
    ≡ sources_of (address_len v) (take size (part_bytes bytes part)))
parts_of_size bytes part v size h =
    let here = part_bytes bytes part in
    let n = address_len v in
    let most = size_most n 0 size here h in
    let ends = sources_most n size here h in
    let first : take size here ≡ take size (drop part.offset bytes) =
    take-take size part.len (drop part.offset bytes) (omega (arith, most, part_most bytes part)) in
    let long : length (take size here) ≡ size = length-take-le size here most in (
      rw long (sym first),
      inner_part bytes part (4 + n) (sources_end n (take size here) - (4 + n)) size (omega (arith, ends)) most,
    )

parts_by : (bytes : List ℕ) (left : EpGroupRecords) (t : Bool) (s : Size) (record' : List ℕ)
    → size_here left.is_ipv6 (part_bytes bytes left.left) ≡ s
    → (if t then None else Some (record_of_size (part_bytes bytes left.left) s)) ≡ Some (Ok record')
    → (part_bytes bytes (if t then no_group_record else group_struct left.left.offset left.is_ipv6
    (record_of_size (part_bytes bytes left.left) s)).bytes ≡ record')
    × (part_bytes bytes (if t then no_group_record else group_struct left.left.offset left.is_ipv6
    (record_of_size (part_bytes bytes left.left) s)).sources ≡ sources_of (address_len left.is_ipv6) record')
parts_by bytes left true s record' h first = absurd (cc first)
parts_by bytes left false (Err e) record' h first = absurd (cc first)
parts_by bytes left false (Ok size) record' h first =
    let is : take size (part_bytes bytes left.left) ≡ record' = cc first in
    subst (λ (xs : List ℕ). (part_bytes bytes (record_struct left.left.offset left.is_ipv6
    (take size (part_bytes bytes left.left))).bytes ≡ xs)
    × (part_bytes bytes (record_struct left.left.offset left.is_ipv6
    (take size (part_bytes bytes left.left))).sources ≡ sources_of (address_len left.is_ipv6) xs)) is
    (parts_of_size bytes left.left left.is_ipv6 size h)

pub parts_are : (bytes : List ℕ) (left : EpGroupRecords) (r : EpGroupRecord)
    → r ≡ struct_of_first bytes left → (record' : List ℕ)
    → first_record bytes left ≡ Some (Ok record')
    → (part_bytes bytes r.bytes ≡ record')
    × (part_bytes bytes r.sources ≡ sources_of (address_len left.is_ipv6) record')
parts_are bytes left r same record' first =
    rw same (parts_by bytes left (left.count == 0)
    (size_here left.is_ipv6 (part_bytes bytes left.left)) record' refl first)
