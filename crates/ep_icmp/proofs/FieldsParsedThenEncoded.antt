-- Fields that are parsed from bytes are encoded by them again.
use Rattle.std.proofs.Common.{◌≡◌, ◌∙◌, sym, ℕ, ◌+◌, ◌≤◌, List, ◌∷◌, ◌++◌, length, get_or, slice_range, arith, []}
use Rattle.std.specs.Int.{w16, w32, to_be_bytes}
use Rattle.ep_base.specs.Bytes.{IsBytes, num}
use Rattle.ep_base.proofs.Cells.{take-drop-cells}
use Rattle.ep_icmp.specs.Fields.{echo_bytes, echo_in, timestamp_bytes, timestamp_in}
use Rattle.ep_icmp.specs.Layout.{Layout, with_unused_bytes_zero, bytes_of_layout}

-- the two bytes at offset p
two_back : (m : List ℕ) (p : ℕ) → IsBytes m
    → to_be_bytes w16 (num m p 2) ≡ get_or m p 0 ∷ get_or m (p + 1) 0 ∷ []
two_back m p fits = grind arith

-- the four bytes at offset p
four_back : (m : List ℕ) (p : ℕ) → IsBytes m
    → to_be_bytes w32 (num m p 4) ≡ get_or m p 0 ∷ get_or m (p + 1) 0 ∷ get_or m (p + 2) 0 ∷
    get_or m (p + 3) 0 ∷ []
four_back m p fits = grind arith

pub mtu_back : (m : List ℕ) → IsBytes m → 8 ≤ length m
    → to_be_bytes w16 (num m 6 2) ≡ slice_range m 6 8
mtu_back m fits long = two_back m 6 fits ∙ sym (take-drop-cells 2 6 m long)

pub number_back : (m : List ℕ) → IsBytes m → 8 ≤ length m
    → to_be_bytes w32 (num m 4 4) ≡ slice_range m 4 8
number_back m fits long = four_back m 4 fits ∙ sym (take-drop-cells 4 4 m long)

pub pointer_back : (m : List ℕ) → 8 ≤ length m → num m 4 1 ∷ [] ≡ slice_range m 4 5
pointer_back m long = sym (take-drop-cells 1 4 m (omega arith))

pub echo_back : (m : List ℕ) → IsBytes m → 8 ≤ length m
    → echo_bytes (echo_in m 4) ≡ slice_range m 4 8
echo_back m fits long = grind arith

pub timestamp_back : (m : List ℕ) → IsBytes m → 20 ≤ length m
    → timestamp_bytes (timestamp_in m 4) ≡ slice_range m 4 20
timestamp_back m fits long =
    (λ i. two_back m 4 fits i ++ two_back m 6 fits i ++ four_back m 8 fits i
    ++ four_back m 12 fits i ++ four_back m 16 fits i)
    ∙ sym (take-drop-cells 16 4 m long)

-- all four bytes
pub range_back : (m : List ℕ) → 8 ≤ length m
    → slice_range m 4 8 ≡ slice_range m 4 (4 + length (slice_range m 4 8))
range_back m long = grind arith

-- what a kind's field is read from
abbrev pub IsFieldIn : List ℕ → Layout → Type 0
IsFieldIn m l = l.fields.field ≡ slice_range m (4 + l.fields.before)
    (4 + l.fields.before + length l.fields.field)

pub written_back : (l : Layout) (m : List ℕ) → 4 ≤ length m → IsBytes m → l.type_u8 ≡ num m 0 1
    → l.code_u8 ≡ num m 1 1 → IsFieldIn m l
    → bytes_of_layout l (num m 2 2) ≡ with_unused_bytes_zero l m
written_back l m long fits t c field = grind arith
