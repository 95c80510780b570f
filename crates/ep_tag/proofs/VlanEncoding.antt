-- The bytes of a VLAN tag against its fields.
use Rattle.std.proofs.Common.{◌≡◌, ℕ, ◌+◌, ◌*◌, ◌/◌, ◌%◌, ◌^◌, ◌<◌, ◌≤◌, Bool, true, false, cond, eqb, bit_or, List}
use Rattle.std.proofs.Common.{length, get_or, arith, sym}
use Rattle.std.proofs.lemmas.Nat.{or_shifted}
use Rattle.ep_base.specs.Bytes.{IsBytes}
use Rattle.ep_tag.specs.Vlan.{single_vlan_header_of, encoding, vlan_len, Fits}
use Rattle.ep_tag.specs.declared.link.single_vlan_header.SingleVlanHeader.{SingleVlanHeader}
use Rattle.ep_base.proofs.Cells.{as_cells}
use Rattle.ep_base.proofs.Numbers.{high_of, low_of}
use Rattle.ep_tag.proofs.Numbers.{worth_of}

-- priority, drop bit and identifier, each in its bits
pub or-tag_control : (pcp id : ℕ) (drops : Bool) → pcp ≤ 7 → id ≤ 4095 →
    bit_or (bit_or (pcp * 2 ^ 13 % 2 ^ 16) (cond drops (2 ^ 12) 0)) id
    ≡ pcp * 2 ^ 13 + cond drops (2 ^ 12) 0 + id
or-tag_control pcp id true h k =
    let fits : pcp * 2 ^ 13 % 2 ^ 16 ≡ pcp * 2 ^ 13 = omega arith in
    let above : pcp * 2 ^ 13 + 2 ^ 12 ≡ (2 * pcp + 1) * 2 ^ 12 = omega arith in
    rw (fits, or_shifted pcp 13 (2 ^ 12) (omega arith), above)
    (or_shifted (2 * pcp + 1) 12 id (omega arith))
or-tag_control pcp id false h k =
    let fits : pcp * 2 ^ 13 % 2 ^ 16 ≡ pcp * 2 ^ 13 = omega arith in
    let above : pcp * 2 ^ 13 + 0 ≡ 2 * pcp * 2 ^ 12 = omega arith in
    rw (fits, or_shifted pcp 13 0 (omega arith), above) (or_shifted (2 * pcp) 12 id (omega arith))

-- the first two bytes are made up of these three fields
tag_control : (a b : ℕ) → b < 256 →
    a / 2 ^ 5 * 2 ^ 13 + cond (eqb (a / 2 ^ 4 % 2) 1) (2 ^ 12) 0 +
    (256 * a + b) % 2 ^ 12 ≡ 256 * a + b
tag_control a b h = rw (worth_of (a / 2 ^ 4) (2 ^ 12)) (omega arith)

-- the fields that are read from four bytes encode them
pub encoding-single_vlan_header_of : (tag : List ℕ) → length tag ≡ vlan_len → IsBytes tag
    → encoding (single_vlan_header_of tag) ≡ tag
encoding-single_vlan_header_of tag whole fits =
    rw (
      tag_control (get_or tag 0 0) (get_or tag 1 0) (fits 1),
      high_of (get_or tag 0 0) (get_or tag 1 0) (fits 0) (fits 1),
      low_of (get_or tag 0 0) (get_or tag 1 0) (fits 1),
      high_of (get_or tag 2 0) (get_or tag 3 0) (fits 2) (fits 3),
      low_of (get_or tag 2 0) (get_or tag 3 0) (fits 3),
    )
    (sym (as_cells 4 tag whole))

id_again : (pcp id : ℕ) (drops : Bool) → pcp ≤ 7 → id ≤ 4095 →
    (256 * ((pcp * 2 ^ 13 + cond drops (2 ^ 12) 0 + id) / 256 % 256) +
    (pcp * 2 ^ 13 + cond drops (2 ^ 12) 0 + id) % 256) % 2 ^ 12 ≡ id
id_again pcp id drops h k = grind arith

-- the fields are read again
pub single_vlan_header_of-encoding : (h : SingleVlanHeader) → Fits h → single_vlan_header_of
    (encoding h) ≡ h
single_vlan_header_of-encoding h fits = grind arith
