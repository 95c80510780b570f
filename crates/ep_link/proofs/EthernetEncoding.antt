-- The bytes of an Ethernet II header against its fields.
use Rattle.std.proofs.Common.{◌≡◌, ℕ, ◌+◌, ◌*◌, ◌/◌, ◌%◌, List, [], ◌∷◌, ◌++◌, length, take, drop, get_or, arith, sym}
use Rattle.std.proofs.Common.{ap, ◌∙◌, append_assoc}
use Rattle.std.proofs.lemmas.List.{get_or-drop, length-append, take_at, drop_at}
use Rattle.ep_base.specs.Bytes.{IsBytes}
use Rattle.ep_base.proofs.Cells.{as_cells, cells, take-drop-cells}
use Rattle.ep_link.specs.Ethernet.{ethernet_len, ethernet_header_of, encoding, Fits}
use Rattle.ep_link.specs.declared.link.ethernet2_header.Ethernet2Header.{Ethernet2Header}
use Rattle.ep_base.proofs.Numbers.{high_of, low_of, two_again}

-- the fields that are read from 14 bytes encode them
pub encoding-ethernet_header_of : (frame : List ℕ) → length frame ≡ ethernet_len → IsBytes frame
    → encoding (ethernet_header_of frame) ≡ frame
encoding-ethernet_header_of frame whole fits =
    rw (
      take-drop-cells 6 0 frame (omega (arith, whole)),
      take-drop-cells 6 6 frame (omega (arith, whole)),
      high_of (get_or frame 12 0) (get_or frame 13 0) (fits 12) (fits 13),
      low_of (get_or frame 12 0) (get_or frame 13 0) (fits 13),
    )
    (sym (as_cells 14 frame whole))

-- a number after a prefix of a known length
pub at_after_prefix : (prefix rest : List ℕ) (n i : ℕ) → length prefix ≡ n
    → get_or (prefix ++ rest) (n + i) 0 ≡ get_or rest i 0
at_after_prefix prefix rest n i len = sym (get_or-drop n (prefix ++ rest) i 0)
    ∙ ap (λ (xs : List ℕ). get_or xs i 0) (drop_at prefix rest n len)

pub ethernet_header_of-encoding : (h : Ethernet2Header) → Fits h → ethernet_header_of (encoding h)
    ≡ h
ethernet_header_of-encoding h fits =
    let d = h.destination in
    let s = h.source in
    let kind : List ℕ = h.ether_type.0 / 256 % 256 ∷ h.ether_type.0 % 256 ∷ [] in
    let joint : d ++ s ++ kind ≡ d ++ (s ++ kind) = append_assoc d s kind in
    let destination : take 6 (d ++ s ++ kind) ≡ d =
    cc (joint, take_at d (s ++ kind) 6 fits.destination) in
    let following : drop 6 (d ++ s ++ kind) ≡ s ++ kind =
    grind arith in
    let source : take 6 (drop 6 (d ++ s ++ kind)) ≡ s =
    cc (following, take_at s kind 6 fits.source) in
    let len : length (d ++ s) ≡ 12 =
    omega (arith, length-append d s, fits.destination, fits.source) in
    let high = at_after_prefix (d ++ s) kind 12 0 len in
    let low = at_after_prefix (d ++ s) kind 12 1 len in
    let ether_type = (λ i. 256 * high i + low i) ∙ two_again h.ether_type.0 fits.ether_type in
    grind arith

-- the list that the code makes
pub put_together : (d s : List ℕ) (a b : ℕ) → length d ≡ 6 → length s ≡ 6 →
    get_or d 0 0 ∷ get_or d 1 0 ∷ get_or d 2 0 ∷ get_or d 3 0 ∷ get_or d 4 0 ∷ get_or d 5 0
    ∷ get_or s 0 0 ∷ get_or s 1 0 ∷ get_or s 2 0 ∷ get_or s 3 0 ∷ get_or s 4 0 ∷
    get_or s 5 0 ∷ a ∷ b ∷ []
    ≡ d ++ s ++ (a ∷ b ∷ [])
put_together d s a b hd hs =
    sym (ap (λ (xs : List ℕ). xs ++ s ++ (a ∷ b ∷ [])) (as_cells 6 d hd)
    ∙ ap (λ (xs : List ℕ). cells 6 0 d ++ xs ++ (a ∷ b ∷ [])) (as_cells 6 s hs))
