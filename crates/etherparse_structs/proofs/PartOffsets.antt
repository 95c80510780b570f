-- Parts of bytes at their offsets.
use Rattle.std.proofs.Common.{◌≡◌, ◌∙◌, sym, ap, ℕ, ◌+◌, ◌≤◌, List, ◌++◌, length, take, drop, arith}
use Rattle.std.proofs.lemmas.List.{take-append-drop, length-take-le}
use Rattle.etherparse.specs.packet.Parts.{IsAt, StandAt}
use Rattle.ep_packet.proofs.PartsLemmas.{at_later}

-- the first n bytes, and those after them
pub prefix_is : (n : ℕ) (bytes part : List ℕ) → part ≡ take n bytes → n ≤ length bytes
    → (length part ≡ n) × (bytes ≡ part ++ drop n bytes)
prefix_is n bytes part is fits = (
  ap length is ∙ length-take-le n bytes fits,
  sym (take-append-drop n bytes) ∙ ap (λ (xs : List ℕ). xs ++ drop n bytes) (sym is),
)

-- such parts, in bytes that are at this offset
pub stand_later : (frame bytes header exts payload : List ℕ) (position : ℕ) → IsAt frame position bytes
    → StandAt bytes 0 header exts payload → StandAt frame position header exts payload
stand_later frame bytes header exts payload position at inner = (
  at_later frame bytes header position 0 position (omega arith) at inner.0,
  at_later frame bytes exts position (0 + length header) (position + length header) (omega arith) at
      inner.1,
  at_later frame bytes payload position (0 + length header + length exts)
      (position + length header + length exts) (omega arith) at inner.2,
)
