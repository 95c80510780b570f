-- Units in a row.
use Rattle.std.proofs.Common.{◌≡◌, ◌∙◌, sym, refl, subst, ℕ, ◌==◌, true, ◌<◌, arith, List, [], ◌∷◌, ◌++◌, length}
use Rattle.std.proofs.Common.{take, append_assoc, append-nil, length-append, Option, None}
use Rattle.std.proofs.Math.Seq.{take-append_seam}
use Rattle.captures.specs.Lines.{Packet, packets_of, noted, lines_from, noted_all}
use Rattle.captures.specs.Units.{IsUnit, Row, in_a_row, Passes, HasUnit, IsNoCapture, Takes}
use Rattle.captures.specs.declared.capture_error.CaptureError.{CaptureError}
use Rattle.captures.specs.declared.state.State.{State}
use Rattle.captures.specs.declared.unfit.Unfit.{Unfit}
use Rattle.captures.specs.declared.state.State.TheVariants.{Start}
use Rattle.captures.specs.declared.limits.TheConstants.{FIRST_UNIT_LEN}
use Rattle.captures.specs.declared.origin.Origin.{Origin}
use Rattle.captures.specs.declared.text.ledger.Ledger.{Ledger}

-- the first n bytes are the header, where it has n bytes
pub prefix_is : (bytes header rest prefix : List ℕ) (n : ℕ) → bytes ≡ header ++ rest
    → prefix ≡ take n bytes → length header ≡ n → prefix ≡ header
prefix_is bytes header rest prefix n parts is size = grind (arith, take-append_seam)

pub lines_from-append : (ledger : Ledger) (ps qs : List Packet)
    → lines_from ledger (ps ++ qs) ≡ lines_from ledger ps ++ lines_from (noted_all ledger ps) qs
lines_from-append ledger [] qs = refl
lines_from-append ledger (p ∷ ps) qs =
    grind (arith, lines_from-append (noted ledger p) ps qs, append_assoc)

pub noted_all-append : (ledger : Ledger) (ps qs : List Packet)
    → noted_all ledger (ps ++ qs) ≡ noted_all (noted_all ledger ps) qs
noted_all-append ledger [] qs = refl
noted_all-append ledger (p ∷ ps) qs = noted_all-append (noted ledger p) ps qs

in_a_row-append : (us vs : List (List ℕ)) → in_a_row (us ++ vs) ≡ in_a_row us ++ in_a_row vs
in_a_row-append [] vs = refl
in_a_row-append (u ∷ us) vs = grind (arith, in_a_row-append us vs, append_assoc)

Row-append : (state mid after : State) (us vs : List (List ℕ)) (ps qs : List Packet)
    → Row state us ps mid → Row mid vs qs after → Row state (us ++ vs) (ps ++ qs) after
Row-append state mid after [] vs ps qs p q = rw p.0 (subst (λ (s : State). Row s vs qs after) p.1 q)
Row-append state mid after (u ∷ us) vs ps qs p q = (
  p.0,
  p.1,
  p.2,
  p.3 ++ qs,
  p.4,
  Row-append p.0 mid after us vs p.3 qs p.5 q,
  grind arith,
)

-- no unit yet
pub passes_start : (state : State) (bytes : List ℕ) → Passes state bytes [] state bytes
passes_start state bytes = record { units = []; row = (refl, refl); parts = refl }

-- one more unit
pub passes_unit : (state mid after : State) (bytes rest rest' : List ℕ) (packets : List Packet)
    (origin : Origin) (frame : List ℕ) → Passes state bytes packets mid rest
    → HasUnit mid rest after origin frame rest'
    → Passes state bytes (packets ++ packets_of origin frame) after rest'
passes_unit state mid after bytes rest rest' packets origin frame p h = record {
  units = p.units ++ h.unit ∷ [];
  row = grind (arith, Row-append, append-nil);
  parts =
      grind (arith, append_assoc, append-nil, in_a_row-append);
}

-- more units, in the rest and what follows it
pub passes_more : (state mid after : State) (bytes chunk rest rest' : List ℕ) (ps qs : List Packet)
    → Passes state bytes ps mid rest → Passes mid (rest ++ chunk) qs after rest'
    → Passes state (bytes ++ chunk) (ps ++ qs) after rest'
passes_more state mid after bytes chunk rest rest' ps qs p q = record {
  units = p.units ++ q.units;
  row = Row-append state mid after p.units q.units ps qs p.row q.row;
  parts =
      grind (arith, append_assoc, in_a_row-append);
}

-- more units, in the rest
pub passes_on : (state mid after : State) (bytes rest rest' : List ℕ) (ps qs : List Packet)
    → Passes state bytes ps mid rest → Passes mid rest qs after rest'
    → Passes state bytes (ps ++ qs) after rest'
passes_on state mid after bytes rest rest' ps qs p q =
    subst (λ (l : List ℕ). Passes state l (ps ++ qs) after rest') (append-nil bytes)
    (passes_more state mid after bytes [] rest rest' ps qs p
    (subst (λ (l : List ℕ). Passes mid l qs after rest') (sym (append-nil rest)) q))

pub passes_none : (state mid after : State) (bytes rest rest' : List ℕ) (ps : List Packet)
    → Passes state bytes ps mid rest → Passes mid rest [] after rest'
    → Passes state bytes ps after rest'
passes_none state mid after bytes rest rest' ps p q =
    subst (λ (l : List Packet). Passes state bytes l after rest') (append-nil ps)
    (passes_on state mid after bytes rest rest' ps [] p q)

-- units are passed, and their packets are reported
pub record Reported (ledger : Ledger) (state : State) (bytes : List ℕ) (after : State) (rest : List ℕ)
    (text : List ℕ) (noted : Ledger) : Type 0 where
  pub packets : List Packet
  pub passes : Passes state bytes packets after rest
  pub lines : text ≡ lines_from ledger packets
  pub come : noted ≡ noted_all ledger packets

pub reported_start : (ledger : Ledger) (state : State) (bytes text : List ℕ) → text ≡ []
    → Reported ledger state bytes state bytes text ledger
reported_start ledger state bytes text none = grind arith

-- bytes that are none are no packet
pub no_packets_of : (origin : Origin) (frame : List ℕ) → (length frame == 0) ≡ true
    → packets_of origin frame ≡ []
no_packets_of origin frame none = grind arith

pub one_packet : (origin : Origin) (frame : List ℕ) → 0 < length frame
    → packets_of origin frame ≡ record { origin = origin; frame = frame } ∷ []
one_packet origin frame some = grind arith

-- after a unit something is known
known_after : (state : State) (unit : List ℕ) (after : State) (origin : Origin) (frame : List ℕ)
    → IsUnit state unit after origin frame → (unfit : Unfit) → after ≡ Start unfit → ⊥
known_after state unit after origin frame h unfit is = grind arith

row_known : (state after : State) (units : List (List ℕ)) (packets : List Packet)
    → Row state units packets after → ((unfit : Unfit) → state ≡ Start unfit → ⊥)
    → (unfit : Unfit) → after ≡ Start unfit → ⊥
row_known state after [] packets row known unfit is = known unfit (sym row.1 ∙ is)
row_known state after (unit ∷ units) packets row known unfit is =
    grind (arith, row_known row.0 after units row.3 row.5)

row_start : (u unfit : Unfit) (units : List (List ℕ)) (packets : List Packet)
    → Row (Start u) units packets (Start unfit) → (units ≡ []) × (packets ≡ [])
row_start u unfit [] packets row = (refl, row.0)
row_start u unfit (unit ∷ units) packets row =
    absurd (row_known row.0 (Start unfit) units row.3 row.5
    (known_after (Start u) unit row.0 row.1 row.2 row.4) unfit refl)

-- where nothing is known yet, no unit is passed
pub passes_to_start : (u unfit : Unfit) (bytes rest : List ℕ) (packets : List Packet)
    → Passes (Start u) bytes packets (Start unfit) rest → (bytes ≡ rest) × (packets ≡ [])
passes_to_start u unfit bytes rest packets p = grind (arith, row_start)

-- fewer bytes than a header has begin with none
pub no_capture_by_length : (bytes : List ℕ) → length bytes < FIRST_UNIT_LEN → IsNoCapture bytes
no_capture_by_length bytes started = grind (arith, length-append)

-- the units of what was left and of what came then
pub takes_more : (ledger come noted : Ledger) (state mid after : State)
    (bytes chunk rest rest' text text' : List ℕ) (refusal : Option CaptureError)
    → Takes ledger state bytes mid rest text None come
    → Takes come mid (rest ++ chunk) after rest' text' refusal noted
    → Takes ledger state (bytes ++ chunk) after rest' (text ++ text') refusal noted
takes_more ledger come noted state mid after bytes chunk rest rest' text text' refusal
    p q = record {
      packets = p.packets ++ q.packets;
      passes = grind (arith, passes_more);
      reported = grind (arith, lines_from-append);
      left = q.left;
      come = grind (arith, noted_all-append);
    }
