-- A capture that is reported whole where packets that can't be reported are refused is reported the
-- same where they are passed over.
use Rattle.std.proofs.Common.{◌≡◌, subst, ℕ, ◌≤◌, arith, List, [], ◌∷◌, inl, inr, Some, Result, Ok}
use Rattle.captures.specs.Framed.{captured_limit, frame_by, reported_frame, reported_of}
use Rattle.captures.specs.Lines.{Packet}
use Rattle.captures.specs.Pcapng.{Content, Says, Becomes, IsTimedPacket}
use Rattle.captures.specs.Pcapng.Content.{Opens, OpensOther, Describes, Holds, Nothing}
use Rattle.captures.specs.CaptureRuns.{IsCapture}
use Rattle.captures.specs.Units.{IsUnit, IsBlockUnit, Row}
use Rattle.captures.specs.declared.byte_order.ByteOrder.{ByteOrder}
use Rattle.captures.specs.declared.limits.TheConstants.{SKIPPED_LIMIT}
use Rattle.captures.specs.declared.link.kind.Link.{Link}
use Rattle.captures.specs.declared.origin.Origin.{Origin}
use Rattle.captures.specs.declared.pcapng.section.Section.{Section}
use Rattle.captures.specs.declared.skipped.Passing.{Passing}
use Rattle.captures.specs.declared.skipped.Reason.{Reason}
use Rattle.captures.specs.declared.skipped.Skipped.{Skipped}
use Rattle.captures.specs.declared.state.State.{State}
use Rattle.captures.specs.declared.state.State.TheVariants.{Start, Classic, Pcapng}
use Rattle.captures.specs.declared.unfit.Unfit.{Unfit}
use Rattle.captures.specs.declared.unfit.Unfit.TheVariants.{Refuse, Skip}

-- ---- the same state, with this treatment of packets that can't be reported

abbrev passing_by : Unfit → Passing → Passing
passing_by unfit passing = record passing { unfit = unfit }

abbrev section_by : Unfit → Section → Section
section_by unfit section = record section { passing = passing_by unfit section.passing }

abbrev state_by : Unfit → State → State
state_by unfit (Start u) = Start unfit
state_by unfit (Classic order time_unit link passing) =
    Classic order time_unit link (passing_by unfit passing)
state_by unfit (Pcapng section) = Pcapng (section_by unfit section)

-- ---- a packet

by_result : (frame : List ℕ) (reported : Result (List ℕ) Reason) → frame_by Refuse reported ≡ Some frame
    → reported ≡ Ok frame
by_result frame reported is = grind arith

reported_ok : (link : Link) (packet frame : List ℕ) → reported_frame Refuse link packet ≡ Some frame
    → reported_of link packet ≡ Ok frame
reported_ok link packet frame is = by_result frame (reported_of link packet) is

limit_more : (link : Link) → captured_limit link ≤ SKIPPED_LIMIT
limit_more link = grind arith

fits_more : (link : Link) (n : ℕ) → n ≤ captured_limit link → n ≤ SKIPPED_LIMIT
fits_more link n fits = let more = limit_more link in omega arith

-- ---- a block

timed_kept : (interface : ℕ) (section : Section) (order : ByteOrder) (block : List ℕ)
    (origin : Origin) (link : Link) (packet : List ℕ)
    → IsTimedPacket interface (section_by Refuse section) order block origin link packet
    → IsTimedPacket interface (section_by Skip section) order block origin link packet
timed_kept interface section order block origin link packet t = record {
  size = t.size;
  described = t.described;
  number = t.number;
  fits = t.fits;
  time = t.time;
  over = t.over;
  wire = t.wire;
  captured = t.captured;
  bytes = t.bytes;
}

says_kept : (section : Section) (order : ByteOrder) (block : List ℕ) (content : Content)
    → Says (section_by Refuse section) order block content
    → Says (section_by Skip section) order block content
says_kept section order block (Opens first) says = says
says_kept section order block (OpensOther major minor) says = says
says_kept section order block (Describes number snap_len clock) says = says
says_kept section order block (Holds origin link packet) (inl says) =
    inl (says.0, timed_kept _ section order block origin link packet says.1)
says_kept section order block (Holds origin link packet) (inr (inl says)) =
    inr (inl (says.0, timed_kept _ section order block origin link packet says.1))
says_kept section order block (Holds origin link packet) (inr (inr s)) = inr (inr (record {
  kind = s.kind;
  size = s.size;
  interface = s.interface;
  number = s.number;
  time = s.time;
  over = s.over;
  wire = s.wire;
  captured = s.captured;
  bytes = s.bytes;
}))
says_kept section order block Nothing says = says

becomes_kept : (section : Section) (order : ByteOrder) (content : Content) (next : Section)
    (origin : Origin) (frame : List ℕ)
    → Becomes (section_by Refuse section) order content next origin frame
    → Becomes (section_by Skip section) order content (section_by Skip next) origin frame
    × (next ≡ section_by Refuse next)
becomes_kept section order content next origin frame b = grind arith

block_kept : (section : Section) (unit : List ℕ) (after : State) (origin : Origin) (frame : List ℕ)
    → IsBlockUnit (section_by Refuse section) unit after origin frame
    → IsBlockUnit (section_by Skip section) unit (state_by Skip after) origin frame
    × (after ≡ state_by Refuse after)
block_kept section unit after origin frame b = grind (arith, becomes_kept, says_kept)

-- ---- a unit, and all

unit_kept : (state : State) (unit : List ℕ) (after : State) (origin : Origin) (frame : List ℕ)
    → IsUnit (state_by Refuse state) unit after origin frame
    → IsUnit (state_by Skip state) unit (state_by Skip after) origin frame
    × (after ≡ state_by Refuse after)
unit_kept state unit after origin frame i =
    grind (arith, block_kept, reported_ok, fits_more)

row_kept : (state : State) (units : List (List ℕ)) (packets : List Packet) (after : State)
    → Row (state_by Refuse state) units packets after
    → Row (state_by Skip state) units packets (state_by Skip after)
    × (after ≡ state_by Refuse after)
row_kept (Start u) [] packets after row = grind arith
row_kept (Classic order time_unit link passing) [] packets after row = grind arith
row_kept (Pcapng section) [] packets after row = grind arith
row_kept state (unit ∷ units) packets after row =
    let kept = unit_kept state unit row.0 row.1 row.2 row.4 in
    let following = row_kept row.0 units row.3 after
    (subst (λ (s : State). Row s units row.3 after) kept.1 row.5) in
    ((state_by Skip row.0, row.1, row.2, row.3, kept.0, following.0, row.6), following.1)

pub reported_whole_by_both : (bytes : List ℕ) (packets : List Packet) (skipped : Skipped)
    → IsCapture Refuse bytes packets skipped → IsCapture Skip bytes packets skipped
reported_whole_by_both bytes packets skipped capture =
    let p = capture.passes in
    let kept = row_kept (Start Refuse) p.units packets capture.state p.row in
    grind arith
