-- What a run from captures to lines makes of its input.
use Rattle.std.proofs.Common.{◌≡◌, ◌≢◌, ◌∙◌, sym, subst, refl, ℕ, ◌+◌, ◌-◌, ◌^◌, ◌<◌, ◌≤◌, arith, append-nil, Bool}
use Rattle.std.proofs.Common.{true, false, List, [], ◌∷◌, ◌++◌, length, length-append, Option, Some, None, Result, Err}
use Rattle.std.proofs.Common.{inl, ltb-true}
use Rattle.std.specs.Prelude.{◌⊎◌, min, nat_lt, if◌then◌else◌}
use Rattle.captures.specs.declared.capture_error.CaptureError.{CaptureError}
use Rattle.captures.specs.declared.capture_error.CaptureError.TheVariants.{NotCapture, LinkType, FrameTooLong, CutOff}
use Rattle.captures.specs.declared.capture_error.CaptureError.TheVariants.{BlockTooLong, BadBlock, InterfaceLimit, NoFrame, Version}
use Rattle.captures.specs.declared.limits.TheConstants.{FIRST_UNIT_LEN}
use Rattle.captures.specs.declared.pcapng.long_block.LongBlock.{LongBlock}
use Rattle.captures.specs.declared.position.Position.{Position}
use Rattle.captures.specs.declared.state.State.{State}
use Rattle.captures.specs.declared.translation.refusal.Refusal.{Refusal}
use Rattle.captures.specs.declared.translation.refusal.Refusal.TheVariants.{InCapture}
use Rattle.captures.specs.declared.unfit.Unfit.{Unfit}
use Rattle.captures.specs.declared.state.State.TheVariants.{Start, Classic, Pcapng}
use Rattle.captures.specs.Dropped.{IsDropped, Leaves, dropped_len}
use Rattle.captures.specs.Lines.{blank}
use Rattle.captures.specs.Numbers.{capped}
use Rattle.captures.specs.Positions.{IsPosition, block_type}
use Rattle.captures.specs.Skipping.{none_skipped}
use Rattle.captures.specs.Units.{Takes, seen_in, skipped_in}
use Rattle.captures.specs.CaptureRuns.{IsRefused, PassesOver, at_position, result_at_end, capture_to_lines}
use Rattle.captures.specs.Translations.{Begins, Fills, IsDueBy, Translates, Finishes, IsWhole}
use Rattle.captures.proofs.CountLemmas.{capped_more}
use Rattle.captures.proofs.SkipLemmas.{takes_chunk, dropped_size}
use Rattle.captures.proofs.UnitLemmas.{takes_more, passes_to_start, no_capture_by_length}
use Rattle.captures.specs.declared.extra.Extra.{Extra}
use Rattle.captures.specs.declared.skipped.Skipped.{Skipped}
use Rattle.captures.specs.declared.text.ledger.Ledger.{Ledger}
use Rattle.device_runs.specs.Calls.{Call}
use Rattle.device_runs.specs.Endings.{Ending}
use Rattle.device_runs.specs.Runs.{Goes}

-- the position of the first unit
first_position : (unfit u : Unfit) (read rest : List ℕ) (position : Position) → read ≡ rest
    → IsPosition (Start u) read rest position → IsPosition (Start unfit) read read position
first_position unfit u read rest position same at = grind arith

-- what is written where a capture is refused before its end
refused_outcome : (extra : Extra) (noted : Ledger) (unfit : Unfit) (reported : Bool) (read written : List ℕ) (state : State)
    (rest : List ℕ) (error : CaptureError) (position : Position)
    → Takes (blank extra) (Start unfit) read state rest written (Some error) noted
    → IsPosition state read rest position
    → IsRefused extra unfit (skipped_in state) (InCapture error position) reported read written
refused_outcome extra noted unfit reported read written (Start u) rest NotCapture position takes at =
    let same = passes_to_start unfit u read rest takes.packets takes.passes in
    let size = takes.left.0 in grind arith
refused_outcome extra noted unfit reported read written (Classic order time_unit link passing) rest NotCapture position
    takes at = absurd takes.left
refused_outcome extra noted unfit reported read written (Pcapng section) rest NotCapture position takes at =
    absurd takes.left
refused_outcome extra noted unfit reported read written state rest (BlockTooLong len) position takes at =
    (state, rest, noted, takes, at, refl)
refused_outcome extra noted unfit reported read written state rest NoFrame position takes at =
    (state, rest, noted, takes, at, refl)
refused_outcome extra noted unfit reported read written state rest (Version major minor) position takes
    at =
    (state, rest, noted, takes, at, refl)
refused_outcome extra noted unfit reported read written state rest BadBlock position takes at =
    (state, rest, noted, takes, at, refl)
refused_outcome extra noted unfit reported read written state rest (LinkType number) position takes at =
    (state, rest, noted, takes, at, refl)
refused_outcome extra noted unfit reported read written state rest (InterfaceLimit number) position
    takes at =
    (state, rest, noted, takes, at, refl)
refused_outcome extra noted unfit reported read written state rest (FrameTooLong captured) position takes at =
    (state, rest, noted, takes, at, refl)
refused_outcome extra noted unfit reported read written (Start u) rest CutOff position takes at =
    absurd takes.left.1
refused_outcome extra noted unfit reported read written (Classic order time_unit link passing) rest CutOff position
    takes at = absurd takes.left
refused_outcome extra noted unfit reported read written (Pcapng section) rest CutOff position takes at =
    absurd takes.left

-- these bytes are held of what was read, after this many bytes of whole units
abbrev pub Reports : Ledger → Unfit → State → Option LongBlock → (passed : ℕ)
    → (held read written : List ℕ) → Type 0
Reports ledger unfit state started passed held read written = (dropped : List ℕ)
    × IsDropped state started dropped
    × Takes (blank ledger.extra) (Start unfit) read state (dropped ++ held) written None ledger
    × (passed ≡ capped (length read - length (dropped ++ held)))

-- nothing is read yet
pub reports_start : (extra : Extra) (unfit : Unfit)
    → Begins (capture_to_lines extra unfit none_skipped)
    (Reports (blank extra) unfit (Start unfit) None 0) []
reports_start extra unfit =
    let takes : Takes (blank extra) (Start unfit) [] (Start unfit) [] [] None (blank extra) =
    grind arith in
    grind arith

module _ (ledger noted : Ledger) (same_extra : noted.extra ≡ ledger.extra) (unfit : Unfit)
    (state after : State) (started started' : Option LongBlock)
    (passed passed' : ℕ) (held chunk bytes rest read written text : List ℕ) (n : ℕ)
    (reports : Reports ledger unfit state started passed held read written) (parts : bytes ≡ held ++ chunk)
    (passed_is : passed' ≡ min (passed + n) (2 ^ 64 - 1))
    (size : n + dropped_len started' + length rest ≡ length reports.0 + length bytes) where
  -- a chunk is read
  all_reported : (refusal : Option CaptureError)
      (l : Leaves ledger state (reports.0 ++ bytes) after started' rest text refusal noted)
      → Takes (blank noted.extra) (Start unfit) (read ++ chunk) after (l.dropped ++ rest)
      (written ++ text) refusal noted
  all_reported refusal l =
      let whole : Leaves ledger state (reports.0 ++ (held ++ chunk)) after started' rest text
      refusal noted =
      record {
        dropped = l.dropped;
        is_dropped = l.is_dropped;
        takes = grind arith;
      } in
      subst (λ (e : Extra). Takes (blank e) (Start unfit) (read ++ chunk) after (l.dropped ++ rest)
      (written ++ text) refusal noted) (sym same_extra)
      (takes_more (blank ledger.extra) ledger noted (Start unfit) state after read chunk (reports.0 ++ held)
      (l.dropped ++ rest) written text refusal reports.2
      (takes_chunk ledger noted state after reports.0 held chunk started' rest text refusal whole))

  all_passed : (dropped : List ℕ) → IsDropped after started' dropped
      → passed' ≡ capped (length (read ++ chunk) - length (dropped ++ rest))
  all_passed dropped d = grind (arith, length-append, dropped_size, capped_more)

  pub reports_more : Leaves ledger state (reports.0 ++ bytes) after started' rest text None noted
      → Translates (capture_to_lines noted.extra unfit (skipped_in after))
      (Reports noted unfit after started' passed') rest (read ++ chunk) (written ++ text) None
  reports_more l =
      let takes = all_reported None l in
      grind (arith, all_passed)

  pub reports_refused : (shown : List ℕ → List ℕ → List ℕ → Type 0) (error : CaptureError)
      (position : Position) → Leaves ledger state (reports.0 ++ bytes) after started' rest text (Some error) noted
      → position.packet ≡ capped (seen_in after + 1) → position.offset ≡ passed'
      → ((dropped : List ℕ) → IsDropped after started' dropped
      → position.block ≡ block_type after (dropped ++ rest))
      → Translates (capture_to_lines noted.extra unfit (skipped_in after)) shown rest (read ++ chunk)
      (written ++ text) (Some (InCapture error position))
  reports_refused shown error position l packet offset block =
      let takes = all_reported (Some error) l in
      record {
        full = (after, l.dropped ++ rest, Some error, noted, takes, refl);
        follows = refused_outcome noted.extra noted unfit false (read ++ chunk) (written ++ text) after
            (l.dropped ++ rest) error position takes (record {
              packet = packet;
              offset = grind (arith, all_passed);
              block = block l.dropped l.is_dropped;
            });
      }

-- the end is reported
module _ (ledger : Ledger) (unfit : Unfit) (read written : List ℕ) (position : Position) where
  ends_cut : (state : State) (rest : List ℕ)
      → Takes (blank ledger.extra) (Start unfit) read state rest written None ledger → IsPosition state read rest position
      → 0 < length rest → (state ≢ Start unfit) ⊎ (FIRST_UNIT_LEN ≤ length rest)
      → IsWhole (capture_to_lines ledger.extra unfit (skipped_in state)) read written
      (Err (InCapture CutOff position))
  ends_cut state rest takes at some known = grind arith

  at_start : (u : Unfit) (rest : List ℕ)
      → Takes (blank ledger.extra) (Start unfit) read (Start u) rest written None ledger
      → IsPosition (Start u) read rest position → (few : Bool)
      → nat_lt (length rest) FIRST_UNIT_LEN ≡ few
      → IsWhole (capture_to_lines ledger.extra unfit none_skipped) read written
      (at_position position (if few then Err NotCapture else Err CutOff))
  at_start u rest takes at true few =
      let same = passes_to_start unfit u read rest takes.packets takes.passes in
      grind (arith, no_capture_by_length, ltb-true, first_position)
  at_start u rest takes at false few = grind arith

  at_end : (state : State) (rest : List ℕ)
      → Takes (blank ledger.extra) (Start unfit) read state rest written None ledger → IsPosition state read rest position
      → IsWhole (capture_to_lines ledger.extra unfit (skipped_in state)) read written
      (result_at_end state (length rest) position)
  at_end (Start u) rest takes at =
      at_start u rest takes at (nat_lt (length rest) FIRST_UNIT_LEN) refl
  at_end (Classic order time_unit link passing) [] takes at = (
    takes.packets,
    grind arith,
    takes.reported,
  )
  at_end (Classic order time_unit link passing) (b ∷ bytes) takes at =
      ends_cut (Classic order time_unit link passing) (b ∷ bytes) takes at (omega arith)
      (inl (λ e. cc e))
  at_end (Pcapng section) [] takes at = (
    takes.packets,
    grind arith,
    takes.reported,
  )
  at_end (Pcapng section) (b ∷ bytes) takes at =
      ends_cut (Pcapng section) (b ∷ bytes) takes at (omega arith) (inl (λ e. cc e))

  pub reports_end : (state : State) (started : Option LongBlock) (passed : ℕ) (held : List ℕ)
      (left : ℕ) (reports : Reports ledger unfit state started passed held read written)
      → left ≡ length held
      → position.packet ≡ capped (seen_in state + 1) → position.offset ≡ passed
      → position.block ≡ block_type state (reports.0 ++ held)
      → (result : Result Unit Refusal) → result ≡ result_at_end state (length reports.0 + left) position
      → Finishes (capture_to_lines ledger.extra unfit (skipped_in state)) read (written ++ []) result
  reports_end state started passed held left reports size packet offset block result is =
      let whole : length (reports.0 ++ held) ≡ length reports.0 + left =
      omega (arith, length-append reports.0 held) in
      subst (λ (text : List ℕ). Finishes (capture_to_lines ledger.extra unfit (skipped_in state)) read text
      result) (sym (append-nil written)) (record {
        full = (state, reports.0 ++ held, None, ledger, reports.2, refl);
        whole = rw (is, sym whole) (at_end state (reports.0 ++ held) reports.2 (record {
          packet = packet;
          offset = offset ∙ reports.3;
          block = block;
        }));
      })

-- a run whose lines have this beside frames
pub goes_as : {extra extra' : Extra} {unfit : Unfit} {skipped : Skipped} {D : Type 0}
    {transition : D → Call → D → Type 0} {limit : ℕ} {old new : D} {ending : Ending Refusal}
    → extra' ≡ extra → Goes (capture_to_lines extra' unfit skipped) transition limit old new ending
    → Goes (capture_to_lines extra unfit skipped) transition limit old new ending
goes_as {extra} {extra'} {unfit} {skipped} {D} {transition} {limit} {old} {new} {ending} same goes =
    subst (λ (e : Extra). Goes (capture_to_lines e unfit skipped) transition limit old new ending)
    same goes

-- of what was read this many packets were passed over
pub passes_over : {extra : Extra} {unfit : Unfit} {skipped : Skipped} {D : Type 0}
    {transition : D → Call → D → Type 0} {old new : D}
    → Fills (capture_to_lines extra unfit skipped) transition old new
    → PassesOver unfit skipped transition old new
passes_over fills = record {
  calls = fills.calls;
  made = fills.made;
  passed = record {
    state = fills.full.0;
    packets = fills.full.4.packets;
    rest = fills.full.1;
    refusal = fills.full.2;
    passes = fills.full.4.passes;
    left = fills.full.4.left;
    counts = fills.full.5;
  };
}

-- the same is due, whatever was passed over
pub due_as : {extra extra' : Extra} {unfit : Unfit} {skipped skipped' : Skipped}
    → extra' ≡ extra
    → IsDueBy (capture_to_lines extra unfit skipped) (capture_to_lines extra' unfit skipped')
due_as {extra} {extra'} {unfit} {skipped} {skipped'} same = grind arith
