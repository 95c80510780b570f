-- What becomes of a segment of a stream, as numbers.
use Rattle.std.specs.Prelude.{ℕ, false, unwrap_or, Result, Ok, Err}
use Rattle.tcp_streams.specs.declared.conflicts.Conflicts.{Conflicts}
use Rattle.tcp_streams.specs.declared.refusal.Refused.{Refused}
use Rattle.tcp_streams.specs.declared.refusal.Refused.TheVariants.{OutsideWindow, AfterFin, AfterReset, OutOfMemory}
use Rattle.tcp_streams.specs.declared.stream_buf.Added.{Added}
use Rattle.etherparse_structs.specs.declared.stream_added.EpConflicts.{EpConflicts}
use Rattle.etherparse_structs.specs.declared.stream_added.EpStreamAdded.{EpStreamAdded}
use Rattle.etherparse_structs.specs.declared.stream_progress.EpStreamProgress.{EpStreamProgress}

abbrev pub conflicts_struct : Conflicts → EpConflicts
conflicts_struct conflicts = record { count = conflicts.count; first = unwrap_or conflicts.first 0 }

abbrev pub no_conflicts : EpConflicts
no_conflicts = record { count = 0; first = 0 }

-- a status alone
abbrev pub segment_status : ℕ → EpStreamAdded
segment_status status = record {
  status = status;
  refusal = 0;
  refused_at = 0;
  position = 0;
  conflicts = no_conflicts;
}

-- a segment that is accepted
abbrev pub segment_accepted : (position : ℕ) → Conflicts → EpStreamAdded
segment_accepted position conflicts =
    record (segment_status 0) { position = position; conflicts = conflicts_struct conflicts }

-- one that is refused
abbrev pub segment_refused : Refused → EpStreamAdded
segment_refused (OutsideWindow end) = record (segment_status 3) { refusal = 1; refused_at = end }
segment_refused (AfterFin fin) = record (segment_status 3) { refusal = 2; refused_at = fin }
segment_refused AfterReset = record (segment_status 3) { refusal = 3 }
segment_refused OutOfMemory = segment_status 2

abbrev pub segment_struct : Result Added Refused → EpStreamAdded
segment_struct (Ok added) = segment_accepted added.position added.conflicts
segment_struct (Err error) = segment_refused error

-- what is reported of a stream that isn't open
abbrev pub no_progress : EpStreamProgress
no_progress = record {
  available = 0;
  consumed = 0;
  gap = record { start = 0; end = 0 };
  conflicts = no_conflicts;
  is_finished = false;
  is_reset = false;
  joined_late = false;
}
