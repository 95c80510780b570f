-- What a run from lines to a capture makes of its input.
use Rattle.std.proofs.Common.{◌≡◌, ◌∙◌, sym, ap, refl, subst, ℕ, ◌+◌, ◌*◌, ◌<◌, ◌≤◌, arith, true, List, []}
use Rattle.std.proofs.Common.{◌∷◌, ◌++◌, length, length-append, Option, Some, None, Ok, Err, append_assoc, append-nil}
use Rattle.std.specs.Io.Iter.{u64_saturate}
use Rattle.captures.specs.declared.limits.TheConstants.{INPUT_CAPACITY}
use Rattle.device_runs.specs.declared.limits.TheConstants.{READ_COUNT_LIMIT}
use Rattle.captures.specs.declared.text.bad_line.BadLine.{BadLine}
use Rattle.captures.specs.declared.text.bad_line.LineFault.{LineFault}
use Rattle.captures.specs.declared.translation.refusal.Refusal.TheVariants.{InLine}
use Rattle.captures.specs.Encoding.{file_header, capture_of}
use Rattle.captures.specs.CapturedFrames.{CapturedFrame}
use Rattle.captures.specs.Texts.{GivesFrames, IsIncompleteLine, TakesLines, with_last_line_end, with_line_ends}
use Rattle.captures.specs.Texts.{lines_to_capture}
use Rattle.captures.specs.Translations.{Begins, Translates, Finishes}
use Rattle.captures.proofs.TextLemmas.{gives_frames_start, gives_frames_more, closed_is, coming, ended_rest}
use Rattle.captures.proofs.TextLemmas.{records-append}
use Rattle.captures.specs.declared.time.time_unit.TimeUnit.{TimeUnit}

ended_count : (lines : List (List ℕ)) → length lines ≤ length (with_line_ends lines)
ended_count [] = omega arith
ended_count (line ∷ lines) = grind (arith, ended_count lines, lines, length-append)

-- a line has a byte at least
gives_frames_count : (bytes rest : List ℕ) (n : ℕ) (fs : List CapturedFrame)
    → GivesFrames bytes n fs rest → n ≤ length bytes
gives_frames_count bytes rest n fs p = grind (arith, ended_count, length-append)

-- the frames of this many lines are written, and an incomplete line is held
abbrev pub Writes : TimeUnit → ℕ → (held read written : List ℕ) → Type 0
Writes time_unit count held read written = (frames : List CapturedFrame) × GivesFrames read count frames held
    × IsIncompleteLine held × (written ≡ capture_of time_unit frames)

pub writes_start : (time_unit : TimeUnit)
    → Begins (lines_to_capture time_unit) (Writes time_unit 0) (file_header time_unit)
writes_start time_unit = record {
  room = refl;
  out_of_memory = (refl, refl);
  full = (0, [], [], gives_frames_start [], sym (append-nil (file_header time_unit)));
  due = (0, [], [], gives_frames_start [], (tt, omega arith), sym (append-nil (file_header time_unit)));
  shows = ([], gives_frames_start [], (tt, omega arith), sym (append-nil (file_header time_unit)));
}

module _ (time_unit : TimeUnit) (count n : ℕ) (held more bytes rest read written text : List ℕ) (fault : Option LineFault)
    (writes : Writes time_unit count held read written) (parts : bytes ≡ held ++ more)
    (t : TakesLines time_unit bytes n rest text fault) where
  lines : GivesFrames (read ++ more) (count + n) (writes.0 ++ t.frames) rest
  lines = gives_frames_more read more held rest count n writes.0 t.frames writes.1
      (subst (λ l. GivesFrames l n t.frames rest) parts t.gives_frames)

  whole : written ++ text ≡ capture_of time_unit (writes.0 ++ t.frames)
  whole = grind (arith, append_assoc, records-append)

-- the lines are counted
counted : (count n count' : ℕ) (read : List ℕ) → count + n ≤ length read
    → length read ≤ INPUT_CAPACITY * READ_COUNT_LIMIT
    → count' ≡ u64_saturate (count + n) → count' ≡ count + n
counted count n count' read few fits is = omega arith

module _ (time_unit : TimeUnit) (count n count' : ℕ) (held chunk bytes rest read written text : List ℕ)
    (writes : Writes time_unit count held read written) (parts : bytes ≡ held ++ chunk)
    (fits : length (read ++ chunk) ≤ INPUT_CAPACITY * READ_COUNT_LIMIT)
    (is : count' ≡ u64_saturate (count + n)) where
  -- a chunk is read,
  pub writes_more : TakesLines time_unit bytes n rest text None
      → Translates (lines_to_capture time_unit) (Writes time_unit count') rest (read ++ chunk) (written ++ text) None
  writes_more t =
      let frames = writes.0 ++ t.frames in
      let gives_frames = lines time_unit count n held chunk bytes rest read written text None writes parts t in
      let same = counted count n count' (read ++ chunk)
      (gives_frames_count (read ++ chunk) rest (count + n) frames gives_frames) fits is in
      let all = whole time_unit count n held chunk bytes rest read written text None writes parts t in
      grind arith

  -- in which a line gives no frame
  pub writes_bad : (shown : List ℕ → List ℕ → List ℕ → Type 0) (fault : LineFault) (line : BadLine)
      → line ≡ record { number = u64_saturate (count' + 1); fault = fault } → TakesLines time_unit bytes n rest text (Some fault)
      → Translates (lines_to_capture time_unit) shown rest (read ++ chunk) (written ++ text) (Some (InLine
      line))
  writes_bad shown fault line next t =
      let frames = writes.0 ++ t.frames in
      let gives_frames = lines time_unit count n held chunk bytes rest read written text (Some fault) writes parts t in
      let few = gives_frames_count (read ++ chunk) rest (count + n) frames gives_frames in
      let same = counted count n count' (read ++ chunk) few fits is in
      let all = whole time_unit count n held chunk bytes rest read written text (Some fault) writes parts t in
      grind arith

-- the end is reported, and no line is incomplete,
pub writes_nothing_more : (time_unit : TimeUnit) (count : ℕ) (read written : List ℕ) → Writes time_unit count [] read written
    → Finishes (lines_to_capture time_unit) read written (Ok tt)
writes_nothing_more time_unit count read written writes =
    let same : with_last_line_end read ≡ read = closed_is read [] count writes.0 writes.1 tt
    ∙ append-nil read in
    let gives_frames = subst (λ l. GivesFrames l count writes.0 []) (sym same) writes.1 in
    grind arith

-- or one is, which is ended
ends_some : (held : List ℕ) → 0 < length held → coming true held [] ≡ 10 ∷ []
ends_some held some = grind arith

module _ (time_unit : TimeUnit) (count n count' : ℕ) (held bytes rest read written text : List ℕ)
    (writes : Writes time_unit count held read written) (some : 0 < length held)
    (parts : bytes ≡ held ++ 10 ∷ []) where
  all_known : with_last_line_end read ≡ read ++ 10 ∷ []
  all_known = closed_is read held count writes.0 writes.1 writes.2.0
      ∙ ap (λ l. read ++ l) (ends_some held some)

  pub writes_last : TakesLines time_unit bytes n rest text None
      → Finishes (lines_to_capture time_unit) read (written ++ text) (Ok tt)
  writes_last t =
      let frames = writes.0 ++ t.frames in
      let gives_frames = subst (λ l. GivesFrames l (count + n) frames rest) (sym all_known)
      (lines time_unit count n held (10 ∷ []) bytes rest read written text None writes parts t) in
      let all = whole time_unit count n held (10 ∷ []) bytes rest read written text None writes parts t in
      let none = ended_rest held [] bytes rest n t.frames
      (parts ∙ ap (λ l. held ++ l) (sym (ends_some held some))) t.gives_frames t.left.0 in
      grind arith

  pub writes_last_bad : length read ≤ INPUT_CAPACITY * READ_COUNT_LIMIT
      → count' ≡ u64_saturate (count + n) → (fault : LineFault) (line : BadLine)
      → line ≡ record { number = u64_saturate (count' + 1); fault = fault }
      → TakesLines time_unit bytes n rest text (Some fault)
      → Finishes (lines_to_capture time_unit) read (written ++ text) (Err (InLine line))
  writes_last_bad fits is fault line next t =
      let frames = writes.0 ++ t.frames in
      let known = lines time_unit count n held (10 ∷ []) bytes rest read written text (Some fault) writes parts t in
      let few = gives_frames_count (read ++ 10 ∷ []) rest (count + n) frames known in
      let size = length-append read (10 ∷ []) in
      let gives_frames = subst (λ l. GivesFrames l (count + n) frames rest) (sym all_known) known in
      let all = whole time_unit count n held (10 ∷ []) bytes rest read written text (Some fault) writes parts t in
      grind arith
