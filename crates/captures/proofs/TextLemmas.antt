-- Lines at the start of a text.
use Rattle.std.proofs.Common.{◌≡◌, ◌∙◌, sym, ap, refl, subst, ℕ, ◌+◌, ◌<◌, ◌≤◌, Bool, true, false, List, [], ◌∷◌}
use Rattle.std.proofs.Common.{◌++◌, length, take, drop, get_or, Some, None, append_assoc, append-nil, length-append}
use Rattle.std.proofs.Common.{arith, eqb-true}
use Rattle.std.specs.Prelude.{position, nat_lt, if◌then◌else◌}
use Rattle.std.specs.List.{flat_map, position_or_len, before_first, after_first}
use Rattle.std.proofs.lemmas.Bool.{lt-ltb}
use Rattle.std.proofs.lemmas.List.Sums.{split_at_first, passes_at_first}
use Rattle.std.proofs.lemmas.List.Concat.{flat_map-append}
use Rattle.captures.specs.CapturedFrames.{CapturedFrame, captured_frame_of, fault_of}
use Rattle.captures.specs.declared.limits.TheConstants.{CAPTURED_LINE_LIMIT}
use Rattle.captures.specs.declared.text.bad_line.LineFault.{LineFault}
use Rattle.captures.specs.declared.text.bad_line.LineFault.TheVariants.{NoFrame}
use Rattle.captures.specs.Encoding.{record_of}
use Rattle.captures.specs.Texts.{is_newline, with_line_ends, GiveFrames, GivesFrames, ends_line, with_last_line_end}
use Rattle.captures.specs.Texts.{IsLeftLine}
use Rattle.lines.specs.Lines.{HasNoNewline}
use Rattle.captures.specs.declared.time.time_unit.TimeUnit.{TimeUnit}

-- what comes after an incomplete line: what a read gave, or at the end the 0a that the line lacks
abbrev pub coming : Bool → (started chunk : List ℕ) → List ℕ
coming false started chunk = chunk
coming true [] chunk = []
coming true (byte ∷ started) chunk = 10 ∷ []

-- ---- the first 0a

step_none : (x : ℕ) (xs : List ℕ) (b : Bool) → is_newline x ≡ b
    → length (x ∷ xs) ≤ position_or_len is_newline (x ∷ xs)
    → (length xs ≤ position_or_len is_newline xs → HasNoNewline xs) → HasNoNewline (x ∷ xs)
step_none x xs b is none later = grind arith

no_newline : (xs : List ℕ) → length xs ≤ position_or_len is_newline xs → HasNoNewline xs
no_newline [] none = tt
no_newline (x ∷ xs) none = step_none x xs (is_newline x) refl none (no_newline xs)

pub none_found : (xs : List ℕ) → position is_newline xs ≡ None → HasNoNewline xs
none_found xs none = grind (arith, lt-ltb, no_newline)

step_before : (x : ℕ) (xs : List ℕ) (b : Bool) → is_newline x ≡ b
    → HasNoNewline (before_first is_newline xs) → HasNoNewline (before_first is_newline (x ∷ xs))
step_before x xs b is later = grind arith

none_before : (xs : List ℕ) → HasNoNewline (before_first is_newline xs)
none_before [] = tt
none_before (x ∷ xs) = step_before x xs (is_newline x) refl (none_before xs)

found_at : (xs : List ℕ) (end : ℕ) → position is_newline xs ≡ Some end
    → (position_or_len is_newline xs ≡ end) × (position_or_len is_newline xs < length xs)
found_at xs end some = grind arith

-- bytes up to the first 0a, and those after it
pub found_line : (xs : List ℕ) (end : ℕ) → position is_newline xs ≡ Some end
    → HasNoNewline (take end xs) × (xs ≡ take end xs ++ 10 ∷ drop (end + 1) xs)
found_line xs end some =
    let at = found_at xs end some in
    let newline : get_or xs (position_or_len is_newline xs) 0 ≡ 10 =
    eqb-true _ 10 (passes_at_first is_newline xs 0 at.1) in
    let split = split_at_first is_newline xs 0 at.1
    ∙ ap (λ n. before_first is_newline xs ++ n ∷ after_first is_newline xs) newline in
    grind (arith, none_before)

-- ---- lines in a row

with_line_ends-append : (xs ys : List (List ℕ)) → with_line_ends (xs ++ ys) ≡ with_line_ends xs
    ++ with_line_ends ys
with_line_ends-append [] ys = refl
with_line_ends-append (x ∷ xs) ys = grind (arith, with_line_ends-append xs ys, append_assoc)

GiveFrames-append : (xs ys : List (List ℕ)) (fs gs : List CapturedFrame) → GiveFrames xs fs → GiveFrames ys gs
    → GiveFrames (xs ++ ys) (fs ++ gs)
GiveFrames-append [] ys fs gs p q = rw p q
GiveFrames-append (x ∷ xs) ys fs gs p q =
    (p.0, p.1 ++ gs, p.2, p.3, GiveFrames-append xs ys p.1 gs p.4 q, cc p.5)

pub gives_frames_start : (bytes : List ℕ) → GivesFrames bytes 0 [] bytes
gives_frames_start bytes = record { lines = []; each = refl; number = refl; parts = refl }

-- lines in the rest and what follows it
pub gives_frames_more : (bytes chunk rest rest' : List ℕ) (m n : ℕ) (fs gs : List CapturedFrame)
    → GivesFrames bytes m fs rest → GivesFrames (rest ++ chunk) n gs rest'
    → GivesFrames (bytes ++ chunk) (m + n) (fs ++ gs) rest'
gives_frames_more bytes chunk rest rest' m n fs gs p q = record {
  lines = p.lines ++ q.lines;
  each = GiveFrames-append p.lines q.lines fs gs p.each q.each;
  number = grind (arith, length-append);
  parts =
      grind (arith, append_assoc, with_line_ends-append);
}

-- one more line
pub gives_frames_line : (bytes rest line rest' : List ℕ) (n : ℕ) (fs : List CapturedFrame)
    (given : CapturedFrame) → GivesFrames bytes n fs rest → rest ≡ line ++ 10 ∷ rest' → HasNoNewline line
    → captured_frame_of line ≡ Some given
    → GivesFrames bytes (n + 1) (fs ++ given ∷ []) rest'
gives_frames_line bytes rest line rest' n fs given p parts whole is =
    subst (λ l. GivesFrames l (n + 1) (fs ++ given ∷ []) rest') (append-nil bytes)
    (gives_frames_more bytes [] rest rest' n 1 fs (given ∷ []) p (record {
      lines = line ∷ [];
      each = (given, [], whole, is, refl, refl);
      number = refl;
      parts = grind (arith, append-nil, append_assoc);
    }))

-- ---- the end of a text

ends_line-prefix : (xs : List ℕ) (b : ℕ) (bs : List ℕ)
    → ends_line (xs ++ b ∷ bs) ≡ ends_line (b ∷ bs)
ends_line-prefix [] b bs = refl
ends_line-prefix (x ∷ []) b bs = refl
ends_line-prefix (x ∷ y ∷ xs) b bs = ends_line-prefix (y ∷ xs) b bs

ends_none : (b : ℕ) (bs : List ℕ) → HasNoNewline (b ∷ bs) → ends_line (b ∷ bs) ≡ false
ends_none b [] none = none.0
ends_none b (c ∷ bs) none = ends_none c bs none.1

ends_newline : (xs : List ℕ) → ends_line xs ≡ true → ends_line (10 ∷ xs) ≡ true
ends_newline xs ends = grind arith

pub ends_ended : (lines : List (List ℕ)) → ends_line (with_line_ends lines) ≡ true
ends_ended [] = refl
ends_ended (line ∷ lines) = grind (arith, ends_ended lines, ends_line-prefix, ends_newline)

-- what ends an incomplete line
pub closed_is : (bytes rest : List ℕ) (n : ℕ) (fs : List CapturedFrame) → GivesFrames bytes n fs rest
    → HasNoNewline rest → with_last_line_end bytes ≡ bytes ++ coming true rest []
closed_is bytes rest n fs p none =
    grind (arith, append-nil, ends_ended, ends_line-prefix, ends_none)

not_ended : (xs : List ℕ) (rest : List ℕ) → ends_line (xs ++ rest) ≡ true
    → HasNoNewline rest → rest ≡ []
not_ended xs [] ends none = refl
not_ended xs (b ∷ rest) ends none = grind (arith, ends_line-prefix, ends_none)

text_ends : (started chunk : List ℕ) → ends_line (started ++ coming true started chunk) ≡ true
text_ends started chunk = grind (arith, ends_line-prefix)

-- nothing is left of a text that is ended
pub ended_rest : (started chunk text rest : List ℕ) (n : ℕ) (fs : List CapturedFrame)
    → text ≡ started ++ coming true started chunk → GivesFrames text n fs rest → HasNoNewline rest → rest ≡ []
ended_rest started chunk text rest n fs parts p none =
    not_ended (with_line_ends p.lines) rest (ap ends_line (sym p.parts ∙ parts) ∙ text_ends started
    chunk) none

-- ---- what is taken

-- where no line ends any more
left_by : (rest : List ℕ) (b : Bool) → nat_lt CAPTURED_LINE_LIMIT (length rest) ≡ b
    → HasNoNewline rest → IsLeftLine (if b then Some NoFrame else None) rest
left_by rest b is none = grind arith

pub left_line : (rest : List ℕ) → HasNoNewline rest
    → IsLeftLine (if nat_lt CAPTURED_LINE_LIMIT (length rest) then Some NoFrame else None) rest
left_line rest none = left_by rest (nat_lt CAPTURED_LINE_LIMIT (length rest)) refl none

pub left_bad : (rest line rest' : List ℕ) (fault : LineFault) → rest ≡ line ++ 10 ∷ rest'
    → HasNoNewline line → captured_frame_of line ≡ None → fault_of line ≡ fault
    → IsLeftLine (Some fault) rest
left_bad rest line rest' fault parts whole none why = grind arith

pub records-append : (time_unit : TimeUnit) (fs gs : List CapturedFrame)
    → flat_map (record_of time_unit) (fs ++ gs)
    ≡ flat_map (record_of time_unit) fs ++ flat_map (record_of time_unit) gs
records-append time_unit fs gs = flat_map-append (record_of time_unit) fs gs

-- this many lines are taken, and their records written
pub record Taking (time_unit : TimeUnit) (bytes : List ℕ) (count : ℕ) (rest written : List ℕ) : Type 0 where
  pub frames : List CapturedFrame
  pub gives_frames : GivesFrames bytes count frames rest
  pub encoded : written ≡ flat_map (record_of time_unit) frames

pub taking_start : (time_unit : TimeUnit) (bytes written : List ℕ) → written ≡ []
    → Taking time_unit bytes 0 bytes written
taking_start time_unit bytes written none = grind arith

pub taking_line : (time_unit : TimeUnit) (bytes rest line rest' written written' : List ℕ) (n : ℕ) (given : CapturedFrame)
    → Taking time_unit bytes n rest written → rest ≡ line ++ 10 ∷ rest' → HasNoNewline line
    → captured_frame_of line ≡ Some given
    → written' ≡ written ++ record_of time_unit given → Taking time_unit bytes (n + 1) rest' written'
taking_line time_unit bytes rest line rest' written written' n given t parts whole is more = record {
  frames = t.frames ++ given ∷ [];
  gives_frames = gives_frames_line bytes rest line rest' n t.frames given t.gives_frames parts whole is;
  encoded = grind (arith, append-nil, records-append);
}
