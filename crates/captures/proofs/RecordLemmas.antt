-- The record of the frame that a line gives.
use Rattle.std.proofs.Common.{◌≡◌, ◌∙◌, sym, ap, refl, ℕ, ◌+◌, ◌/◌, ◌<◌, ◌≤◌, Bool, true, false, List, ◌++◌, length}
use Rattle.std.proofs.Common.{Option, take, drop, Some, None, Result, Ok, append_assoc, arith}
use Rattle.std.specs.Prelude.{◌⊎◌, MatchResult}
use Rattle.std.proofs.Math.Seq.{take-append-add, take-append_seam}
use Rattle.std.proofs.lemmas.List.{length-take-le}
use borrow.Rule.Slice.PartMut.{put_mid}
use Rattle.hex.specs.Hex.{decode_of, decode_sized}
use Rattle.hex.specs.declared.error.FromHexError.{FromHexError}
use Rattle.hex.proofs.HexLemmas.{decode_of-ok, decode_sized-ok, decode_sized-twice}
use Rattle.line_grammar.specs.Commands.{frame_on}
use Rattle.line_grammar.specs.TimedLines.{TimedFrame, frame_at, timed_frame_of}
use Rattle.line_grammar.specs.declared.frame_limits.TheConstants.{FRAME_LIMIT}
use Rattle.line_grammar.specs.declared.timed_line.Time.{Time}
use Rattle.captures.specs.CapturedFrames.{captured_frame_of, captured_with, length_after, sixth_space, wire_len_given}
use Rattle.captures.specs.Encoding.{parts_in, record_head, record_of}
use Rattle.captures.specs.declared.time.time_unit.TimeUnit.{TimeUnit}

-- a frame of no bytes, or of too many, isn't given
frame_none : (time : Time) (channel : ℕ) (frame : List ℕ)
    → (length frame ≡ 0) ⊎ (FRAME_LIMIT < length frame)
    → frame_at (Some time) (frame_on channel (Ok frame)) ≡ None
frame_none time channel frame none = grind arith

by_digits : (time : Time) (channel : ℕ) (digits : List ℕ) (d : Result (List ℕ) FromHexError)
    → decode_of digits ≡ d → (length digits / 2 ≡ 0) ⊎ (FRAME_LIMIT < length digits / 2)
    → frame_at (Some time) (frame_on channel d) ≡ None
by_digits time channel digits d is size = grind (arith, decode_of-ok, frame_none)

-- digits of no byte, or of too many
pub no_frame_at : (time : Time) (channel : ℕ) (digits : List ℕ)
    → (length digits / 2 ≡ 0) ⊎ (FRAME_LIMIT < length digits / 2)
    → frame_at (Some time) (frame_on channel (decode_of digits)) ≡ None
no_frame_at time channel digits size = by_digits time channel digits (decode_of digits) refl size

sized_is : (digits new : List ℕ) (n : ℕ) (r : Bool) (d : Result (List ℕ) FromHexError)
    → decode_sized digits n ≡ d → MatchResult d (λ v. (r ≡ true) × (new ≡ v)) (λ e. r ≡ false)
    → r ≡ true
    → (decode_of digits ≡ Ok new) × (length new ≡ n)
sized_is digits new n r d is reported yes' =
    grind (arith, decode_sized-ok, decode_sized-twice, decode_of-ok)

-- digits that are decoded
pub decoded : (digits new : List ℕ) (n : ℕ) (r : Bool)
    → MatchResult (decode_sized digits n) (λ v. (r ≡ true) × (new ≡ v)) (λ e. r ≡ false) → r ≡ true
    → (decode_of digits ≡ Ok new) × (length new ≡ n)
decoded digits new n r reported yes' = sized_is digits new n r (decode_sized digits n) refl reported yes'

pub frame_is : (time : Time) (channel : ℕ) (frame : List ℕ) → 0 < length frame
    → length frame ≤ FRAME_LIMIT
    → frame_at (Some time) (frame_on channel (Ok frame))
    ≡ Some (record { seconds = time.seconds; nanoseconds = time.nanoseconds; frame = frame })
frame_is time channel frame some short = grind arith

-- what is put after the first bytes
put_prefix : (out new : List ℕ) (a n m : ℕ) → a ≤ length out → length new ≡ n → m ≡ n
    → take (a + n) (put_mid a m out new) ≡ take a out ++ new
put_prefix out new a n m fits size same =
    ap (λ k. take (k + n) (put_mid a m out new)) (sym (length-take-le a out fits))
    ∙ take-append-add (take a out) (new ++ drop m (drop a out)) n
    ∙ ap (λ l. take a out ++ l) (ap (λ k. take k (new ++ drop m (drop a out))) (sym size)
    ∙ take-append_seam new (drop m (drop a out)))

-- a record's head, and the frame after it
pub record_put : (time_unit : TimeUnit) (out out' new head : List ℕ) (used start n m : ℕ) (time : Time)
    (wire_len : Option ℕ)
    → start ≤ length out' → length new ≡ n → m ≡ n → take start out' ≡ take used out ++ head
    → head ≡ record_head time.seconds (parts_in time_unit time.nanoseconds) n (wire_len_given wire_len n)
    → take (start + n) (put_mid start m out' new) ≡ take used out
    ++ record_of time_unit (captured_with wire_len
    (record { seconds = time.seconds; nanoseconds = time.nanoseconds; frame = new }))
record_put time_unit out out' new head used start n m time wire_len fits size same prefix is =
    grind (arith, put_prefix, append_assoc)

-- ---- a line without a length on the wire, or with one

pub as_timed : (line : List ℕ) (timed : TimedFrame) → timed_frame_of line ≡ Some timed
    → captured_frame_of line ≡ Some (captured_with None timed)
unfolding captured_frame_of
as_timed line timed is = rw is refl

pub by_length : (line : List ℕ) → timed_frame_of line ≡ None
    → captured_frame_of line ≡ length_after (sixth_space line) line
unfolding captured_frame_of
by_length line none = rw none refl
