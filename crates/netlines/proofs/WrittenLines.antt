-- The lines of what a run writes are its answers.
use Rattle.std.proofs.Common.{◌≡◌, refl, subst, sym, ℕ, zero, suc, ◌/◌, ◌%◌, ◌==◌, [], ◌&&◌, Bool, true, false, not}
use Rattle.std.proofs.Common.{arith, cond, Option, Some, None, Result, Ok, Err, List, ◌∷◌, ◌++◌, length, get_or, append_assoc}
use Rattle.std.specs.Fmt.{decimal, digit_glyph, digits, digits_onto}
use Rattle.std.specs.Io.KnownBytes.{Appends}
use Rattle.std.specs.Prelude.{IfSome, OnOk, codes, if◌then◌else◌}
use Rattle.std.proofs.lemmas.Bool.{and_parts}
use Rattle.std.proofs.lemmas.Bool.Decides.{nat_tests}
use Rattle.hex.specs.Hex.{encode_lower, encode_with, lower_digits}
use Rattle.etherparse.specs.Outcome.{Outcome}
use Rattle.etherparse.specs.Outcome.Outcome.{Clash, Completed, Refusal, Waiting}
use Rattle.etherparse.specs.Fragments.{fragment}
use Rattle.etherparse.specs.PoolCalls.{Lists, outcome_at}
use Rattle.etherparse.specs.declared.defrag.ip_defrag_error.IpDefragError.TheVariants.{AllocationFailure}
use Rattle.etherparse.specs.declared.defrag.ip_defrag_error.IpDefragError.TheVariants.{ConflictingEnd}
use Rattle.etherparse.specs.declared.defrag.ip_defrag_error.IpDefragError.TheVariants.{OverlappingFragment}
use Rattle.etherparse.specs.declared.defrag.ip_defrag_error.IpDefragError.TheVariants.{SegmentTooBig}
use Rattle.etherparse.specs.declared.defrag.ip_defrag_error.IpDefragError.TheVariants.{UnalignedFragmentPayloadLen}
use Rattle.etherparse.specs.packet.Class.{Class, FragmentName, class_of}
use Rattle.etherparse.specs.packet.Class.Class.{Whole, Cut, Other, Refused}
use Rattle.etherparse.specs.packet.Readable.{ReadMessage, message_at}
use Rattle.etherparse.specs.packet.declared.addresses.Addresses.{Addresses}
use Rattle.etherparse.specs.packet.declared.err.packet.slice_error.SliceError.{SliceError}
use Rattle.line_grammar.specs.Commands.{Command, command_of}
use Rattle.line_grammar.specs.Commands.Command.{Frame, Forget, Bad}
use Rattle.lines.specs.Lines.{HasNoNewline, Split, lines_of, split}
use Rattle.lines.specs.LineAnswers.{answers_to_later}
use Rattle.netlines.specs.Alone.{answers_after, answers_to, lines_that_matter, texts_that_matter}
use Rattle.netlines.specs.TwoRuns.{AreIsolated}
use Rattle.netlines.specs.Answers.{answer_after, answers_of, class_answer, command_answer, completed_answer}
use Rattle.netlines.specs.Answers.{frame_meaning, message_answer, outcome_answer, verdict_word}
use Rattle.netlines.specs.Arrivals.{lists_after_lines}
use Rattle.checksum_verdicts.specs.Verdict.{verdict_of}
use Rattle.checksum_verdicts.specs.declared.verdict.Verdict.{Verdict}
use Rattle.checksum_verdicts.specs.declared.verdict.Verdict.TheVariants as verdict
use Rattle.netlines.proofs.AloneLemmas.{answer_is, not_true}

-- ---- no answer has a 0a

-- a text by a test, and two texts joined
abbrev one_line : List ℕ → Bool
one_line [] = true
one_line (b ∷ bytes) = not (b == 10) && one_line bytes

by_test : (text : List ℕ) → one_line text ≡ true → HasNoNewline text
by_test [] t = tt
by_test (b ∷ bytes) t =
    let both = and_parts (not (b == 10)) (one_line bytes) t in
    (not_true (b == 10) both.0, by_test bytes both.1)

joined : (a b : List ℕ) → HasNoNewline a → HasNoNewline b → HasNoNewline (a ++ b)
joined [] b left right = right
joined (x ∷ a) b left right = (left.0, joined a b left.1 right)

element : (text : List ℕ) (i : ℕ) → HasNoNewline text → (get_or text i 0 == 10) ≡ false
element [] zero none = refl
element [] (suc i) none = refl
element (b ∷ bytes) zero none = none.0
element (b ∷ bytes) (suc i) none = element bytes i none.1

-- hex digits
encoded : (table bytes : List ℕ) → HasNoNewline table → HasNoNewline (encode_with table bytes)
unfolding encode_with
encoded table [] none = tt
encoded table (b ∷ bytes) none =
    (element table (b / 16) none, (element table (b % 16) none, encoded table bytes none))

-- decimal digits
glyph : (d : ℕ) → (digit_glyph false d == 10) ≡ false
glyph d = grind (arith, nat_tests)

digits_end : (count n : ℕ) (text : List ℕ) → HasNoNewline text
    → HasNoNewline (digits_onto count 10 false n text)
digits_end zero n text none = none
digits_end (suc count) n text none =
    elim (n / 10 == 0) as (λ (b : Bool). HasNoNewline (cond b (digit_glyph false (n % 10) ∷ text)
    (digits_onto count 10 false (n / 10) (digit_glyph false (n % 10) ∷ text)))) [
      | true ↦ (glyph (n % 10), none)
      | false ↦ grind (arith, digits_end count (n / 10) (digit_glyph false (n % 10) ∷ text))
    ]

number_is_one_line : (n : ℕ) → HasNoNewline (decimal n)
unfolding digits
number_is_one_line n = digits_end 64 n [] tt

one_of : (b : Bool) (first second : List ℕ) → HasNoNewline first → HasNoNewline second
    → HasNoNewline (if b then first else second)
one_of true first second left right = left
one_of false first second left right = right

hex_is_one_line : (bytes : List ℕ)
    → HasNoNewline (if length bytes == 0 then codes "-" else encode_lower bytes)
hex_is_one_line bytes = one_of (length bytes == 0) (codes "-") (encode_lower bytes)
    (by_test (codes "-") refl) (encoded lower_digits bytes (by_test lower_digits refl))

verdict_is_one_line : (v : Verdict) → HasNoNewline (verdict_word v)
verdict_is_one_line verdict.Good = by_test (codes "good") refl
verdict_is_one_line verdict.Bad = by_test (codes "bad") refl
verdict_is_one_line verdict.None = by_test (codes "none") refl

message_reported : (number : ℕ) (v : Verdict) (message : List ℕ)
    → HasNoNewline (message_answer number v message)
message_reported number v message =
    let numbered = codes "message " ++ decimal number in
    let judged = numbered ++ codes " " ++ verdict_word v in
    grind (arith, joined, by_test, number_is_one_line, verdict_is_one_line, hex_is_one_line)

completed_is_one_line : (addresses : Addresses) (number : ℕ) (text : List ℕ)
    (read : Result ReadMessage SliceError)
    → HasNoNewline (completed_answer addresses number text read)
completed_is_one_line addresses number text (Ok read) =
    message_reported number (verdict_of addresses read) text
completed_is_one_line addresses number text (Err e) = by_test (codes "refused message") refl

outcome_is_one_line : (addresses : Addresses) (number : ℕ) (o : Outcome)
    → HasNoNewline (outcome_answer addresses number o)
outcome_is_one_line addresses number (Refusal (SegmentTooBig offset payload_len max)) =
    by_test (codes "refused long") refl
outcome_is_one_line addresses number (Refusal (UnalignedFragmentPayloadLen offset payload_len)) =
    by_test (codes "refused unaligned") refl
outcome_is_one_line addresses number (Refusal (ConflictingEnd previous_end conflicting_end)) =
    by_test (codes "refused end") refl
outcome_is_one_line addresses number (Refusal (AllocationFailure len)) = tt
outcome_is_one_line addresses number (Refusal (OverlappingFragment offset payload_len)) =
    by_test (codes "refused overlap") refl
outcome_is_one_line addresses number (Clash error) = by_test (codes "refused overlap") refl
outcome_is_one_line addresses number (Waiting fs) = by_test (codes "wait") refl
outcome_is_one_line addresses number (Completed text) =
    completed_is_one_line addresses number text (message_at number text)

class_reported : (lists : Lists) (class : Class) (channel : ℕ)
    → HasNoNewline (class_answer lists class channel)
class_reported lists (Whole addresses number bytes message) channel =
    message_reported number (verdict_of addresses message) bytes
class_reported lists (Cut name offset more bytes) channel =
    outcome_is_one_line name.addresses name.number
    (outcome_at lists name channel (fragment offset more bytes))
class_reported lists Other channel = by_test (codes "other") refl
class_reported lists Refused channel = by_test (codes "refused frame") refl

command_is_one_line : (lists : Lists) (command : Command) → HasNoNewline (command_answer lists command)
command_is_one_line lists (Frame channel bytes) = class_reported lists (class_of bytes) channel
command_is_one_line lists (Forget number) = by_test (codes "ok") refl
command_is_one_line lists Bad = by_test (codes "bad line") refl

answer_is_one_line : (earlier : List (List ℕ)) (line : List ℕ) → HasNoNewline (answer_after earlier line)
answer_is_one_line earlier line = subst HasNoNewline (sym (answer_is earlier line))
    (command_is_one_line (lists_after_lines earlier) (command_of line))

-- ---- so the lines of the output are the answers

-- a text that 0a ends is the first line
abbrev started : List ℕ → Split → Split
started text later = record { ended = text ∷ later.ended; rest = later.rest }

first_split : (text following : List ℕ) → HasNoNewline text
    → split (text ++ 10 ∷ following) ≡ started text (split following)
unfolding split
first_split [] following none = refl
first_split (b ∷ text) following none = grind (arith, first_split text following none.1)

first_line : (text following : List ℕ) → HasNoNewline text
    → lines_of (text ++ 10 ∷ following) ≡ text ∷ lines_of following
first_line text following none = grind (arith, first_split)

answer_lines : (earlier lines : List (List ℕ))
    → lines_of (answers_to_later frame_meaning.answer earlier lines) ≡ answers_after earlier lines
unfolding split
answer_lines earlier [] = refl
answer_lines earlier (line ∷ lines) =
    grind (
      arith,
      answer_lines (earlier ++ line ∷ []) lines,
      append_assoc,
      first_line,
      answer_is_one_line,
    )

pub written_lines : (bytes : List ℕ) → lines_of (answers_of bytes) ≡ answers_to (lines_of bytes)
written_lines bytes = answer_lines [] (lines_of bytes)

-- ---- two runs

-- where both runs end well and know their inputs
pub on_both : {E A : Type 0} (P Q : A → Type 0) (R : A → A → Type 0)
    (first second : Result Unit E) (input other : Option A)
    → ((a b : A) → P a → Q b → R a b) → OnOk first (IfSome input P) → OnOk second (IfSome other Q)
    → OnOk first (OnOk second (IfSome input (λ a. IfSome other (λ b. R a b))))
on_both P Q R (Ok u) (Ok v) (Some a) (Some b) both p q = both a b p q
on_both P Q R (Ok u) (Ok v) (Some a) None both p q = tt
on_both P Q R (Ok u) (Ok v) None other both p q = tt
on_both P Q R (Ok u) (Err e) input other both p q = tt
on_both P Q R (Err e) second input other both p q = tt

pub runs_isolated : (inputs : (name : FragmentName) (channel : ℕ) (lines others : List (List ℕ))
    → lines_that_matter name channel lines ≡ lines_that_matter name channel others
    → texts_that_matter name channel lines (answers_to lines)
    ≡ texts_that_matter name channel others (answers_to others))
    (old new other_old other_new : Option (List ℕ)) (input other : List ℕ)
    → Appends old new (answers_of input) → Appends other_old other_new (answers_of other)
    → AreIsolated input other old new other_old other_new
runs_isolated inputs old new other_old other_new input other appends other_appends =
    grind (arith, written_lines)
