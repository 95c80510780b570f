-- Where all frames were posted, no other message is returned.
use Rattle.std.proofs.Common.{◌≡◌, ◌∙◌, ap, refl, sym, inl, ◌↔◌, ℕ, true, List, [], ◌∷◌, ◌++◌, get_or, Result, Ok, Err}
use Rattle.std.proofs.Common.{arith}
use Rattle.std.specs.Prelude.{IsTrue, codes}
use Rattle.etherparse.specs.Fragments.{Fragment, fragment}
use Rattle.etherparse.specs.IpFragId.{same_name}
use Rattle.etherparse.specs.packet.Class.{FragmentName}
use Rattle.etherparse.specs.packet.Readable.{ReadMessage, message_at}
use Rattle.etherparse.specs.packet.declared.err.packet.slice_error.SliceError.{SliceError}
use Rattle.line_grammar.specs.Commands.{Command, command_of}
use Rattle.line_grammar.specs.Commands.Command.{Frame, Forget, Bad}
use Rattle.netlines.specs.Answers.{answer_after, command_answer, completed_answer, message_answer}
use Rattle.netlines.specs.Arrivals.{HasFragment, lists_after_lines}
use Rattle.netlines.specs.Letter.{name_of}
use Rattle.netlines.specs.Posted.{is_fragmented}
use Rattle.netlines.specs.PostedInput.{AreAllPosted, ReturnsPosted, IsPostedFrame, IsPostedOn}
use Rattle.netlines.specs.Sealed.{addresses_of}
use Rattle.checksum_verdicts.specs.Verdict.{verdict_of}
use Rattle.netlines.specs.Waiting.{line_of_message}
use Rattle.checksum_verdicts.specs.declared.verdict.Verdict.{Verdict}
use Rattle.netlines.proofs.AllPosted.{class_is, fragment_returned, fragment_of_frame, posted_parts, uncut_is_refused}
use Rattle.netlines.proofs.AllPosted.{uncut_is_whole}
use Rattle.netlines.proofs.AloneLemmas.{answer_is}
use Rattle.netlines.proofs.ArrivalLemmas.{class_answered}
use Rattle.netlines.proofs.InertLemmas.{first_byte}
use Rattle.netlines.proofs.PostedFrames.{FragmentIsRead, RefusedIsRead, WholeIsRead}

-- an answer with a message begins with its letter
begins : (answer : List ℕ) (number : ℕ) (verdict : Verdict) (text : List ℕ)
    → answer ≡ message_answer number verdict text → get_or answer 0 0 ≡ 109
begins answer number verdict text is = first_byte answer (message_answer number verdict text) is

module _ (sent : FragmentName → ℕ → List ℕ) (as_fragment : FragmentIsRead) (whole : WholeIsRead)
    (refused : RefusedIsRead) (same : (a b : FragmentName) → IsTrue (same_name a b) ↔ (a ≡ b))
    (earlier : List (List ℕ)) (line : List ℕ) (all : AreAllPosted sent (earlier ++ line ∷ []))
    (number : ℕ) (verdict : Verdict) (text : List ℕ)
    (out : answer_after earlier line ≡ message_answer number verdict text) where
  abbrev answer : List ℕ
  answer = answer_after earlier line

  -- the answer to a message that can be read
  module _ (channel : ℕ) (bytes : List ℕ) (has_frame : command_of line ≡ Frame channel bytes)
      (posted : IsPostedOn sent channel bytes) where
    reported : (read : ReadMessage) → message_at posted.letter.number.0 posted.message ≡ Ok read
        → answer ≡ message_answer posted.letter.number.0
        (verdict_of (addresses_of posted.letter.version_id) read) posted.message
        → ReturnsPosted sent line answer
    reported read is same_answer = record {
      channel = channel;
      frame = bytes;
      has_frame = has_frame;
      posted = posted;
      read = read;
      readable = is;
      same = same_answer;
    }

    -- one that came uncut,
    of_uncut : IsPostedFrame posted.letter posted.message [] bytes
        → ReturnsPosted sent line answer
    of_uncut frame =
        elim (message_at posted.letter.number.0 posted.message) as
        (λ (r : Result ReadMessage SliceError).
        message_at posted.letter.number.0 posted.message ≡ r → ReturnsPosted sent line answer) [
          | Ok read ↦ λ is. reported read is (class_answered earlier line channel bytes _ has_frame
              (uncut_is_whole posted.letter whole refused posted.message bytes frame read is))
          | Err e ↦ λ is.
              let other : answer ≡ codes "refused frame" =
              class_answered earlier line channel bytes _ has_frame
              (uncut_is_refused posted.letter whole refused posted.message bytes frame e is) in
              let r : 114 ≡ 109 = begins (codes "refused frame") number verdict text
              (sym other ∙ out) in
              absurd (omega (arith, r))
        ] refl

    -- or in fragments
    of_fragments : is_fragmented posted.cuts ≡ true → ReturnsPosted sent line answer
    of_fragments cut =
        let letter = posted.letter in
        let frame = posted.is_frame in
        let p = fragment_of_frame letter posted.message posted.cuts bytes frame.among in
        let f : Fragment = fragment p.posted_fragment.offset p.posted_fragment.more p.posted_fragment.text in
        let has : HasFragment line (name_of letter) channel f = grind (arith, class_is) in
        let line_is : answer ≡ line_of_message (name_of letter) posted.message =
        fragment_returned sent as_fragment whole refused same (name_of letter) channel earlier line all f
        has (inl (number, verdict, text, out))
        ∙ ap (line_of_message (name_of letter)) (posted.one cut) in
        elim (message_at letter.number.0 posted.message) as
        (λ (r : Result ReadMessage SliceError). message_at letter.number.0 posted.message ≡ r
        → answer ≡ completed_answer (addresses_of letter.version_id) letter.number.0 posted.message r
        → ReturnsPosted sent line answer) [
          | Ok read ↦ λ is same_answer. reported read is same_answer
          | Err e ↦ grind arith
        ] refl line_is

    of_cuts : (cuts : List ℕ) → posted.cuts ≡ cuts → ReturnsPosted sent line answer
    of_cuts [] is = grind (arith, of_uncut)
    of_cuts (first ∷ later) is = of_fragments (ap is_fragmented is)

  -- no other line is answered with a message
  pub only_posted_out : ReturnsPosted sent line answer
  only_posted_out =
      let reported_by = answer_is earlier line in
      elim (command_of line) as (λ (k : Command). command_of line ≡ k
      → answer ≡ command_answer (lists_after_lines earlier) k → ReturnsPosted sent line answer) [
        | Frame channel bytes ↦ λ is _.
            let posted = (posted_parts sent earlier line all).1 channel bytes is in
            of_cuts channel bytes is posted posted.cuts refl
        | Forget from ↦ grind arith
        | Bad ↦ grind arith
      ] refl reported_by
