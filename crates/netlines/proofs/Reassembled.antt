-- The answers with two messages that came in fragments and differ in one word.
use Rattle.std.proofs.Common.{◌≡◌, ◌∙◌, ap, refl, sym, ℕ, List, ◌++◌, length, get_or, append_assoc, Ok, arith}
use Rattle.std.specs.Prelude.{◌==◌, codes, decimal, if◌then◌else◌}
use Rattle.hex.specs.Hex.{encode_lower}
use Rattle.std.proofs.lemmas.List.{get_or-append_right}
use Rattle.etherparse.specs.packet.Class.{FragmentName}
use Rattle.etherparse.specs.packet.Readable.{ReadMessage, message_at}
use Rattle.netlines.specs.Answers.{answer_after, completed_answer, message_answer, outcome_answer}
use Rattle.netlines.specs.Answers.{verdict_word}
use Rattle.checksum_verdicts.specs.Verdict.{verdict_of}
use Rattle.netlines.specs.Waiting.{Completes}
use Rattle.checksum_verdicts.specs.declared.verdict.Verdict.{Verdict}
use Rattle.checksum_verdicts.specs.declared.verdict.Verdict.TheVariants.{Good, Bad, None}
use Rattle.netlines.proofs.ArrivalLemmas.{fragment_answered}

-- ---- an answer shows its verdict

word_at : (prefix : List ℕ) (verdict : Verdict) (rest : List ℕ)
    → get_or (prefix ++ (verdict_word verdict ++ rest)) (length prefix) 0
    ≡ get_or (verdict_word verdict ++ rest) 0 0
word_at prefix verdict rest = grind (arith, get_or-append_right)

module _ (number : ℕ) (text : List ℕ) where
  abbrev prefix : List ℕ
  prefix = codes "message " ++ decimal number ++ codes " "

  abbrev rest : List ℕ
  rest = codes " " ++ (if length text == 0 then codes "-" else encode_lower text)

  letter_of : (verdict : Verdict) → get_or (message_answer number verdict text) (length prefix) 0
      ≡ get_or (verdict_word verdict ++ rest) 0 0
  letter_of verdict = grind (arith, append_assoc, word_at)

  letters_differ : (verdict : Verdict)
      → message_answer number verdict text ≡ message_answer number Good text
      → get_or (verdict_word verdict ++ rest) 0 0 ≡ 103
  letters_differ verdict is =
      sym (letter_of verdict) ∙ ap (λ (t : List ℕ). get_or t (length prefix) 0) is ∙ letter_of Good

  pub is_good : (verdict : Verdict)
      → message_answer number verdict text ≡ message_answer number Good text → verdict ≡ Good
  is_good Good is = refl
  is_good Bad is = let b : 98 ≡ 103 = letters_differ Bad is in absurd (omega (arith, b))
  is_good None is = let n : 110 ≡ 103 = letters_differ None is in absurd (omega (arith, n))

-- ---- the answer where a message is complete

pub completed_is : (name : FragmentName) (channel : ℕ) (earlier : List (List ℕ))
    (line text : List ℕ) (message : ReadMessage) → Completes earlier line name channel text
    → message_at name.number text ≡ Ok message
    → answer_after earlier line ≡ message_answer name.number
    (verdict_of name.addresses message) text
completed_is name channel earlier line text message completes is =
    fragment_answered line name channel completes.fragment completes.has_fragment earlier
    ∙ ap (outcome_answer name.addresses name.number) completes.becomes
    ∙ ap (completed_answer name.addresses name.number text) is

pub was_good : (name : FragmentName) (channel : ℕ) (earlier : List (List ℕ))
    (line text : List ℕ) (message : ReadMessage) → Completes earlier line name channel text
    → message_at name.number text ≡ Ok message
    → answer_after earlier line ≡ message_answer name.number Good text
    → verdict_of name.addresses message ≡ Good
was_good name channel earlier line text message completes is good =
    is_good name.number text (verdict_of name.addresses message)
    (sym (completed_is name channel earlier line text message completes is) ∙ good)

pub answered_by_verdict : (name : FragmentName) (channel : ℕ) (earlier : List (List ℕ))
    (line text : List ℕ) (message : ReadMessage) (verdict : Verdict)
    → Completes earlier line name channel text → message_at name.number text ≡ Ok message
    → verdict_of name.addresses message ≡ verdict
    → answer_after earlier line ≡ message_answer name.number verdict text
answered_by_verdict name channel earlier line text message verdict completes is same =
    completed_is name channel earlier line text message completes is
    ∙ ap (λ (v : Verdict). message_answer name.number v text) same
