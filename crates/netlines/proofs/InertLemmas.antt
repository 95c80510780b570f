-- Lines that change no message's list.
use Rattle.std.proofs.Common.{◌≡◌, ◌∙◌, ap, refl, subst, sym, inl, inr, ◌↔◌, ℕ, ◌&&◌, true, cond, List, [], ◌∷◌, ◌++◌}
use Rattle.std.proofs.Common.{length, arith, get_or, append-nil, append_assoc, length-append}
use Rattle.std.specs.Prelude.{◌==◌, IsTrue, codes}
use Rattle.std.proofs.lemmas.Bool.{and_parts, cases_Bool, eqb-true}
use Rattle.etherparse.specs.Fragments.{Fragment, overlaps}
use Rattle.etherparse.specs.IpFragId.{same_name, rule_over}
use Rattle.etherparse.specs.Outcome.{Held, Outcome, held_after, outcome}
use Rattle.etherparse.specs.PoolCalls.{Lists, after_frame, outcome_at}
use Rattle.etherparse.specs.packet.Class.{Class, FragmentName, class_of}
use Rattle.etherparse.specs.packet.Class.Class.{Whole, Cut, Other, Refused}
use Rattle.etherparse.specs.packet.Readable.{ReadMessage}
use Rattle.etherparse.specs.packet.declared.addresses.Addresses.{Addresses}
use Rattle.netlines.specs.Alone.{IsInert, IsRefused, answers_after}
use Rattle.netlines.specs.Answers.{answer_after, class_answer, command_answer, outcome_answer}
use Rattle.netlines.specs.Arrivals.{HasFragment, lists_after_lines, lists_with_line}
use Rattle.line_grammar.specs.Commands.{Command, command_of}
use Rattle.line_grammar.specs.Commands.Command.{Frame, Forget, Bad}
use Rattle.lines.specs.LineAnswers.{number_after}
use Rattle.netlines.proofs.AloneLemmas.{answer_is}
use Rattle.netlines.proofs.AnswerLemmas.{lists_after_lines-push}
use Rattle.netlines.proofs.ArrivalLemmas.{fragment_answered, list_with_fragment}
use Rattle.etherparse.specs.declared.defrag.overlap_rule.OverlapRule.{OverlapRule}
use Rattle.etherparse.specs.declared.defrag.overlap_rule.OverlapRule.TheVariants.{Refuses}

-- later lines are answered by the lists and the count of the lines before them
later_same : (before others later : List (List ℕ))
    → lists_after_lines before ≡ lists_after_lines others → length before ≡ length others
    → answers_after before later ≡ answers_after others later
later_same before others [] lists counted = refl
later_same before others (line ∷ later) lists counted =
    let answer : answer_after before line ≡ answer_after others line =
    grind (arith, answer_is) in
    let next : lists_after_lines (before ++ line ∷ []) ≡ lists_after_lines (others ++ line ∷ []) =
    grind (arith, lists_after_lines-push) in
    let longer : length (before ++ line ∷ []) ≡ length (others ++ line ∷ []) =
    omega (arith, counted, length-append before (line ∷ []), length-append others (line ∷ [])) in
    cc (answer, later_same (before ++ line ∷ []) (others ++ line ∷ []) later next longer)

answers-append : (earlier lines later : List (List ℕ))
    → answers_after earlier (lines ++ later)
    ≡ answers_after earlier lines ++ answers_after (earlier ++ lines) later
answers-append earlier [] later = grind (arith, append-nil)
answers-append earlier (line ∷ lines) later =
    grind (arith, answers-append (earlier ++ line ∷ []) lines later, append_assoc)

length-answers : (earlier lines : List (List ℕ))
    → length (answers_after earlier lines) ≡ length lines
length-answers earlier [] = refl
length-answers earlier (line ∷ lines) = grind (arith, length-answers (earlier ++ line ∷ []) lines)

bad_leaves : (lists : Lists) (number : ℕ) → lists_with_line lists number Bad ≡ lists
bad_leaves lists number = λ i name other. lists name other

-- a line that leaves every list as it is
abbrev pub LeavesLists : List (List ℕ) → Command → Type 0
LeavesLists earlier command =
    lists_with_line (lists_after_lines earlier) (number_after earlier) command
    ≡ lists_after_lines earlier

pub inert : (earlier : List (List ℕ)) (line : List ℕ) → LeavesLists earlier (command_of line)
    → IsInert earlier line
inert earlier line leaves later bad is_bad =
    let kept : lists_after_lines (earlier ++ line ∷ []) ≡ lists_after_lines earlier =
    lists_after_lines-push earlier line ∙ leaves in
    let kept_by_bad : lists_after_lines (earlier ++ bad ∷ []) ≡ lists_after_lines earlier =
    grind (arith, lists_after_lines-push, bad_leaves) in
    let counted : length (earlier ++ bad ∷ []) ≡ length (earlier ++ line ∷ []) =
    omega (arith, length-append earlier (bad ∷ []), length-append earlier (line ∷ [])) in
    grind (arith, length-answers, answers-append, later_same)

-- ---- refused lines

-- a text that begins otherwise is none of the answers of refusals
pub first_byte : (a b : List ℕ) → a ≡ b → get_or a 0 0 ≡ get_or b 0 0
first_byte a b = ap (λ (t : List ℕ). get_or t 0 0)

forgetting_other : IsRefused (codes "ok") → ⊥
forgetting_other h = grind arith

-- a fragment that is refused leaves its list
refused_stays : (name : FragmentName) (o : Outcome) (h : Held) (number : ℕ)
    → IsRefused (outcome_answer name.addresses name.number o) → held_after h number o ≡ h
refused_stays name o h number is = grind arith

module _ (same : (a b : FragmentName) → IsTrue (same_name a b) ↔ (a ≡ b)) (lists : Lists)
    (number : ℕ) where
  fragment_stays : (own : FragmentName) (channel : ℕ) (f : Fragment)
      → IsRefused (outcome_answer own.addresses own.number (outcome_at lists own channel f)) → (name : FragmentName)
      (other : ℕ)
      → cond (same_name own name && (channel == other))
      (held_after (lists name other) number
      (outcome (rule_over name.addresses) (lists name other).fragments f))
      (lists name other)
      ≡ lists name other
  fragment_stays own channel f is name other =
      let next = held_after (lists name other) number
      (outcome (rule_over name.addresses) (lists name other).fragments f) in
      elim (cases_Bool (same_name own name && (channel == other))) [
        | inl t ↦
            grind (arith, and_parts, eqb-true, refused_stays)
        | inr t ↦ cc t
      ]

  class_stays : (class : Class) (channel : ℕ) → IsRefused (class_answer lists class channel)
      → (name : FragmentName) (other : ℕ)
      → after_frame name other class number channel (lists name other) ≡ lists name other
  class_stays (Cut own offset more bytes) channel is name other = simp fragment_stays
  class_stays (Whole addresses protocol bytes message) channel is name other = refl
  class_stays Other channel is name other = refl
  class_stays Refused channel is name other = refl

  command_stays : (command : Command) → IsRefused (command_answer lists command)
      → lists_with_line lists number command ≡ lists
  command_stays (Frame channel bytes) is =
      λ i name other. class_stays (class_of bytes) channel is name other i
  command_stays (Forget line) is = absurd (forgetting_other is)
  command_stays Bad is = bad_leaves lists number

pub refused_inert : (same : (a b : FragmentName) → IsTrue (same_name a b) ↔ (a ≡ b))
    (earlier : List (List ℕ)) (line : List ℕ) → IsRefused (answer_after earlier line)
    → IsInert earlier line
refused_inert same earlier line is =
    inert earlier line
    (command_stays same (lists_after_lines earlier) (number_after earlier) (command_of line)
    (subst IsRefused (answer_is earlier line) is))

-- a frame with an uncut message
pub whole_inert : (earlier : List (List ℕ)) (line : List ℕ) (channel : ℕ) (bytes : List ℕ)
    (addresses : Addresses) (protocol : ℕ) (text : List ℕ) (message : ReadMessage)
    → command_of line ≡ Frame channel bytes
    → class_of bytes ≡ Whole addresses protocol text message → IsInert earlier line
whole_inert earlier line channel bytes addresses protocol text message frame read =
    let lists = lists_after_lines earlier in
    let number = number_after earlier in
    inert earlier line
    (ap (lists_with_line lists number) frame
    ∙ (λ i name other. ap (λ (c : Class). after_frame name other c number channel
    (lists name other)) read i))

-- ---- a message that can't be read

ends_with : (name : FragmentName) (o : Outcome) (h : Held) (number : ℕ)
    → outcome_answer name.addresses name.number o ≡ codes "refused message" → (held_after h number o).fragments ≡ []
ends_with name o h number is = grind arith

pub unread_ends : (earlier : List (List ℕ)) (line : List ℕ) (name : FragmentName) (channel : ℕ)
    (f : Fragment) → HasFragment line name channel f
    → answer_after earlier line ≡ codes "refused message"
    → (lists_after_lines (earlier ++ line ∷ []) name channel).fragments ≡ []
unread_ends earlier line name channel f has is =
    let o = outcome_at (lists_after_lines earlier) name channel f in
    ap (λ (h : Held). h.fragments) (list_with_fragment line name channel f has earlier)
    ∙ ends_with name o (lists_after_lines earlier name channel) (number_after earlier)
    (sym (fragment_answered line name channel f has earlier) ∙ is)

-- ---- a fragment that overlaps

-- a rule by which fragments may clash
pub refuses_if : (rule : OverlapRule) (fs : List Fragment) (f : Fragment) → overlaps rule fs f ≡ true
    → rule ≡ Refuses
refuses_if rule fs f is = grind arith

overlapped : (name : FragmentName) (rule : OverlapRule) (h : Held) (f : Fragment) (number : ℕ)
    → outcome_answer name.addresses name.number (outcome rule h.fragments f) ≡ codes "refused overlap"
    → ((held_after h number (outcome rule h.fragments f)).fragments ≡ []) × (rule ≡ Refuses)
overlapped name rule h f number = grind arith

pub overlap_ends : (earlier : List (List ℕ)) (line : List ℕ) (name : FragmentName) (channel : ℕ)
    (f : Fragment) → HasFragment line name channel f
    → answer_after earlier line ≡ codes "refused overlap"
    → ((lists_after_lines (earlier ++ line ∷ []) name channel).fragments ≡ [])
    × (rule_over name.addresses ≡ Refuses)
overlap_ends earlier line name channel f has is =
    let ends = overlapped name (rule_over name.addresses)
    (lists_after_lines earlier name channel) f (number_after earlier)
    (sym (fragment_answered line name channel f has earlier) ∙ is) in
    grind (arith, list_with_fragment)
