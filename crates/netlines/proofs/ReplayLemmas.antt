-- Lines with fragments that wait one after another, and one that completes the message, have the
-- same answers wherever they are among others.
use Rattle.std.proofs.Common.{◌≡◌, ◌∙◌, ap, refl, subst, sym, ◌↔◌, ℕ, ◌+◌, List, ◌∷◌, ◌++◌, length, map, arith, []}
use Rattle.std.proofs.Common.{append-nil, append_assoc}
use Rattle.std.specs.Prelude.{IsTrue, codes}
use Rattle.etherparse.specs.Fragments.{Fragment}
use Rattle.etherparse.specs.IpFragId.{same_name, rule_over}
use Rattle.etherparse.specs.Outcome.{Held, Outcome, held_after, outcome}
use Rattle.etherparse.specs.Outcome.Outcome.{Completed, Waiting}
use Rattle.etherparse.specs.PoolCalls.{outcome_at}
use Rattle.etherparse.specs.packet.Class.{Class, FragmentName}
use Rattle.line_grammar.specs.Commands.{command_of}
use Rattle.netlines.specs.Alone.{answers_after, matter_after}
use Rattle.netlines.specs.Answers.{answer_after, class_answer, command_answer, outcome_answer}
use Rattle.netlines.specs.Arrivals.{HasFragment, held_with_line, lists_after_lines}
use Rattle.netlines.specs.Waiting.{ReturnsMessage, lines_for, texts_for, waiting_lines}
use Rattle.netlines.proofs.AloneLemmas.{all_hold, answered_by, answers_by}
use Rattle.netlines.proofs.ArrivalLemmas.{fragment_answered, held_with_fragment}
use Rattle.netlines.proofs.WaitingLemmas.{AllWait, HaveFragments, are_waiting, none_held}

pub waiting_returns_nothing : ReturnsMessage (codes "wait") → ⊥
waiting_returns_nothing = grind arith

pub overlap_returns_nothing : ReturnsMessage (codes "refused overlap") → ⊥
overlap_returns_nothing = grind arith

pub returned_text : (name : FragmentName) (o : Outcome) → ReturnsMessage (outcome_answer name.addresses name.number o)
    → (text : List ℕ) × (o ≡ Completed text)
returned_text name o is = grind arith

-- which texts there are doesn't depend on how many lines come before
unnumbered : (name : FragmentName) (channel count other : ℕ) (lines texts : List (List ℕ))
    → map (λ t. t.1) (matter_after name channel count lines texts)
    ≡ map (λ t. t.1) (matter_after name channel other lines texts)
unnumbered name channel count other [] texts = refl
unnumbered name channel count other (line ∷ lines) [] = refl
unnumbered name channel count other (line ∷ lines) (text ∷ texts) =
    grind (arith, unnumbered name channel (count + 1) (other + 1) lines texts)

module _ (same : (a b : FragmentName) → IsTrue (same_name a b) ↔ (a ≡ b)) (name : FragmentName)
    (channel : ℕ) where
  answered_alone : (line : List ℕ) (f : Fragment) → HasFragment line name channel f → (h : Held)
      → command_answer (all_hold same name channel h) (command_of line)
      ≡ outcome_answer name.addresses name.number (outcome (rule_over name.addresses) h.fragments f)
  answered_alone line f has h =
      ap (command_answer (all_hold same name channel h)) has.frame
      ∙ ap (λ (c : Class). class_answer (all_hold same name channel h) c channel) has.as_fragment

  abbrev pub AllButLast : List (List ℕ) → (last : List ℕ) → List (List ℕ)
  AllButLast lines last = map (λ _. codes "wait") lines ++ last ∷ []

  run_of : (lines : List (List ℕ)) (fs before : List Fragment) (line : List ℕ) (f : Fragment)
      (text : List ℕ) (pairs : List (ℕ × List ℕ)) (h : Held)
      → h.fragments ≡ before → HaveFragments same name channel lines fs
      → HasFragment line name channel f → AllWait (rule_over name.addresses) before fs
      → outcome (rule_over name.addresses) (before ++ fs) f ≡ Completed text → map (λ p. p.1) pairs ≡ lines ++ line ∷ []
      → map (λ p. p.1) (answers_by same name channel h pairs)
      ≡ AllButLast lines (outcome_answer name.addresses name.number (Completed text))
  run_of [] [] before line f text [] h held all has wait whole is = cc
  run_of [] [] before line f text (pair ∷ []) h held all has wait whole is =
      let here : pair.1 ≡ line = cc in
      cc (here, answered_alone line f has h, held, append-nil before, whole)
  run_of [] [] before line f text (pair ∷ other ∷ pairs) h held all has wait whole is = cc
  run_of [] (g ∷ fs) before line f text pairs h held all has wait whole is = absurd all
  run_of (l ∷ lines) [] before line f text pairs h held all has wait whole is = absurd all
  run_of (l ∷ lines) (g ∷ fs) before line f text [] h held all has wait whole is = cc
  run_of (l ∷ lines) (g ∷ fs) before line f text (pair ∷ pairs) h held all has wait whole is =
      let here : pair.1 ≡ l = cc in
      let later : map (λ p. p.1) pairs ≡ lines ++ line ∷ [] = cc in
      let becomes : outcome (rule_over name.addresses) h.fragments g ≡ Waiting (before ++ g ∷ []) =
      grind arith in
      let answer = ap (λ (x : List ℕ). command_answer (all_hold same name channel h) (command_of x))
      here ∙ answered_alone l g all.0 h ∙ ap (outcome_answer name.addresses name.number) becomes in
      let next = ap (λ (x : List ℕ). held_with_line name channel pair.0 (command_of x) h) here
      ∙ held_with_fragment l name channel g all.0 pair.0 h
      ∙ ap (held_after h pair.0) becomes in
      let rest = run_of lines fs (before ++ g ∷ []) line f text pairs
      (held_with_line name channel pair.0 (command_of pair.1) h)
      (ap (λ (k : Held). k.fragments) next) all.1 has wait.1
      (subst (λ (gs : List Fragment). outcome (rule_over name.addresses) gs f ≡ Completed text)
      (sym (append_assoc before (g ∷ []) fs)) whole) later in
      λ i. answer i ∷ rest i

  pub answered_among : (others between lines : List (List ℕ)) (fs : List Fragment) (line : List ℕ)
      (f : Fragment) (text : List ℕ)
      → (lists_after_lines others name channel).fragments ≡ [] → HaveFragments same name channel lines fs
      → HasFragment line name channel f → AllWait (rule_over name.addresses) [] fs
      → outcome (rule_over name.addresses) fs f ≡ Completed text
      → lines_for name channel between ≡ lines ++ line ∷ []
      → texts_for name channel between (answers_after others between)
      ≡ AllButLast lines (outcome_answer name.addresses name.number (Completed text))
  answered_among others between lines fs line f text none all has wait whole is =
      let h = lists_after_lines others name channel in
      let own = matter_after name channel (length others) between between in
      unnumbered name channel 0 (length others) between (answers_after others between)
      ∙ ap (map (λ p. p.1)) (answered_by same name channel others between (length others) refl)
      ∙ run_of lines fs [] line f text own h none all has wait whole
      (unnumbered name channel (length others) 0 between between ∙ is)

  pub replayed : (earlier others between : List (List ℕ)) (line : List ℕ) (f : Fragment)
      → HasFragment line name channel f → ReturnsMessage (answer_after earlier line)
      → waiting_lines name channel others ≡ []
      → lines_for name channel between ≡ waiting_lines name channel earlier ++ line ∷ []
      → texts_for name channel between (answers_after others between)
      ≡ AllButLast (waiting_lines name channel earlier) (answer_after earlier line)
  replayed earlier others between line f has out none is =
      let waiting = are_waiting same name channel earlier in
      let o = outcome_at (lists_after_lines earlier) name channel f in
      let answer = fragment_answered line name channel f has earlier in
      let reported = returned_text name o (subst ReturnsMessage answer out) in
      answered_among others between (waiting_lines name channel earlier)
      (lists_after_lines earlier name channel).fragments line f reported.0
      (none_held same name channel others none) waiting.0 has waiting.1 reported.1 is
      ∙ ap (AllButLast (waiting_lines name channel earlier))
      (sym (answer ∙ ap (outcome_answer name.addresses name.number) reported.1))
