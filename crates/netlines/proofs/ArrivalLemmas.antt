-- What a line does to a message, and with which line a message's last fragment came.
use Rattle.std.proofs.Common.{arith, ◌≡◌, ◌≢◌, ◌∙◌, ap, refl, subst, sym, inl, inr, ◌⊎◌, ◌↔◌, ℕ, ◌<◌, ◌≤◌, [], ◌&&◌}
use Rattle.std.proofs.Common.{◌==◌, Bool, true, if◌then◌else◌, None, List, ◌∷◌, ◌++◌, append-nil, append_assoc}
use Rattle.std.specs.Prelude.{IsTrue, nat_eq}
use Rattle.std.specs.Cmp.Lexicographic.{pointwise}
use Rattle.std.proofs.lemmas.Bool.{and_parts, cases_Bool, cases_lt, eq-eqb, eqb-true, le-ltb, lt-ltb}
use Rattle.etherparse.specs.Fragments.{Fragment, fragment}
use Rattle.etherparse.specs.IpFragId.{fragment_in, same_name, rule_over}
use Rattle.etherparse.specs.Outcome.{Held, Outcome, held_after, outcome}
use Rattle.etherparse.specs.PoolCalls.{Lists, after_frame, outcome_at, retained_from}
use Rattle.etherparse.specs.packet.Class.{Class, FragmentName, class_of}
use Rattle.etherparse.specs.packet.contracts.addresses.AddressesPartialEq.TheImpl as addresses
use Rattle.etherparse.specs.packet.declared.addresses.Addresses.{Addresses}
use Rattle.etherparse.specs.packet.Class.Class.{Whole, Cut, Other, Refused}
use Rattle.etherparse.proofs.OutcomeLemmas.{by_outcome}
use Rattle.netlines.specs.Answers.{answer_after, class_answer, outcome_answer}
use Rattle.netlines.specs.Arrivals.{HasFragment, LastAccepted, held_with_line, lists_after_lines}
use Rattle.line_grammar.specs.Commands.{Command, command_of}
use Rattle.line_grammar.specs.Commands.Command.{Frame, Forget, Bad}
use Rattle.lines.specs.LineAnswers.{number_after}
use Rattle.netlines.proofs.AnswerLemmas.{held_after_lines-push, lists_after_lines-nil}

-- a name is the same as itself
same_bytes : (bytes : List ℕ) → pointwise nat_eq bytes bytes ≡ true
same_bytes [] = refl
same_bytes (b ∷ bytes) = rw (eq-eqb b b refl) (same_bytes bytes)

same_between : (a : Addresses) → addresses.ghosts.eq a a ≡ true
same_between a = grind (arith, same_bytes)

same_self : (name : FragmentName) (channel : ℕ)
    → (same_name name name && (channel == channel)) ≡ true
same_self name channel = grind (arith, same_bytes, same_between, eq-eqb)

-- the answer to the line of a frame of a class
pub class_answered : (earlier : List (List ℕ)) (line : List ℕ) (channel : ℕ) (bytes : List ℕ)
    (class : Class) → command_of line ≡ Frame channel bytes → class_of bytes ≡ class
    → answer_after earlier line ≡ class_answer (lists_after_lines earlier) class channel
unfolding answer_after
class_answered earlier line channel bytes class command read = grind arith

-- a line with a fragment of a message
module _ (line : List ℕ) (name : FragmentName) (channel : ℕ) (f : Fragment)
    (has : HasFragment line name channel f) where
  pub held_with_fragment : (number : ℕ) (h : Held)
      → held_with_line name channel number (command_of line) h
      ≡ held_after h number (outcome (rule_over name.addresses) h.fragments f)
  held_with_fragment number h =
      ap (λ (k : Command). held_with_line name channel number k h) has.frame
      ∙ ap (λ (c : Class). after_frame name channel c number channel h) has.as_fragment
      ∙ ap (λ (b : Bool). if b
      then held_after h number (outcome (rule_over name.addresses) h.fragments f) else h)
      (same_self name channel)

  pub list_with_fragment : (earlier : List (List ℕ))
      → lists_after_lines (earlier ++ line ∷ []) name channel
      ≡ held_after (lists_after_lines earlier name channel) (number_after earlier)
      (outcome_at (lists_after_lines earlier) name channel f)
  list_with_fragment earlier = grind (arith, held_after_lines-push, held_with_fragment)

  pub fragment_answered : (earlier : List (List ℕ))
      → answer_after earlier line ≡ outcome_answer name.addresses name.number
      (outcome_at (lists_after_lines earlier) name channel f)
  fragment_answered earlier = class_answered earlier line channel has.bytes
      (Cut name f.offset f.more f.bytes) has.frame has.as_fragment

-- what else a line may be
module _ (same : (a b : FragmentName) → IsTrue (same_name a b) ↔ (a ≡ b)) (line : List ℕ)
    (name : FragmentName) (channel : ℕ) where
  -- a fragment of it, or a `forget` line, or one that doesn't matter
  abbrev pub IsToMessage : Type 0
  IsToMessage =
      ((f : Fragment) × HasFragment line name channel f)
      ⊎ (((number : ℕ) × (command_of line ≡ Forget number))
      ⊎ ((number : ℕ) (h : Held) → held_with_line name channel number (command_of line) h ≡ h))

  not_a_fragment : (other : ℕ) (bytes : List ℕ) (class : Class) → command_of line ≡ Frame other bytes
      → class_of bytes ≡ class → fragment_in class ≡ None → IsToMessage
  not_a_fragment other bytes class frame as_fragment none = grind arith

  frame_is : (other : ℕ) (bytes : List ℕ) → command_of line ≡ Frame other bytes → (class : Class)
      → class_of bytes ≡ class → IsToMessage
  frame_is other bytes frame (Cut own offset more text) as_fragment =
      elim (cases_Bool (same_name own name && (other == channel))) [
        | inl t ↦
            let both = and_parts (same_name own name) (other == channel) t in
            inl (
              fragment offset more text,
              record {
                bytes = bytes;
                frame = grind (arith, eqb-true);
                as_fragment = grind arith;
              },
            )
        | inr t ↦ grind arith
      ]
  frame_is other bytes frame (Whole addresses protocol text message) as_fragment = grind arith
  frame_is other bytes frame Other as_fragment = not_a_fragment other bytes _ frame as_fragment refl
  frame_is other bytes frame Refused as_fragment = not_a_fragment other bytes _ frame as_fragment refl

  pub line_is : IsToMessage
  line_is =
      elim (command_of line) as (λ (k : Command). command_of line ≡ k → IsToMessage) [
        | Frame other bytes ↦ λ frame. frame_is other bytes frame (class_of bytes) refl
        | Forget number ↦ λ is. inr (inl (number, is))
        | Bad ↦ grind arith
      ] refl

  pub list_with_other : (earlier : List (List ℕ))
      → ((f : Fragment) → HasFragment line name channel f → ⊥)
      → ((number : ℕ) → command_of line ≡ Forget number → ⊥)
      → lists_after_lines (earlier ++ line ∷ []) name channel
      ≡ lists_after_lines earlier name channel
  list_with_other earlier no_fragment no_forget =
      elim line_is [
        | inl has ↦ absurd (no_fragment has.0 has.1)
        | inr (inl forgets) ↦ absurd (no_forget forgets.0 forgets.1)
        | inr (inr stays) ↦ grind (arith, held_after_lines-push)
      ]

-- a `forget` line
module _ (earlier : List (List ℕ)) (line : List ℕ) (number channel : ℕ) (name : FragmentName)
    (is : command_of line ≡ Forget number) where
  forget_is : lists_after_lines (earlier ++ line ∷ []) name channel
      ≡ retained_from number (lists_after_lines earlier name channel)
  forget_is = grind (arith, held_after_lines-push)

  pub forgotten : (lists_after_lines earlier name channel).time < number
      → (lists_after_lines (earlier ++ line ∷ []) name channel).fragments ≡ []
  forgotten before = grind (arith, forget_is, lt-ltb)

  pub remembered : number ≤ (lists_after_lines earlier name channel).time
      → lists_after_lines (earlier ++ line ∷ []) name channel
      ≡ lists_after_lines earlier name channel
  remembered from = grind (arith, forget_is, le-ltb)

-- ---- the line of the fragment that was accepted last

module _ (same : (a b : FragmentName) → IsTrue (same_name a b) ↔ (a ≡ b))
    (name : FragmentName) (channel : ℕ) where
  abbrev pub Last : List (List ℕ) → Type 0
  Last lines = (lists_after_lines lines name channel).fragments ≢ []
      → LastAccepted lines name channel

  -- one line more, which leaves the list,
  still_last : (earlier : List (List ℕ)) (line : List ℕ) → Last earlier
      → lists_after_lines (earlier ++ line ∷ []) name channel
      ≡ lists_after_lines earlier name channel → Last (earlier ++ line ∷ [])
  still_last earlier line last stays some =
      let l = last (λ none. some (ap (λ (h : Held). h.fragments) stays ∙ none)) in
      record {
        before = l.before;
        line = l.line;
        later = l.later ++ line ∷ [];
        parts = grind (arith, append_assoc);
        fragment = l.fragment;
        has_fragment = l.has_fragment;
        last = grind arith;
        time = grind arith;
      }

  -- or empties it,
  none_left : (earlier : List (List ℕ)) (line : List ℕ)
      → (lists_after_lines (earlier ++ line ∷ []) name channel).fragments ≡ []
      → Last (earlier ++ line ∷ [])
  none_left earlier line none some = absurd (some none)

  -- or has a fragment
  last_with_fragment : (earlier : List (List ℕ)) (line : List ℕ) (f : Fragment)
      → HasFragment line name channel f → Last earlier → Last (earlier ++ line ∷ [])
  last_with_fragment earlier line f has last =
      by_outcome (rule_over name.addresses) (lists_after_lines earlier name channel).fragments f
      (λ (o : Outcome). lists_after_lines (earlier ++ line ∷ []) name channel
      ≡ held_after (lists_after_lines earlier name channel) (number_after earlier) o
      → Last (earlier ++ line ∷ []))
      (λ error refused is. still_last earlier line last is)
      (λ none clash is. none_left earlier line (ap (λ (h : Held). h.fragments) is))
      (λ taken open_end is some. record {
        before = earlier;
        line = line;
        later = [];
        parts = refl;
        fragment = f;
        has_fragment = has;
        last = cc is;
        time = cc is;
      })
      (λ taken whole is. none_left earlier line (ap (λ (h : Held). h.fragments) is))
      (list_with_fragment line name channel f has earlier)

  last_with : (earlier : List (List ℕ)) (line : List ℕ) → Last earlier → Last (earlier ++ line ∷ [])
  last_with earlier line last =
      elim (line_is same line name channel) [
        | inl has ↦ last_with_fragment earlier line has.0 has.1 last
        | inr (inl forgets) ↦
            elim (cases_lt (lists_after_lines earlier name channel).time forgets.0) [
              | inl before ↦ none_left earlier line
                  (forgotten earlier line forgets.0 channel name forgets.1 before)
              | inr from ↦ still_last earlier line last
                  (remembered earlier line forgets.0 channel name forgets.1 from)
            ]
        | inr (inr stays) ↦ grind (arith, still_last, held_after_lines-push)
      ]

  last_after : (earlier lines : List (List ℕ)) → Last earlier → Last (earlier ++ lines)
  last_after earlier [] last = subst Last (sym (append-nil earlier)) last
  last_after earlier (line ∷ lines) last =
      subst Last (append_assoc earlier (line ∷ []) lines)
      (last_after (earlier ++ line ∷ []) lines (last_with earlier line last))

  pub last_accepted : (lines : List (List ℕ)) → Last lines
  last_accepted lines = last_after [] lines
      (λ some. absurd
      (some (ap (λ (lists : Lists). (lists name channel).fragments) lists_after_lines-nil)))
