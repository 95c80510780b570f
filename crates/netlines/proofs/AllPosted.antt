-- What is held of a message, and the answers to its lines, where all frames were posted.
use Rattle.std.proofs.Common.{◌≡◌, ◌∙◌, ap, refl, subst, sym, inl, inr, ◌⊎◌, ◌↔◌, ℕ, zero, suc, ◌+◌, [], ◌<◌, ◌≤◌, Bool}
use Rattle.std.proofs.Common.{true, false, List, ◌∷◌, ◌++◌, length, map, None, Result, Ok, Err, arith}
use Rattle.std.specs.Prelude.{IsTrue, codes, Contains}
use Rattle.std.specs.List.{AllByRecursion}
use Rattle.std.proofs.lemmas.List.Elements.{recursion_from_All}
use Rattle.etherparse.specs.Fragments.{Fragment}
use Rattle.etherparse.specs.declared.defrag.ip_defrag_error.IpDefragError.TheVariants.{OverlappingFragment}
use Rattle.etherparse.specs.IpFragId.{same_name, rule_over}
use Rattle.etherparse.specs.Outcome.{Held, Outcome, held_after, outcome}
use Rattle.etherparse.specs.Outcome.Outcome.{Completed, Waiting, Clash}
use Rattle.etherparse.specs.PoolCalls.{no_lists}
use Rattle.etherparse.specs.packet.Class.{Class, FragmentName, class_of}
use Rattle.etherparse.specs.packet.Class.Class.{Whole, Cut, Refused}
use Rattle.etherparse.specs.packet.Readable.{ReadMessage, message_at}
use Rattle.etherparse.specs.packet.declared.err.packet.slice_error.SliceError.{SliceError}
use Rattle.etherparse.proofs.ListElements.{AllByRecursion-push}
use Rattle.etherparse.proofs.OutcomeLemmas.{by_outcome}
use Rattle.line_grammar.specs.Commands.{command_of}
use Rattle.line_grammar.specs.Commands.Command.{Frame}
use Rattle.netlines.specs.Answers.{answer_after, completed_answer}
use Rattle.netlines.specs.Arrivals.{HasFragment, held_after_more, held_with_line, lists_after_lines}
use Rattle.netlines.specs.Letter.{LetterFits, name_of, fragment_class}
use Rattle.netlines.specs.Posted.{PostedFragment, frame, is_fragmented, fragments_from, posted_frames}
use Rattle.netlines.specs.PostedInput.{AnswersAgree, AreAllPosted, IsPostedFrame, IsPostedOn}
use Rattle.netlines.specs.PostRefusal.{post_refusal}
use Rattle.netlines.specs.Sealed.{addresses_of}
use Rattle.netlines.specs.Waiting.{ReturnsMessage, line_of_message}
use Rattle.netlines.specs.declared.letter.Letter.{Letter}
use Rattle.netlines.proofs.ArrivalLemmas.{class_answered, fragment_answered, held_with_fragment, line_is}
use Rattle.netlines.proofs.CoverLemmas.{IsFragmentationOf, IsIn, all-in}
use Rattle.netlines.proofs.MessageFragments.{AreFragmentsOf, IsFragmentOf, fragment_not_refused, text_is}
use Rattle.netlines.proofs.PostedFragmentation.{fragmentation_is, pool_fragment}
use Rattle.netlines.proofs.PostedFrames.{FragmentIsRead, RefusedIsRead, WholeIsRead, frame_is_refused, frame_is_whole}
use Rattle.netlines.proofs.PostedFragments.{goes_from_start, posted_classes}
use Rattle.netlines.proofs.ReplayLemmas.{waiting_returns_nothing, overlap_returns_nothing}
use Rattle.netlines.proofs.UnrefusedLemmas.{carried_whole, unrefused}
use Rattle.etherparse.specs.declared.defrag.overlap_rule.OverlapRule.{OverlapRule}
use Rattle.etherparse.specs.declared.defrag.overlap_rule.OverlapRule.TheVariants.{Refuses}
use Rattle.netlines.proofs.InertLemmas.{refuses_if}

pub is_in : {X : Type 0} (xs : List X) (x : X) → Contains xs x → IsIn x xs
is_in [] x (k, below, is) = absurd (omega arith)
is_in (y ∷ xs) x (zero, below, is) = inl is
is_in (y ∷ xs) x (suc k, below, is) = inr (is_in xs x (k, omega arith, is))

pub in_map : {X Y : Type 0} (f : X → Y) (xs : List X) (x : X) → IsIn x xs → IsIn (f x) (map f xs)
in_map f [] x h = absurd h
in_map f (y ∷ xs) x (inl h) = inl (ap f h)
in_map f (y ∷ xs) x (inr h) = inr (in_map f xs x h)

pub from_map : {X Y : Type 0} (f : X → Y) (xs : List X) (y : Y) → IsIn y (map f xs)
    → (x : X) × IsIn x xs × (f x ≡ y)
from_map f [] y h = absurd h
from_map f (x ∷ xs) y (inl h) = (x, inl refl, h)
from_map f (x ∷ xs) y (inr h) = let r = from_map f xs y h in (r.0, inr r.1, r.2)

-- ---- the frames of one message

module _ (letter : Letter) (message cuts : List ℕ)
    (sent : post_refusal letter message cuts ≡ None) (cut : is_fragmented cuts ≡ true) where
  abbrev pub parts : List Fragment
  parts = map pool_fragment (fragments_from 0 cuts message)

  not_empty : 0 < length message
  not_empty = grind arith

  pub fragmentation : IsFragmentationOf message parts
  fragmentation = fragmentation_is message _ cuts (goes_from_start letter message cuts sent cut) not_empty

  pub is_short : length message ≤ 65535
  is_short = (unrefused letter message cuts sent).short

-- the frame is that of one of the message's fragments
pub record IsFrameOfFragment (letter : Letter) (message cuts bytes : List ℕ) : Type 0 where
  pub posted_fragment : PostedFragment
  pub is_posted_fragment : IsIn posted_fragment (fragments_from 0 cuts message)
  pub frame_is : frame letter (is_fragmented cuts) posted_fragment ≡ bytes

pub fragment_of_frame : (letter : Letter) (message cuts bytes : List ℕ)
    → Contains (posted_frames letter message cuts) bytes
    → IsFrameOfFragment letter message cuts bytes
fragment_of_frame letter message cuts bytes among =
    let p = from_map (frame letter (is_fragmented cuts)) (fragments_from 0 cuts message) bytes
    (is_in (posted_frames letter message cuts) bytes among) in
    record { posted_fragment = p.0; is_posted_fragment = p.1; frame_is = p.2 }

each_class : (h : PostedFragment → List ℕ) (g : PostedFragment → Class) (ps : List PostedFragment)
    → map class_of (map h ps) ≡ map g ps → (p : PostedFragment) → IsIn p ps → class_of (h p) ≡ g p
each_class h g [] is p in' = absurd in'
each_class h g (q ∷ ps) is p (inl here) = grind arith
each_class h g (q ∷ ps) is p (inr there) =
    let rest : map class_of (map h ps) ≡ map g ps = cc in each_class h g ps rest p there

pub class_is : (letter : Letter) → FragmentIsRead → LetterFits letter → (message cuts : List ℕ)
    → post_refusal letter message cuts ≡ None → is_fragmented cuts ≡ true → (posted_fragment : PostedFragment)
    → IsIn posted_fragment (fragments_from 0 cuts message)
    → class_of (frame letter (is_fragmented cuts) posted_fragment) ≡ fragment_class letter posted_fragment
class_is letter law fits message cuts sent cut =
    each_class (frame letter (is_fragmented cuts)) (fragment_class letter) (fragments_from 0 cuts message)
    (posted_classes letter law fits message cuts sent cut)

-- an uncut message has one frame
one_frame : (letter : Letter) (message bytes : List ℕ) → IsPostedFrame letter message [] bytes
    → frame letter false (record { offset = 0; more = false; text = message }) ≡ bytes
one_frame letter message bytes posted = grind arith

module _ (letter : Letter) (whole : WholeIsRead) (refused : RefusedIsRead)
    (message bytes : List ℕ) (posted : IsPostedFrame letter message [] bytes) where
  pub uncut_is_whole : (read : ReadMessage) → message_at letter.number.0 message ≡ Ok read
      → class_of bytes ≡ Whole (addresses_of letter.version_id) letter.number.0 message read
  uncut_is_whole read is = ap class_of (sym (one_frame letter message bytes posted))
      ∙ frame_is_whole letter whole posted.fits message read
      (carried_whole letter message posted.posted) is

  pub uncut_is_refused : (e : SliceError) → message_at letter.number.0 message ≡ Err e
      → class_of bytes ≡ Refused
  uncut_is_refused e is = ap class_of (sym (one_frame letter message bytes posted))
      ∙ frame_is_refused letter refused posted.fits message e
      (carried_whole letter message posted.posted) is

  -- so it is no fragment of a message
  uncut_is_no_fragment : (name : FragmentName) (offset : ℕ) (more : Bool) (text : List ℕ)
      → class_of bytes ≡ Cut name offset more text → ⊥
  uncut_is_no_fragment name offset more text is =
      elim (message_at letter.number.0 message) as
      (λ (r : Result ReadMessage SliceError). message_at letter.number.0 message ≡ r → ⊥) [
        | Ok read ↦ λ e. let w = uncut_is_whole read e in cc
        | Err error ↦ λ e. let w = uncut_is_refused error e in cc
      ] refl

-- ---- all frames of an input

pub by_parts : {X : Type 0} (P : X → Type 0) (xs ys : List X) → AllByRecursion P (xs ++ ys)
    → AllByRecursion P xs × AllByRecursion P ys
by_parts P [] ys all = (tt, all)
by_parts P (x ∷ xs) ys all = let rest = by_parts P xs ys all.1 in ((all.0, rest.0), rest.1)

module _ (sent : FragmentName → ℕ → List ℕ) where
  abbrev IsPostedLine : List ℕ → Type 0
  IsPostedLine line = (channel : ℕ) (bytes : List ℕ) → command_of line ≡ Frame channel bytes
      → IsPostedOn sent channel bytes

  abbrev ArePosted : List (List ℕ) → Type 0
  ArePosted lines = AllByRecursion IsPostedLine lines

  pub posted_parts : (earlier : List (List ℕ)) (line : List ℕ)
      → AreAllPosted sent (earlier ++ line ∷ []) → ArePosted earlier × IsPostedLine line
  posted_parts earlier line all =
      let parts = by_parts IsPostedLine earlier (line ∷ [])
      (recursion_from_All IsPostedLine (earlier ++ line ∷ []) all) in
      (parts.0, parts.1.0)

  module _ (as_fragment : FragmentIsRead) (whole : WholeIsRead) (refused : RefusedIsRead)
      (same : (a b : FragmentName) → IsTrue (same_name a b) ↔ (a ≡ b)) (name : FragmentName)
      (channel : ℕ) where
    abbrev own : List ℕ
    own = sent name channel

    -- a fragment of this name is one of its message
    fragment_from : (letter : Letter) (message cuts bytes : List ℕ)
        → IsPostedFrame letter message cuts bytes
        → (is_fragmented cuts ≡ true → sent (name_of letter) channel ≡ message) → (f : Fragment)
        → class_of bytes ≡ Cut name f.offset f.more f.bytes
        → IsFragmentOf own f × (length own ≤ 65535)
    fragment_from letter message [] bytes posted one f is =
        absurd (uncut_is_no_fragment letter whole refused message bytes posted name f.offset f.more
        f.bytes is)
    fragment_from letter message (first ∷ later) bytes posted one f is =
        let cuts = first ∷ later in
        let p = fragment_of_frame letter message cuts bytes posted.among in
        let read : fragment_class letter p.posted_fragment ≡ Cut name f.offset f.more f.bytes =
        sym (class_is letter as_fragment posted.fits message cuts posted.posted refl p.posted_fragment p.is_posted_fragment)
        ∙ ap class_of p.frame_is ∙ is in
        let named : name_of letter ≡ name = cc in
        let offset : p.posted_fragment.offset ≡ f.offset = cc in
        let more : p.posted_fragment.more ≡ f.more = cc in
        let text : p.posted_fragment.text ≡ f.bytes = cc in
        let same_fragment_of : pool_fragment p.posted_fragment ≡ f =
        λ i. record { offset = offset i; more = more i; bytes = text i } in
        let message_is : message ≡ own = grind arith in
        let posted_fragment : IsFragmentOf message (pool_fragment p.posted_fragment) =
        all-in (IsFragmentOf message) (parts letter message cuts posted.posted refl)
        (pool_fragment p.posted_fragment) (fragmentation letter message cuts posted.posted refl).fragments
        (in_map pool_fragment (fragments_from 0 cuts message) p.posted_fragment p.is_posted_fragment) in (
          grind arith,
          grind (arith, message_is, is_short letter message cuts posted.posted refl),
        )

    fragment_of_line : (line : List ℕ) → IsPostedLine line → (f : Fragment)
        → HasFragment line name channel f → IsFragmentOf own f × (length own ≤ 65535)
    fragment_of_line line posted f has =
        let p = posted channel has.bytes has.frame in
        fragment_from p.letter p.message p.cuts has.bytes p.is_frame p.one f has.as_fragment

    -- so are all that are held
    fragments_with : (line : List ℕ) → IsPostedLine line → (number : ℕ) (h : Held)
        → AreFragmentsOf own h.fragments
        → AreFragmentsOf own (held_with_line name channel number (command_of line) h).fragments
    fragments_with line posted number h all =
        elim (line_is same line name channel) [
          | inl has ↦
              let f = has.0 in
              let posted_fragment = fragment_of_line line posted f has.1 in
              subst (λ (g : Held). AreFragmentsOf own g.fragments)
              (sym (held_with_fragment line name channel f has.1 number h))
              (by_outcome (rule_over name.addresses) h.fragments f
              (λ (o : Outcome). AreFragmentsOf own (held_after h number o).fragments)
              (λ error is. all)
              (λ none clash. tt)
              (λ taken open_end. AllByRecursion-push (IsFragmentOf own) h.fragments f all posted_fragment.0)
              (λ taken complete. tt))
          | inr (inl forgets) ↦
              grind arith
          | inr (inr stays) ↦
              grind arith
        ]

    fragments_after_more : (count : ℕ) (h : Held) (lines : List (List ℕ)) → ArePosted lines
        → AreFragmentsOf own h.fragments
        → AreFragmentsOf own (held_after_more name channel count h lines).fragments
    fragments_after_more count h [] posted all = all
    fragments_after_more count h (line ∷ lines) posted all =
        fragments_after_more (count + 1) (held_with_line name channel (count + 1) (command_of line) h)
        lines posted.1 (fragments_with line posted.0 (count + 1) h all)

    fragments_after : (lines : List (List ℕ)) → ArePosted lines
        → AreFragmentsOf own (lists_after_lines lines name channel).fragments
    unfolding lists_after_lines
    fragments_after lines posted = fragments_after_more 0 (no_lists name channel) lines posted tt

    module _ (earlier : List (List ℕ)) (line : List ℕ)
        (all : AreAllPosted sent (earlier ++ line ∷ [])) (f : Fragment)
        (has : HasFragment line name channel f) where
      abbrev held : List Fragment
      held = (lists_after_lines earlier name channel).fragments

      abbrev rule : OverlapRule
      rule = rule_over name.addresses

      becomes : (outcome rule held f ≡ Waiting (held ++ f ∷ []))
          ⊎ ((outcome rule held f ≡ Completed own)
          ⊎ (outcome rule held f ≡ Clash (OverlappingFragment f.offset (length f.bytes))) × (rule ≡ Refuses))
      becomes =
          let posted = posted_parts earlier line all in
          let posted_fragment = fragment_of_line line posted.1 f has in
          let before = fragments_after earlier posted.0 in
          let none = fragment_not_refused own held f posted_fragment.1 before posted_fragment.0 in
          by_outcome rule held f (λ (o : Outcome). (o ≡ Waiting (held ++ f ∷ []))
          ⊎ ((o ≡ Completed own)
          ⊎ (o ≡ Clash (OverlappingFragment f.offset (length f.bytes))) × (rule ≡ Refuses)))
          (λ error refused. let never = sym none ∙ refused in cc)
          (λ none clash. inr (inr (refl, refuses_if rule held f clash)))
          (λ taken open_end. inl refl)
          (λ taken whole. inr (inl (ap Completed (text_is own (held ++ f ∷ [])
          (AllByRecursion-push (IsFragmentOf own) held f before posted_fragment.0) whole))))

      pub posted_fragment_answered : (answer_after earlier line ≡ codes "wait")
          ⊎ ((answer_after earlier line ≡ line_of_message name own)
          ⊎ (answer_after earlier line ≡ codes "refused overlap") × (rule ≡ Refuses))
      posted_fragment_answered =
          let answer = fragment_answered line name channel f has earlier in
          grind (arith, becomes)

      pub fragment_returned : ReturnsMessage (answer_after earlier line)
          → answer_after earlier line ≡ line_of_message name own
      fragment_returned out =
          grind (
            arith,
            posted_fragment_answered,
            waiting_returns_nothing,
            overlap_returns_nothing,
          )

  -- ---- the line of the uncut frame

  module _ (whole : WholeIsRead) (refused : RefusedIsRead) (letter : Letter)
      (message bytes : List ℕ) (posted : IsPostedFrame letter message [] bytes)
      (others : List (List ℕ)) (line : List ℕ) (channel : ℕ)
      (frame_is : command_of line ≡ Frame channel bytes) where
    pub uncut_agrees : AnswersAgree (line_of_message (name_of letter) message)
        (answer_after others line)
    uncut_agrees =
        elim (message_at letter.number.0 message) as
        (λ (r : Result ReadMessage SliceError). message_at letter.number.0 message ≡ r
        → AnswersAgree (completed_answer (addresses_of letter.version_id) letter.number.0 message r)
        (answer_after others line)) [
          | Ok read ↦ λ is. inl (sym (class_answered others line channel bytes _ frame_is
              (uncut_is_whole letter whole refused message bytes posted read is)))
          | Err e ↦ λ is. inr (
            refl,
            class_answered others line channel bytes _ frame_is
                (uncut_is_refused letter whole refused message bytes posted e is),
          )
        ] refl
