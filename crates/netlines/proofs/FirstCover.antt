-- The frames of one cut of a message, in any order and with repeats: each waits until the last of
-- them that is new has come.
use Rattle.std.proofs.Common.{◌≡◌, ◌∙◌, ap, refl, subst, sym, inl, inr, ◌↔◌, ℕ, true, List, [], suc, ◌∷◌, ◌++◌, map}
use Rattle.std.proofs.Common.{None, arith}
use Rattle.std.specs.Prelude.{IsTrue, Contains}
use Rattle.std.specs.List.{AllByRecursion}
use Rattle.std.proofs.lemmas.List.Elements.{All-contains, recursion_from_All}
use Rattle.etherparse.specs.Fragments.{Fragment}
use Rattle.etherparse.specs.IpFragId.{same_name, rule_over}
use Rattle.etherparse.specs.packet.Class.{FragmentName, class_of}
use Rattle.etherparse.proofs.ListElements.{AllByRecursion-push}
use Rattle.line_grammar.specs.Commands.{command_of}
use Rattle.line_grammar.specs.Commands.Command.{Frame}
use Rattle.netlines.specs.Alone.{answers_after}
use Rattle.netlines.specs.Arrivals.{HasFragment}
use Rattle.netlines.specs.Letter.{LetterFits, name_of, fragment_class}
use Rattle.netlines.specs.Posted.{PostedFragment, frame, is_fragmented, fragments_from, posted_frames}
use Rattle.netlines.specs.PostedInput.{HaveFrames, IsFirstCover}
use Rattle.netlines.specs.PostRefusal.{post_refusal}
use Rattle.netlines.specs.Waiting.{line_of_message, lines_for, texts_for, waiting_lines}
use Rattle.netlines.specs.declared.letter.Letter.{Letter}
use Rattle.netlines.proofs.AllPosted.{fragmentation, class_is, from_map, in_map, is_in, is_short, parts, by_parts}
use Rattle.netlines.proofs.AllPosted.{fragment_of_frame}
use Rattle.netlines.proofs.CoverLemmas.{AreAmong, IsIn, all-in, all_wait, completes}
use Rattle.netlines.proofs.PostedFragmentation.{pool_fragment}
use Rattle.netlines.proofs.PostedFrames.{FragmentIsRead}
use Rattle.netlines.proofs.ReplayLemmas.{AllButLast, answered_among}
use Rattle.netlines.proofs.WaitingLemmas.{HaveFragments, none_held}

contains : {X : Type 0} (xs : List X) (x : X) → IsIn x xs → Contains xs x
contains [] x h = absurd h
contains (y ∷ xs) x (inl h) = (0, omega arith, h)
contains (y ∷ xs) x (inr h) = let r = contains xs x h in (suc r.0, omega (arith, r.1), r.2)

map_push : {X Y : Type 0} (f : X → Y) (xs : List X) (x : X)
    → map f (xs ++ x ∷ []) ≡ map f xs ++ f x ∷ []
map_push f [] x = refl
map_push f (y ∷ xs) x = ap (λ ys. f y ∷ ys) (map_push f xs x)

same_fragment_of : (p q : PostedFragment) → pool_fragment p ≡ pool_fragment q → p ≡ q
same_fragment_of p q is = grind arith

module _ (letter : Letter) (message cuts : List ℕ) (law : FragmentIsRead) (fits : LetterFits letter)
    (sent : post_refusal letter message cuts ≡ None) (cut : is_fragmented cuts ≡ true) where
  abbrev fragments : List PostedFragment
  fragments = fragments_from 0 cuts message

  abbrev of : PostedFragment → List ℕ
  of posted_fragment = frame letter (is_fragmented cuts) posted_fragment

  abbrev frames : List (List ℕ)
  frames = posted_frames letter message cuts

  -- the fragments whose frames came
  record Came (came : List (List ℕ)) : Type 0 where
    ps : List PostedFragment
    are : map of ps ≡ came
    among : AllByRecursion (λ p. IsIn p fragments) ps

  came_fragments : (came : List (List ℕ)) → AllByRecursion (Contains frames) came → Came came
  came_fragments [] all = record { ps = []; are = refl; among = tt }
  came_fragments (bytes ∷ came) all =
      let p = fragment_of_frame letter message cuts bytes all.0 in
      let rest = came_fragments came all.1 in
      record {
        ps = p.posted_fragment ∷ rest.ps;
        are = λ i. p.frame_is i ∷ rest.are i;
        among = (p.is_posted_fragment, rest.among);
      }

  among_fragments : (ps : List PostedFragment) → AllByRecursion (λ p. IsIn p fragments) ps
      → AreAmong (parts letter message cuts sent cut) (map pool_fragment ps)
  among_fragments [] all = tt
  among_fragments (p ∷ ps) all = (in_map pool_fragment fragments p all.0, among_fragments ps all.1)

  module _ (channel : ℕ) where
    has : (line : List ℕ) (p : PostedFragment) → IsIn p fragments → command_of line ≡ Frame channel (of p)
        → HasFragment line (name_of letter) channel (pool_fragment p)
    has line p in' frame_is = grind (arith, class_is)

    have_fragments : (same : (a b : FragmentName) → IsTrue (same_name a b) ↔ (a ≡ b))
        (lines : List (List ℕ)) (ps : List PostedFragment) → AllByRecursion (λ p. IsIn p fragments) ps
        → HaveFrames channel lines (map of ps)
        → HaveFragments same (name_of letter) channel lines (map pool_fragment ps)
    have_fragments same [] [] all given = tt
    have_fragments same [] (p ∷ ps) all given = absurd given
    have_fragments same (line ∷ lines) [] all given = absurd given
    have_fragments same (line ∷ lines) (p ∷ ps) all given =
        (has line p all.0 given.0, have_fragments same lines ps all.1 given.1)

    pub first_cover : (same : (a b : FragmentName) → IsTrue (same_name a b) ↔ (a ≡ b))
        (others between lines came : List (List ℕ)) (line last : List ℕ)
        → waiting_lines (name_of letter) channel others ≡ []
        → lines_for (name_of letter) channel between ≡ lines ++ line ∷ []
        → HaveFrames channel lines came → command_of line ≡ Frame channel last
        → IsFirstCover frames came last
        → texts_for (name_of letter) channel between (answers_after others between)
        ≡ AllButLast same (name_of letter) channel lines (line_of_message (name_of letter) message)
    first_cover same others between lines came line last none is given last_has_frame cover =
        let name = name_of letter in
        let are_in = by_parts (Contains frames) came (last ∷ [])
        (recursion_from_All (Contains frames) (came ++ last ∷ []) cover.among) in
        let before = came_fragments came are_in.0 in
        let p = fragment_of_frame letter message cuts last are_in.1.0 in
        let fs = map pool_fragment before.ps in
        let f = pool_fragment p.posted_fragment in
        let fragmentation_is = fragmentation letter message cuts sent cut in
        let short = is_short letter message cuts sent cut in
        let all_fragments = parts letter message cuts sent cut in
        let as_fragment : IsIn f all_fragments = in_map pool_fragment fragments p.posted_fragment p.is_posted_fragment in
        let among = among_fragments before.ps before.among in
        let new : IsIn f fs → ⊥ =
        grind (arith, from_map, pool_fragment, contains, in_map, same_fragment_of) in
        let ps : List PostedFragment = before.ps ++ p.posted_fragment ∷ [] in
        let ps_among : AllByRecursion (λ r. IsIn r fragments) ps =
        AllByRecursion-push (λ r. IsIn r fragments) before.ps p.posted_fragment before.among p.is_posted_fragment in
        let ps_are : map of ps ≡ came ++ last ∷ [] =
        grind (arith, map_push) in
        let each : (g : Fragment) → IsIn g all_fragments → IsIn g (fs ++ f ∷ []) = λ g in'.
        let q = from_map pool_fragment fragments g in' in
        let arrived : Contains (came ++ last ∷ []) (of q.0) =
        All-contains (Contains (came ++ last ∷ [])) frames (of q.0) cover.all
        (contains frames (of q.0) (in_map of fragments q.0 q.1)) in
        let r = from_map of ps (of q.0)
        (subst (λ (xs : List (List ℕ)). IsIn (of q.0) xs) (sym ps_are)
        (is_in (came ++ last ∷ []) (of q.0) arrived)) in
        let r_in = all-in (λ (x : PostedFragment). IsIn x fragments) ps r.0 ps_among r.1 in
        let classes : fragment_class letter r.0 ≡ fragment_class letter q.0 =
        sym (class_is letter law fits message cuts sent cut r.0 r_in) ∙ ap class_of r.2
        ∙ class_is letter law fits message cuts sent cut q.0 q.1 in
        let same_as : pool_fragment r.0 ≡ g = grind arith in
        subst (λ (xs : List Fragment). IsIn g xs) (map_push pool_fragment before.ps p.posted_fragment)
        (subst (λ (x : Fragment). IsIn x (map pool_fragment ps)) same_as (in_map pool_fragment ps r.0 r.1)) in
        let longer : AreAmong all_fragments (fs ++ f ∷ []) =
        AllByRecursion-push (λ g. IsIn g all_fragments) fs f among as_fragment in
        answered_among same name channel others between lines fs line f message
        (none_held same name channel others none)
        (have_fragments same lines before.ps before.among
        (subst (HaveFrames channel lines) (sym before.are) given))
        (has line p.posted_fragment p.is_posted_fragment (last_has_frame ∙ ap (Frame channel) (sym p.frame_is)))
        (all_wait message short all_fragments fragmentation_is (rule_over name.addresses) f as_fragment fs among new)
        (completes message short all_fragments fragmentation_is (rule_over name.addresses) fs f longer each among
        as_fragment) is
