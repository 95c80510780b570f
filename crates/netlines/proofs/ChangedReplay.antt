-- The lines of a message that came, one of them with a changed word.
use Rattle.std.proofs.Common.{◌≡◌, ◌∙◌, ap, refl, subst, sym, ◌↔◌, ℕ, ◌+◌, ◌*◌, List, ◌∷◌, ◌++◌, [], length, map, arith}
use Rattle.std.proofs.Common.{length-append}
use Rattle.std.specs.Prelude.{All, IsTrue, codes}
use Rattle.etherparse.specs.Fragments.{AgreesWith, Fragment, FragmentsAgree}
use Rattle.etherparse.specs.IpFragId.{same_name, rule_over}
use Rattle.etherparse.specs.PoolCalls.{outcome_at}
use Rattle.etherparse.specs.FragmentBytes.{text_of}
use Rattle.etherparse.specs.packet.Class.{FragmentName}
use Rattle.netlines.specs.Alone.{answers_after}
use Rattle.netlines.specs.Answers.{answer_after, outcome_answer}
use Rattle.netlines.specs.Arrivals.{HasFragment, lists_after_lines}
use Rattle.netlines.specs.ChangedWord.{DifferAt, IsChangedFragment}
use Rattle.netlines.specs.Waiting.{ReturnsMessage, ReturnsChanged, line_of_message, lines_for, texts_for, waiting_lines}
use Rattle.netlines.proofs.AcceptedWaiting.{all_accepted}
use Rattle.netlines.proofs.ArrivalLemmas.{fragment_answered}
use Rattle.netlines.proofs.ChangedFragment.{one_changed, texts_differ}
use Rattle.netlines.proofs.ReplayLemmas.{answered_among, returned_text}
use Rattle.netlines.proofs.ShapeLemmas.{AllSameShape, SameShape, completes_if, own_shape, same_completed, same_wait}
use Rattle.netlines.proofs.WaitingLemmas.{AllWait, HaveFragments, HaveFragments-push, are_waiting, none_held}
use Rattle.etherparse.specs.declared.defrag.overlap_rule.OverlapRule.{OverlapRule}
use Rattle.etherparse.specs.declared.defrag.overlap_rule.OverlapRule.TheVariants.{Overwrites}
use Rattle.etherparse.specs.Outcome.{outcome}
use Rattle.etherparse.specs.Outcome.Outcome.{Completed}

waits_alike : (xs ys : List (List ℕ)) → length xs ≡ length ys
    → map (λ (_ : List ℕ). codes "wait") xs ≡ map (λ (_ : List ℕ). codes "wait") ys
waits_alike [] [] size = refl
waits_alike [] (y ∷ ys) size = absurd (omega arith)
waits_alike (x ∷ xs) [] size = absurd (omega arith)
waits_alike (x ∷ xs) (y ∷ ys) size = grind (arith, waits_alike xs ys (omega arith))

-- the last of fragments of the same shapes
record ShapedLast (fs : List Fragment) (h : Fragment) (ks : List Fragment) : Type 0 where
  gs : List Fragment
  last : Fragment
  is : ks ≡ gs ++ last ∷ []
  prefixes : AllSameShape fs gs
  lasts : SameShape h last

shaped_last : (fs : List Fragment) (h : Fragment) (ks : List Fragment)
    → AllSameShape (fs ++ h ∷ []) ks → ShapedLast fs h ks
shaped_last [] h [] all = absurd all
shaped_last [] h (k ∷ []) all =
    record { gs = []; last = k; is = refl; prefixes = tt; lasts = all.0 }
shaped_last [] h (k ∷ l ∷ ks) all = absurd all.1
shaped_last (f ∷ fs) h [] all = absurd all
shaped_last (f ∷ fs) h (k ∷ ks) all =
    let rest = shaped_last fs h ks all.1 in
    record {
      gs = k ∷ rest.gs;
      last = rest.last;
      is = ap (λ (xs : List Fragment). k ∷ xs) rest.is;
      prefixes = (all.0, rest.prefixes);
      lasts = rest.lasts;
    }

module _ (same : (a b : FragmentName) → IsTrue (same_name a b) ↔ (a ≡ b)) (name : FragmentName)
    (channel : ℕ) where
  abbrev In : List (List ℕ) → List Fragment → Type 0
  In lines fs = HaveFragments same name channel lines fs

  -- a line has one fragment
  same_fragment : (line : List ℕ) (f g : Fragment) → HasFragment line name channel f
      → HasFragment line name channel g → f ≡ g
  same_fragment line f g a b = grind arith

  -- the fragments around that of one line
  record InAround (prefix : List (List ℕ)) (line : List ℕ) (rest : List (List ℕ))
      (ks : List Fragment) : Type 0 where
    before : List Fragment
    f : Fragment
    following : List Fragment
    is : ks ≡ before ++ f ∷ following
    prefixes : In prefix before
    here : HasFragment line name channel f
    rests : In rest following

  in_around : (prefix : List (List ℕ)) (line : List ℕ) (rest : List (List ℕ))
      (ks : List Fragment) → In (prefix ++ line ∷ rest) ks → InAround prefix line rest ks
  in_around [] line rest [] all = absurd all
  in_around [] line rest (k ∷ ks) all = record {
    before = [];
    f = k;
    following = ks;
    is = refl;
    prefixes = tt;
    here = all.0;
    rests = all.1;
  }
  in_around (l ∷ prefix) line rest [] all = absurd all
  in_around (l ∷ prefix) line rest (k ∷ ks) all =
      let r = in_around prefix line rest ks all.1 in
      record {
        before = k ∷ r.before;
        f = r.f;
        following = r.following;
        is = ap (λ (xs : List Fragment). k ∷ xs) r.is;
        prefixes = (all.0, r.prefixes);
        here = r.here;
        rests = r.rests;
      }

  in_joined : (prefix : List (List ℕ)) (line : List ℕ) (rest : List (List ℕ))
      (before : List Fragment) (f : Fragment) (following : List Fragment) → In prefix before
      → HasFragment line name channel f → In rest following
      → In (prefix ++ line ∷ rest) (before ++ f ∷ following)
  in_joined [] line rest [] f following prefixes here rests = (here, rests)
  in_joined [] line rest (k ∷ before) f following prefixes here rests = absurd prefixes
  in_joined (l ∷ prefix) line rest [] f following prefixes here rests = absurd prefixes
  in_joined (l ∷ prefix) line rest (k ∷ before) f following prefixes here rests =
      (prefixes.0, in_joined prefix line rest before f following prefixes.1 here rests)

  -- the line of the last fragment
  record InLast (lines : List (List ℕ)) (gs : List Fragment) (last : Fragment) : Type 0 where
    prefix : List (List ℕ)
    line : List ℕ
    is : lines ≡ prefix ++ line ∷ []
    prefixes : In prefix gs
    here : HasFragment line name channel last

  in_last : (lines : List (List ℕ)) (gs : List Fragment) (last : Fragment)
      → In lines (gs ++ last ∷ []) → InLast lines gs last
  in_last [] [] last all = absurd all
  in_last [] (g ∷ gs) last all = absurd all
  in_last (l ∷ []) [] last all =
      record { prefix = []; line = l; is = refl; prefixes = tt; here = all.0 }
  in_last (l ∷ m ∷ lines) [] last all = absurd all.1
  in_last (l ∷ lines) (g ∷ gs) last all =
      let r = in_last lines gs last all.1 in
      record {
        prefix = l ∷ r.prefix;
        line = r.line;
        is = ap (λ (xs : List (List ℕ)). l ∷ xs) r.is;
        prefixes = (all.0, r.prefixes);
        here = r.here;
      }

  pub replayed_with_change : FragmentsAgree → (earlier others between prefix rest : List (List ℕ))
      (last line changed : List ℕ) (f g h : Fragment) → rule_over name.addresses ≡ Overwrites
      → HasFragment last name channel h
      → ReturnsMessage (answer_after earlier last)
      → waiting_lines name channel earlier ++ last ∷ [] ≡ prefix ++ line ∷ rest
      → HasFragment line name channel f → HasFragment changed name channel g
      → (change : IsChangedFragment f g) → waiting_lines name channel others ≡ []
      → lines_for name channel between ≡ prefix ++ changed ∷ rest
      → ReturnsChanged name (8 * f.offset + length change.words.prefix) (answer_after earlier last)
      (waiting_lines name channel earlier) (texts_for name channel between
      (answers_after others between))
  replayed_with_change agree earlier others between prefix rest last line changed f g h over has
      out lines_are line_has changed_has change none is =
      let waiting = waiting_lines name channel earlier in
      let held = are_waiting same name channel earlier in
      let fs = (lists_after_lines earlier name channel).fragments in
      let answer = fragment_answered last name channel h has earlier in
      let reported = returned_text name (outcome_at (lists_after_lines earlier) name channel h)
      (subst ReturnsMessage answer out) in
      let old_wait : AllWait Overwrites [] fs =
      subst (λ (r : OverlapRule). AllWait r [] fs) over held.1 in
      let completed : outcome Overwrites fs h ≡ Completed reported.0 =
      subst (λ (r : OverlapRule). outcome r fs h ≡ Completed reported.0) over reported.1 in
      let was = completes_if Overwrites fs h reported.0 completed in
      let all_in : In (prefix ++ line ∷ rest) (fs ++ h ∷ []) =
      subst (λ (ls : List (List ℕ)). In ls (fs ++ h ∷ [])) lines_are
      (HaveFragments-push same name channel waiting fs last h held.0 has) in
      let a = in_around prefix line rest (fs ++ h ∷ []) all_in in
      let own : a.f ≡ f = same_fragment line a.f f a.here line_has in
      let old_are : fs ++ h ∷ [] ≡ a.before ++ f ∷ a.following =
      a.is ∙ ap (λ (k : Fragment). a.before ++ k ∷ a.following) own in
      let new : List Fragment = a.before ++ g ∷ a.following in
      let shape : SameShape f g = record {
        offset = change.offset;
        more = change.more;
        size = same_size f g change;
      } in
      let shapes : AllSameShape (fs ++ h ∷ []) new =
      subst (λ (ks : List Fragment). AllSameShape ks new) (sym old_are)
      (one_changed SameShape own_shape a.before a.following f g shape) in
      let n = shaped_last fs h new shapes in
      let new_in : In (prefix ++ changed ∷ rest) new =
      in_joined prefix changed rest a.before g a.following a.prefixes changed_has a.rests in
      let l = in_last (prefix ++ changed ∷ rest) n.gs n.last
      (subst (λ (ks : List Fragment). In (prefix ++ changed ∷ rest) ks) n.is new_in) in
      let size : length l.prefix ≡ length waiting =
      omega (
        arith,
        ap length l.is,
        ap length lines_are,
        length-append prefix (changed ∷ rest),
        length-append l.prefix (l.line ∷ []),
        length-append waiting (last ∷ []),
        length-append prefix (line ∷ rest),
      ) in
      let wait : AllWait (rule_over name.addresses) [] n.gs =
      subst (λ (r : OverlapRule). AllWait r [] n.gs) (sym over)
      (same_wait [] [] fs n.gs tt n.prefixes old_wait) in
      let completes : outcome (rule_over name.addresses) n.gs n.last
      ≡ Completed (text_of (n.gs ++ n.last ∷ [])) =
      subst (λ (r : OverlapRule). outcome r n.gs n.last ≡ Completed (text_of (n.gs ++ n.last ∷ [])))
      (sym over)
      (same_completed fs n.gs h n.last reported.0 n.prefixes n.lasts completed) in
      let made = answered_among same name channel others between l.prefix n.gs l.line n.last
      (text_of (n.gs ++ n.last ∷ [])) (none_held same name channel others none) l.prefixes l.here wait
      completes (is ∙ l.is) in
      let agrees : All (AgreesWith (a.before ++ f ∷ a.following)) (a.before ++ f ∷ a.following) =
      subst (λ (ks : List Fragment). All (AgreesWith ks) ks) old_are
      (agree Overwrites (fs ++ h ∷ []) (all_accepted Overwrites fs h old_wait was.0)) in
      let differ : DifferAt (8 * f.offset + length change.words.prefix)
      (text_of (a.before ++ f ∷ a.following)) (text_of new) =
      texts_differ a.before a.following f g shape change.words agrees in
      record {
        old = reported.0;
        new = text_of (n.gs ++ n.last ∷ []);
        was = answer ∙ ap (outcome_answer name.addresses name.number) reported.1;
        is = made ∙ (λ i. waits_alike l.prefix waiting size i
            ++ line_of_message name (text_of (n.gs ++ n.last ∷ [])) ∷ []);
        differ = subst (λ (t : List ℕ). DifferAt (8 * f.offset + length change.words.prefix) t
            (text_of (n.gs ++ n.last ∷ []))) (sym (was.2 ∙ ap text_of old_are))
            (subst (λ (ks : List Fragment). DifferAt (8 * f.offset + length change.words.prefix)
            (text_of (a.before ++ f ∷ a.following)) (text_of ks)) n.is differ);
      } where
        same_size : (f g : Fragment) → (change : IsChangedFragment f g)
            → length f.bytes ≡ length g.bytes
        same_size f g change =
            let w = change.words in
            omega (
              arith,
              ap length w.old_is,
              ap length w.new_is,
              length-append (w.prefix ++ w.old_word) w.rest,
              length-append w.prefix w.old_word,
              length-append (w.prefix ++ w.new_word) w.rest,
              length-append w.prefix w.new_word,
              w.same_size,
            )
