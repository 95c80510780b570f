-- What writes of the links change.
use Rattle.std.proofs.Common.{◌≡◌, ℕ, ◌+◌, ◌-◌, ◌<◌, ◌≤◌, ◌≢◌, true, List, [], ◌∷◌, ◌++◌, length, set, take, get_or, arith, ap, subst, sym, ◌∙◌}
use Rattle.std.specs.Prelude.{◌^◌}
use Rattle.std.proofs.lemmas.Bool.Decides.{nat_tests}
use Rattle.std.proofs.lemmas.Grind.{common_steps}
use Rattle.std.proofs.lemmas.List.{get_or-set_same, get_or-set_other, get_or-take, get_or_read, length-take}
use Rattle.etherparse.specs.StartOrder.{CanMoveTo, IsRing, Joined, MovesTo, PutsLast, TakesOut, has, link, order_without, nodes, slots_of}
use Rattle.etherparse.proofs.StartLinks.{last_in}
use Rattle.etherparse.proofs.StartRings.{added, last_can_move, links_within, length-slots, length-walk, removed, slots-push, slots_left}

pub order_len : (N : List ℕ) → length (slots_of (nodes N)) ≡ length N - 1
order_len N = omega (arith, length-slots (nodes N), length-walk (link N) (length N - 1) 0)

-- the nodes that one is linked to, as they are read
pub record Neighbours (N O : List ℕ) (b before after : ℕ) : Type 0 where
  pub before_is : before ≡ link O b
  pub after_is : after ≡ link N b
  pub before_within : before < length N
  pub after_within : after < length O

pub neighbours : (N O : List ℕ) (b before after : ℕ) → IsRing N O → 0 < b → b < length N
    → before ≡ get_or O b before → after ≡ get_or N b after → Neighbours N O b before after
neighbours N O b before after r some within x y =
    let w = links_within N O b r some within in
    let x' : before ≡ link O b = get_or_read O b before (omega (arith, r.same)) x 0 in
    let y' : after ≡ link N b = get_or_read N b after within y 0 in
    record {
      before_is = x';
      after_is = y';
      before_within = omega (arith, w.0);
      after_within = omega (arith, w.1, r.same);
    }

pub takes_out : (N O : List ℕ) (b before after : ℕ) → Neighbours N O b before after
    → TakesOut b (link N) (link O) (link (set N before after)) (link (set O after before))
takes_out N O b before after n = record {
  newer_at = rw (← n.before_is, ← n.after_is) (get_or-set_same N before after 0 n.before_within);
  older_at = rw (← n.before_is, ← n.after_is) (get_or-set_same O after before 0 n.after_within);
  newer = λ q apart. get_or-set_other N before q after 0 (λ e. apart (e ∙ n.before_is));
  older = λ q apart. get_or-set_other O after q before 0 (λ e. apart (e ∙ n.after_is));
}

pub newest_within : (N O : List ℕ) (newest : ℕ) → IsRing N O → 1 ≤ length N
    → newest ≡ get_or O 0 newest → (newest ≡ link O 0) × (newest < length N)
newest_within N O newest r some e =
    let last = last_in (link N) (link O) 0 (nodes N) 0 r.joined in
    let read : newest ≡ link O 0 = get_or_read O 0 newest (omega (arith, r.same)) e 0 in
    let within : link O 0 < length N = grind (arith, nat_tests, r.members (link O 0)) in
    (read, omega arith)

head_in : (f g : ℕ → ℕ) (ps : List ℕ) (a z : ℕ) → 0 < length ps → Joined f g a ps z → has (f a) ps ≡ true
head_in f g [] a z h j = grind arith
head_in f g (p ∷ ps) a z h j = grind (arith, nat_tests)

pub oldest_within : (N O : List ℕ) (oldest : ℕ) → IsRing N O → 1 < length N
    → oldest ≡ get_or N 0 oldest → (0 < oldest) × (oldest - 1 < length (slots_of (nodes N)))
oldest_within N O oldest r some e =
    let h = head_in (link N) (link O) (nodes N) 0 0 (omega (arith, length-walk (link N) (length N - 1) 0)) r.joined in
    let read : oldest ≡ link N 0 = get_or_read N 0 oldest (omega arith) e 0 in
    let within : (0 < link N 0) × (link N 0 < length N) =
    (grind (arith, nat_tests, r.members (link N 0)), grind (arith, nat_tests, r.members (link N 0))) in
    (omega (arith, within.0), omega (arith, within.1, order_len N))

pub puts_last : (N O : List ℕ) (len newest : ℕ) → length N ≡ len → length O ≡ len → newest ≡ link O 0 → newest < len
    → PutsLast len 0 (link N) (link O) (link (set (N ++ 0 ∷ []) newest len)) (link (set (O ++ newest ∷ []) 0 len))
puts_last N O len newest n o e h = record {
  newer_at = grind (arith, common_steps, get_or-set_other (N ++ 0 ∷ []) newest len len 0);
  older_at = grind (arith, common_steps, get_or-set_other (O ++ newest ∷ []) 0 len len 0);
  newer_before = grind (arith, common_steps);
  older_after = grind (arith, common_steps);
  newer = λ q apart other. grind (arith, common_steps, get_or-set_other (N ++ 0 ∷ []) newest q len 0);
  older = λ q apart other. grind (arith, common_steps, get_or-set_other (O ++ newest ∷ []) 0 q len 0);
}

-- the order after an entry is added, and after one is removed
pub record OrderAfter (N O order : List ℕ) : Type 0 where
  pub ring : IsRing N O
  pub order_is : slots_of (nodes N) ≡ order

pub order_added : (N O N₁ O₁ N' O' : List ℕ) (len : ℕ) → length N₁ ≡ len → 1 ≤ len → length N' ≡ len + 1
    → length O' ≡ length N' → len + 1 ≤ 2 ^ 32 → IsRing N₁ O₁ → nodes N₁ ≡ nodes N
    → PutsLast len 0 (link N₁) (link O₁) (link N') (link O')
    → OrderAfter N' O' (slots_of (nodes N) ++ length (slots_of (nodes N)) ∷ [])
order_added N O N₁ O₁ N' O' len is some more equal fits r same t =
    let t' = subst (λ (n : ℕ). PutsLast n 0 (link N₁) (link O₁) (link N') (link O')) (sym is) t in
    let a = added N₁ O₁ N' O' r (omega arith) (omega arith) equal (omega arith) t' in
    let count : length N₁ - 1 ≡ length (slots_of (nodes N)) =
    sym (order_len N₁) ∙ ap (λ (ps : List ℕ). length (slots_of ps)) same in
    record {
      ring = a.0;
      order_is = ap (λ (ps : List ℕ). slots_of ps) a.1 ∙ slots-push (nodes N₁) (length N₁)
          ∙ ap (λ (ps : List ℕ). slots_of ps ++ (length N₁ - 1) ∷ []) same
          ∙ ap (λ (n : ℕ). slots_of (nodes N) ++ n ∷ []) count;
    }

module _ (N O N₁ O₁ : List ℕ) (last slot : ℕ) (r : IsRing N O) (is : last ≡ length N - 1) (within : slot + 1 < length N)
    (t : TakesOut (slot + 1) (link N) (link O) (link N₁) (link O₁)) where
  pub can_move : length N₁ ≡ length N → last ≢ slot + 1 → CanMoveTo last (slot + 1) N₁ O₁
  can_move same apart =
      rw is (last_can_move N O N₁ O₁ (slot + 1) r (omega arith) within t same (λ e. apart (is ∙ e)))

  pub order_removed : (N₂ O₂ N' O' : List ℕ) (count count' : ℕ) → MovesTo last (slot + 1) N₁ O₁ N₂ O₂ → N' ≡ take count N₂
      → O' ≡ take count' O₂ → count ≡ length N - 1 → count' ≡ length N - 1 → length N₂ ≡ length N
      → length O₂ ≡ length N → OrderAfter N' O' (order_without slot (slots_of (nodes N)))
  order_removed N₂ O₂ N' O' count count' m n o k k' newer older =
      let len : length N' ≡ length N - 1 = rw n (length-take count N₂ ∙ omega arith) in
      let same : length O' ≡ length N' = rw (len, o) (length-take count' O₂ ∙ omega arith) in
      let m' = subst (λ (l : ℕ). MovesTo l (slot + 1) N₁ O₁ N₂ O₂) is m in
      let a = removed N O N₁ O₁ (slot + 1) r (omega arith) within t N₂ O₂ m' N' O' len same
      (λ q h. rw n (get_or-take count N₂ q 0 (omega arith))) (λ q h. rw o (get_or-take count' O₂ q 0 (omega arith))) in
      record {
        ring = a.0;
        order_is = ap (λ (ps : List ℕ). slots_of ps) a.1
            ∙ slots_left N O N₁ O₁ (slot + 1) r (omega arith) within t N₂ O₂ m'
            ∙ ap (λ (s : ℕ). order_without s (slots_of (nodes N))) (omega arith);
      }
