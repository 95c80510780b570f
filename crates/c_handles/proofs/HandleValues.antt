-- The machine values of a handle: a struct of one pointer that owns the block of a box, or nothing.
-- Each crate declares its own, since a struct in an export to C has no type arguments. Assumes `Logic`.
use Rattle.std.proofs.Common.{◌≡◌, ℕ, List, [], ◌∷◌, ◌++◌, refl, sym, subst, Option, Some, None, IsSome}
use seplogic.Ra.Ura.{Ura}
use mir.Raw.{raw as bare}
use mir.Val.{Val, vstruct, vcons, vnil, of_list}
use base.Logic.{never, fst∗}
use types.Logic.{Logic, sem}
use types.Kit.{Item, Goal, Seq, Step, step, ‵, ◌$◌, drop, fsplit, fjoin, fpick, fpack, rewrite, feq_i, feq_l}
use denote.Builtin.{RawPtr}
use denote.Exit.{under, hidden}
use denote.Memory.{lone}
use denote.RattleType.{RattleType, Valss}
use denote.RawPtr.{Ptr, block_ptr, null_ptr, ptr_val, in_a_block}
use denote.Steps.{nothing}
use denote.Struct.Field.{RawPtr-field}
use denote.Struct.Owning.{Owning, shape, row as row_of}
use denote.Struct.Struct.{exits_of, within}
use Rattle.std.specs.contracts.impls.GlobalAllocator.TheImpl.{ghosts}
use Rattle.std_alloc.specs.Box.Ownership.{box_owns}
use Rattle.c_handles.specs.Holds.{heap, holds}

-- a crate's struct, with its fields
pub record Handle : Type 2 where
  pub held : RattleType
  pub declared : Owning
  pub at : declared.D → Ptr
  pub value : declared.D → Option held.Denot
  pub make : Ptr → Option held.Denot → declared.D
  pub made : (p : Ptr) (m : Option held.Denot) → (at (make p m) ≡ p) × (value (make p m) ≡ m)

pub value_of : {A : Type 0} (m : Option A) → IsSome m → (x : A) × (m ≡ Some x)
value_of None some = absurd (cc)
value_of (Some x) some = (x, refl)

-- the machine value of a handle
abbrev pub word : Ptr → Val
word p = vstruct (vcons (ptr_val p) vnil)

module _ (h : Handle) where
  abbrev pub the_type : Owning
  the_type = record h.declared {
    args = [];
    types = [];
    parts = RawPtr-field ∷ [];
    as_values = λ d. (h.at d, tt);
    heap = λ d. holds h.held (h.at d) (h.value d);
    exit = λ k. hidden (under (λ d. (h.at d, tt)) (exits_of k (RawPtr ∷ [])));
  }

  abbrev pub the_row : RattleType
  the_row = row_of the_type

  module _ {M : Type 1} {𝓤 : Ura M} {𝓛 : Logic 𝓤} {K : Type 0} {Γ : List (Item 𝓤)} {G : Goal 𝓤 𝓛.H}
    where
      pub held_in : K → (p : Ptr) (m : Option h.held.Denot)
          → Step K 𝓛 (‵ (the_row.own_val (h.make p m) (word p ∷ [])) ∷ Γ) G (‵
          (holds h.held p m) ∷ Γ) G
      held_in t p m = step (λ s. let d = h.make p m in let is = h.made p m in
          rewrite t 0 (λ (q : Ptr × Option h.held.Denot). ‵ (holds h.held q.0 q.1)) (sym (λ i. (
            is.0 i,
            is.1 i,
          ))) refl $
          nothing t $ feq_i t (List Val) (ptr_val (h.at d) ∷ []) (ptr_val (h.at d) ∷ []) refl $ fjoin t $
          feq_i t (List Val) (word (h.at d) ∷ []) (word (h.at d) ∷ []) refl $ fjoin t $
          fpack t (Valss (RawPtr ∷ [])) (within (shape the_type) (h.at d, tt) (word (h.at d) ∷ [])) (
            ptr_val (h.at d)
                ∷ [],
            tt,
          ) $ fjoin t $
          rewrite t 0 (λ (q : Ptr). ‵ (the_row.own_val d (word q ∷ []))) is.0 refl $ s)

      -- a handle of a value owns its block
      pub held_out : K → (d : h.declared.D) (x : h.held.Denot) → h.value d ≡ Some x → (vs : List Val)
          → ((b o : ℕ) → vs ≡ word (block_ptr b o) ∷ [] → Seq K 𝓛 (‵ (box_owns (ghosts.dealloc_token
          heap) h.held (block_ptr b o) x) ∷ Γ) G)
          → Seq K 𝓛 (‵ (the_row.own_val d vs) ∷ Γ) G
      held_out t d x is vs k =
          fsplit t $ fpick t (λ vss. fsplit t $ feq_l t (λ ev. fsplit t $ feq_l t (λ ep. drop t $
          rewrite t 0 (λ (m : Option h.held.Denot). ‵ (holds h.held (h.at d) m)) is refl $
          in_a_block t (h.at d) (λ p. box_owns (ghosts.dealloc_token heap) h.held p x) (fst∗ 𝓤 (never 𝓤) (sem 𝓛
          (ghosts.dealloc_token heap (bare (lone h.held.mir)) null_ptr))) (λ b o e. k b o
          (subst (λ (p : Ptr). vs ≡ word p ∷ []) e (subst (λ (l : List Val). vs ≡ vstruct (of_list (l
          ++ [])) ∷ []) ep ev))))))
