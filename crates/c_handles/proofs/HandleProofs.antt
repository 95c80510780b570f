-- The functions of a handle, whose code is the same in each crate that has one. Assumes `Logic`.
use Rattle.std.proofs.Common.{◌≡◌, ℕ, suc, List, [], ◌∷◌, ◌++◌, refl, sym, subst, Some, None, IsSome}
use lib.Dec.{lit<}
use seplogic.Ra.Ura.{Ura}
use mir.Syntax.{Body, Callee, Fn, Local, local, value_local, impl, ty_ptr, tnil, dnil, w64}
use mir.Syntax.{place, field, copy, int, rv_opd, aggregate, assign, seq, return}
use mir.Val.{Val, vptr}
use base.Logic.{SProp, ent, emp, id⊢}
use base.Fml.{ftrue}
use prog.Model.{Model}
use prog.Wp.{WpFn, Closed}
use types.Logic.{Logic}
use types.Kit.{‵, raw, ◌⊛◌, ◌$◌, ◌∵◌, !, qed, by, move, keep, split, fsplit, fjoin, suffices, use0}
use types.Run.{stop, fld, of_opd, no_more, and_then, returns, enter, lit}
use types.ByLocal.{alloc_all, pass_all, free_all, look_at, get, get_in, sets}
use types.Part.{agg, sub, whole}
use contract.Monad.{fact, fact_i}
use contract.Running.{Running, MachineTables, tables}
use denote.Exit.{yes}
use denote.Memory.{lone}
use denote.RattleType.{RattleType, owns}
use denote.RawPtr.{block_ptr, null_ptr}
use denote.Signature.{types_at, plain}
use denote.Steps.{nothing, heard}
use denote.Triple.Clauses.{Ended, Clauses, closing}
use denote.Triple.Spec.{Meets}
use denote.Triple.Walked.{Stays, stay_dropped, Goes-dropped, walk_of}
use Rattle.core.proofs.alloc.Calls.{Al, Goes-blank, handle_tells}
use Rattle.std.proofs.raw_atomic.Walks.{proved_at, leaves}
use Rattle.std.specs.contracts.alloc.Global.{the_row as Z}
use Rattle.std.proofs.alloc.Global.TheLaws.{the_row_laws as L}
use Rattle.std.specs.contracts.impls.GlobalAllocator.TheImpl.{ghosts}
use Rattle.c_handles.proofs.HandleValues.{Handle, held_in, held_out, the_row, value_of, word}
use Rattle.c_handles.proofs.LooseValues.{both, Loose, loose_good, loose_in, loose_out}

abbrev of_row : RattleType → Local
of_row row = local (lone row.mir) value_local

abbrev of_pointer : Local
of_pointer = local ty_ptr value_local

abbrev code : (params : ℕ) → List Local → Body → Fn
code params locals body = record {
  lifetimes = 0;
  outlives = [];
  ty_params = [];
  givens = 0;
  params = params;
  locals = locals;
  body = body;
}

-- the first field of local 1, copied to local `to` and from there to the next one
abbrev pointer_taken : (to : ℕ) → Body → Body
pointer_taken to rest = seq (assign (place to []) (rv_opd (copy (place 1 (field 0 ∷ [])))))
    (seq (assign (place (suc to) []) (rv_opd (copy (place to [])))) rest)

abbrev al : Al
al = record { row = Z; laws = L; g = ghosts; d = impl [] tnil dnil; drops = impl [] tnil dnil }

module _ (h : Handle) where
  abbrev Row : RattleType
  Row = the_row h

  abbrev Moved : RattleType
  Moved = Loose h.held Z L ghosts

  abbrev none_ended : Ended
  none_ended = record {
    signature = record { lifetimes = 0; outlives = []; params = []; result = plain (λ _. Row) };
    kept = tt;
  }

  abbrev of_ended : Ended
  of_ended = record {
    signature = record none_ended.signature { params = plain (λ _. Moved) ∷ [] };
    kept = (yes, tt);
  }

  abbrev into_ended : Ended
  into_ended = record {
    signature = record {
      lifetimes = 0;
      outlives = [];
      params = plain (λ _. Row) ∷ plain (λ _. Z) ∷ [];
      result = plain (λ _. Moved);
    };
    kept = (yes, (yes, tt));
  }

  abbrev none_code : Fn
  none_code = code 0 (of_row Row ∷ []) (seq (assign (place 0 []) (aggregate (int w64 0 ∷ []))) return)

  abbrev of_code : Fn
  of_code = code 1 (of_row Row ∷ of_row Moved ∷ of_pointer ∷ of_pointer ∷ []) (pointer_taken 2
      (seq (assign (place 0 []) (aggregate (copy (place 3 []) ∷ []))) return))

  abbrev into_code : Fn
  into_code = code 2 (of_row Moved ∷ of_row Row ∷ of_row Z ∷ of_pointer ∷ of_pointer ∷ [])
      (pointer_taken 3 (seq (assign (place 0 []) (aggregate (copy (place 4 []) ∷ copy (place 2 [])
      ∷ []))) return))

  abbrev of_stays : Stays of_ended.signature.params of_ended.kept
  of_stays = (stay_dropped (plain (λ _. Moved)) yes, tt)

  abbrev into_stays : Stays into_ended.signature.params into_ended.kept
  into_stays = (stay_dropped (plain (λ _. Row)) yes, (stay_dropped (plain (λ _. Z)) yes, tt))

  module _ {M : Type 1} (𝓤 : Ura M) (𝓛 : Logic 𝓤) (𝓜 : Model 𝓤 𝓛.H) (𝓡 : Running 𝓤 𝓛.H 𝓜)
      (key : Callee) where
    abbrev 𝓣 : MachineTables 𝓤 𝓛.H 𝓜
    𝓣 = tables 𝓤 𝓛.H 𝓜 𝓡 𝓡.env

    -- a function of this code meets this contract
    abbrev CodeMeets : Fn → (T : Ended) → Clauses 𝓤 T → Type 2
    CodeMeets fn T c =
        Closed 𝓤 𝓛.H 𝓣.C 𝓣.Λ key fn → Meets 𝓛 T.signature (𝓣.C key) (closing 𝓛 T c)

    abbrev none_clauses : Clauses 𝓤 none_ended
    none_clauses κs passed = record {
      ghost = Unit {0};
      requires = λ _. emp 𝓤;
      ensures = λ _ result _. fact 𝓤 (h.value result ≡ None);
    }

    pub none_meets : CodeMeets none_code none_ended none_clauses
    none_meets closed =
        proved_at 𝓛 none_ended tt none_clauses 𝓜 𝓡 tt key none_code closed (λ z are.
        let Post : Val → SProp 𝓤 = (walk_of 𝓛 none_ended tt none_clauses).post z in
        let d = h.make null_ptr None in
        qed 𝓛 ((‵ ftrue ⊛ ‵ ftrue) ∷ raw ((none_clauses z.0.0 z.0.3).requires z.1) ∷ []) ∵
        enter ! 𝓣.C 𝓣.Λ none_code [] Post $ alloc_all ! (λ l. pass_all ! refl tt $
        sets ! (agg ! (and_then ! (lit ! tt) (no_more !))) refl (tt, (record { fits = lit< tt }, tt)) $
        nothing ! $ held_in h ! null_ptr None $
        use0 𝓛 (raw (fact 𝓤 (h.value d ≡ None))) (fact_i 𝓤 (h.value d ≡ None) (emp 𝓤) (h.made null_ptr
        None).1) $ nothing ! $ nothing ! $
        returns ! (look_at ! 0 refl) $ free_all ! refl $ keep ! (0 ∷ 1 ∷ 3 ∷ 2 ∷ []) $
        by ! (leaves 𝓛 none_ended tt none_clauses z (word null_ptr) d tt tt)))

    abbrev of_clauses : Clauses 𝓤 of_ended
    of_clauses κs passed = record {
      ghost = Unit {0};
      requires = λ _. emp 𝓤;
      ensures = λ _ result _. fact 𝓤 (h.value result ≡ Some passed.0.value);
    }

    pub of_meets : CodeMeets of_code of_ended of_clauses
    of_meets closed =
        let fn = of_code in let T = of_ended in let c = of_clauses in
        proved_at 𝓛 T of_stays c 𝓜 𝓡 (Goes-blank 𝓛 0 (plain (λ _. Moved)) yes (λ κs x f. tt), tt) key
        fn closed (λ z are.
        let v = z.0.3.0 in
        let Post : Val → SProp 𝓤 = (walk_of 𝓛 T of_stays c).post z in
        let Run : List Val → SProp 𝓤 = λ ws. WpFn 𝓤 𝓛.H 𝓣.C 𝓣.Λ fn ws Post in
        qed 𝓛 ((‵ ftrue ⊛ ‵ (owns (types_at T.signature.params z.0.0) z.0.3 z.0.4)) ∷ raw ((c z.0.0
        z.0.3).requires z.1) ∷ []) ∵
        split ! $ move ! (1 ∷ []) $ fsplit ! $ loose_out h.held Z L ghosts ! v z.0.4.0 (λ b o g e ws
        fits.
        let w : Val = both (vptr b o) g in let typed = loose_good h.held Z L ghosts b o g fits in
        let m = Some v.value in let d = h.make (block_ptr b o) m in
        suffices ! (Run (w ∷ [])) (subst (λ (us : List Val). ent 𝓤 (Run (w ∷ [])) (Run us)) (sym
        (λ i. ws i ++ [])) (id⊢ 𝓤 (Run (w ∷ [])))) $
        enter ! 𝓣.C 𝓣.Λ fn (w ∷ []) Post $ alloc_all ! (λ l. pass_all ! refl (typed, tt) $
        sets ! (of_opd ! (get_in ! (fld ! refl (stop !)) (sub ! 0 refl (whole !)))) refl (tt, tt) $
        sets ! (of_opd ! (get ! refl)) refl (tt, tt) $
        sets ! (agg ! (and_then ! (get ! refl) (no_more !))) refl (tt, (tt, tt)) $
        held_in h ! (block_ptr b o) m $
        use0 𝓛 (raw (fact 𝓤 (h.value d ≡ m))) (fact_i 𝓤 (h.value d ≡ m) (emp 𝓤) (h.made (block_ptr b
        o) m).1) $ nothing ! $ nothing ! $ fjoin ! $
        returns ! (look_at ! 0 refl) $ free_all ! refl $ keep ! (5 ∷ 0 ∷ 2 ∷ 1 ∷ []) $
        by ! (leaves 𝓛 T of_stays c z (word (block_ptr b o)) d (tt, tt) (tt, tt)))))

    abbrev into_clauses : Clauses 𝓤 into_ended
    into_clauses κs passed = record {
      ghost = Unit {0};
      requires = λ _. fact 𝓤 (IsSome (h.value passed.0));
      ensures = λ _ result _. fact 𝓤 (h.value passed.0 ≡ Some result.value);
    }

    pub into_loose_meets : CodeMeets into_code into_ended into_clauses
    into_loose_meets closed =
        let fn = into_code in let T = into_ended in let c = into_clauses in
        proved_at 𝓛 T into_stays c 𝓜 𝓡 (
          Goes-blank 𝓛 0 (plain (λ _. Row)) yes (λ κs x f. tt),
          (Goes-dropped 𝓛 0 (plain (λ _. Z)) yes (λ κs x w. refl), tt),
        ) key fn closed (λ z are.
        let v = z.0.3.0 in let a = z.0.3.1.0 in let m = h.value v in
        let Post : Val → SProp 𝓤 = (walk_of 𝓛 T into_stays c).post z in
        let Run : List Val → SProp 𝓤 = λ ws. WpFn 𝓤 𝓛.H 𝓣.C 𝓣.Λ fn ws Post in
        qed 𝓛 ((‵ ftrue ⊛ ‵ (owns (types_at T.signature.params z.0.0) z.0.3 z.0.4)) ∷ raw (fact 𝓤
        (IsSome m)) ∷ []) ∵
        move ! (1 ∷ []) $ heard ! (IsSome m) (λ some. let x = (value_of m some).0 in
        let is = (value_of m some).1 in
        split ! $ move ! (1 ∷ []) $ fsplit ! $ held_out h ! v x is z.0.4.0 (λ b o ws. move ! (1 ∷
        []) $ fsplit ! $ handle_tells al ! a z.0.4.1.0 (λ g ea fits.
        let ms : List Val = word (block_ptr b o) ∷ g ∷ [] in let u : Val = both (vptr b o) g in
        let typed = loose_good h.held Z L ghosts b o g fits in
        suffices ! (Run ms) (subst (λ (us : List Val). ent 𝓤 (Run ms) (Run us)) (sym (λ i. ws i ++
        (ea i ++ []))) (id⊢ 𝓤 (Run ms))) $
        move ! (2 ∷ 0 ∷ []) $ loose_in h.held Z L ghosts ! b o g a x $
        enter ! 𝓣.C 𝓣.Λ fn ms Post $ alloc_all ! (λ l. pass_all ! refl ((tt, (tt, tt)), (fits, tt)) $
        sets ! (of_opd ! (get_in ! (fld ! refl (stop !)) (sub ! 0 refl (whole !)))) refl (tt, tt) $
        sets ! (of_opd ! (get ! refl)) refl (tt, tt) $
        sets ! (agg ! (and_then ! (get ! refl) (and_then ! (get ! refl) (no_more !)))) refl typed $
        use0 𝓛 (raw (fact 𝓤 (m ≡ Some x))) (fact_i 𝓤 (m ≡ Some x) (emp 𝓤) is) $ nothing ! $
        nothing ! $ fjoin ! $ nothing ! $ fjoin ! $ nothing ! $
        returns ! (look_at ! 0 refl) $ free_all ! refl $ keep ! (0 ∷ 1 ∷ 3 ∷ 2 ∷ []) $
        by ! (leaves 𝓛 T into_stays c z u (record { at = block_ptr b o; alloc = a; value = x })
        (tt, (tt, tt)) (tt, (tt, tt))))))))
