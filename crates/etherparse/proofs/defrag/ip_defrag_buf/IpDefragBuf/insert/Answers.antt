use Rattle.std.proofs.Common.{refl, ap, ◌∙◌, inl, inr, option_map, subst, sym, [], ◌∷◌, ◌++◌}
use Rattle.std.proofs.lemmas.Bool.{not-true, not-false}
use Rattle.std.specs.List.{insert}
use Rattle.etherparse.specs.Fragments.{fragment}
use Rattle.etherparse.specs.IpDefragBuf.{Contents, Shows}
use Rattle.etherparse.proofs.Found.{goes}
use Rattle.etherparse.proofs.Push.{sound_same, sound_add, shows_add}
use Rattle.etherparse.proofs.defrag.ip_defrag_buf.IpDefragBuf.insert.Goals as goal
use Rattle.etherparse.proofs.defrag.ip_defrag_buf.IpDefragBuf.insert.Goals.{then-not-stored_fragment}
use Rattle.etherparse.proofs.defrag.ip_defrag_buf.IpDefragBuf.insert.Goals.{else-not-stored_fragment}

pub invariant_of-self : goal.invariant_of-self
invariant_of-self g c =
    sound_same _ _ refl c.try_reserve.ensures.items refl refl refl c.self.invariant

pub invariant_of-self-then-is_err-2 : goal.invariant_of-self-then-is_err-2
invariant_of-self-then-is_err-2 g c =
    sound_same _ _ refl c.try_reserve.ensures.items c.try_reserve-else-is_err.ensures.items refl
    refl c.self.invariant

pub invariant_of-self-then-not-reserve_stored : goal.invariant_of-self-then-not-reserve_stored
invariant_of-self-then-not-reserve_stored g c =
    sound_same _ _ refl c.try_reserve.ensures.items c.try_reserve-else-is_err.ensures.items refl
    c.reserve_stored.ensures.same c.self.invariant

pub invariant_of-self-then-not-stored_fragment : goal.invariant_of-self-then-not-stored_fragment
invariant_of-self-then-not-stored_fragment g c =
    sound_add _ _ (fragment c.args.offset c.args.stored_fragment.more_fragments c.args.bytes.now)
    (g.Bytes.DatagramBytes.shown c.try_reserve.new.self) (g.Bytes.DatagramBytes.shown c.write_at.new.self)
    c.try_reserve-else-is_err.new.self.items c.args.stored_fragment c.self.invariant
    c.add_range.ensures.ordered
    (goes c.args.self.now _
    (fragment c.args.offset c.args.stored_fragment.more_fragments c.args.bytes.now) c.args.stored_fragment
    c.args.index _ _ _ c.from.result c.self.view_is c.self.invariant.shows_accepted c.requires.stored_fragment
    c.requires.unrefused c.requires.location c.try_reserve.ensures.items
    c.try_reserve-else-is_err.ensures.items c.from.ensures c.write_at.ensures.writes _
    c.add_range.ensures.adds
    (inr (not-true _ c.if-not-stored_fragment.true, rw c.from-len.ensures at c.truncate.ensures.items, refl))
    (c.insert_stored.ensures.stored_fragments ∙ ap (option_map (λ ms. insert ms c.args.index c.args.stored_fragment))
    c.reserve_stored.ensures.same))

pub invariant_of-self-else-not-stored_fragment : goal.invariant_of-self-else-not-stored_fragment
invariant_of-self-else-not-stored_fragment g c =
    sound_add _ _ (fragment c.args.offset c.args.stored_fragment.more_fragments c.args.bytes.now)
    (g.Bytes.DatagramBytes.shown c.try_reserve.new.self) (g.Bytes.DatagramBytes.shown c.write_at.new.self)
    c.try_reserve-else-is_err.new.self.items c.args.stored_fragment c.self.invariant
    c.add_range.ensures.ordered
    (goes c.args.self.now _
    (fragment c.args.offset c.args.stored_fragment.more_fragments c.args.bytes.now) c.args.stored_fragment
    c.args.index _ _ _ c.from.result c.self.view_is c.self.invariant.shows_accepted c.requires.stored_fragment
    c.requires.unrefused c.requires.location c.try_reserve.ensures.items
    c.try_reserve-else-is_err.ensures.items c.from.ensures c.write_at.ensures.writes _
    c.add_range.ensures.adds (inl (not-false _ c.if-not-stored_fragment.false, refl, refl))
    (c.insert_stored.ensures.stored_fragments ∙ ap (option_map (λ ms. insert ms c.args.index c.args.stored_fragment))
    c.reserve_stored.ensures.same))

pub returns-clause-accepted : goal.returns-clause-accepted
returns-clause-accepted g c fs shows =
    let f = fragment c.args.offset c.args.stored_fragment.more_fragments c.args.bytes.now in
    let had = subst (λ (b : Contents _). Shows b fs) (sym c.self.view_is) shows in
    let goes_to =
    goes c.args.self.now _ f c.args.stored_fragment c.args.index _ _ _ c.from.result c.self.view_is
    c.self.invariant.shows_accepted c.requires.stored_fragment c.requires.unrefused c.requires.location
    c.try_reserve.ensures.items c.try_reserve-else-is_err.ensures.items c.from.ensures
    c.write_at.ensures.writes in
    let stored =
    c.insert_stored.ensures.stored_fragments
    ∙ ap (option_map (λ ms. insert ms c.args.index c.args.stored_fragment)) c.reserve_stored.ensures.same in
    elim c.if-not-stored_fragment.branch [
      | then-not-stored_fragment w ↦
          let cut = inr (
            not-true _ w.if-not-stored_fragment.true,
            rw c.from-len.ensures at w.truncate.ensures.items,
            refl,
          ) in
          subst (λ (b : Contents _). Shows b (fs ++ f ∷ [])) (sym w.self-is)
          (shows_add _ _ fs f _ _ _ _ had (goes_to _ c.add_range.ensures.adds cut stored))
      | else-not-stored_fragment w ↦
          let cut = inl (not-false _ w.if-not-stored_fragment.false, refl, refl) in
          subst (λ (b : Contents _). Shows b (fs ++ f ∷ [])) (sym w.self-is)
          (shows_add _ _ fs f _ _ _ _ had (goes_to _ c.add_range.ensures.adds cut stored))
    ]
