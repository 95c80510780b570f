use Rattle.std.proofs.Common.{◌≡◌, arith, rules, refl, sym, ◌∙◌, None, Some}
use Rattle.std.proofs.lemmas.Map.Entries.{lookup_from_place}
use Rattle.std.specs.Prelude.{slice_get}
use Rattle.std.specs.Map.{keys_of}
use Rattle.etherparse.proofs.NamesAfter.{names_forgotten}
use Rattle.etherparse.proofs.Tracked.{if_none, no_names, part_at, some_at, tracks_removed}
use Rattle.etherparse.proofs.defrag.reassembly_table.ReassemblyTable.forget_oldest.Goals as goal

pub returns-in_err-slot-clause-none : goal.returns-in_err-slot-clause-none
returns-in_err-slot-clause-none g c =
    let first : slice_get c.self.inside.starts.order 0 ≡ None = first_of (search rules, grind arith) in
    if_none c.from_residual.result _
    (rw (← c.self.view_is) (no_names (keys_of c.self.inside.active.entries) c.self.inside.starts.order first), refl)

pub unwrap-name-requires : goal.unwrap-name-requires
unwrap-name-requires g c =
    rw c.swap_remove_index.ensures.entry
    (some_at c.self.inside.active.entries c.in_ok-slot.slot
    (omega (arith, c.in_ok-slot.ensures.within, c.self.invariant.tracks.count)))

pub overflow_sub-self : goal.overflow_sub-self
overflow_sub-self g c =
    let r = c.unwrap-name.result in
    let at = rw c.unwrap-name.ensures at (sym c.swap_remove_index.ensures.entry) in
    part_at _ _ c.self.inside.active.entries c.self.invariant.tracks c.in_ok-slot.slot r.0 r.1 at _
    c.data_len.ensures.len c.data_len.ensures.short

pub invariant_of-self : goal.invariant_of-self
invariant_of-self g c =
    let r = c.unwrap-name.result in
    let at = rw c.unwrap-name.ensures at (sym c.swap_remove_index.ensures.entry) in
    let entries = rw c.unwrap-name.ensures at c.swap_remove_index.ensures.entries in
    let fewer = rw c.unwrap-name.ensures at c.swap_remove_index.ensures.len in
    let i = c.self.invariant in
    record {
      slots = record {
        bytes = omega (arith, fewer, i.slots.bytes, c.give.ensures.bytes, c.give.ensures.no_fewer.bytes);
        sections = omega (
          arith,
          fewer,
          i.slots.sections,
          c.give.ensures.sections,
          c.give.ensures.no_fewer.sections,
        );
      };
      tracks = tracks_removed _ _ c.self.inside.active.entries i.tracks c.in_ok-slot.slot r.0 r.1 at
          _ _ _ entries c.data_len.ensures.len c.data_len.ensures.short
          c.swap_remove.ensures.is_order c.swap_remove.ensures.len;
    }

pub returns-clause-some : goal.returns-clause-some
returns-clause-some g c =
    let r = c.unwrap-name.result in
    let at = rw c.unwrap-name.ensures at (sym c.swap_remove_index.ensures.entry) in
    let entries = rw c.unwrap-name.ensures at c.swap_remove_index.ensures.entries in
    let fewer = rw c.unwrap-name.ensures at c.swap_remove_index.ensures.len in
    let updates = rw c.unwrap-name.ensures at c.swap_remove_index.ensures.updates in
    let first : slice_get c.self.inside.starts.order 0 ≡ Some c.in_ok-slot.slot =
    first_of (search rules, grind arith) in
    let found = lookup_from_place g.met.K.Eq.laws c.self.inside.active.entries c.in_ok-slot.slot r.0
    r.1 c.len.ensures.unique at in
    rw (← c.self.view_is) (record {
      oldest = names_forgotten g.K.PartialEq.eq g.met.K.Eq.laws _ _ c.self.inside.active.entries
          c.self.invariant.tracks c.len.ensures.unique c.in_ok-slot.slot r.0 r.1 at _ _ entries
          c.swap_remove.ensures.order first;
      timestamp_is = rw found refl;
      gone = updates.1;
      others = updates.2;
      open_len = omega (arith, fewer);
      spare = c.give.ensures.bytes;
      sections = c.give.ensures.sections;
      memory = rw found (c.give.ensures.bytes_room, c.give.ensures.sections_room);
      bytes_slots = omega (arith, c.give.ensures.bytes, c.give.ensures.no_fewer.bytes);
      sections_slots = omega (arith, c.give.ensures.sections, c.give.ensures.no_fewer.sections);
      names = omega (arith, fewer, c.swap_remove_index.ensures.room, c.swap_remove.ensures.room);
    })
