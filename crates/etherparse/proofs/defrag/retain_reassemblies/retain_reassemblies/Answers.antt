use Rattle.std.proofs.Common.{true, false, arith, rules, refl, Some, sym, ◌∙◌, subst, ◌≡◌}
use Rattle.etherparse.proofs.NamesAfter.{names_kept}
use Rattle.etherparse.proofs.StartNames.{names_known}
use Rattle.etherparse.proofs.Tracked.{part_at, tracks_removed}
use Rattle.std.specs.Fn.{FnReturnsAt}
use Rattle.std.specs.Map.{lookup}
use Rattle.etherparse.specs.declared.defrag.reassembly.Reassembly.{Reassembly}
use Rattle.etherparse.proofs.Retaining.{tested_more, tested_same, one_goes, all_tested, some_same}
use Rattle.etherparse.proofs.defrag.retain_reassemblies.retain_reassemblies.Goals as goal

pub loop-at-preserved-then-answer : goal.loop-at-preserved-then-answer
loop-at-preserved-then-answer g c =
    let i = c.loop-at.invariant in
    let here = rw c.unwrap.ensures at c.get_index.ensures.entry in
    let P = λ (e : g.row.K.Denot × Reassembly g.row.T.Denot). FnReturnsAt g.F.Fn
    c.args.keep.now e.1.timestamp true in
    record {
      within = omega arith;
      each = i.each;
      tested = tested_more P c.loop-at.reassemblies.entries c.loop-at.at
          (c.unwrap.result.0.now, c.unwrap.result.1.now) (sym here)
          (rw c.if-answer.true at c.answer.ensures) i.tested;
      slots = i.slots;
      counts = i.counts;
      sections = i.sections;
      fewer = i.fewer;
      tracks = i.tracks;
      names = i.names;
    }

pub give-requires : goal.give-requires
give-requires g c =
    let i = c.loop-at.invariant in
    record {
      bytes = omega (arith, i.slots.bytes, c.loop-at-test.true);
      sections = omega (arith, i.slots.sections, c.loop-at-test.true);
    }

pub loop-at-preserved : goal.loop-at-preserved
loop-at-preserved g c =
    let i = c.loop-at.invariant in
    let P = λ (e : g.row.K.Denot × Reassembly g.row.T.Denot). FnReturnsAt g.F.Fn
    c.args.keep.now e.1.timestamp true in
    let r = c.unwrap-ended.result in
    let same = some_same (c.unwrap.result.0.now, c.unwrap.result.1.now) r
    (rw c.unwrap.ensures at c.get_index.ensures.entry ∙ sym c.swap_remove_index.ensures.entry
    ∙ c.unwrap-ended.ensures) in
    let entries = rw c.unwrap-ended.ensures at c.swap_remove_index.ensures.entries in
    let updates = rw c.unwrap-ended.ensures at c.swap_remove_index.ensures.updates in
    let value = subst (λ (e : g.row.K.Denot × Reassembly g.row.T.Denot). lookup
    (g.K.PartialEq.eq e.0) c.loop-at.reassemblies.entries ≡ Some e.1) same
    (rw c.unwrap.ensures at c.get_index.ensures.value) in
    let denied =
    subst (λ (e : g.row.K.Denot × Reassembly g.row.T.Denot). FnReturnsAt g.F.Fn c.args.keep.now
    e.1.timestamp false) same (rw c.if-answer.false at c.answer.ensures) in
    let fewer = rw c.unwrap-ended.ensures at c.swap_remove_index.ensures.len in
    let at = rw c.unwrap-ended.ensures at (sym c.swap_remove_index.ensures.entry) in
    record {
      within = omega (arith, fewer);
      each = one_goes g.met.K.Eq.laws (FnReturnsAt g.F.Fn c.args.keep.now)
          c.args.reassemblies.now.entries c.loop-at.reassemblies.entries c.swap_remove_index.new.self.entries
          r.0 r.1 denied value updates.0 i.each;
      tested = rw entries (tested_same P c.loop-at.reassemblies.entries c.loop-at.at r
          (omega arith) i.tested);
      slots = record {
        bytes = omega (
          arith,
          fewer,
          i.slots.bytes,
          c.give.ensures.bytes,
          c.give.ensures.no_fewer.bytes,
        );
        sections = omega (
          arith,
          fewer,
          i.slots.sections,
          c.give.ensures.sections,
          c.give.ensures.no_fewer.sections,
        );
      };
      counts = omega (arith, fewer, i.counts, c.give.ensures.bytes);
      sections = omega (arith, fewer, i.sections, c.give.ensures.sections);
      fewer = omega (arith, fewer, i.fewer);
      tracks = tracks_removed _ _ c.loop-at.reassemblies.entries i.tracks c.loop-at.at r.0 r.1 at _ _ _
          entries c.data_len.ensures.len c.data_len.ensures.short c.swap_remove.ensures.is_order
          c.swap_remove.ensures.len;
      names = names_kept g.K.PartialEq.eq g.met.K.Eq.laws _ _ c.loop-at.reassemblies.entries i.tracks
          c.len.ensures.unique c.loop-at.at r.0 r.1 at _ _ _ entries c.swap_remove.ensures.order updates.0
          i.names;
    }

pub returns-clause-retained : goal.returns-clause-retained
returns-clause-retained g c = all_tested g.met.K.Eq.laws (FnReturnsAt g.F.Fn c.args.keep.now) _ _
    (λ k d h. c.loop-at.invariant.tested k d (omega arith)) c.loop-at.invariant.each

pub returns-clause-slots : goal.returns-clause-slots
returns-clause-slots g c = c.loop-at.invariant.slots

pub returns-clause-counts : goal.returns-clause-counts
returns-clause-counts g c = c.loop-at.invariant.counts

pub returns-clause-sections : goal.returns-clause-sections
returns-clause-sections g c = c.loop-at.invariant.sections

pub returns-clause-fewer : goal.returns-clause-fewer
returns-clause-fewer g c = c.loop-at.invariant.fewer

pub loop-at-init : goal.loop-at-init
loop-at-init g c =
    record {
      within = omega arith;
      each = λ q. search rules;
      tested = λ k d h. grind arith;
      slots = c.requires.room;
      counts = refl;
      sections = refl;
      fewer = omega arith;
      tracks = c.requires.tracks;
      names = sym (names_known g.K.PartialEq.eq g.met.K.Eq.laws c.args.reassemblies.now.entries
          c.args.starts.now.order);
    }

pub returns-clause-tracks : goal.returns-clause-tracks
returns-clause-tracks g c = c.loop-at.invariant.tracks

pub returns-clause-names : goal.returns-clause-names
returns-clause-names g c = c.loop-at.invariant.names

pub swap_remove-requires : goal.swap_remove-requires
swap_remove-requires g c = omega (arith, c.loop-at.invariant.tracks.count, c.loop-at-test.true)

pub overflow_sub-held_bytes : goal.overflow_sub-held_bytes
overflow_sub-held_bytes g c =
    let r = c.unwrap-ended.result in
    let at = rw c.unwrap-ended.ensures at (sym c.swap_remove_index.ensures.entry) in
    part_at _ _ c.loop-at.reassemblies.entries c.loop-at.invariant.tracks c.loop-at.at r.0 r.1 at _
    c.data_len.ensures.len c.data_len.ensures.short
