use Rattle.std.proofs.Common.{◌≡◌, ◌∙◌, ap, refl, sym, false, [], Option, Some, slice_get, unwrap_or}
use Rattle.std.proofs.lemmas.Map.Entries.{lookup_from_place}
use Rattle.std.specs.Map.{lookup}
use Rattle.indexmap.specs.IndexMap.{get, with_value_at}
use Rattle.indexmap.proofs.CallerLemmas.{updates-with_value_at}
use Rattle.packets.proofs.TableLemmas.{keys-inserted, keys-updated, keys-written}
use Rattle.packets.proofs.summary.table.Table.add.Goals as goal

pub returns-in-Some : goal.returns-in-Some
returns-in-Some g c = λ key_of packets keyed counted.
    let same = g.K.PartialEq.eq in
    let laws = g.met.K.Eq.laws in
    let key = c.args.key in
    let old = c.pair_mut-tally.result.1.now in
    let new = c.count.new.self in
    let nothing = g.V.Count.of (λ packet. false) [] in
    let map = c.self.inside.tallies in
    let i = c.in-Some.index in
    let e = c.pair_mut-tally.ensures in
    let own : c.pair_mut-tally.result.0.now ≡ key =
    ap (λ (o : Option (g.row.K.Denot × g.row.V.Denot)). (unwrap_or o (c.pair_mut-tally.result.0.now, old)).0)
    (sym e.value ∙ (λ j. slice_get (c.self.view_is j).entries i) ∙ c.in-Some.ensures.found.1) in
    let at : slice_get map.entries i ≡ Some (key, old) = e.value ∙ ap (λ k. Some (k, old)) own in
    let counts : get same map key ≡ Some old = lookup_from_place laws map.entries i key old e.unique at in
    let was : old ≡ unwrap_or (lookup (same key) c.args.self.now.entries) nothing =
    sym (ap (λ (o : Option g.row.V.Denot). unwrap_or o nothing) counts)
    ∙ (λ j. unwrap_or (lookup (same key) (c.self.view_is j).entries) nothing) in
    keys-updated c.args.self.now _ map (with_value_at map i new) packets c.args.packet.now key new
    c.requires.others c.requires.exact (λ j. (c.self.view_is j).entries) refl
    (keys-written same map i key old new (laws.refl key) at)
    (updates-with_value_at map i new laws e.unique key old at)
    (λ kind before kept. c.count.ensures kind packets (was ∙ before) kept) keyed counted

pub returns-in-None : goal.returns-in-None
returns-in-None g c = λ key_of packets keyed counted.
    let same = g.K.PartialEq.eq in
    let key = c.args.key in
    let new = c.count-in-None.new.self in
    let nothing = g.V.Count.of (λ packet. false) [] in
    let map = c.self.inside.tallies in
    let updated = rw c.unwrap.ensures at c.insert.ensures.updates in
    let inserted = rw c.unwrap.ensures at c.insert.ensures.entries in
    let was : c.nothing-tally.result ≡ unwrap_or (lookup (same key) c.args.self.now.entries) nothing =
    c.nothing-tally.ensures (λ packet. false)
    ∙ sym (ap (λ (o : Option g.row.V.Denot). unwrap_or o nothing) (c.in-None.ensures.absent refl)) in
    keys-updated c.args.self.now _ map c.insert.new.self packets c.args.packet.now key new
    c.requires.others c.requires.exact (λ j. (c.self.view_is j).entries) refl
    (keys-inserted same map c.insert.new.self key new inserted) updated
    (λ kind before kept. c.count-in-None.ensures kind packets (was ∙ before) kept) keyed counted
