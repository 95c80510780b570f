use Rattle.std.proofs.Common.{◌≡◌, ◌∙◌, sym, ap, slice_get, Some}
use Rattle.std.proofs.lemmas.Map.Made.{lookup_key_passes}
use Rattle.packets.proofs.summary.table.Table.index_of.Goals as goal

pub returns-in-Some-clause-found : goal.returns-in-Some-clause-found
returns-in-Some-clause-found g c =
    let stored = c.in-Some.known.now in
    let tally = c.in-Some.field-0-1.now in
    let same : stored ≡ c.args.key.now =
    c.requires.exact stored c.args.key.now (sym {b = g.K.PartialEq.eq stored c.args.key.now} c.if-eq.ensures) in (
      tally,
      sym (ap (λ k. Some (k, tally)) (sym same) ∙ c.in-Some.ensures.entry
          ∙ (λ i. slice_get (c.self.view_is i).entries c.args.expected)),
    )

pub returns-in-Some-get_full-clause-found : goal.returns-in-Some-get_full-clause-found
returns-in-Some-get_full-clause-found g c =
    let stored = c.in-Some-get_full.field-0-1.now in
    let tally = c.in-Some-get_full.field-0-2.now in
    let entries = c.self.inside.tallies.entries in (
      tally,
      (λ i. slice_get (sym c.self.view_is i).entries c.in-Some-get_full.index)
          ∙ c.in-Some-get_full.ensures.entry ∙ ap (λ k. Some (k, tally))
          (sym (c.requires.exact c.args.key.now stored (lookup_key_passes
          (g.K.PartialEq.eq c.args.key.now) entries stored (sym c.in-Some-get_full.ensures.key)))),
    )
