use Rattle.std.proofs.Common.{◌≡◌, drop}
use Rattle.std.specs.List.{list_any}
use Rattle.packets.specs.Conditions.{is_within}
use Rattle.packets.proofs.condition.is_any_within.Given as goal

abbrev pub invariant-loop-id : goal.invariant-loop-id
invariant-loop-id l = list_any (λ id. is_within l.first l.last id) (drop l.id-index l.ids)
    ≡ list_any (λ id. is_within l.first l.last id) l.ids
