use Rattle.std.proofs.Common.{refl}
use Rattle.packets.proofs.StreamLemmas.{follows_same}
use Rattle.packets.proofs.flows.streams.Streams.reserve.Goals as goal

pub returns-clause-same : goal.returns-clause-same
returns-clause-same g c =
    let entries = c.try_reserve.ensures.entries in record { held = refl; len = entries.1; streams = entries.2 }

pub returns-clause-follows : goal.returns-clause-follows
returns-clause-follows g c = λ packets was.
    let entries = c.try_reserve.ensures.entries in
    follows_same _ _ _ packets (record { held = refl; len = entries.1; streams = entries.2 }) entries.0 was
