use Rattle.std.proofs.Common.{◌∙◌, refl, sym}
use Rattle.packets.proofs.StreamLemmas.{streams_same}
use Rattle.packets.proofs.flows.streams.Streams.add.Goals as goal

pub take-requires-clause-packet : goal.take-requires-clause-packet
take-requires-clause-packet g c = sym c.requires.packet ∙ c.in-Some.is

pub returns-in-None-clause-takes : goal.returns-in-None-clause-takes
returns-in-None-clause-takes g c =
    rw (sym c.requires.packet ∙ c.in-None.is) (record { held = refl; len = refl; streams = λ q. refl })

pub returns-in-None-clause-ok : goal.returns-in-None-clause-ok
returns-in-None-clause-ok g c = λ packets was. record {
  each = streams_same _ packets c.args.packet.now _ _ (sym c.requires.packet ∙ c.in-None.is) was.each;
  held = was.held;
  bounded = was.bounded;
}
