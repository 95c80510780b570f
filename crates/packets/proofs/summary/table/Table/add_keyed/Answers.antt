use Rattle.std.proofs.Common.{◌∙◌}
use Rattle.packets.proofs.TableLemmas.{keys-same}
use Rattle.packets.proofs.summary.table.Table.add_keyed.Goals as goal

pub returns-in-Some : goal.returns-in-Some
returns-in-Some g c = λ key_of packets keyed counted.
    c.add.ensures key_of packets (keyed ∙ c.in-Some.is) counted

pub returns-in-None : goal.returns-in-None
returns-in-None g c = λ key_of packets keyed counted.
    keys-same c.args.self.now packets c.args.packet.now c.requires.others (keyed ∙ c.in-None.is) counted
