use Rattle.std.proofs.Common.{◌∙◌, sym, ap}
use Rattle.std.specs.Option.{option_copied_mut}
use Rattle.tcp_streams.proofs.FlowLemmas.{counts_one_more}
use Rattle.tcp_streams.proofs.flows.Flows.count.Goals as goal

pub returns-in-Some-clause-table : goal.returns-in-Some-clause-table
returns-in-Some-clause-table g c =
    rw (c.count.ensures, ← c.self.view_is)
    (counts_one_more g.K.PartialEq.eq (record { flows = c.self.inside.flows.entries; most = c.self.inside.flows.cap })
    c.args.key.now c.in-Some.flow.now c.args.packet _
    (sym c.get_mut.ensures.value ∙ ap option_copied_mut c.in-Some.is))
