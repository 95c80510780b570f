use Rattle.std.proofs.Common.{ap, ◌∙◌}
use Rattle.std.specs.Prelude.{Ok}
use Rattle.ep_link.proofs.laws.arp.packet_is_read_again.Goals as goal

pub returns : goal.returns
returns c = λ rest prefix_is.
    let read = c.from_slice.ensures.only c.to_bytes-bytes.result.items rest
    c.to_bytes-bytes.ensures.packet (rw c.to_bytes-bytes.ensures.bytes prefix_is) in
    read ∙ ap Ok c.to_bytes-bytes.ensures.fields
