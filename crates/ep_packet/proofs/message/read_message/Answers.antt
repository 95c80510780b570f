use Rattle.std.proofs.Common.{◌∙◌, sym}
use Rattle.ep_packet.specs.Readable.{message_at}
use Rattle.ep_packet.proofs.ClassLemmas.{unread}
use Rattle.ep_packet.proofs.message.read_message.Goals as goal

pub returns-in-Err : goal.returns-in-Err
returns-in-Err c =
    unread (message_at c.args.ip_number.0 c.args.message.now) c.in-Err.error
    (sym c.in-Err.is ∙ c.read_transport.ensures)
