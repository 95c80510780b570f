use Rattle.std.proofs.Common.{◌∙◌}
use Rattle.captures.proofs.reading.packet_parser.PacketParser.refusal.Goals as goal

pub returns-clause-position : goal.returns-clause-position
returns-clause-position c unfit read given h = record {
  packet = c.position_of.ensures.packet;
  offset = c.position_of.ensures.offset ∙ h.passed;
  block = c.position_of.ensures.block h.dropped h.is_dropped;
}
