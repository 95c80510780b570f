use Rattle.captures.proofs.reading.packet_reader.PacketReader.refuse.Goals as goal

pub returns : goal.returns
returns g c = (
  c.position.result,
  c.stop.ensures.result,
  c.stop.ensures.stopped,
  c.position.ensures.packet,
  c.position.ensures.offset,
  c.position.ensures.block,
)
