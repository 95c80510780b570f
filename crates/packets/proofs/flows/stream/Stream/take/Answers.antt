use Rattle.packets.proofs.flows.stream.Stream.take.Goals as goal

pub returns-clause-ok : goal.returns-clause-ok
returns-clause-ok c = record {
  state = c.after-self.ensures;
  reached = c.count_packet.new.counter;
  counts = c.in_ok-count_packet.ensures.ok;
  within = c.stop_beyond.ensures;
}
