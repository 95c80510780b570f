use Rattle.etherparse_structs.proofs.stream.EpStream.begin.Goals as goal

pub returns-clause-opened : goal.returns-clause-opened
returns-clause-opened c zero = record {
  box = c.in-Ok.opened.value;
  is_open = c.put.ensures.opened;
  held = c.put.ensures.held;
  shown = c.in-Ok.ensures;
}
