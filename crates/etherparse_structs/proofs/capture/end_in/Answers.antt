use Rattle.etherparse_structs.proofs.capture.end_in.Goals as goal

pub returns : goal.returns
returns c unfit read given l = record {
  ended = c.end.result;
  ends = c.end.ensures.ends unfit read given l;
  is = c.of.ensures;
}
