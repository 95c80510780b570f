use Rattle.std.proofs.Common.{length}
use Rattle.etherparse_structs.proofs.CaptureLemmas.{found_done, found_within}
use Rattle.etherparse_structs.proofs.capture.next_in.Goals as goal

pub returns-clause-found : goal.returns-clause-found
returns-clause-found c unfit read left more given h same = record {
  found = c.next.result;
  parses = c.next.ensures.parses unfit read left more given h same;
  is = c.of.ensures;
}

pub returns-clause-done : goal.returns-clause-done
returns-clause-done c = rw c.of.ensures (found_done c.next.result (length c.args.bytes.now) c.next.ensures.done)

pub returns-clause-within : goal.returns-clause-within
returns-clause-within c =
    rw c.of.ensures (found_within c.next.result (length c.args.bytes.now) c.next.ensures.within)
