use Rattle.std.proofs.Common.{Err, Ok, Result, subst, sym}
use Rattle.std.specs.Prelude.{OnOk}
use Rattle.etherparse.specs.Fragments.{end_of, fragment, refusal_of}
use Rattle.etherparse.specs.IpDefragBuf.{Shows, rule_of}
use Rattle.etherparse.proofs.Found.{accepted_is, left_shows, no_memory_error, passed_over}
use Rattle.etherparse.proofs.defrag.ip_defrag_buf.IpDefragBuf.accept.Goals as goal

pub returns-in-Ok-clause-shows : goal.returns-in-Ok-clause-shows
returns-in-Ok-clause-shows c fs shows =
    subst (Shows c.add.new.self)
    (sym (accepted_is _ fs _ (c.in-Ok.ensures.refused fs shows))) (c.in-Ok.ensures.accepted fs shows)

on_ok : {X E P Q : Type 0} (r : Result X E) → OnOk r P → (P → Q) → OnOk r Q
on_ok (Ok x) p then = then p
on_ok (Err e) p then = tt

pub returns-in-Err-clause-shows : goal.returns-in-Err-clause-shows
returns-in-Err-clause-shows c fs shows =
    let f = fragment c.args.offset c.args.more_fragments c.args.bytes.now in
    let passed = passed_over (refusal_of (rule_of c.args.self.now) fs f) (end_of f) c.in-Err.error
    c.pass_over.result (no_memory_error (rule_of c.args.self.now) fs f)
    (c.in-Err.ensures.refused fs shows) c.pass_over.ensures in
    on_ok c.pass_over.result passed.refused
    (λ is. left_shows c.args.self.now c.add.new.self fs f c.in-Err.error shows is
    c.in-Err.ensures.err)
