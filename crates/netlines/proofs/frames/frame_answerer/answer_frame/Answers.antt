use Rattle.std.proofs.Common.{◌∙◌, sym, ap, subst, arith}
use Rattle.etherparse.specs.packet.Class.{Class, sliced_class}
use Rattle.netlines.specs.PoolAnswers.{AnswersClass}
use Rattle.netlines.proofs.FrameLemmas.{whole_fits}
use Rattle.netlines.proofs.frames.frame_answerer.answer_frame.Goals as goal

pub answer_packet-requires-clause-short : goal.answer_packet-requires-clause-short
answer_packet-requires-clause-short g c addresses n bytes read is =
    let fits = whole_fits c.args.frame.now c.in-Ok.packet c.in-Ok.ensures.parts
    addresses n bytes read is in
    omega (arith, fits, c.requires.frame)

pub returns-in-Ok-clause-answers : goal.returns-in-Ok-clause-answers
returns-in-Ok-clause-answers g c =
    subst (λ (k : Class). AnswersClass c.args.pool.now c.answer_packet.new.pool c.args.number k
    c.args.channel c.answer_packet.new.out c.answer_packet.result)
    (ap sliced_class (sym c.in-Ok.is) ∙ c.from_ethernet.ensures.class) c.answer_packet.ensures.answers
