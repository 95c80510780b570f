use Rattle.netlines.proofs.PostLemmas.{framed, small_frame, unrefused_fragment}
use Rattle.netlines.proofs.messages.posted_frame.step.Goals as goal

pub returns-clause-frame : goal.returns-clause-frame
returns-clause-frame c = rw (c.headers.ensures, c.ip_headers.ensures)
    (framed c.args.letter.now c.args.is_fragmented
    (record { offset = c.args.offset; more = c.args.more; text = c.args.text.now }))

pub returns-clause-refusal : goal.returns-clause-refusal
returns-clause-refusal c = rw (c.headers.ensures, c.ip_headers.ensures)
    (unrefused_fragment c.args.letter.now c.args.is_fragmented c.args.offset c.args.more _ c.requires)

pub returns-clause-size : goal.returns-clause-size
returns-clause-size c = rw (c.headers.ensures, c.ip_headers.ensures)
    (small_frame c.args.letter.now c.args.is_fragmented c.args.offset c.args.more _ c.requires)
