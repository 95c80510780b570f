use Rattle.captures.proofs.ParserLemmas.{ends_cut, ends_whole_there}
use Rattle.captures.proofs.reading.packet_parser.PacketParser.end.Goals as goal

pub returns-in-Some-clause-ends : goal.returns-in-Some-clause-ends
returns-in-Some-clause-ends c unfit read given l = absurd (cc (l.parsed.going, c.in-Some.is))

pub returns-in-Ok-clause-ends : goal.returns-in-Ok-clause-ends
returns-in-Ok-clause-ends c unfit read given l =
    ends_whole_there unfit c.args.self.now read c.args.bytes.now given l c.end.result c.end.ensures
    c.in-Ok.is

pub returns-in-Err-clause-ends : goal.returns-in-Err-clause-ends
returns-in-Err-clause-ends c unfit read given l =
    ends_cut unfit c.args.self.now read c.args.bytes.now given l c.end.result c.end.ensures
    c.in-Err.error c.refusal.result c.in-Err.is c.refusal.ensures.error
    (c.refusal.ensures.position unfit read given l.parsed)
