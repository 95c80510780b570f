use Rattle.std.proofs.Common.{◌++◌, sym, refl, subst, List, ℕ, Some}
use Rattle.captures.specs.Parsers.{LeavesOff}
use Rattle.captures.proofs.ParserLemmas.{parsed_then, stops_there}
use Rattle.captures.proofs.reading.packet_parser.PacketParser.next.Goals as goal

pub returns-in-Some-clause-parses : goal.returns-in-Some-clause-parses
returns-in-Some-clause-parses c unfit read held more given h same = absurd (cc (h.going, c.in-Some.is))

pub returns-in-Some-found-clause-parses : goal.returns-in-Some-found-clause-parses
returns-in-Some-found-clause-parses c unfit read held more given h same =
    rw c.in-Some-found.is at c.take_next-ahead.ensures.finds unfit (read ++ more) given
    (parsed_then unfit c.args.self.now read held more c.args.bytes.now given h same)

pub returns-in-Some-refusal-clause-parses : goal.returns-in-Some-refusal-clause-parses
returns-in-Some-refusal-clause-parses c unfit read held more given h same =
    let new = c.take_next-ahead.new.self in
    let none = rw c.in_default-found.is at c.take_next-ahead.ensures.finds unfit (read ++ more) given
    (parsed_then unfit c.args.self.now read held more c.args.bytes.now given h same) in
    let stops = rw c.in-Some-refusal.is at none in
    let left = subst
    (λ (l : List ℕ). LeavesOff unfit new (read ++ more) l given (Some c.in-Some-refusal.error))
    (sym c.last.ensures.last) stops in (
      refl,
      stops_there unfit new (read ++ more) c.last.result.now given c.in-Some-refusal.error left
          c.refusal-refused.result c.refusal-refused.ensures.error
          (c.refusal-refused.ensures.position unfit (read ++ more) given left.parsed),
    )

pub returns-clause-parses : goal.returns-clause-parses
returns-clause-parses c unfit read held more given h same =
    rw c.in_default-refusal.is at
    (rw c.in_default-found.is at c.take_next-ahead.ensures.finds unfit (read ++ more) given
    (parsed_then unfit c.args.self.now read held more c.args.bytes.now given h same))
