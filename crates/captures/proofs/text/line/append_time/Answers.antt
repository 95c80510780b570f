use Rattle.std.proofs.Common.{rules, arith, ◌%◌}
use Rattle.std.proofs.lemmas.Fmt.{length-decimal-le}
use Rattle.captures.proofs.text.line.append_time.Goals as goal

pub append_number-requires : goal.append_number-requires
append_number-requires c =
    let room = c.requires in
    let end = c.append_microseconds-microseconds.ensures.end in
    let parts = length-decimal-le 3 (c.args.time % 1000) (omega arith) (omega arith) (omega arith) in
    search (rules, arith)

pub returns-else-nanoseconds-eq0-clause-end : goal.returns-else-nanoseconds-eq0-clause-end
returns-else-nanoseconds-eq0-clause-end c =
    let end = c.append_microseconds-microseconds.ensures.end in
    let all = c.append_number.ensures.end in
    let parts = length-decimal-le 3 (c.args.time % 1000) (omega arith) (omega arith) (omega arith) in
    omega arith
