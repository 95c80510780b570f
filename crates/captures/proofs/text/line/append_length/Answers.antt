use Rattle.std.proofs.Common.{rules, arith, ◌%◌}
use Rattle.std.proofs.lemmas.Fmt.{length-decimal-le}
use Rattle.captures.proofs.text.line.append_length.Goals as goal

pub append_number-nanoseconds-requires : goal.append_number-nanoseconds-requires
append_number-nanoseconds-requires c =
    let room = c.requires in
    let end = c.append_microseconds-microseconds.ensures.end in
    let parts = length-decimal-le 3 (c.args.time % 1000) (omega arith) (omega arith) (omega arith) in
    search (rules, arith)

pub append_number-requires : goal.append_number-requires
append_number-requires c =
    let room = c.requires in
    let end = c.append_microseconds-microseconds.ensures.end in
    let all = c.append_number-nanoseconds.ensures.end in
    let same = c.from.ensures in
    let parts = length-decimal-le 3 (c.args.time % 1000) (omega arith) (omega arith) (omega arith) in
    let wire_len = length-decimal-le 10 c.args.wire_len (omega arith) (omega arith) (omega arith) in
    rw same (search (rules, arith))

pub returns-clause-end : goal.returns-clause-end
returns-clause-end c =
    let end = c.append_microseconds-microseconds.ensures.end in
    let all = c.append_number-nanoseconds.ensures.end in
    let last = rw c.from.ensures at c.append_number.ensures.end in
    let parts = length-decimal-le 3 (c.args.time % 1000) (omega arith) (omega arith) (omega arith) in
    let wire_len = length-decimal-le 10 c.args.wire_len (omega arith) (omega arith) (omega arith) in
    omega arith
