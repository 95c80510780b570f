use Rattle.std.proofs.Common.{rules, arith, ◌/◌, ◌%◌}
use Rattle.std.proofs.lemmas.Fmt.{length-decimal-le}
use Rattle.captures.proofs.text.line.append_microseconds.Goals as goal

pub append_number-seconds-requires : goal.append_number-seconds-requires
append_number-seconds-requires c =
    let room = c.requires in
    let seconds = length-decimal-le 11 (c.args.time / 1000000000) (omega arith) (omega arith) (omega arith) in
    omega arith

pub append_number-requires : goal.append_number-requires
append_number-requires c =
    let room = c.requires in
    let end = c.append_number-seconds.ensures.end in
    let seconds = length-decimal-le 11 (c.args.time / 1000000000) (omega arith) (omega arith) (omega arith) in
    let parts = length-decimal-le 6 (c.args.time / 1000 % 1000000) (omega arith) (omega arith) (omega arith) in
    search (rules, arith)

pub returns-clause-end : goal.returns-clause-end
returns-clause-end c =
    let end = c.append_number-seconds.ensures.end in
    let all = c.append_number.ensures.end in
    let seconds = length-decimal-le 11 (c.args.time / 1000000000) (omega arith) (omega arith) (omega arith) in
    let parts = length-decimal-le 6 (c.args.time / 1000 % 1000000) (omega arith) (omega arith) (omega arith) in
    omega arith
