-- A time has eleven digits of whole seconds at most.
use Rattle.std.proofs.Common.{arith, ◌≡◌, ◌≤◌, ◌+◌, ◌/◌, length, length-append}
use Rattle.std.proofs.lemmas.Fmt.{length-decimal-le}
use Rattle.header_descriptions.proofs.show.seconds.append_seconds.Goals as goal

pub append-requires-2 : goal.append-requires-2
append-requires-2 c =
    let room = c.requires in
    let seconds : length c.as_bytes.result.now ≤ 11 =
    rw (c.as_bytes.ensures.value, c.format.ensures.text)
    (length-decimal-le 11 (c.args.time / 1000000000) (omega arith) (omega arith) (omega arith)) in
    let first : length c.append.new.text.items ≡ length c.args.text.now.items + length c.as_bytes.result.now =
    rw c.append.ensures (length-append c.args.text.now.items c.as_bytes.result.now) in
    omega arith

pub returns-clause-size : goal.returns-clause-size
returns-clause-size c =
    let seconds : length c.as_bytes.result.now ≤ 11 =
    rw (c.as_bytes.ensures.value, c.format.ensures.text)
    (length-decimal-le 11 (c.args.time / 1000000000) (omega arith) (omega arith) (omega arith)) in
    let first : length c.append.new.text.items ≡ length c.args.text.now.items + length c.as_bytes.result.now =
    rw c.append.ensures (length-append c.args.text.now.items c.as_bytes.result.now) in
    let second : length c.append-2.new.text.items ≡ length c.append.new.text.items + 7 =
    rw c.append-2.ensures (length-append c.append.new.text.items _) in
    omega arith
