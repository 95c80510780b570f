use Rattle.std.proofs.Common.{arith}
use Rattle.etherparse.proofs.AppendIp.{ipv4_appended, ipv4_len}
use Rattle.etherparse.proofs.packet_builder.appended_headers.append_ipv4.Goals as goal

pub returns-clause-items : goal.returns-clause-items
returns-clause-items c =
    let call = c.set_next_headers-header in
    let exts = rw c.unwrap-2.ensures at c.write-2.ensures.appends in
    let header = rw c.unwrap.ensures at c.write.ensures.ok in
    ipv4_appended c.args.header.now c.args.extensions.now call.new.self call.result c.args.number.0
    _ _ _ call.ensures.linked call.ensures.first header exts.0

pub returns-clause-len : goal.returns-clause-len
returns-clause-len c =
    let call = c.set_next_headers-header in
    let appends = rw c.unwrap-2.ensures at c.write-2.ensures.appends in
    let header = rw c.unwrap.ensures at c.write.ensures.len in
    let exts = ipv4_len c.args.extensions.now call.new.self c.args.number.0 _ _
    call.ensures.linked appends.0 in
    omega (arith, header, exts)
