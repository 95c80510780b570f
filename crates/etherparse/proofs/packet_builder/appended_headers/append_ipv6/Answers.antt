use Rattle.std.proofs.Common.{◌∙◌, ap, arith}
use Rattle.ep_ext.specs.Follow.{header_len}
use Rattle.ep_ext.specs.Link.{all_slots, pieces_in}
use Rattle.etherparse.proofs.AppendIp.{appended, ipv6_appended, ipv6_len}
use Rattle.etherparse.proofs.LinkedExts.{linked_len}
use Rattle.etherparse.proofs.packet_builder.appended_headers.append_ipv6.Goals as goal

pub unwrap-requires-2 : goal.unwrap-requires-2
unwrap-requires-2 c =
    let call = c.set_next_headers-header in
    let new = call.new.self in
    let header = rw c.unwrap.ensures at c.write.ensures.len in
    let len = ap header_len call.ensures.linked
    ∙ linked_len c.args.extensions.now c.args.number.0 in
    (appended new (pieces_in new all_slots) c.args.number.0 _ _ c.write-2.result call.ensures.whole
    (λ e. omega (
      arith,
      c.write-2.ensures.memory
          e,
      c.write.ensures.capacity,
      c.requires,
      header,
      len,
    ))
    (c.write-2.ensures.only (pieces_in new all_slots) c.args.number.0 call.ensures.chained)).0

pub returns-clause-items : goal.returns-clause-items
returns-clause-items c =
    let call = c.set_next_headers-header in
    let new = call.new.self in
    let appends = c.write-2.ensures.only (pieces_in new all_slots) c.args.number.0
    call.ensures.chained in
    let ok = rw c.unwrap-2.ensures at appends in
    let header = rw c.unwrap.ensures at c.write.ensures.ok in
    ipv6_appended c.args.header.now c.args.extensions.now new call.result c.args.number.0 _ _ _
    call.ensures.linked call.ensures.chained header ok.0

pub returns-clause-len : goal.returns-clause-len
returns-clause-len c =
    let call = c.set_next_headers-header in
    let new = call.new.self in
    let appends = c.write-2.ensures.only (pieces_in new all_slots) c.args.number.0
    call.ensures.chained in
    let ok = rw c.unwrap-2.ensures at appends in
    let header = rw c.unwrap.ensures at c.write.ensures.len in
    let exts = ipv6_len c.args.extensions.now new c.args.number.0 _ _ call.ensures.linked ok.0 in
    omega (arith, header, exts)
