use Rattle.std.proofs.Common.{◌∙◌, ap, length}
use Rattle.ep_ipslice.proofs.LaxIpv4.{body_is}
use Rattle.ep_ipslice.proofs.net.ipv4_slice.body_of.Goals as goal

pub returns-clause-bytes : goal.returns-clause-bytes
returns-clause-bytes c =
    body_is c.args.slice.now c.args.header.now c.split_at.result.1.now c.bytes_within.result.0.now
    (length c.slice-header_len.result.now) c.from-total_len.result
    (ap length c.slice-header_len.ensures.bytes) (c.from-total_len.ensures ∙ c.total_len.ensures)
    c.if-total_len-header_len.false c.split_at.ensures.back c.bytes_within.ensures.bytes
