use Rattle.std.proofs.Common.{◌∙◌, ap, sym}
use Rattle.ep_ip.specs.Skip.{is_skipped}
use Rattle.ep_ipslice.specs.Ipv6Exts.{view_order}
use Rattle.ep_ipslice.specs.Packet.{IpPayload}
use Rattle.ep_ipslice.proofs.Ipv6Parts.{keeps_numbers, skipped_answer, view_chain}
use Rattle.ep_ipslice.proofs.laws.packets.skip_agrees_with_view.Goals as goal

pub returns : goal.returns
returns c = λ bytes packet is named cut skipped.
    let number = ap (λ (p : IpPayload). p.ip_number.0) is.fields in
    let chain = view_chain c.row_ends_where_none_is_taken.ensures.closed bytes packet is
    c.args.first.0 c.args.body.now named cut in
    skipped_answer packet is.last c.skip_call_agrees_with_chain.result number
    (c.skip_call_agrees_with_chain.ensures view_order is.pieces is.last packet.payload.payload
    keeps_numbers chain (ap is_skipped (sym number) ∙ skipped))
