use Rattle.std.proofs.Common.{◌∙◌, inl}
use Rattle.packets.specs.Streams.{tcp_packet}
use Rattle.packets.specs.Transfers.{transfer_with}
use Rattle.packets.proofs.StreamLemmas.{after, always, always_both, miss_moved, takes_moved}
use Rattle.packets.proofs.flows.followed_flows.FollowedFlows.add.Goals as goal

pub add-requires-clause-packet : goal.add-requires-clause-packet
add-requires-clause-packet g c =
    let transfer = c.transfer_with-transfer.ensures ∙ (λ i. transfer_with (c.of.ensures i) (c.of-header.ensures i)) in
    c.tcp_packet.ensures ∙ (λ i. tcp_packet (transfer i) (c.of-header.ensures i))

pub returns-clause-ok : goal.returns-clause-ok
returns-clause-ok g c =
    let transfer = c.transfer_with-transfer.ensures ∙ (λ i. transfer_with (c.of.ensures i) (c.of-header.ensures i)) in (
      (λ packets was. rw transfer at (c.count.ensures packets (c.in_ok-reserve.ensures.same packets was))),
      (λ packets was. c.in_ok-add.ensures.ok packets (c.in_ok-reserve-2.ensures.follows packets was)),
    )

pub returns-clause-takes : goal.returns-clause-takes
returns-clause-takes g c = takes_moved _ _ _ c.add.new.self c.args.dissection.now
    c.in_ok-reserve-2.ensures.same c.in_ok-add.ensures.takes

pub returns-in_err-add-clause-err : goal.returns-in_err-add-clause-err
returns-in_err-add-clause-err g c = always_both _ _ _ c.in_ok-reserve.ensures.same
    (after _ _ _ c.in_ok-reserve-2.ensures.follows c.in_err-add.ensures.err)

pub returns-in_err-reserve-2-clause-stops : goal.returns-in_err-reserve-2-clause-stops
returns-in_err-reserve-2-clause-stops g c = always _ _ (inl c.in_err-reserve-2.ensures.same)

pub returns-in_err-add-clause-stops : goal.returns-in_err-add-clause-stops
returns-in_err-add-clause-stops g c =
    let transfer = c.transfer_with-transfer.ensures ∙ (λ i. transfer_with (c.of.ensures i) (c.of-header.ensures i)) in
    let is = c.tcp_packet.ensures ∙ (λ i. tcp_packet (transfer i) (c.of-header.ensures i)) in
    always _ _ (miss_moved _ _ _ c.add.new.self c.args.dissection.now c.in_ok-reserve-2.ensures.same _ is
    c.in_err-add.ensures.stops)
