use Rattle.std.proofs.Common.{◌≡◌, ◌∙◌, ap, sym, List, Some, ℕ}
use Rattle.ep_link.specs.Sll.{sll_len}
use Rattle.ep_link.specs.SllPayload.{named_payload, payload_of}
use Rattle.ep_packet.proofs.SlicedLemmas.{named_at, parts_in_frame, sll_whole, some_named}
use Rattle.ep_packet.proofs.sliced_packet.SlicedPacket.from_linux_sll.Goals as goal

-- what the protocol names is the payload that was passed with the header
named : (c : goal.After-after_link)
    → named_payload (payload_of c.args.slice.now) ≡ Some c.in-Ok-try_from.payload
named c =
    ap (λ (xs : List ℕ). named_payload (payload_of xs))
    (sym (sll_whole c.args.slice.now c.in-Ok.packet c.in-Ok.ensures.exact).0)
    ∙ ap named_payload (sym c.payload.ensures)
    ∙ some_named (named_payload c.payload.result) c.in-Ok-try_from.payload c.in-Ok-try_from.ensures

pub returns-in-Ok-try_from-clause-parts : goal.returns-in-Ok-try_from-clause-parts
returns-in-Ok-try_from-clause-parts c =
    let whole = sll_whole c.args.slice.now c.in-Ok.packet c.in-Ok.ensures.exact in
    parts_in_frame c.args.slice.now c.in-Ok-try_from.payload.payload sll_len c.after_link.result
    (named_at c.args.slice.now c.in-Ok-try_from.payload whole.1 (named c))
    c.after_link.ensures.parts
