use Rattle.std.proofs.Common.{◌∙◌, sym, ap, refl, subst, ◌+◌, ◌-◌, ◌^◌, ℕ, List, Option, Some, None}
use Rattle.std.specs.Prelude.{min}
use Rattle.captures.specs.Dropped.{IsDropped}
use Rattle.captures.specs.Parsers.{HasParsed}
use Rattle.captures.specs.declared.capture_error.CaptureError.TheVariants.{BadBlock}
use Rattle.captures.specs.declared.pcapng.long_block.LongBlock.{LongBlock}
use Rattle.captures.proofs.ParserLemmas.{finds_within, parsed_more, parsed_passed}
use Rattle.captures.proofs.reading.packet_parser.PacketParser.take_after.Goals as goal

pub returns-in-Held-clause-finds : goal.returns-in-Held-clause-finds
returns-in-Held-clause-finds c unfit read given h =
    let old = c.args.self.now in
    let is_dropped = subst (λ (b : Option LongBlock). IsDropped old.state b h.dropped) c.requires
    h.is_dropped in
    let comes = rw c.in-Held.is at c.following.ensures.comes old.state h.dropped is_dropped in
    rw c.none.ensures (parsed_more unfit old (record old { started = Some c.in-Held.started }) read
    c.args.bytes.now given h refl c.in-Held.left c.in-Held.ensures.within.0 refl c.in-Held.started None
    refl refl comes.0 comes.1)

pub returns-in-Refused-clause-finds : goal.returns-in-Refused-clause-finds
returns-in-Refused-clause-finds c unfit read given h =
    let old = c.args.self.now in
    let is_dropped = subst (λ (b : Option LongBlock). IsDropped old.state b h.dropped) c.requires
    h.is_dropped in
    let comes = rw c.in-Refused.is at c.following.ensures.comes old.state h.dropped is_dropped in
    rw c.none-in-Refused.ensures (parsed_more unfit old
    (record old { started = Some c.in-Refused.started }) read c.args.bytes.now given h refl
    c.in-Refused.left c.in-Refused.ensures.within refl c.in-Refused.started (Some BadBlock) refl refl
    comes.0 comes.1)

pub returns-in-Passed-clause-finds : goal.returns-in-Passed-clause-finds
returns-in-Passed-clause-finds c unfit read given h =
    let old = c.args.self.now in
    let bytes = c.args.bytes.now in
    let is_dropped = subst (λ (b : Option LongBlock). IsDropped old.state b h.dropped) c.requires
    h.is_dropped in
    let comes = rw c.in-Passed.is at c.following.ensures.comes old.state h.dropped is_dropped in
    let parts = c.last.ensures.parts in
    let mid = record old { started = None; passed = c.saturating_add-self.result } in
    let parsed = parsed_passed unfit old mid read bytes given h refl c.in-Passed.left
    c.in-Passed.ensures.within refl c.args.block.len comes.0 refl
    (c.saturating_add-self.ensures
    ∙ ap (λ (n : ℕ). min (old.passed + n) (2 ^ 64 - 1)) c.from.ensures) comes.1 comes.2 in
    finds_within unfit c.take_packet.new.self read bytes parts.0 c.last.result.now given
    c.take_packet.result parts.1 c.take_packet.ensures.left c.take_packet.ensures.from
    (c.take_packet.ensures.finds unfit read given
    (subst (λ (l : List ℕ). HasParsed unfit mid read l given) (sym c.last.ensures.last) parsed))
