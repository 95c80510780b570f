use Rattle.std.proofs.Common.{◌∙◌, sym, ap, refl, subst, List, ℕ, [], ◌++◌, append-nil, Option, Some, None}
use Rattle.captures.specs.Dropped.{IsDropped, last_of}
use Rattle.captures.specs.declared.pcapng.long_block.LongBlock.{LongBlock}
use Rattle.captures.proofs.GivenLemmas.{last_none}
use Rattle.captures.proofs.ParserLemmas.{parsed_none, parsed_packet}
use Rattle.captures.proofs.reading.packet_parser.PacketParser.take_packet.Goals as goal

pub returns-in-Some-clause-finds : goal.returns-in-Some-clause-finds
returns-in-Some-clause-finds c unfit read given h =
    let old = c.args.self.now in
    let ahead = c.look_ahead-ahead.result in
    let is = c.look_ahead-ahead.ensures in
    let new = record old { state = c.look_ahead-ahead.new.state; passed = c.saturating_add-self.result } in
    let first = rw c.in-Some.is at is.3 in
    rw c.in-Some.is (parsed_packet unfit old new read c.args.bytes.now given h refl ahead.left is.0
    c.requires c.saturating_add-self.ensures _ c.requires first)

pub returns-in-Some-refusal-clause-finds : goal.returns-in-Some-refusal-clause-finds
returns-in-Some-refusal-clause-finds c unfit read given h =
    let old = c.args.self.now in
    let ahead = c.look_ahead-ahead.result in
    let is = c.look_ahead-ahead.ensures in
    let new = record old { state = c.look_ahead-ahead.new.state; passed = c.saturating_add-self.result } in
    let none = rw c.in_default.is at is.3 in
    rw c.in_default.is (parsed_none unfit old new read c.args.bytes.now given h refl ahead.left is.0
    c.requires c.saturating_add-self.ensures [] (last_of ahead.left c.args.bytes.now) ahead.refusal
    (subst (λ (b : Option LongBlock). IsDropped new.state b []) (sym c.requires) refl) refl none)

pub returns-in-Some-started_block-clause-finds : goal.returns-in-Some-started_block-clause-finds
returns-in-Some-started_block-clause-finds c unfit read given h =
    let old = c.args.self.now in
    let bytes = c.args.bytes.now in
    let ahead = c.look_ahead-ahead.result in
    let is = c.look_ahead-ahead.ensures in
    let block = c.in-Some-started_block.block in
    let new = record old {
      state = c.look_ahead-ahead.new.state;
      started = Some block;
      passed = c.saturating_add-self.result;
    } in
    let none = rw c.in_default-refusal.is at (rw c.in_default.is at is.3) in
    let rest = last_of ahead.left bytes in
    let dropped = subst (λ (l : List ℕ). IsDropped new.state (Some block) l) c.last.ensures.last
    c.in-Some-started_block.ensures in
    let whole = ap (λ (l : List ℕ). rest ++ l) (last_none bytes) ∙ append-nil rest in
    rw c.none.ensures (parsed_none unfit old new read bytes given h refl ahead.left is.0 c.requires
    c.saturating_add-self.ensures rest (last_of 0 bytes) None dropped whole none)

pub returns-in-None-clause-finds : goal.returns-in-None-clause-finds
returns-in-None-clause-finds c unfit read given h =
    let old = c.args.self.now in
    let ahead = c.look_ahead-ahead.result in
    let is = c.look_ahead-ahead.ensures in
    let new = record old { state = c.look_ahead-ahead.new.state; passed = c.saturating_add-self.result } in
    let none = rw c.in_default.is at is.3 in
    rw c.in_default.is (parsed_none unfit old new read c.args.bytes.now given h refl ahead.left is.0
    c.requires c.saturating_add-self.ensures [] (last_of ahead.left c.args.bytes.now) ahead.refusal
    (subst (λ (b : Option LongBlock). IsDropped new.state b []) (sym c.requires) refl) refl none)
