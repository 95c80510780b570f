use Rattle.std.proofs.Common.{subst, refl, ap, ◌∙◌, ◌+◌, ◌-◌, ◌^◌, ◌≤◌, length, List, ℕ, Option}
use Rattle.std.specs.Prelude.{min}
use Rattle.captures.specs.Dropped.{ComesAfter, IsDropped}
use Rattle.captures.specs.declared.capture_error.CaptureError.TheVariants.{BadBlock}
use Rattle.captures.specs.declared.pcapng.long_block.LongBlock.{LongBlock}
use Rattle.captures.proofs.ReadLemmas.{drops_incomplete, drops_passed, drops_refused}
use Rattle.captures.proofs.reading.packet_reader.PacketReader.take_after.Goals as goal

pub returns-in-Held-clause-finds : goal.returns-in-Held-clause-finds
returns-in-Held-clause-finds g c unfit read given h =
    let old = c.args.self.now in
    let is_dropped = subst (λ (b : Option LongBlock). IsDropped old.state b h.dropped) c.requires
    h.is_dropped in
    let comes = rw c.in-Held.is at (subst (λ (l : List ℕ). ComesAfter old.state c.args.block
    h.dropped l c.following.result) c.held.ensures.held
    (c.following.ensures.comes old.state h.dropped is_dropped)) in
    drops_incomplete unfit old _ read given h c.in-Held.left refl c.keep.ensures.held refl refl
    c.in-Held.started refl refl comes.0 comes.1

pub returns-in-Refused-clause-finds : goal.returns-in-Refused-clause-finds
returns-in-Refused-clause-finds g c unfit read given h =
    let old = c.args.self.now in
    let is_dropped = subst (λ (b : Option LongBlock). IsDropped old.state b h.dropped) c.requires
    h.is_dropped in
    let comes = rw c.in-Refused.is at (subst (λ (l : List ℕ). ComesAfter old.state c.args.block
    h.dropped l c.following.result) c.held.ensures.held
    (c.following.ensures.comes old.state h.dropped is_dropped)) in
    drops_refused unfit old _ read given h c.in-Refused.left refl c.keep-in-Refused.ensures.held refl
    refl c.in-Refused.started refl refl comes.0 BadBlock comes.1

pub returns-in-Passed-clause-finds : goal.returns-in-Passed-clause-finds
returns-in-Passed-clause-finds g c unfit read given h =
    let old = c.args.self.now in
    let is_dropped = subst (λ (b : Option LongBlock). IsDropped old.state b h.dropped) c.requires
    h.is_dropped in
    let comes = rw c.in-Passed.is at (subst (λ (l : List ℕ). ComesAfter old.state c.args.block
    h.dropped l c.following.result) c.held.ensures.held
    (c.following.ensures.comes old.state h.dropped is_dropped)) in
    c.take_packet.ensures.finds unfit read given
    (drops_passed unfit old _ read given h c.in-Passed.left refl c.keep-in-Passed.ensures.held refl
    refl c.args.block.len comes.0 refl
    (c.saturating_add-self.ensures
    ∙ ap (λ (n : ℕ). min (old.passed + n) (2 ^ 64 - 1)) c.from.ensures) comes.1 comes.2
    (subst (λ (l : List ℕ). c.in-Passed.left ≤ length l) c.held.ensures.held
    c.in-Passed.ensures.within))
