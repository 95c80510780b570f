use Rattle.std.proofs.Common.{◌∙◌, sym, ap, refl, subst, ℕ, ◌+◌, ◌-◌, ◌^◌, List, [], ◌++◌, length, append-nil, Option}
use Rattle.std.proofs.Common.{Some}
use Rattle.std.specs.Prelude.{min}
use Rattle.captures.specs.Dropped.{IsDropped, last_of}
use Rattle.captures.specs.PacketSteps.{IsFirst}
use Rattle.captures.specs.Readers.{IsAhead, packet_with}
use Rattle.captures.specs.Units.{IsIncomplete, Refuses}
use Rattle.captures.specs.declared.pcapng.long_block.LongBlock.{LongBlock}
use Rattle.captures.proofs.GivenLemmas.{last_none}
use Rattle.captures.proofs.ReadLemmas.{finds_none, finds_packet}
use Rattle.captures.proofs.reading.packet_reader.PacketReader.take_packet.Goals as goal

pub returns-in-Some-clause-finds : goal.returns-in-Some-clause-finds
returns-in-Some-clause-finds g c unfit read given h =
    let old = c.args.self.now in
    let after = c.look_ahead-ahead.new.state in
    let ahead = c.look_ahead-ahead.result in
    let is = subst (λ (l : List ℕ). IsAhead old.state l after ahead) c.held.ensures.held
    c.look_ahead-ahead.ensures in
    let passed = c.saturating_add-self.ensures
    ∙ ap (λ (l : List ℕ). min (old.passed + (length l - ahead.left)) (2 ^ 64 - 1))
    c.held-2.ensures.held in
    let marked = c.keep.ensures.marked ∙ c.mark.ensures.marked in
    let held = c.keep.ensures.held ∙ ap (λ (l : List ℕ). last_of ahead.left l) c.mark.ensures.held in
    let first = subst (λ (l : List ℕ). IsFirst old.state old.window.held after
    (packet_with c.in-Some.found l) (last_of ahead.left old.window.held)) (sym marked)
    (rw c.in-Some.is at is.3) in (
      packet_with c.in-Some.found c.keep.new.self.marked,
      refl,
      finds_packet unfit old read given h c.requires after ahead.left _ is.0 passed _ _ refl
          c.requires refl held refl refl first,
    )

pub returns-in-Some-refusal-clause-finds : goal.returns-in-Some-refusal-clause-finds
returns-in-Some-refusal-clause-finds g c unfit read given h =
    let old = c.args.self.now in
    let after = c.look_ahead-ahead.new.state in
    let ahead = c.look_ahead-ahead.result in
    let is = subst (λ (l : List ℕ). IsAhead old.state l after ahead) c.held.ensures.held
    c.look_ahead-ahead.ensures in
    let passed = c.saturating_add-self.ensures
    ∙ ap (λ (l : List ℕ). min (old.passed + (length l - ahead.left)) (2 ^ 64 - 1))
    c.held-2.ensures.held in
    let none = rw c.in_default.is at is.3 in
    let refuses = rw c.in-Some-refusal.is at none.left in (
      finds_none unfit old read given h c.requires after ahead.left _ is.0 passed _ [] refl
          (subst (λ (b : Option LongBlock). IsDropped after b []) (sym c.requires) refl) refl
          c.keep-2.ensures.held refl refl _ none,
      subst (λ (l : List ℕ). Refuses after l c.in-Some-refusal.error) (sym c.keep-2.ensures.held)
          refuses,
    )

pub returns-in-Some-long_block-clause-finds : goal.returns-in-Some-long_block-clause-finds
returns-in-Some-long_block-clause-finds g c unfit read given h =
    let old = c.args.self.now in
    let after = c.look_ahead-ahead.new.state in
    let ahead = c.look_ahead-ahead.result in
    let is = subst (λ (l : List ℕ). IsAhead old.state l after ahead) c.held.ensures.held
    c.look_ahead-ahead.ensures in
    let passed = c.saturating_add-self.ensures
    ∙ ap (λ (l : List ℕ). min (old.passed + (length l - ahead.left)) (2 ^ 64 - 1))
    c.held-2.ensures.held in
    let none = rw c.in_default.is at is.3 in
    let begins = rw c.in_default-refusal.is at none.left in
    let rest = last_of ahead.left old.window.held in
    let block = c.in-Some-long_block.block in
    let held = c.held-3.ensures.held ∙ c.keep-2.ensures.held in
    let dropped = subst (λ (l : List ℕ). IsDropped after (Some block) l) held
    c.in-Some-long_block.ensures in
    let empty = c.keep-in-Some-long_block.ensures.held ∙ last_none c.keep-2.new.self.held in
    let whole = ap (λ (l : List ℕ). rest ++ l) empty ∙ append-nil rest in (
      finds_none unfit old read given h c.requires after ahead.left _ is.0 passed _ rest refl
          dropped refl whole refl refl _ none,
      subst (λ (l : List ℕ). IsIncomplete after l) (sym whole) begins,
    )

pub returns-in-None-clause-finds : goal.returns-in-None-clause-finds
returns-in-None-clause-finds g c unfit read given h =
    let old = c.args.self.now in
    let after = c.look_ahead-ahead.new.state in
    let ahead = c.look_ahead-ahead.result in
    let is = subst (λ (l : List ℕ). IsAhead old.state l after ahead) c.held.ensures.held
    c.look_ahead-ahead.ensures in
    let passed = c.saturating_add-self.ensures
    ∙ ap (λ (l : List ℕ). min (old.passed + (length l - ahead.left)) (2 ^ 64 - 1))
    c.held-2.ensures.held in
    let none = rw c.in_default.is at is.3 in
    let begins = rw c.in_default-refusal.is at none.left in (
      finds_none unfit old read given h c.requires after ahead.left _ is.0 passed _ [] refl
          (subst (λ (b : Option LongBlock). IsDropped after b []) (sym c.requires) refl) refl
          c.keep-2.ensures.held refl refl _ none,
      subst (λ (l : List ℕ). IsIncomplete after l) (sym c.keep-2.ensures.held) begins,
    )
