use Rattle.std.proofs.Common.{[], ◌∙◌, ℕ, ◌+◌, ◌-◌, ◌^◌, ap, arith, min, refl, subst, sym}
use Rattle.std.specs.HashMap.{hash_map_len}
use Rattle.std.specs.Option.{option_copied_mut}
use Rattle.std.specs.Prelude.{IsSome}
use Rattle.packets.proofs.StreamLemmas.{always, follows_full, follows_started, follows_stopped, follows_taken, on_err, on_ok}
use Rattle.packets.proofs.StreamLemmas.{stops_new, stops_there}
use Rattle.packets.proofs.flows.streams.Streams.take.Goals as goal

pub returns-in-Some-clause-ok : goal.returns-in-Some-clause-ok
returns-in-Some-clause-ok g c =
    let now = c.take-taken.new.self in
    let there = sym c.get_mut.ensures.value ∙ ap option_copied_mut c.in-Some.is in
    let written = c.get_mut.follows.holds now in
    let beside = c.saturating_sub-others.ensures ∙ ap (λ (n : ℕ). c.args.self.now.held - n) c.size.ensures in
    let held = c.saturating_add-self.ensures
    ∙ ap (λ (n : ℕ). min (c.saturating_sub-others.result + n) (2 ^ 64 - 1)) c.size-in-Some.ensures in
    on_ok c.take-taken.result _ _
    (λ takes packets was. follows_taken _ packets c.args.packet.now c.args.tcp_packet c.requires.packet c.requires.exact
    c.args.self.now _ c.in-Some.stream.now now c.saturating_sub-others.result there beside takes held written.2 written.0
    (written.3 (subst IsSome (sym there) refl)).0 was) c.take-taken.ensures.ok

pub returns-in-Some-clause-err : goal.returns-in-Some-clause-err
returns-in-Some-clause-err g c =
    let now = c.take-taken.new.self in
    let there = sym c.get_mut.ensures.value ∙ ap option_copied_mut c.in-Some.is in
    let written = c.get_mut.follows.holds now in
    let beside = c.saturating_sub-others.ensures ∙ ap (λ (n : ℕ). c.args.self.now.held - n) c.size.ensures in
    let held = c.saturating_add-self.ensures
    ∙ ap (λ (n : ℕ). min (c.saturating_sub-others.result + n) (2 ^ 64 - 1)) c.size-in-Some.ensures in
    on_err c.take-taken.result _ _
    (λ stops packets was. follows_stopped _ packets c.args.packet.now c.args.tcp_packet c.requires.packet c.requires.exact
    c.args.self.now _ c.in-Some.stream.now now c.saturating_sub-others.result there beside stops held written.2 written.0
    (written.3 (subst IsSome (sym there) refl)).0 was) c.take-taken.ensures.err

pub returns-in_ok-take-clause-ok : goal.returns-in_ok-take-clause-ok
returns-in_ok-take-clause-ok g c = λ packets was.
    let none = sym c.get_mut.ensures.value ∙ ap option_copied_mut c.in_default.is in
    let held = c.saturating_add-self-then-len-lt-STREAM_COUNT.ensures
    ∙ ap (λ (n : ℕ). min (c.args.self.now.held + n) (2 ^ 64 - 1)) c.size-then-len-lt-STREAM_COUNT.ensures in
    let inserted = rw c.unwrap.ensures at c.insert-inserted.ensures.old in
    let size = rw c.unwrap.ensures at c.insert-inserted.ensures.len in
    let puts = rw c.unwrap.ensures at c.insert-inserted.ensures.entries in
    let updates = rw c.unwrap.ensures at c.insert-inserted.ensures.updates in
    follows_started _ packets c.args.packet.now c.args.tcp_packet c.requires.packet c.requires.exact c.args.self.now _
    c.get_mut.follows.lender-at-none c.new-stream.result c.take.new.self c.unwrap.result c.get_mut.follows.holds-at-none none
    (omega (arith, c.len.ensures.len, c.if-len-lt-STREAM_COUNT.true)) c.new-stream.ensures c.in_ok-take.ensures.ok held inserted size puts updates.0 was

pub returns-else-len-lt-STREAM_COUNT-clause-ok : goal.returns-else-len-lt-STREAM_COUNT-clause-ok
returns-else-len-lt-STREAM_COUNT-clause-ok g c = λ packets was.
    let none = sym c.get_mut.ensures.value ∙ ap option_copied_mut c.in_default.is in
    let count = c.len.ensures.len ∙ ap hash_map_len c.get_mut.follows.holds-at-none in
    follows_full _ packets c.args.packet.now c.args.tcp_packet c.requires.packet c.requires.exact c.args.self.now _ none
    (omega (arith, count, c.if-len-lt-STREAM_COUNT.false))
    (λ i. record c.args.self.now { streams = c.get_mut.follows.holds-at-none i }) was

pub returns-in-Some-clause-stops : goal.returns-in-Some-clause-stops
returns-in-Some-clause-stops g c =
    let now = c.take-taken.new.self in
    let there = sym c.get_mut.ensures.value ∙ ap option_copied_mut c.in-Some.is in
    let written = c.get_mut.follows.holds now in
    let beside = c.saturating_sub-others.ensures ∙ ap (λ (n : ℕ). c.args.self.now.held - n) c.size.ensures in
    let held = c.saturating_add-self.ensures
    ∙ ap (λ (n : ℕ). min (c.saturating_sub-others.result + n) (2 ^ 64 - 1)) c.size-in-Some.ensures in
    on_err c.take-taken.result _ _
    (λ stops. stops_there _ [] c.args.packet.now c.args.tcp_packet c.requires.packet c.requires.exact c.args.self.now _
    c.in-Some.stream.now now c.saturating_sub-others.result there beside c.saturating_sub-others.type_inv stops held
    written.2 (written.3 (subst IsSome (sym there) refl)).0) c.take-taken.ensures.err

pub returns-in_err-take-clause-stops : goal.returns-in_err-take-clause-stops
returns-in_err-take-clause-stops g c =
    let none = sym c.get_mut.ensures.value ∙ ap option_copied_mut c.in_default.is in
    always c.from_residual.result _ (stops_new _ [] c.args.packet.now c.args.tcp_packet c.requires.packet c.requires.exact
    c.args.self.now (record c.args.self.now { streams = c.get_mut.follows.lender-at-none }) none
    c.get_mut.follows.holds-at-none refl)
