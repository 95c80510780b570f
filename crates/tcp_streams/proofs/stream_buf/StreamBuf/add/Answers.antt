use Rattle.std.proofs.Common.{◌≡◌, ◌∙◌, ◌≤◌, ap, length, sym, None}
use Rattle.std.specs.Prelude.{IfOk}
use Rattle.tcp_streams.specs.declared.stream_buf.Added.{Added}
use Rattle.tcp_streams.specs.Segments.{segment}
use Rattle.tcp_streams.specs.StreamBuf.{IsAdded, placed_in, refusal_in}
use Rattle.tcp_streams.proofs.BufLemmas.{bounded, answers_refusal, answers_none, located_after, located_within}
use Rattle.tcp_streams.proofs.BufLemmas.{all_held, placed_low, refused_not}
use Rattle.tcp_streams.proofs.BufLemmas.{add_shows, add_position, add_conflicts, add_start, add_joined_late}
use Rattle.tcp_streams.proofs.BufLemmas.{add_repeated, add_same}
use Rattle.tcp_streams.proofs.stream_buf.StreamBuf.add.Goals as goal

pub returns-in-Some-clause-refused : goal.returns-in-Some-clause-refused
returns-in-Some-clause-refused c ss shows =
    let a = segment c.args.sequence_number c.args.flags c.args.payload.now in
    let located = c.locate.ensures.located in
    answers_refusal c.args.self.now ss a c.locate.ensures.sound shows Added c.in-Some.refused
    (sym (c.refusal.ensures (placed_in c.args.self.now a) located.position located.fin (ap length located.bytes))
    ∙ c.in-Some.is)

pub accept-requires-clause-after : goal.accept-requires-clause-after
accept-requires-clause-after c =
    located_after c.args.self.now (segment c.args.sequence_number c.args.flags c.args.payload.now)
    c.locate.result.0 c.locate.result.1.now c.locate.ensures.sound c.locate.ensures.located

pub accept-requires-clause-within : goal.accept-requires-clause-within
accept-requires-clause-within c =
    let a = segment c.args.sequence_number c.args.flags c.args.payload.now in
    let located = c.locate.ensures.located in
    located_within c.args.self.now a c.locate.result.0 c.locate.result.1.now located
    (sym (c.refusal.ensures (placed_in c.args.self.now a) located.position located.fin (ap length located.bytes))
    ∙ c.in-None.is)

none_is : (c : goal.After-accept)
    → let a = segment c.args.sequence_number c.args.flags c.args.payload.now in
    refusal_in c.args.self.now (placed_in c.args.self.now a) ≡ None
none_is c =
    let a = segment c.args.sequence_number c.args.flags c.args.payload.now in
    let located = c.locate.ensures.located in
    sym (c.refusal.ensures (placed_in c.args.self.now a) located.position located.fin (ap length located.bytes))
    ∙ c.in-None.is

added_is : (c : goal.After-accept)
    → let a = segment c.args.sequence_number c.args.flags c.args.payload.now in
    IfOk c.accept.result (IsAdded c.args.self.now c.accept.new.self (placed_in c.args.self.now a)
    c.first_number-number.result c.args.flags.syn)
added_is c = c.accept.ensures.added _ c.locate.ensures.located

low : (c : goal.After-accept)
    → let a = segment c.args.sequence_number c.args.flags c.args.payload.now in
    c.args.self.now.held.taken ≤ (placed_in c.args.self.now a).position
low c = placed_low c.args.self.now (segment c.args.sequence_number c.args.flags c.args.payload.now)
    c.locate.ensures.sound

pub returns-in-None-clause-accepted : goal.returns-in-None-clause-accepted
returns-in-None-clause-accepted c ss shows =
    add_shows c.args.self.now c.accept.new.self ss
    (segment c.args.sequence_number c.args.flags c.args.payload.now) _ _ c.locate.ensures.sound shows c.accept.result
    (none_is c) (low c) (added_is c)

pub returns-in-None-clause-refused : goal.returns-in-None-clause-refused
returns-in-None-clause-refused c ss shows =
    answers_none c.args.self.now ss (segment c.args.sequence_number c.args.flags c.args.payload.now)
    c.locate.ensures.sound shows c.accept.result (none_is c) c.accept.ensures.memory

pub returns-in-None-clause-position : goal.returns-in-None-clause-position
returns-in-None-clause-position c ss shows =
    add_position c.args.self.now c.accept.new.self ss
    (segment c.args.sequence_number c.args.flags c.args.payload.now) _ _ c.locate.ensures.sound shows c.accept.result
    (added_is c)

pub returns-in-None-clause-conflicts : goal.returns-in-None-clause-conflicts
returns-in-None-clause-conflicts c ss shows =
    add_conflicts c.args.self.now c.accept.new.self ss
    (segment c.args.sequence_number c.args.flags c.args.payload.now) _ _ c.locate.ensures.sound shows c.accept.result
    (low c) (added_is c)

pub accept-requires-clause-fits : goal.accept-requires-clause-fits
accept-requires-clause-fits c = c.locate.ensures.fits

pub returns-in-None-clause-repeated : goal.returns-in-None-clause-repeated
returns-in-None-clause-repeated c ss shows =
    add_repeated c.args.self.now ss (segment c.args.sequence_number c.args.flags c.args.payload.now)
    c.locate.result.0 c.locate.result.1.now c.locate.ensures.sound shows c.locate.ensures.located c.locate.ensures.skipped
    c.accept.result c.accept.ensures.repeated

pub returns-in-None-clause-start : goal.returns-in-None-clause-start
returns-in-None-clause-start c =
    rw c.first_number-number.ensures at
    (add_start c.args.self.now c.accept.new.self _ c.first_number-number.result c.args.flags.syn c.accept.result (added_is c))

pub returns-in-None-clause-joined_late : goal.returns-in-None-clause-joined_late
returns-in-None-clause-joined_late c =
    add_joined_late c.args.self.now c.accept.new.self _ c.first_number-number.result c.args.flags.syn c.accept.result (added_is c)

pub returns-in-None-clause-taken : goal.returns-in-None-clause-taken
returns-in-None-clause-taken c =
    (add_same c.args.self.now c.accept.new.self _ _ _ c.accept.result (added_is c) c.accept.ensures.err).0

pub returns-in-None-clause-window : goal.returns-in-None-clause-window
returns-in-None-clause-window c =
    (add_same c.args.self.now c.accept.new.self _ _ _ c.accept.result (added_is c) c.accept.ensures.err).1

pub returns-in-Some-clause-bounded : goal.returns-in-Some-clause-bounded
returns-in-Some-clause-bounded c = bounded c.args.self.now c.locate.ensures.sound

pub returns-in-None-clause-bounded : goal.returns-in-None-clause-bounded
returns-in-None-clause-bounded c = bounded c.accept.new.self c.accept.ensures.sound

pub returns-in-Some-clause-succeeds : goal.returns-in-Some-clause-succeeds
returns-in-Some-clause-succeeds c ss shows none held =
    let a = segment c.args.sequence_number c.args.flags c.args.payload.now in
    let located = c.locate.ensures.located in
    absurd (refused_not c.args.self.now ss a c.locate.ensures.sound shows c.in-Some.refused
    (sym (c.refusal.ensures (placed_in c.args.self.now a) located.position located.fin (ap length located.bytes))
    ∙ c.in-Some.is) none)

pub returns-in-None-clause-succeeds : goal.returns-in-None-clause-succeeds
returns-in-None-clause-succeeds c ss shows none held =
    let a = segment c.args.sequence_number c.args.flags c.args.payload.now in
    let located = c.locate.ensures.located in
    c.accept.ensures.succeeds (rw (located.position, located.bytes)
    (all_held c.args.self.now ss a c.locate.ensures.sound shows held))
