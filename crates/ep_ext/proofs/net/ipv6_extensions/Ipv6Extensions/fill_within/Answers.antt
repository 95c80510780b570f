use Rattle.std.proofs.Common.{◌≡◌, ◌∙◌, sym, refl, List, Some, None}
use Rattle.std.proofs.lemmas.Bool.{eqb-true}
use Rattle.ep_ext.specs.declared.err.ipv6_exts.header_error.HeaderError.TheVariants.{HopByHopNotAtStart}
use Rattle.ep_ext.specs.declared.err.ipv6_exts.header_limited_read_error.HeaderLimitedReadError.TheVariants.{Content}
use Rattle.ep_ext.specs.ReadsExts.{TakesRow}
use Rattle.ep_ext.specs.Value.{Piece}
use Rattle.ep_ext.proofs.ReadWalk.{given_none, given_more, given_fewer, takes_row_more}
use Rattle.ep_ext.proofs.ReadWithin.{row_refused}
use Rattle.ep_ext.proofs.net.ipv6_extensions.Ipv6Extensions.fill_within.Goals as goal

pub pieces-init : goal.pieces-init
pieces-init g c =
    given_none (λ pieces. TakesRow g.R.Read.remaining c.args.reader.now pieces c.args.reader.now)
    c.args.first.0 c.args.self.now c.nothing-passed.result
    c.nothing-passed.ensures c.requires refl

pub pieces-smaller : goal.pieces-smaller
pieces-smaller g c =
    rw c.with-passed.ensures
    (given_fewer (λ pieces. TakesRow g.R.Read.remaining c.args.reader.now pieces c.pieces.reader)
    c.args.first.0 c.pieces.self c.pieces.passed c.pieces.number.0 c.in-Some.slot
    c.pieces.invariant (sym c.slot_of.ensures ∙ c.in-Some.is))

pub pieces-preserved : goal.pieces-preserved
pieces-preserved g c =
    let found = c.in-Ok.ensures.found in
    rw c.with-passed.ensures
    (given_more (λ pieces. TakesRow g.R.Read.remaining c.args.reader.now pieces c.pieces.reader)
    (λ pieces. TakesRow g.R.Read.remaining c.args.reader.now pieces c.read_within.new.reader)
    c.args.first.0 c.pieces.self c.pieces.passed c.pieces.number.0 c.in-Some.slot found.0
    c.in-Ok.next.0 c.read_within.new.self
    c.pieces.invariant (sym c.slot_of.ensures ∙ c.in-Some.is) found.1 found.3 found.4
    (λ (pieces : List Piece) kept. takes_row_more g.R.Read.remaining c.args.reader.now
    c.pieces.reader c.read_within.new.reader pieces c.in-Some.slot found.0 kept found.2))

pub returns-in-Err-clause-err : goal.returns-in-Err-clause-err
returns-in-Err-clause-err g c =
    row_refused g.R.Read.remaining c.args.reader.now c.pieces.reader c.read_within.new.reader
    c.args.first.0 c.pieces.self c.pieces.passed c.pieces.number.0
    (Some c.in-Some.slot) c.in-Err.error
    c.pieces.invariant (sym c.slot_of.ensures ∙ c.in-Some.is)
    (c.in-Err.ensures.err c.pieces.number.0)

pub returns-then-eq-clause-err : goal.returns-then-eq-clause-err
returns-then-eq-clause-err g c =
    let is : c.pieces.number.0 ≡ 0 =
    eqb-true c.pieces.number.0 0 (sym c.eq.ensures ∙ c.if-eq.true) in
    row_refused g.R.Read.remaining c.args.reader.now c.pieces.reader c.pieces.reader c.args.first.0
    c.pieces.self c.pieces.passed c.pieces.number.0 None (Content HopByHopNotAtStart)
    c.pieces.invariant (sym c.slot_of.ensures ∙ c.in_default.is) (refl, is, refl)
