use Rattle.std.proofs.Common.{◌∙◌, sym, refl, arith}
use Rattle.captures.proofs.FirstPacketLemmas.{from_end, passes_empty, some_bytes, with_wire_len}
use Rattle.captures.proofs.reading.prefix.first_packet.Goals as goal

pub returns-then-not-is_empty-clause-found : goal.returns-then-not-is_empty-clause-found
returns-then-not-is_empty-clause-found c =
    let unit = c.in-Ok-Some.unit in
    let rest = c.units.rest.now in
    let before = c.units.invariant.passes in
    let some = some_bytes unit.frame (sym c.is_empty.ensures ∙ c.if-not-is_empty.true) in
    let found = rw c.in-Ok-Some.field-0-is at c.in-Ok-Some.ensures.found in
    let at = rw c.in-Ok-Some.field-0-is at c.in-Ok-Some.ensures.at in (
      record {
        mid = c.units.state;
        between = rest;
        passes = before;
        has = with_wire_len c.units.state rest _ unit.origin unit.link unit.wire_len unit.frame
            unit.rest.now found some;
        some = some;
        number = c.seen.ensures;
      },
      refl,
      from_end c.args.bytes.now rest unit.frame.bytes unit.at _ before.units before.parts at refl,
    )

pub units-preserved : goal.units-preserved
units-preserved c =
    let unit = c.in-Ok-Some.unit in
    let before = c.units.invariant in
    let found = rw c.in-Ok-Some.field-0-is at c.in-Ok-Some.ensures.found in
    let room = rw c.in-Ok-Some.field-0-is at c.in-Ok-Some.ensures.room in
    record {
      passes = passes_empty c.args.state.now c.units.state _ c.args.bytes.now c.units.rest.now
          unit.rest.now unit.origin unit.link unit.wire_len unit.frame before.passes found
          (sym c.is_empty.ensures ∙ c.if-not-is_empty.false);
      fits = omega arith;
    }
