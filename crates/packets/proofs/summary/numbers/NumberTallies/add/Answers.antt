use Rattle.std.proofs.Common.{ℕ, ◌∙◌, ap, sym, arith}
use Rattle.packets.specs.Headers.{carries, is_number}
use Rattle.packets.specs.declared.outline.Outline.{Outline}
use Rattle.packets.proofs.BucketLemmas.{bucket-tally, number-here, number-others}
use Rattle.packets.proofs.TallyLemmas.{tally_of-other}
use Rattle.packets.proofs.summary.numbers.NumberTallies.add.Goals as goal

pub returns-in-Some : goal.returns-in-Some
returns-in-Some c = λ packets counted n small.
    let position = c.tally_index-position.ensures.position in
    bucket-tally c.args.self.now.tallies c.tally_index-position.result c.add.new.self
    (λ (d : ℕ) (p : Outline). carries p.headers.net d) packets c.args.packet.now
    (omega arith) (omega arith) counted
    (ap (is_number c.tally_index-position.result) (sym c.in-Some.ensures) ∙ number-here _ _ position)
    (λ d other. ap (is_number d) (sym c.in-Some.ensures) ∙ number-others _ _ d position other)
    (λ before. c.add.ensures (λ (p : Outline). carries p.headers.net c.tally_index-position.result)
    packets before
    (ap (is_number c.tally_index-position.result) (sym c.in-Some.ensures)
    ∙ number-here _ _ position)) n small

pub returns-in-None : goal.returns-in-None
returns-in-None c = λ packets counted n small.
    counted n small ∙ tally_of-other (λ (p : Outline). carries p.headers.net n) packets
    c.args.packet.now
    (ap (is_number n) (sym c.in-None.ensures))
