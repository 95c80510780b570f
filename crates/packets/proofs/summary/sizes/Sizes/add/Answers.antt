use Rattle.packets.proofs.BucketLemmas.{bucket-more, digits-others}
use Rattle.packets.specs.Sizes.{has_digits}
use Rattle.packets.specs.declared.outline.Outline.{Outline}
use Rattle.std.proofs.Common.{ℕ, arith}
use Rattle.packets.proofs.summary.sizes.Sizes.add.Goals as goal

pub returns : goal.returns
returns c = λ packets counted d small.
    bucket-more c.args.self.now.counts 65 c.digits_of-digits.result _
    (λ (digits : ℕ) (packet : Outline). has_digits digits packet.len) packets c.args.packet.now
    (omega arith) counted c.digits_of-digits.ensures.digits
    (digits-others c.digits_of-digits.result c.args.packet.now.len
    c.digits_of-digits.ensures.digits)
    c.saturating_add.ensures d small
