use Rattle.std.proofs.Common.{◌∙◌, ◌/◌, inl, inr, ℕ, Option, unwrap_or, ap, sym, refl, rules}
use Rattle.packets.proofs.RateLemmas.{half-short, spans-added, spans-least}
use Rattle.packets.proofs.summary.rate.Rate.add.Goals as goal

pub spans-init : goal.spans-init
spans-init c = record {
  begin = refl;
  size = search rules;
  counted = λ count_of packets old. old;
  least = inl refl;
}

pub spans-preserved : goal.spans-preserved
spans-preserved c = record {
  begin = c.double.ensures.begin ∙ c.spans.invariant.begin;
  size = c.double.ensures.size;
  counted = λ count_of packets old.
      c.double.ensures.counted count_of packets (c.spans.invariant.counted count_of packets old);
  least = inr (rw c.double.ensures.span (half-short c.saturating_sub-since.result
      c.spans.self.span c.spans-test.true));
}

pub returns : goal.returns
returns c = λ count_of packets same old. record {
  by_span = spans-added count_of c.spans.self _ packets c.args.packet.now c.unwrap_or-begin.result _
      c.saturating_add.result c.spans.invariant.size (c.spans.invariant.counted count_of packets old.by_span)
      (c.unwrap_or-begin.ensures
      ∙ ap (λ (o : Option ℕ). unwrap_or o c.args.packet.now.time) (sym c.spans.invariant.begin))
      (ap (λ (n : ℕ). n / c.spans.self.span) c.saturating_sub-since.ensures)
      c.spans-test.false (rw same c.saturating_add.ensures) refl refl refl;
  least = spans-least count_of c.args.self.now c.spans.self.span c.unwrap_or-begin.result
      c.saturating_sub-since.result packets c.args.packet.now old c.unwrap_or-begin.ensures
      c.saturating_sub-since.ensures c.spans.invariant.least;
}
