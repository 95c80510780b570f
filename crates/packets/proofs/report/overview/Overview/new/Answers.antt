use Rattle.packets.specs.Overviews.{refused_count}
use Rattle.packets.proofs.report.overview.Overview.new.Goals as goal

pub returns : goal.returns
returns g c = λ none. record {
  summary = none;
  bytes = c.new.ensures (λ packet. packet.wire_len);
  refused = c.new-2.ensures refused_count;
}
