use Rattle.std.proofs.Common.{refl}
use Rattle.packets.proofs.RateLemmas.{zeros-at}
use Rattle.packets.proofs.TableLemmas.{keys-none}
use Rattle.packets.proofs.summary.summary.Summary.with_hashers.Goals as goal

pub returns : goal.returns
returns g c = record {
  outlines = record {
    all = refl;
    refused = refl;
    protocols = c.none.ensures;
    checksums = record { good = refl; bad = refl; none = refl };
    parts = record { all = refl; completing = refl; refused = refl };
    sizes = λ digits small. zeros-at 65 digits;
    rate = c.new.ensures (λ packet. 1);
    period = record { earliest = refl; latest = refl };
    lengths = record { cut = refl; wire = refl; captured = refl };
    reasons = keys-none c.with_hasher.result (λ kind. refl) c.with_hasher.ensures;
    senders = keys-none c.with_hasher-3.result (λ kind. refl) c.with_hasher-3.ensures;
  };
  flows = c.with_hasher-2.ensures;
}
