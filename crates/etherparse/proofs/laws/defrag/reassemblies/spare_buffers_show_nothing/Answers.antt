use Rattle.std.proofs.Common.{ℕ, List, sym, subst}
use Rattle.std.specs.Map.{lookup}
use Rattle.std.specs.Prelude.{nat_eq}
use Rattle.etherparse.specs.IpDefragPool.{same_id}
use Rattle.etherparse.specs.IpFragId.{id_named, rule_over}
use Rattle.etherparse.specs.PoolCalls.{ShowsHeld}
use Rattle.etherparse.specs.declared.defrag.ip_frag_id.IpFragId.{IpFragId}
use Rattle.etherparse.specs.declared.defrag.reassembly.Reassembly.{Reassembly}
use Rattle.etherparse.proofs.laws.defrag.reassemblies.spare_buffers_show_nothing.Goals as goal

pub returns : goal.returns
returns c old new lists same shows name channel =
    subst (λ (reassemblies : List (IpFragId ℕ × Reassembly ℕ)).
    ShowsHeld (rule_over name.addresses) (lookup (same_id nat_eq (id_named name channel)) reassemblies)
    (lists name channel))
    (sym same) (shows name channel)
