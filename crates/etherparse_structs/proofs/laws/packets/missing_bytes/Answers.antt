use Rattle.std.specs.Prelude.{false}
use Rattle.etherparse.specs.base.declared.len_source.LenSource.TheVariants.{Slice}
use Rattle.etherparse.specs.packet.LaxView.{bound_after, lax_last_payload}
use Rattle.etherparse_structs.proofs.CutTags.{bound_is_said, modified}
use Rattle.etherparse_structs.proofs.laws.packets.missing_bytes.Goals as goal

pub returns-clause-ether : goal.returns-clause-ether
returns-clause-ether c packet =
    bound_is_said (bound_after (false, Slice) packet.link_exts.items) (lax_last_payload packet)

pub returns-clause-modified : goal.returns-clause-modified
returns-clause-modified c = modified
