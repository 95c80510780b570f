use Rattle.etherparse_structs.proofs.Offsets.{lax_tags_end_is, tags_end_is}
use Rattle.etherparse_structs.proofs.laws.packets.offsets_after_tags.Goals as goal

pub returns-clause-whole : goal.returns-clause-whole
returns-clause-whole c = tags_end_is

pub returns-clause-lax : goal.returns-clause-lax
returns-clause-lax c = lax_tags_end_is
