use Rattle.ep_tag.proofs.SameLaxPayloads.{lax_macsec_same}
use Rattle.ep_tag.proofs.laws.traits.lax_macsec_payloads_are_equal_as_seen.Goals as goal

pub returns : goal.returns
returns c = lax_macsec_same
