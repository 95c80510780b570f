use Rattle.ep_tag.proofs.MoreTags.{macsec_more}
use Rattle.ep_tag.proofs.laws.cut.more_bytes_keep_tags.Goals as goal

pub returns : goal.returns
returns c = macsec_more
