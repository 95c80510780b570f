use Rattle.ep_tag.proofs.CutTags.{fields_cut, macsec_cut, named_cut, vlan_cut}
use Rattle.ep_tag.proofs.laws.cut.cut_tags_are_found.Goals as goal

pub returns-clause-macsec : goal.returns-clause-macsec
returns-clause-macsec c = macsec_cut

pub returns-clause-vlan : goal.returns-clause-vlan
returns-clause-vlan c = vlan_cut

pub returns-clause-fields : goal.returns-clause-fields
returns-clause-fields c = fields_cut

pub returns-clause-named : goal.returns-clause-named
returns-clause-named c = named_cut
