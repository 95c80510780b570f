use Rattle.std.proofs.Common.{refl}
use Rattle.ep_ipslice.specs.Ipv6Walk.{pieces_within}
use Rattle.ep_packet.specs.Tags.{tags_in}
use Rattle.ep_packet.proofs.laws.faults.offsets_at_literals.Goals as goal

pub returns-clause-tag : goal.returns-clause-tag
unfolding tags_in
returns-clause-tag c = refl

pub returns-clause-tag_header : goal.returns-clause-tag_header
unfolding tags_in
returns-clause-tag_header c = refl

pub returns-clause-macsec : goal.returns-clause-macsec
unfolding tags_in
returns-clause-macsec c = refl

pub returns-clause-macsec_header : goal.returns-clause-macsec_header
unfolding tags_in
returns-clause-macsec_header c = refl

pub returns-clause-auth : goal.returns-clause-auth
unfolding tags_in
returns-clause-auth c = refl

pub returns-clause-auth_header : goal.returns-clause-auth_header
unfolding tags_in
returns-clause-auth_header c = refl

pub returns-clause-options : goal.returns-clause-options
unfolding tags_in pieces_within
returns-clause-options c = refl

pub returns-clause-options_header : goal.returns-clause-options_header
unfolding tags_in pieces_within
returns-clause-options_header c = refl

pub returns-clause-tcp : goal.returns-clause-tcp
unfolding tags_in
returns-clause-tcp c = refl

pub returns-clause-tcp_header : goal.returns-clause-tcp_header
unfolding tags_in
returns-clause-tcp_header c = refl
