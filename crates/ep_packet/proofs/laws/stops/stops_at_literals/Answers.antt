use Rattle.std.proofs.Common.{refl}
use Rattle.ep_ipslice.specs.Ipv6Walk.{pieces_within}
use Rattle.ep_packet.specs.LaxTags.{lax_tags_in}
use Rattle.ep_packet.specs.Tags.{tags_in}
use Rattle.ep_packet.proofs.laws.stops.stops_at_literals.Goals as goal

pub returns-clause-tag : goal.returns-clause-tag
unfolding lax_tags_in
returns-clause-tag c = refl

pub returns-clause-macsec : goal.returns-clause-macsec
unfolding lax_tags_in
returns-clause-macsec c = refl

pub returns-clause-message : goal.returns-clause-message
unfolding lax_tags_in
returns-clause-message c = refl

pub returns-clause-options : goal.returns-clause-options
unfolding lax_tags_in pieces_within
returns-clause-options c = refl

pub returns-clause-auth : goal.returns-clause-auth
unfolding lax_tags_in
returns-clause-auth c = refl

pub returns-clause-auth_refused : goal.returns-clause-auth_refused
unfolding tags_in
returns-clause-auth_refused c = refl

pub returns-clause-header : goal.returns-clause-header
returns-clause-header c = refl
