use Rattle.std.proofs.Common.{◌∙◌, refl, sym}
use Rattle.ep_ipslice.proofs.LaxIpv6.{body_there}
use Rattle.ep_ipslice.proofs.net.ipv6_slice.Ipv6Slice.body_after.Goals as goal

pub returns-clause-found : goal.returns-clause-found
returns-clause-found c = (
  refl,
  body_there c.args.slice.now c.args.header c.requires.0 c.body_of-len_source.result.0.now
      c.body_of-len_source.result.1 c.body_of-len_source.ensures.whole c.requires.1 c.body_of-len_source.ensures.bytes
      c.body_of-len_source.ensures.source
      (sym c.body_of-len_source.ensures.incomplete ∙ c.if-incomplete.false),
)
