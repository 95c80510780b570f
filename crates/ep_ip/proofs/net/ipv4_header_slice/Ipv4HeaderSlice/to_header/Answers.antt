use Rattle.std.proofs.Common.{subst, ◌∙◌}
use Rattle.ep_ip.specs.Ipv4.{IsIpv4Header}
use Rattle.ep_ip.proofs.Ipv4Prefix.{options_words, options_len}
use Rattle.ep_ip.proofs.net.ipv4_header_slice.Ipv4HeaderSlice.to_header.Goals as goal

pub returns-clause-ihl : goal.returns-clause-ihl
returns-clause-ihl c =
    let header = subst IsIpv4Header c.self.view_is c.self.invariant in
    options_words c.args.self.now c.from_words-options.result header
    (c.from_words-options.ensures ∙ c.options.ensures.bytes)

pub returns-clause-len : goal.returns-clause-len
returns-clause-len c =
    let header = subst IsIpv4Header c.self.view_is c.self.invariant in
    options_len c.args.self.now c.from_words-options.result header
    (c.from_words-options.ensures ∙ c.options.ensures.bytes)
