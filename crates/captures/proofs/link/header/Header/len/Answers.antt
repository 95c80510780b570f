use Rattle.std.proofs.Common.{rules, ◌≡◌, length}
use Rattle.captures.proofs.FramedLemmas.{header_len}
use Rattle.captures.proofs.link.header.Header.len.Goals as goal

pub returns-clause-len : goal.returns-clause-len
returns-clause-len c =
    let six : length c.args.self.now.source ≡ 6 = search rules in
    header_len c.args.self.now.source c.args.self.now.ether_type six
