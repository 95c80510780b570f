use Rattle.std.proofs.Common.{rules, ◌≡◌, Some}
use Rattle.ep_ext.proofs.Ipv4Chains.{answer_of}
use Rattle.ep_ext.proofs.net.ipv4_extensions.Ipv4Extensions.read_limited.Goals as goal

pub returns-in-Ok-clause-found : goal.returns-in-Ok-clause-found
returns-in-Ok-clause-found g c =
    let is : c.args.first.0 ≡ 51 = search rules in
    let read = c.in-Ok.ensures.found in (
      Some read.0,
      answer_of c.args.first.0 read.0 c.in-Ok.header c.of_header.result is read.1 read.3
          c.of_header.ensures,
      read.2,
    )
