use Rattle.std.proofs.Common.{arith, length}
use Rattle.ep_ip.proofs.SkipWalk.{walk_headers, walk_skips, walk_within}
use Rattle.ep_ip.proofs.laws.ipv6.skip_follows_every_walk.Goals as goal

pub returns-clause-some : goal.returns-clause-some
returns-clause-some c = λ number bytes. walk_within (length bytes) number bytes (omega arith)

pub returns-clause-headers : goal.returns-clause-headers
returns-clause-headers c = walk_headers

pub returns-clause-answer : goal.returns-clause-answer
returns-clause-answer c = walk_skips
