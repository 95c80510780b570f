use Rattle.ep_ip.proofs.SkipNumbers.{none_by_kind, some_by_kind}
use Rattle.ep_ip.proofs.net.ipv6_header.skipped_len.Goals as goal

pub returns-then-kind-eq46 : goal.returns-then-kind-eq46
returns-then-kind-eq46 c =
    none_by_kind c.args.number.0 c.length_kind-kind.result c.args.slice.now
    c.length_kind-kind.ensures c.if-kind-eq46.true

pub returns-else-kind-eq46 : goal.returns-else-kind-eq46
returns-else-kind-eq46 c =
    some_by_kind c.args.number.0 c.length_kind-kind.result c.args.slice.now c.len_of_kind.result
    c.length_kind-kind.ensures c.if-kind-eq46.false c.len_of_kind.ensures
