use Rattle.std.proofs.Common.{arith}
use Rattle.ep_link.specs.Sll.{IsSllHeader, sll_header_of, sll_len, encoding}
use Rattle.ep_link.proofs.SllEncoding.{encoding-sll_header_of}
use Rattle.ep_base.proofs.Prefixes.{is_read, only_read}
use Rattle.ep_link.proofs.SllPrefix.{takes_header}
use Rattle.ep_link.proofs.link.linux_sll_header.LinuxSllHeader.from_slice.Goals as goal

pub returns-clause-found : goal.returns-clause-found
returns-clause-found c =
    let takes = takes_header c.args.slice.now _ c.in_ok-header.ensures.exact in
    is_read IsSllHeader sll_header_of encoding (λ prefix. prefix) encoding-sll_header_of
    c.args.slice.now
    c.in_ok-header.header sll_len c.to_header.result
    takes (λ i. omega (arith, c.type_inv.slice i))
    takes.found.0.whole c.to_header.ensures

pub returns-clause-only : goal.returns-clause-only
returns-clause-only c =
    let takes = takes_header c.args.slice.now _ c.in_ok-header.ensures.exact in
    only_read IsSllHeader sll_header_of c.args.slice.now c.in_ok-header.header sll_len
    c.to_header.result takes
    takes.found.0.whole c.to_header.ensures
