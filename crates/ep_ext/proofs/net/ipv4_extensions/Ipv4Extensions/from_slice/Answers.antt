use Rattle.std.proofs.Common.{rules, ◌≡◌}
use Rattle.ep_ext.proofs.Faults.{auth_moves}
use Rattle.ep_ext.proofs.Ipv4Chains.{read_found, read_only}
use Rattle.ep_ext.proofs.net.ipv4_extensions.Ipv4Extensions.from_slice.Goals as goal

pub returns-in-Ok-clause-found : goal.returns-in-Ok-clause-found
returns-in-Ok-clause-found c =
    let is : c.args.first.0 ≡ 51 = search rules in
    read_found c.args.first.0 c.args.slice.now c.in-Ok.rest.now c.in-Ok.header
    is c.in-Ok.ensures.found

pub returns-in-Ok-clause-only : goal.returns-in-Ok-clause-only
returns-in-Ok-clause-only c =
    let is : c.args.first.0 ≡ 51 = search rules in
    read_only c.args.first.0 c.args.slice.now c.in-Ok.rest.now c.in-Ok.header
    is c.in-Ok.ensures.found

pub returns-in-Err-clause-offset : goal.returns-in-Err-clause-offset
returns-in-Err-clause-offset c =
    λ n fits. auth_moves c.args.slice.now c.in-Err.error n c.in-Err.ensures.err fits
