use Rattle.etherparse.specs.BuiltSteps.{ipv4_between, ipv6_between, no_headers}
use Rattle.etherparse_structs.specs.PlannedIp.{ip_in, wrong_ip}
use Rattle.etherparse_structs.proofs.PlainIp.{chosen_step, ipv4_right, ipv4_same, ipv6_right, ipv6_same}
use Rattle.etherparse_structs.proofs.planned.ip_alone.Goals as goal

pub returns-then-is_plain_ipv4 : goal.returns-then-is_plain_ipv4
returns-then-is_plain_ipv4 c =
    let plan = c.args.plan.now in
    let extensions = c.args.extensions.now in
    let bytes = c.args.bytes.now in
    let plain = c.is_plain_ipv4.ensures.0 c.if-is_plain_ipv4.true in
    chosen_step (wrong_ip plan extensions bytes) (ip_in plan extensions bytes)
    (ipv4_between plan.ipv4_source plan.ipv4_destination plan.hops) c.ipv4.result no_headers
    (ipv4_right plan extensions bytes plain) (ipv4_same plan extensions bytes plain) c.ipv4.ensures

pub returns-then-is_plain_ipv6 : goal.returns-then-is_plain_ipv6
returns-then-is_plain_ipv6 c =
    let plan = c.args.plan.now in
    let extensions = c.args.extensions.now in
    let bytes = c.args.bytes.now in
    let plain = c.is_plain_ipv6.ensures.0 c.if-is_plain_ipv6.true in
    chosen_step (wrong_ip plan extensions bytes) (ip_in plan extensions bytes)
    (ipv6_between plan.ipv6_source plan.ipv6_destination plan.hops) c.ipv6.result no_headers
    (ipv6_right plan extensions bytes plain) (ipv6_same plan extensions bytes plain) c.ipv6.ensures
