use Rattle.ep_ipslice.specs.Ipv6Exts.{view_order}
use Rattle.ep_ipslice.proofs.FaultOffsets.{ip_fits, ipv4_fits, ipv6_fits}
use Rattle.ep_ipslice.proofs.laws.packets.faults_can_be_moved.Goals as goal

pub returns-clause-ipv4 : goal.returns-clause-ipv4
returns-clause-ipv4 c = ipv4_fits c.faults_can_be_moved.ensures.auth

pub returns-clause-ipv6 : goal.returns-clause-ipv6
returns-clause-ipv6 c = ipv6_fits c.faults_can_be_moved.ensures.row view_order

pub returns-clause-ip : goal.returns-clause-ip
returns-clause-ip c = ip_fits c.faults_can_be_moved.ensures.auth
    c.faults_can_be_moved.ensures.row view_order

pub returns-clause-ipv6_in : goal.returns-clause-ipv6_in
returns-clause-ipv6_in c = ipv6_fits c.faults_can_be_moved.ensures.row

pub returns-clause-ip_in : goal.returns-clause-ip_in
returns-clause-ip_in c = ip_fits c.faults_can_be_moved.ensures.auth
    c.faults_can_be_moved.ensures.row
