use Rattle.ep_ipslice.proofs.Faults.{ip_fault_alone, ipv6_fault_alone}
use Rattle.ep_ipslice.proofs.laws.packets.faults_are_alone.Goals as goal

pub returns-clause-ipv6 : goal.returns-clause-ipv6
returns-clause-ipv6 c = ipv6_fault_alone c.chain_is_alone.ensures

pub returns-clause-ip : goal.returns-clause-ip
returns-clause-ip c = ip_fault_alone c.chain_is_alone.ensures
