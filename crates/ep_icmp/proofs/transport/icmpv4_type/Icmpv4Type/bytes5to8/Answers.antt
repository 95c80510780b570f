use Rattle.std.proofs.Common.{rules}
use Rattle.ep_icmp.proofs.Layouts.{four_cells}
use Rattle.ep_icmp.proofs.transport.icmpv4_type.Icmpv4Type.bytes5to8.Goals as goal

pub returns-in-Unknown-clause-bytes : goal.returns-in-Unknown-clause-bytes
returns-in-Unknown-clause-bytes c =
    rw c.in-Unknown.is (four_cells c.in-Unknown.bytes5to8 (search rules))

pub returns-in-Redirect-clause-bytes : goal.returns-in-Redirect-clause-bytes
returns-in-Redirect-clause-bytes c =
    rw c.in-Redirect.is (four_cells c.in-Redirect.header.gateway_internet_address (search rules))
