use Rattle.std.proofs.Common.{arith}
use Rattle.packets.proofs.laws.examples.counts.rows_of_the_page.Goals as goal

pub returns-clause-all : goal.returns-clause-all
returns-clause-all g c summary counted = (counted.all, counted.refused)

pub returns-clause-links : goal.returns-clause-links
returns-clause-links g c summary counted =
    let protocols = counted.protocols in
    (protocols.ethernet, protocols.vlan, protocols.macsec, protocols.arp, protocols.ipv4, protocols.ipv6)

pub returns-clause-over_ip : goal.returns-clause-over_ip
returns-clause-over_ip g c summary counted =
    let each = counted.protocols.over_ip in
    (each 6 (omega arith), each 17 (omega arith), each 58 (omega arith), each 0 (omega arith))

pub returns-clause-checksums : goal.returns-clause-checksums
returns-clause-checksums g c summary counted =
    (counted.checksums.good, counted.checksums.bad, counted.checksums.none)

pub returns-clause-fragments : goal.returns-clause-fragments
returns-clause-fragments g c summary counted =
    (counted.parts.all, counted.parts.completing, counted.parts.refused)

pub returns-clause-sizes : goal.returns-clause-sizes
returns-clause-sizes g c summary counted =
    let each = counted.sizes in
    (each 4 (omega arith), each 5 (omega arith), each 6 (omega arith), each 7 (omega arith))
