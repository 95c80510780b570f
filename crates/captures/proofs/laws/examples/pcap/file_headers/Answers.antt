use Rattle.std.proofs.Common.{arith, refl}
use Rattle.captures.proofs.laws.examples.pcap.file_headers.Goals as goal

pub returns-clause-low_first : goal.returns-clause-low_first
returns-clause-low_first c = record { size = refl; magic = refl; major = refl; minor = refl }

pub returns-clause-high_first : goal.returns-clause-high_first
returns-clause-high_first c = record { size = refl; magic = refl; major = refl; minor = refl }

pub returns-clause-minor : goal.returns-clause-minor
returns-clause-minor c header = let minor = header.minor in absurd (omega arith)

pub returns-clause-major : goal.returns-clause-major
returns-clause-major c header = let major = header.major in absurd (omega arith)
