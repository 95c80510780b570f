use Rattle.std.proofs.Common.{refl}
use Rattle.captures.proofs.LengthLemmas.{other_version, read_version, short_header}
use Rattle.captures.proofs.laws.section_header_lengths.Goals as goal

pub returns-clause-short : goal.returns-clause-short
returns-clause-short c section order block content kind short says =
    short_header section order block content kind short says

pub returns-clause-long : goal.returns-clause-long
returns-clause-long c section order block kind size major minor fits =
    (kind, size, read_version _ _ major minor, refl, fits)

pub returns-clause-other : goal.returns-clause-other
returns-clause-other c section order block kind size other =
    (kind, size, other_version _ _ other, refl, refl)
