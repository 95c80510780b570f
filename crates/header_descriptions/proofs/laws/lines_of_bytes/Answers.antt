use Rattle.std.proofs.Common.{refl}
use Rattle.std.specs.Fmt.{digits}
use Rattle.header_descriptions.specs.ByteLines.{pair_columns}
use Rattle.header_descriptions.proofs.laws.lines_of_bytes.Goals as goal

pub returns-clause-line : goal.returns-clause-line
unfolding pair_columns
returns-clause-line c = refl

pub returns-clause-long : goal.returns-clause-long
unfolding digits
returns-clause-long c = refl

pub returns-clause-mebibyte : goal.returns-clause-mebibyte
unfolding digits
returns-clause-mebibyte c = refl

pub returns-clause-ten_digits : goal.returns-clause-ten_digits
unfolding digits
returns-clause-ten_digits c = refl
