use Rattle.digits.proofs.Vectors.{maximum_values}
use Rattle.digits.proofs.lanes.maximum.Goals as goal

pub returns : goal.returns
returns c = maximum_values c.args.a c.args.b c.fits-a.0 c.fits-b.0
