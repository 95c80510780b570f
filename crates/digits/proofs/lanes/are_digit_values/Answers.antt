use Rattle.digits.proofs.Vectors.{all_below_16}
use Rattle.digits.proofs.lanes.are_digit_values.Goals as goal

pub returns : goal.returns
returns c = all_below_16 c.args.values c.fits-values.0
