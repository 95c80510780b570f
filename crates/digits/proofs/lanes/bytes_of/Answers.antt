use Rattle.digits.proofs.Vectors.{byte_at}
use Rattle.digits.proofs.lanes.bytes_of.Goals as goal

pub returns-clause-bytes : goal.returns-clause-bytes
returns-clause-bytes c small k h = byte_at 16 c.args.values k c.fits-values.0 small h
