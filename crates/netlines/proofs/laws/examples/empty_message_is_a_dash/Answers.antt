use Rattle.std.proofs.Common.{refl}
use Rattle.std.specs.Fmt.{digits}
use Rattle.netlines.proofs.laws.examples.empty_message_is_a_dash.Goals as goal

pub returns : goal.returns
unfolding digits
returns c = refl
