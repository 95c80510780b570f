use Rattle.ep_base.proofs.KnownNames.{known_round_trip}
use Rattle.ep_base.proofs.laws.known_round_trip.Goals as goal

pub returns : goal.returns
returns c = known_round_trip
