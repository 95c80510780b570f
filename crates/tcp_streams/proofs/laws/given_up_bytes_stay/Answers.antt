use Rattle.tcp_streams.proofs.StayingLemmas.{bytes_stay, late_bytes_are_left_out}
use Rattle.tcp_streams.proofs.laws.given_up_bytes_stay.Goals as goal

pub returns-clause-stay : goal.returns-clause-stay
returns-clause-stay c = bytes_stay

pub returns-clause-late : goal.returns-clause-late
returns-clause-late c = late_bytes_are_left_out
