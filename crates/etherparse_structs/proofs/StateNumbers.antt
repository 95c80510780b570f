-- States of connections and their numbers.
use Rattle.std.proofs.Common.{refl}
use Rattle.tcp_streams.specs.declared.connection_state.ConnectionState.TheVariants.{Unseen, SynSent, SynReceived}
use Rattle.tcp_streams.specs.declared.connection_state.ConnectionState.TheVariants.{Established, Closing, Closed, Reset}
use Rattle.tcp_streams.specs.declared.direction.Direction.TheVariants.{FromLower, FromHigher}
use Rattle.etherparse_structs.specs.Connection.{StatesAreNumbered}

pub numbered : StatesAreNumbered
numbered Unseen = refl
numbered (SynSent FromLower) = refl
numbered (SynSent FromHigher) = refl
numbered (SynReceived FromLower) = refl
numbered (SynReceived FromHigher) = refl
numbered Established = refl
numbered (Closing FromLower) = refl
numbered (Closing FromHigher) = refl
numbered Closed = refl
numbered Reset = refl
