-- How far a connection came, as numbers.
use Rattle.std.specs.Prelude.{◌≡◌, ℕ, ◌==◌, if◌then◌else◌}
use Rattle.tcp_streams.specs.ConnectionStates.{control_in, state_after}
use Rattle.tcp_streams.specs.declared.connection_state.ConnectionState.{ConnectionState}
use Rattle.tcp_streams.specs.declared.connection_state.ConnectionState.TheVariants.{Unseen, SynSent, SynReceived}
use Rattle.tcp_streams.specs.declared.connection_state.ConnectionState.TheVariants.{Established, Closing, Closed, Reset}
use Rattle.tcp_streams.specs.declared.direction.Direction.{Direction}
use Rattle.tcp_streams.specs.declared.direction.Direction.TheVariants.{FromLower, FromHigher}
use Rattle.etherparse_structs.specs.declared.connection.EpConnectionState.{EpConnectionState}
use Rattle.etherparse_structs.specs.declared.connection.EpSegmentFlags.{EpSegmentFlags}

abbrev pub direction_number : Direction → ℕ
direction_number FromLower = 1
direction_number FromHigher = 2

-- any number but 2 is the direction from the lower endpoint
abbrev pub direction_in : ℕ → Direction
direction_in n = if n == 2 then FromHigher else FromLower

abbrev pub state_struct : ConnectionState → EpConnectionState
state_struct Unseen = record { state = 0; direction = 0 }
state_struct (SynSent opener) = record { state = 1; direction = direction_number opener }
state_struct (SynReceived opener) = record { state = 2; direction = direction_number opener }
state_struct Established = record { state = 3; direction = 0 }
state_struct (Closing closer) = record { state = 4; direction = direction_number closer }
state_struct Closed = record { state = 5; direction = 0 }
state_struct Reset = record { state = 6; direction = 0 }

-- any number above 6 is the state of a connection without segments
abbrev pub state_in : EpConnectionState → ConnectionState
state_in s = if s.state == 1 then SynSent (direction_in s.direction)
    else (if s.state == 2 then SynReceived (direction_in s.direction)
    else (if s.state == 3 then Established
    else (if s.state == 4 then Closing (direction_in s.direction)
    else (if s.state == 5 then Closed else (if s.state == 6 then Reset else Unseen)))))

-- the state after a segment with these flags, which goes in this direction
abbrev pub state_struct_after : EpConnectionState → (direction : ℕ) → EpSegmentFlags → EpConnectionState
state_struct_after s direction flags = state_struct
    (state_after (state_in s) (direction_in direction) (control_in flags.syn flags.ack flags.fin flags.rst))

-- a state is that of its numbers
abbrev pub StatesAreNumbered : Type 0
StatesAreNumbered = (s : ConnectionState) → state_in (state_struct s) ≡ s
