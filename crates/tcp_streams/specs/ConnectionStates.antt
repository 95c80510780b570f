-- How far a TCP connection came, as someone sees it who reads the segments of both endpoints (RFC
-- 9293, figure 5).
use Rattle.std.specs.Prelude.{◌≡◌, Bool, not, if◌then◌else◌, List, fold, map}
use Rattle.tcp_streams.specs.declared.connection_state.Control.{Control}
use Rattle.tcp_streams.specs.declared.connection_state.Control.TheVariants.{Rst, Syn, SynAck, Fin, Ack, Nothing}
use Rattle.tcp_streams.specs.declared.connection_state.ConnectionState.{ConnectionState}
use Rattle.tcp_streams.specs.declared.connection_state.ConnectionState.TheVariants.{Unseen, SynSent, SynReceived}
use Rattle.tcp_streams.specs.declared.connection_state.ConnectionState.TheVariants.{Established, Closing, Closed, Reset}
use Rattle.tcp_streams.specs.declared.direction.Direction.{Direction}
use Rattle.tcp_streams.specs.declared.direction.Direction.TheVariants.{FromLower, FromHigher}
use Rattle.tcp_streams.specs.FlowKeys.{other_direction}

-- what flags do, in the order in which an endpoint tests them (section 3.10.7.4): one that has no ACK
-- is dropped before its FIN is tested. FIN beside SYN, which an endpoint may process later (section
-- 3.10.7.2), doesn't count
abbrev pub control_in : (syn ack fin rst : Bool) → Control
control_in syn ack fin rst = if rst then Rst
    else (if syn then (if ack then SynAck else Syn)
    else (if not ack then Nothing else (if fin then Fin else Ack)))

-- by whether a segment goes in the direction of another one
abbrev pub by_direction : {X : Type 0} → (its own : Direction) → (same other : X) → X
by_direction FromLower FromLower same other = same
by_direction FromLower FromHigher same other = other
by_direction FromHigher FromLower same other = other
by_direction FromHigher FromHigher same other = same

-- the state after a segment with this control, which goes in the direction d; e is that of the
-- endpoint that opened the connection, or whose FIN came
abbrev pub state_after : ConnectionState → (d : Direction) → Control → ConnectionState
state_after Unseen d Rst = Reset
state_after Unseen d Syn = SynSent d
state_after Unseen d SynAck = SynReceived (other_direction d)
state_after Unseen d Fin = Closing d
state_after Unseen d Ack = Established
state_after Unseen d Nothing = Unseen
state_after (SynSent e) d Rst = Reset
state_after (SynSent e) d Syn = by_direction d e (SynSent e) (SynReceived e)
state_after (SynSent e) d SynAck = SynReceived (other_direction d)
state_after (SynSent e) d Fin = by_direction d e (Closing d) (SynSent e)
state_after (SynSent e) d Ack = by_direction d e Established (SynSent e)
state_after (SynSent e) d Nothing = SynSent e
state_after (SynReceived e) d Rst = Reset
state_after (SynReceived e) d Syn = SynReceived e
state_after (SynReceived e) d SynAck = by_direction d e Established (SynReceived e)
state_after (SynReceived e) d Fin = Closing d
state_after (SynReceived e) d Ack = Established
state_after (SynReceived e) d Nothing = SynReceived e
state_after Established d Rst = Reset
state_after Established d Syn = Established
state_after Established d SynAck = Established
state_after Established d Fin = Closing d
state_after Established d Ack = Established
state_after Established d Nothing = Established
state_after (Closing e) d Rst = Reset
state_after (Closing e) d Syn = Closing e
state_after (Closing e) d SynAck = Closing e
state_after (Closing e) d Fin = by_direction d e (Closing e) Closed
state_after (Closing e) d Ack = Closing e
state_after (Closing e) d Nothing = Closing e
state_after Closed d Rst = Closed
state_after Closed d Syn = SynSent d
state_after Closed d SynAck = Closed
state_after Closed d Fin = Closed
state_after Closed d Ack = Closed
state_after Closed d Nothing = Closed
state_after Reset d Rst = Reset
state_after Reset d Syn = SynSent d
state_after Reset d SynAck = Reset
state_after Reset d Fin = Reset
state_after Reset d Ack = Reset
state_after Reset d Nothing = Reset

-- a segment: its direction and its control
abbrev pub Signal : Type 0
Signal = Direction × Control

-- the state after segments, the oldest first
abbrev pub state_of : List Signal → ConnectionState
state_of signals = fold (λ (state : ConnectionState) (s : Signal). state_after state s.0 s.1) Unseen signals

-- ---- what holds of all connections

-- a state with the endpoints exchanged
abbrev pub turned_state : ConnectionState → ConnectionState
turned_state Unseen = Unseen
turned_state (SynSent e) = SynSent (other_direction e)
turned_state (SynReceived e) = SynReceived (other_direction e)
turned_state Established = Established
turned_state (Closing e) = Closing (other_direction e)
turned_state Closed = Closed
turned_state Reset = Reset

abbrev pub turned_signal : Signal → Signal
turned_signal s = (other_direction s.0, s.1)

-- which endpoint is the lower one doesn't matter
abbrev pub EndpointsAreAlike : Type 0
EndpointsAreAlike = (signals : List Signal) → state_of (map turned_signal signals) ≡ turned_state (state_of signals)
