-- The states of connections.
use Rattle.std.proofs.Common.{◌≡◌, ◌∙◌, List, [], ◌∷◌, refl, ap, map, fold, arith}
use Rattle.tcp_streams.specs.declared.connection_state.Control.{Control}
use Rattle.tcp_streams.specs.declared.connection_state.ConnectionState.{ConnectionState}
use Rattle.tcp_streams.specs.declared.connection_state.ConnectionState.TheVariants.{Unseen, SynSent, SynReceived}
use Rattle.tcp_streams.specs.declared.connection_state.ConnectionState.TheVariants.{Established, Closing, Closed, Reset}
use Rattle.tcp_streams.specs.declared.direction.Direction.{Direction}
use Rattle.tcp_streams.specs.declared.direction.Direction.TheVariants.{FromLower, FromHigher}
use Rattle.tcp_streams.specs.ConnectionStates.{EndpointsAreAlike, Signal, state_after, turned_signal, turned_state}
use Rattle.tcp_streams.specs.FlowKeys.{other_direction}

step : (s : ConnectionState) (d : Direction) (c : Control)
    → state_after (turned_state s) (other_direction d) c ≡ turned_state (state_after s d c)
step Unseen d c = grind arith
step (SynSent FromLower) FromLower c = grind arith
step (SynSent FromLower) FromHigher c = grind arith
step (SynSent FromHigher) FromLower c = grind arith
step (SynSent FromHigher) FromHigher c = grind arith
step (SynReceived FromLower) FromLower c = grind arith
step (SynReceived FromLower) FromHigher c = grind arith
step (SynReceived FromHigher) FromLower c = grind arith
step (SynReceived FromHigher) FromHigher c = grind arith
step Established d c = grind arith
step (Closing FromLower) FromLower c = grind arith
step (Closing FromLower) FromHigher c = grind arith
step (Closing FromHigher) FromLower c = grind arith
step (Closing FromHigher) FromHigher c = grind arith
step Closed d c = grind arith
step Reset d c = grind arith

alike_from : (s : ConnectionState) (signals : List Signal)
    → fold (λ (state : ConnectionState) (x : Signal). state_after state x.0 x.1) (turned_state s)
    (map turned_signal signals)
    ≡ turned_state (fold (λ (state : ConnectionState) (x : Signal). state_after state x.0 x.1) s signals)
alike_from s [] = refl
alike_from s (x ∷ xs) =
    ap (λ (t : ConnectionState). fold (λ (state : ConnectionState) (y : Signal). state_after state y.0 y.1) t
    (map turned_signal xs)) (step s x.0 x.1)
    ∙ alike_from (state_after s x.0 x.1) xs

pub alike : EndpointsAreAlike
alike signals = alike_from Unseen signals
