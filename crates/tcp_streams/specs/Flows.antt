-- Connections by their keys: what is counted of each, and which are kept.
use Rattle.std.specs.Prelude.{◌≡◌, ⊤, ℕ, ◌+◌, ◌-◌, ◌^◌, ◌<◌, ◌≤◌, Bool, true, false, not, ◌||◌, is_some, if◌then◌else◌}
use Rattle.std.specs.Prelude.{max, min, List, [], ◌∷◌, filter, fold, length, map, slice_get, sum_by, take}
use Rattle.std.specs.Prelude.{Option, Some, None}
use Rattle.std.specs.Fn.{Called}
use Rattle.std.specs.List.{AllByRecursion, IsDistinct, list_any}
use Rattle.std.specs.Option.{option_map_or}
use Rattle.std.specs.Map.{keys_of, lookup, lookup_entry, remove_entry, set_value}
use denote.Param.Members.{Mut}
use denote.Ref.{Bor}
use Rattle.tcp_streams.specs.declared.connection_state.ConnectionState.TheVariants.{Unseen}
use Rattle.tcp_streams.specs.declared.direction.Direction.{Direction}
use Rattle.tcp_streams.specs.declared.direction.Direction.TheVariants.{FromLower, FromHigher}
use Rattle.tcp_streams.specs.declared.flow.Flow.{Flow}
use Rattle.tcp_streams.specs.declared.flow.FlowPacket.{FlowPacket}
use Rattle.tcp_streams.specs.declared.flow.Traffic.{Traffic}
use Rattle.tcp_streams.specs.ConnectionStates.{Signal, by_direction, state_after, state_of}

-- a count stops at the greatest number of 64 bits
abbrev pub capped : ℕ → ℕ
capped n = min n (2 ^ 64 - 1)

-- a packet more, if it counts
abbrev pub traffic_with : (counts : Bool) → (bytes : ℕ) → Traffic → Traffic
traffic_with counts bytes traffic = if counts
    then (record { packets = capped (traffic.packets + 1); bytes = capped (traffic.bytes + bytes) })
    else traffic

abbrev pub no_traffic : Traffic
no_traffic = record { packets = 0; bytes = 0 }

-- a flow of no packet
abbrev pub flow_of_value : {T : Type 0} → T → Flow T
flow_of_value value = record {
  from_lower = no_traffic;
  from_higher = no_traffic;
  first = 2 ^ 64 - 1;
  last = 0;
  state = Unseen;
  value = value;
}

abbrev pub is_from_lower : Direction → Bool
is_from_lower direction = by_direction direction FromLower true false

-- with a packet more
abbrev pub flow_with : {T : Type 0} → Flow T → FlowPacket → Flow T
flow_with flow packet = record {
  from_lower = traffic_with (is_from_lower packet.direction) packet.bytes flow.from_lower;
  from_higher = traffic_with (not (is_from_lower packet.direction)) packet.bytes flow.from_higher;
  first = min flow.first packet.time;
  last = max flow.last packet.time;
  state = state_after flow.state packet.direction packet.control;
  value = flow.value;
}

-- flows, each beside its key, that whose last packet came last first; and how many there may be
pub record Table (K T : Type 0) : Type 0 where
  pub flows : List (K × Flow T)
  pub most : ℕ

-- the flow of a key
abbrev pub flow_at : {K T : Type 0} → (K → K → Bool) → Table K T → K → Option (Flow T)
flow_at same table key = lookup (same key) table.flows

-- a flow with a packet more: where there was none, one with this value
abbrev pub counted_flow : {T : Type 0} → Option (Flow T) → FlowPacket → T → Flow T
counted_flow None packet value = flow_with (flow_of_value value) packet
counted_flow (Some flow) packet value = flow_with flow packet

-- the table with this flow of a key as the first one; where the key is new, the last one of as many
-- as there may be is left out
abbrev pub table_with_flow : {K T : Type 0} → (K → K → Bool) → Table K T → K → Flow T → Table K T
table_with_flow same table key flow = record table {
  flows = option_map_or (λ e. (e.0, flow) ∷ remove_entry (same key) table.flows)
      (lookup_entry (same key) table.flows) ((key, flow) ∷ take (table.most - 1) table.flows);
}

-- the table after a packet
abbrev pub table_with : {K T : Type 0} → (K → K → Bool) → Table K T → K → FlowPacket → T → Table K T
table_with same table key packet value =
    table_with_flow same table key (counted_flow (flow_at same table key) packet value)

-- the flow that is left out
abbrev pub dropped_flow : {K T : Type 0} → (K → K → Bool) → Table K T → K → Option (K × Flow T)
dropped_flow same table key =
    if is_some (flow_at same table key) then None else slice_get table.flows (table.most - 1)

-- the table with this value in the flow of a key, if there is one
abbrev pub table_with_value : {K T : Type 0} → (K → K → Bool) → Table K T → K → T → Table K T
table_with_value same table key value = option_map_or
    (λ flow. record table { flows = set_value (same key) table.flows (record flow { value = value }) })
    (flow_at same table key) table

-- a call of a test with a `&` to a key and one to its flow may return this answer, and leave the test like this
pub record TestedAt {F K T : Type 0} (g : Mut F (Bor K × (Bor (Flow T) × Unit {0})) Bool) (test : F) (entry : K × Flow T)
    (answer : Bool) (left : F) : Type 0 where
  pub key : Bor K
  pub flow : Bor (Flow T)
  pub shows : (key.now ≡ entry.0) × (flow.now ≡ entry.1)
  pub called : Called g test (key, (flow, tt)) answer left

-- ---- what holds of all tables

-- a flow after packets, the oldest first
abbrev pub flow_after : {T : Type 0} → T → List FlowPacket → Flow T
flow_after value packets = fold flow_with (flow_of_value value) packets

-- those of packets that go in a direction
abbrev pub packets_in : Direction → List FlowPacket → List FlowPacket
packets_in direction packets = filter (λ p. by_direction p.direction direction true false) packets

-- how many there are, and how many bytes they have
abbrev pub traffic_of : List FlowPacket → Traffic
traffic_of packets = record {
  packets = capped (length packets);
  bytes = capped (sum_by (λ p. p.bytes) packets);
}

-- what a state is shown of a packet
abbrev pub signal_of : FlowPacket → Signal
signal_of packet = (packet.direction, packet.control)

-- what a flow shows of its packets: of each direction how many, and their bytes; the least and the
-- greatest time; the state; and the value with which it began
pub record IsFlowOf {T : Type 0} (flow : Flow T) (initial : T) (packets : List FlowPacket) : Type 0 where
  pub from_lower : flow.from_lower ≡ traffic_of (packets_in FromLower packets)
  pub from_higher : flow.from_higher ≡ traffic_of (packets_in FromHigher packets)
  pub first : flow.first ≡ fold min (2 ^ 64 - 1) (map (λ (p : FlowPacket). p.time) packets)
  pub last : flow.last ≡ fold max 0 (map (λ (p : FlowPacket). p.time) packets)
  pub state : flow.state ≡ state_of (map signal_of packets)
  pub value : flow.value ≡ initial

abbrev pub FlowsShowPackets : (T : Type 0) → Type 0
FlowsShowPackets T = (value : T) (packets : List FlowPacket) → IsFlowOf (flow_after value packets) value packets

-- the flow of the packet's key is found
abbrev pub FlowsAreFound : (K T : Type 0) → (K → K → Bool) → Type 0
FlowsAreFound K T same = (table : Table K T) (key : K) (packet : FlowPacket) (value : T)
    → flow_at same (table_with same table key packet value) key
    ≡ Some (counted_flow (flow_at same table key) packet value)

-- a packet, the key of its flow, and the value of the flow if it is the first one
pub record Keyed (K T : Type 0) : Type 0 where
  pub key : K
  pub packet : FlowPacket
  pub value : T

-- the table after packets, the oldest first
abbrev pub table_after : {K T : Type 0} → (K → K → Bool) → Table K T → List (Keyed K T) → Table K T
table_after same table [] = table
table_after same table (p ∷ ps) = table_after same (table_with same table p.key p.packet p.value) ps

-- a flow that is left out is that of a key
abbrev pub is_flow_of : {K T : Type 0} → (K → K → Bool) → K → Option (K × Flow T) → Bool
is_flow_of same key dropped = option_map_or (λ flow. same key flow.0) dropped false

-- packets don't drop the flow of a key
abbrev pub IsKept : {K T : Type 0} → (K → K → Bool) → K → Table K T → List (Keyed K T) → Type 0
IsKept same key table [] = ⊤
IsKept same key table (p ∷ ps) = (is_flow_of same key (dropped_flow same table p.key) ≡ false)
    × IsKept same key (table_with same table p.key p.packet p.value) ps

-- the flow after packets of its key, where this one was there
abbrev pub flow_since : {K T : Type 0} → Option (Flow T) → List (Keyed K T) → Option (Flow T)
flow_since None [] = None
flow_since None (p ∷ ps) = Some (flow_after p.value (map (λ q. q.packet) (p ∷ ps)))
flow_since (Some flow) ps = Some (fold flow_with flow (map (λ q. q.packet) ps))

-- packets of other keys change nothing in the flow of a key, as long as they don't drop it
abbrev pub FlowsAreIsolated : (K T : Type 0) → (K → K → Bool) → Type 0
FlowsAreIsolated K T same = (table : Table K T) (ps : List (Keyed K T)) (key : K)
    → 0 < table.most → length table.flows ≤ table.most → IsKept same key table ps
    → flow_at same (table_after same table ps) key
    ≡ flow_since (flow_at same table key) (filter (λ p. same key p.key) ps)

-- a flow stays while fewer other connections have packets than there may be flows
abbrev pub FlowsStay : (K T : Type 0) → (K → K → Bool) → Type 0
FlowsStay K T same = (table : Table K T) (p : Keyed K T) (later : List (Keyed K T)) (others : List K)
    → IsDistinct same (keys_of table.flows) → length others < table.most
    → AllByRecursion (λ q. same p.key q.key || list_any (same q.key) others ≡ true) later
    → IsKept same p.key (table_with same table p.key p.packet p.value) later
