-- What the segments of a TCP connection have in common, whichever way they go: a pair of endpoints
-- identifies a connection (RFC 9293, section 4, "connection").
use Rattle.std.specs.Prelude.{◌≡◌, ◌≢◌, ◌⊎◌, ◌∷◌, ◌+◌, ◌*◌, ◌^◌, ℕ, if◌then◌else◌, List}
use Rattle.std.specs.Cmp.Lexicographic.{slice_cmp}
use Rattle.std.specs.Hash as fed
use Rattle.std.specs.Int.{from_be_bytes, w32}
use Rattle.std.specs.Ordering.{is_gt, nat_cmp, ordering_then}
use Rattle.std.specs.declared.cmp.Ordering.{Ordering}
use Rattle.std.specs.declared.cmp.Ordering.TheVariants.{Less, Greater}
use Rattle.tcp_streams.specs.contracts.endpoint.EndpointOrd.TheImpl as order
use Rattle.tcp_streams.specs.declared.direction.Direction.{Direction}
use Rattle.tcp_streams.specs.declared.direction.Direction.TheVariants.{FromLower, FromHigher}
use Rattle.tcp_streams.specs.declared.endpoint.Endpoint.{Endpoint}
use Rattle.tcp_streams.specs.declared.endpoint.Endpoint.TheVariants.{V4, V6}
use Rattle.tcp_streams.specs.declared.flow_key.FlowKey.{FlowKey}

abbrev pub other_direction : Direction → Direction
other_direction FromLower = FromHigher
other_direction FromHigher = FromLower

-- what a hasher is given of an endpoint: an address over IPv4 and its port as one number, one over IPv6 in one write, and
-- then its port
abbrev pub hashed_as : Endpoint → fed.HashWrites
hashed_as (V4 address port) = fed.u64 (from_be_bytes w32 address * 2 ^ 16 + port)
hashed_as (V6 address port) = address ∷ fed.u16 port

abbrev pub flow_key : {C : Type 0} → List ℕ → (lower higher : Endpoint) → C → FlowKey C
flow_key vlan_ids lower higher channel = record {
  vlan_ids = record { items = vlan_ids };
  lower = lower;
  higher = higher;
  channel_id = channel;
}

-- the key of segments from one endpoint to another, and their direction: from the higher one, if
-- the source is that
abbrev pub key_between : {C : Type 0} → List ℕ → (source destination : Endpoint) → C
    → FlowKey C × Direction
key_between vlan_ids source destination channel =
    if is_gt (order.ghosts.cmp source destination)
    then (flow_key vlan_ids destination source channel, FromHigher)
    else (flow_key vlan_ids source destination channel, FromLower)

-- source and destination of the segments that go in a direction
abbrev pub ends_of : {C : Type 0} → FlowKey C → Direction → Endpoint × Endpoint
ends_of key FromLower = (key.lower, key.higher)
ends_of key FromHigher = (key.higher, key.lower)

-- ---- what holds of all keys

-- endpoints are ordered by version, then by the first byte of the addresses that differs, then by
-- ports
abbrev pub order_of : Endpoint → Endpoint → Ordering
order_of (V4 a p) (V4 b q) = ordering_then (slice_cmp nat_cmp a b) (nat_cmp p q)
order_of (V4 a p) (V6 b q) = Less
order_of (V6 a p) (V4 b q) = Greater
order_of (V6 a p) (V6 b q) = ordering_then (slice_cmp nat_cmp a b) (nat_cmp p q)

-- segments that go back have the same key, and the other direction, unless both endpoints are one
abbrev pub BothWays : (C : Type 0) → Type 0
BothWays C = (vlan_ids : List ℕ) (a b : Endpoint) (channel : C) → a ≢ b
    → (let there = key_between vlan_ids a b channel in
    key_between vlan_ids b a channel ≡ (there.0, other_direction there.1))

-- a key and a direction name the source and the destination
abbrev pub KeysNameEndpoints : (C : Type 0) → Type 0
KeysNameEndpoints C = (vlan_ids : List ℕ) (a b : Endpoint) (channel : C)
    → (let there = key_between vlan_ids a b channel in ends_of there.0 there.1 ≡ (a, b))

-- segments with the same key have the same VLAN identifiers, channel and pair of endpoints
abbrev pub KeysAreOfOneConnection : (C : Type 0) → Type 0
KeysAreOfOneConnection C = (v w : List ℕ) (a b x y : Endpoint) (c d : C)
    → (key_between v a b c).0 ≡ (key_between w x y d).0
    → (v ≡ w) × (c ≡ d) × ((a ≡ x) × (b ≡ y) ⊎ (a ≡ y) × (b ≡ x))
