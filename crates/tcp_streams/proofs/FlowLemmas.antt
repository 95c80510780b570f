-- The table of connections.
use Rattle.std.proofs.Common.{◌≡◌, ◌∙◌, ℕ, zero, suc, ◌+◌, ◌-◌, ◌^◌, ◌<◌, ◌≤◌, min, max, Bool, true, false, not}
use Rattle.std.proofs.Common.{List, [], ◌∷◌, fold, length, map, filter, sum_by, take, slice_get, arith}
use Rattle.std.proofs.Common.{Option, Some, None, option_map, refl, ap, sym}
use Rattle.std.proofs.Common.{◌&&◌, nat_eq}
use Rattle.std.proofs.lemmas.Bool.Decides.{Decides-eqb}
use Rattle.std.specs.Bool.{Decides}
use Rattle.std.specs.Cmp.{IsEquivalence}
use Rattle.ep_base.proofs.Same.{field, last_field, record_same}
use Rattle.ep_base.specs.Traits.{EqualIsSame}
use Rattle.std.specs.Map.{lookup, lookup_entry, remove_entry, set_value}
use Rattle.std.specs.Option.{option_map_or}
use Rattle.std.proofs.lemmas.List.{length-take}
use Rattle.std.proofs.lemmas.List.Sums.{sum_by-cons}
use Rattle.lru.proofs.CallerLemmas.{Contains-lookup_entry, lookup-put_entries}
use Rattle.lru.specs.LruCache.{lru_cache, promoted}
use Rattle.tcp_streams.specs.ConnectionStates.{Signal, by_direction, state_after}
use Rattle.tcp_streams.specs.declared.connection_state.ConnectionState.{ConnectionState}
use Rattle.tcp_streams.specs.declared.direction.Direction.{Direction}
use Rattle.tcp_streams.specs.declared.direction.Direction.TheVariants.{FromLower, FromHigher}
use Rattle.tcp_streams.specs.declared.flow.Flow.{Flow}
use Rattle.tcp_streams.specs.declared.flow.FlowPacket.{FlowPacket}
use Rattle.tcp_streams.specs.declared.flow.Traffic.{Traffic}
use Rattle.tcp_streams.specs.Flows.{FlowsAreFound, FlowsAreIsolated, FlowsShowPackets, Keyed, Table}
use Rattle.tcp_streams.specs.Flows.{capped, counted_flow, dropped_flow, flow_at, flow_of_value, flow_since, flow_with}
use Rattle.tcp_streams.specs.Flows.{is_flow_of, is_from_lower, no_traffic, signal_of, table_with}
use Rattle.tcp_streams.specs.Flows.{traffic_of, traffic_with}

-- ---- what a flow shows

abbrev traffic_after : (FlowPacket → Bool) → Traffic → List FlowPacket → Traffic
traffic_after counts traffic ps =
    fold (λ (t : Traffic) (p : FlowPacket). traffic_with (counts p) p.bytes t) traffic ps

record IsCapped (traffic : Traffic) : Type 0 where
  packets : traffic.packets < 2 ^ 64
  bytes : traffic.bytes < 2 ^ 64

abbrev more : Traffic → List FlowPacket → Traffic
more traffic ps = record {
  packets = capped (traffic.packets + length ps);
  bytes = capped (traffic.bytes + sum_by (λ (p : FlowPacket). p.bytes) ps);
}

counts : (test : FlowPacket → Bool) (traffic : Traffic) (ps : List FlowPacket) → IsCapped traffic
    → traffic_after test traffic ps ≡ more traffic (filter test ps)
counts test traffic [] h =
    let n : traffic.packets ≡ capped (traffic.packets + 0) = omega (arith, h.packets) in
    let b : traffic.bytes ≡ capped (traffic.bytes + 0) = omega (arith, h.bytes) in
    λ i. record { packets = n i; bytes = b i }
counts test traffic (p ∷ ps) h = by (test p) refl
    (counts test (traffic_with true p.bytes traffic) ps (record { packets = omega arith; bytes = omega arith }))
    (counts test traffic ps h)
  where
    by : (b : Bool) → test p ≡ b
        → traffic_after test (traffic_with true p.bytes traffic) ps
        ≡ more (traffic_with true p.bytes traffic) (filter test ps)
        → traffic_after test traffic ps ≡ more traffic (filter test ps)
        → traffic_after test traffic (p ∷ ps) ≡ more traffic (filter test (p ∷ ps))
    by true e counted others =
        let next = traffic_with true p.bytes traffic in
        let own = filter test ps in
        let n : capped (next.packets + length own) ≡ capped (traffic.packets + length (p ∷ own)) = omega arith in
        let b : capped (next.bytes + sum_by (λ (q : FlowPacket). q.bytes) own)
        ≡ capped (traffic.bytes + sum_by (λ (q : FlowPacket). q.bytes) (p ∷ own)) =
        omega (arith, sum_by-cons (λ (q : FlowPacket). q.bytes) p own) in
        let is : more next own ≡ more traffic (p ∷ own) = λ i. record { packets = n i; bytes = b i } in
        rw e (counted ∙ is)
    by false e counted others = rw e others

from_none : (test : FlowPacket → Bool) (ps : List FlowPacket)
    → traffic_after test no_traffic ps ≡ traffic_of (filter test ps)
from_none test ps =
    let own = filter test ps in
    let n : capped (0 + length own) ≡ capped (length own) = omega arith in
    let b : capped (0 + sum_by (λ (q : FlowPacket). q.bytes) own) ≡ capped (sum_by (λ (q : FlowPacket). q.bytes) own) =
    omega arith in
    let is : more no_traffic own ≡ traffic_of own = λ i. record { packets = n i; bytes = b i } in
    counts test no_traffic ps (record { packets = omega arith; bytes = omega arith }) ∙ is

higher_is : (d : Direction) → not (is_from_lower d) ≡ by_direction d FromHigher true false
higher_is FromLower = refl
higher_is FromHigher = refl

module _ {T : Type 0} where
  lower_from : (flow : Flow T) (ps : List FlowPacket)
      → (fold flow_with flow ps).from_lower
      ≡ traffic_after (λ p. by_direction p.direction FromLower true false) flow.from_lower ps
  lower_from flow [] = refl
  lower_from flow (p ∷ ps) = lower_from (flow_with flow p) ps

  higher_from : (flow : Flow T) (ps : List FlowPacket)
      → (fold flow_with flow ps).from_higher
      ≡ traffic_after (λ p. by_direction p.direction FromHigher true false) flow.from_higher ps
  higher_from flow [] = refl
  higher_from flow (p ∷ ps) = rw (← higher_is p.direction) (higher_from (flow_with flow p) ps)

  first_from : (flow : Flow T) (ps : List FlowPacket)
      → (fold flow_with flow ps).first ≡ fold min flow.first (map (λ (p : FlowPacket). p.time) ps)
  first_from flow [] = refl
  first_from flow (p ∷ ps) = first_from (flow_with flow p) ps

  last_from : (flow : Flow T) (ps : List FlowPacket)
      → (fold flow_with flow ps).last ≡ fold max flow.last (map (λ (p : FlowPacket). p.time) ps)
  last_from flow [] = refl
  last_from flow (p ∷ ps) = last_from (flow_with flow p) ps

  state_from : (flow : Flow T) (ps : List FlowPacket)
      → (fold flow_with flow ps).state
      ≡ fold (λ (state : ConnectionState) (s : Signal). state_after state s.0 s.1) flow.state (map signal_of ps)
  state_from flow [] = refl
  state_from flow (p ∷ ps) = state_from (flow_with flow p) ps

  value_from : (flow : Flow T) (ps : List FlowPacket) → (fold flow_with flow ps).value ≡ flow.value
  value_from flow [] = refl
  value_from flow (p ∷ ps) = value_from (flow_with flow p) ps

  pub show_packets : FlowsShowPackets T
  show_packets value ps = let flow = flow_of_value value in record {
    from_lower = lower_from flow ps ∙ from_none _ ps;
    from_higher = higher_from flow ps ∙ from_none _ ps;
    first = first_from flow ps;
    last = last_from flow ps;
    state = state_from flow ps;
    value = value_from flow ps;
  }

-- flows are compared by all their fields
pub flow_same : {T : Type 0} {traffic_eq : Traffic → Traffic → Bool} {state_eq : ConnectionState → ConnectionState → Bool}
    {value_eq : T → T → Bool} → EqualIsSame traffic_eq → EqualIsSame state_eq → EqualIsSame value_eq → (a b : Flow T)
    → Decides (traffic_eq a.from_lower b.from_lower && (traffic_eq a.from_higher b.from_higher
    && (nat_eq a.first b.first && (nat_eq a.last b.last && (state_eq a.state b.state && value_eq a.value b.value)))))
    (a ≡ b)
flow_same {T} traffics states values a b = record_same
    (field traffics (λ (f : Flow T). f.from_lower) (field traffics (λ (f : Flow T). f.from_higher)
    (field Decides-eqb (λ (f : Flow T). f.first) (field Decides-eqb (λ (f : Flow T). f.last)
    (field states (λ (f : Flow T). f.state) (last_field values (λ (f : Flow T). f.value)))))))
    (λ lower higher first last state value i. record {
      from_lower = lower i;
      from_higher = higher i;
      first = first i;
      last = last i;
      state = state i;
      value = value i;
    })

-- ---- the flow of a key

pub lookup_of_entry : {K X : Type 0} (test : K → Bool) (es : List (K × X))
    → lookup test es ≡ option_map (λ e. e.1) (lookup_entry test es)
lookup_of_entry test [] = refl
lookup_of_entry {K} {X} test (e ∷ es) = by (test e.0) refl (lookup_of_entry test es)
  where
    by : (b : Bool) → test e.0 ≡ b
        → lookup test es ≡ option_map (λ (f : K × X). f.1) (lookup_entry test es)
        → lookup test (e ∷ es) ≡ option_map (λ (f : K × X). f.1) (lookup_entry test (e ∷ es))
    by true is others = rw is refl
    by false is others = rw is others

-- a flow that is there goes first, and has one packet more
pub counts_one_more : {K T : Type 0} (same : K → K → Bool) (table : Table K T) (key : K) (flow : Flow T)
    (packet : FlowPacket) (value : T) → flow_at same table key ≡ Some flow
    → record table { flows = set_value (same key) (promoted (same key) table.flows) (flow_with flow packet) }
    ≡ table_with same table key packet value
counts_one_more {K} {T} same table key flow packet value is = by (lookup_entry (same key) table.flows) refl
  where
    by : (o : Option (K × Flow T)) → lookup_entry (same key) table.flows ≡ o
        → record table { flows = set_value (same key) (promoted (same key) table.flows) (flow_with flow packet) }
        ≡ table_with same table key packet value
    by None none =
        let missing = lookup_of_entry (same key) table.flows
        ∙ ap (option_map (λ (e : K × Flow T). e.1)) none in cc
    by (Some e) found = rw (found, is, (Contains-lookup_entry (same key) table.flows e found).1) refl

-- all but the last one are taken, and that doesn't pass
lookup_take : {K X : Type 0} (test : K → Bool) (es : List (K × X)) (n : ℕ) → length es ≤ n + 1
    → option_map_or (λ (e : K × X). test e.0) (slice_get es n) false ≡ false
    → lookup test (take n es) ≡ lookup test es
lookup_take test [] zero most other = refl
lookup_take test [] (suc n) most other = refl
lookup_take test (e ∷ []) zero most other = rw other refl
lookup_take test (e ∷ f ∷ es) zero most other = absurd (omega arith)
lookup_take test (e ∷ es) (suc n) most other = rw (lookup_take test es n (omega arith) other) refl

length_removed : {K X : Type 0} (test : K → Bool) (es : List (K × X)) (e : K × X)
    → lookup_entry test es ≡ Some e → length (remove_entry test es) + 1 ≡ length es
length_removed test [] e is = cc
length_removed test (f ∷ es) e is = by (test f.0) refl (length_removed test es e)
  where
    by : (b : Bool) → test f.0 ≡ b
        → (lookup_entry test es ≡ Some e → length (remove_entry test es) + 1 ≡ length es)
        → length (remove_entry test (f ∷ es)) + 1 ≡ length (f ∷ es)
    by true t others = rw t (omega arith)
    by false t others = rw t (omega (arith, others (rw t at is)))

module _ {K : Type 0} (same : K → K → Bool) (laws : IsEquivalence same) where
  -- what is the same as another key isn't the same as this one
  pub apart : (key other k : K) → same other k ≡ true → same key other ≡ false → same key k ≡ false
  apart key other k is differ = laws.symm key k ∙ sym (laws.congr other k key is) ∙ laws.symm other key ∙ differ

  lookup_same : {X : Type 0} (key k : K) → same key k ≡ true → (es : List (K × X))
      → lookup (same key) es ≡ lookup (same k) es
  lookup_same key k is [] = refl
  lookup_same key k is (e ∷ es) = rw (laws.congr key k e.0 is, lookup_same key k is es) refl

  lookup_removed : {X : Type 0} (key other : K) → same key other ≡ false → (es : List (K × X))
      → lookup (same key) (remove_entry (same other) es) ≡ lookup (same key) es
  lookup_removed key other differ [] = refl
  lookup_removed key other differ (e ∷ es) = by (same other e.0) refl (lookup_removed key other differ es)
    where
      by : (b : Bool) → same other e.0 ≡ b
          → lookup (same key) (remove_entry (same other) es) ≡ lookup (same key) es
          → lookup (same key) (remove_entry (same other) (e ∷ es)) ≡ lookup (same key) (e ∷ es)
      by true is others = rw (is, apart key other e.0 is differ) refl
      by false is others = rw (is, others) refl

module _ {K T : Type 0} (same : K → K → Bool) (laws : IsEquivalence same) where
  pub found : FlowsAreFound K T same
  found table key packet value =
      lookup-put_entries same (lru_cache table.flows table.most) key
      (counted_flow (flow_at same table key) packet value) laws

  -- the number of flows stays within its bound
  fits : (table : Table K T) (p : Keyed K T) → 0 < table.most → length table.flows ≤ table.most
      → length (table_with same table p.key p.packet p.value).flows ≤ table.most
  fits table p some most = by (lookup_entry (same p.key) table.flows) refl
    where
      by : (o : Option (K × Flow T)) → lookup_entry (same p.key) table.flows ≡ o
          → length (table_with same table p.key p.packet p.value).flows ≤ table.most
      by None is = rw is (omega (arith, length-take (table.most - 1) table.flows))
      by (Some e) is = rw is (omega (arith, length_removed (same p.key) table.flows e is))

  stays : (table : Table K T) (p : Keyed K T) (key : K) → 0 < table.most → length table.flows ≤ table.most
      → same key p.key ≡ false → is_flow_of same key (dropped_flow same table p.key) ≡ false
      → flow_at same (table_with same table p.key p.packet p.value) key ≡ flow_at same table key
  stays table p key some most differ kept = by (lookup_entry (same p.key) table.flows) refl
    where
      by : (o : Option (K × Flow T)) → lookup_entry (same p.key) table.flows ≡ o
          → flow_at same (table_with same table p.key p.packet p.value) key ≡ flow_at same table key
      by None is =
          let none : lookup (same p.key) table.flows ≡ None = lookup_of_entry (same p.key) table.flows ∙ ap (option_map (λ (e : K × Flow T). e.1)) is in
          rw (is, differ) (lookup_take (same key) table.flows (table.most - 1) (omega arith) (rw none at kept))
      by (Some e) is =
          rw (is, apart same laws key p.key e.0 (Contains-lookup_entry (same p.key) table.flows e is).1 differ)
          (lookup_removed same laws key p.key differ table.flows)

  since_nil : (flow : Option (Flow T)) → flow ≡ flow_since {K = K} flow []
  since_nil None = refl
  since_nil (Some flow) = refl

  since_cons : (flow : Option (Flow T)) (p : Keyed K T) (ps : List (Keyed K T))
      → flow_since (Some (counted_flow flow p.packet p.value)) ps ≡ flow_since flow (p ∷ ps)
  since_cons None p ps = refl
  since_cons (Some flow) p ps = refl

  -- the flow of a key after a packet, by what it was before
  after_one : (table : Table K T) (p : Keyed K T) (key : K) → 0 < table.most → length table.flows ≤ table.most
      → is_flow_of same key (dropped_flow same table p.key) ≡ false → (ps : List (Keyed K T))
      → flow_since (flow_at same (table_with same table p.key p.packet p.value) key)
      (filter (λ (q : Keyed K T). same key q.key) ps)
      ≡ flow_since (flow_at same table key) (filter (λ (q : Keyed K T). same key q.key) (p ∷ ps))
  after_one table p key some most kept ps = by (same key p.key) refl
    where
      by : (b : Bool) → same key p.key ≡ b
          → flow_since (flow_at same (table_with same table p.key p.packet p.value) key)
          (filter (λ (q : Keyed K T). same key q.key) ps)
          ≡ flow_since (flow_at same table key) (filter (λ (q : Keyed K T). same key q.key) (p ∷ ps))
      by true is =
          let next = table_with same table p.key p.packet p.value in
          let own = filter (λ (q : Keyed K T). same key q.key) ps in
          let counted : flow_at same next key ≡ Some (counted_flow (flow_at same table key) p.packet p.value) =
          lookup_same same laws key p.key is next.flows ∙ found table p.key p.packet p.value
          ∙ ap (λ (o : Option (Flow T)). Some (counted_flow o p.packet p.value))
          (sym (lookup_same same laws key p.key is table.flows)) in
          rw is (ap (λ (o : Option (Flow T)). flow_since o own) counted
          ∙ since_cons (flow_at same table key) p own)
      by false is =
          let own = filter (λ (q : Keyed K T). same key q.key) ps in
          rw is (ap (λ (o : Option (Flow T)). flow_since o own) (stays table p key some most is kept))

  pub isolated : FlowsAreIsolated K T same
  isolated table [] key some most kept = since_nil (flow_at same table key)
  isolated table (p ∷ ps) key some most kept =
      isolated (table_with same table p.key p.packet p.value) ps key some (fits table p some most) kept.1
      ∙ after_one table p key some most kept.0 ps
