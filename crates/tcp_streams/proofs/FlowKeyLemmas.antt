-- The keys of connections.
use Rattle.std.proofs.Common.{◌≡◌, ◌∙◌, ◌⊎◌, ◌&&◌, inl, inr, ℕ, Bool, true, false, List, Some, nat_eq, refl, ap, sym}
use Rattle.std.specs.Bool.{Decides}
use Rattle.std.specs.Cmp.Lexicographic.{bytes_decides, pointwise}
use Rattle.ep_base.proofs.Same.{field, last_field, record_same}
use Rattle.ep_base.specs.Traits.{EqualIsSame}
use Rattle.std.specs.Ordering.{is_gt, ordering_reverse, ordering_then}
use Rattle.std.specs.declared.cmp.Ordering.{Ordering}
use Rattle.std.specs.declared.cmp.Ordering.TheVariants.{Less, Equal, Greater}
use Rattle.std.proofs.lemmas.Cmp.{nat_cmp_total, nat_list_cmp_total}
use Rattle.std.proofs.lemmas.Map.Lookups.{exact_bytes, exact_unsigned}
use Rattle.tcp_streams.specs.contracts.endpoint.EndpointOrd.TheImpl as order
use Rattle.tcp_streams.specs.declared.endpoint.Endpoint.{Endpoint}
use Rattle.tcp_streams.specs.declared.endpoint.Endpoint.TheVariants.{V4, V6}
use Rattle.tcp_streams.specs.declared.flow_key.FlowKey.{FlowKey}
use Rattle.tcp_streams.specs.FlowKeys.{BothWays, KeysAreOfOneConnection, KeysNameEndpoints, flow_key}
use Rattle.tcp_streams.specs.PacketKeys.{PacketsBothWays}
use Rattle.ep_packet.specs.Tags.{vlan_ids_of}
use Rattle.tcp_streams.specs.FlowKeys.{ends_of, key_between, order_of, other_direction}

pub order_is : (a b : Endpoint) → order.ghosts.cmp a b ≡ order_of a b
order_is (V4 a p) (V4 b q) = refl
order_is (V4 a p) (V6 b q) = refl
order_is (V6 a p) (V4 b q) = refl
order_is (V6 a p) (V6 b q) = refl

then_reversed : (r s r' s' : Ordering) → r' ≡ ordering_reverse r → s' ≡ ordering_reverse s
    → ordering_then r' s' ≡ ordering_reverse (ordering_then r s)
then_reversed Less s r' s' e f = rw e refl
then_reversed Equal s r' s' e f = rw (e, f) refl
then_reversed Greater s r' s' e f = rw e refl

reversed : (a b : Endpoint) → order_of b a ≡ ordering_reverse (order_of a b)
reversed (V4 a p) (V4 b q) =
    then_reversed _ _ _ _ (nat_list_cmp_total.antisymm b a) (nat_cmp_total.antisymm q p)
reversed (V4 a p) (V6 b q) = refl
reversed (V6 a p) (V4 b q) = refl
reversed (V6 a p) (V6 b q) =
    then_reversed _ _ _ _ (nat_list_cmp_total.antisymm b a) (nat_cmp_total.antisymm q p)

then_equal : (r s : Ordering) → ordering_then r s ≡ Equal → (r ≡ Equal) × (s ≡ Equal)
then_equal Less s e = cc
then_equal Equal s e = (refl, e)
then_equal Greater s e = cc

equal : (a b : Endpoint) → order_of a b ≡ Equal → a ≡ b
equal (V4 a p) (V4 b q) e = let both = then_equal _ _ e in
    λ i. V4 (exact_bytes a b both.0 i) (exact_unsigned p q both.1 i)
equal (V4 a p) (V6 b q) e = cc
equal (V6 a p) (V4 b q) e = cc
equal (V6 a p) (V6 b q) e = let both = then_equal _ _ e in
    λ i. V6 (exact_bytes a b both.0 i) (exact_unsigned p q both.1 i)

pub both_ways : {C : Type 0} → BothWays C
both_ways v a b c differ = by (order_of a b) refl
  where
    back : (r : Ordering) → order_of a b ≡ r → order.ghosts.cmp b a ≡ ordering_reverse r
    back r e = order_is b a ∙ reversed a b ∙ ap ordering_reverse e

    by : (r : Ordering) → order_of a b ≡ r
        → key_between v b a c ≡ ((key_between v a b c).0, other_direction (key_between v a b c).1)
    by Less e = rw (back Less e, order_is a b ∙ e) refl
    by Equal e = absurd (differ (equal a b e))
    by Greater e = rw (back Greater e, order_is a b ∙ e) refl

pub name_endpoints : {C : Type 0} → KeysNameEndpoints C
name_endpoints v a b c = by (is_gt (order.ghosts.cmp a b)) refl
  where
    by : (greater : Bool) → is_gt (order.ghosts.cmp a b) ≡ greater
        → ends_of (key_between v a b c).0 (key_between v a b c).1 ≡ (a, b)
    by true e = rw e refl
    by false e = rw e refl

key_is : {C : Type 0} (v : List ℕ) (a b : Endpoint) (c : C)
    → ((key_between v a b c).0 ≡ flow_key v a b c) ⊎ ((key_between v a b c).0 ≡ flow_key v b a c)
key_is v a b c = by (is_gt (order.ghosts.cmp a b)) refl
  where
    by : (greater : Bool) → is_gt (order.ghosts.cmp a b) ≡ greater
        → ((key_between v a b c).0 ≡ flow_key v a b c) ⊎ ((key_between v a b c).0 ≡ flow_key v b a c)
    by true e = inr (rw e refl)
    by false e = inl (rw e refl)

fields : {C : Type 0} (v w : List ℕ) (a b x y : Endpoint) (c d : C) → flow_key v a b c ≡ flow_key w x y d
    → (v ≡ w) × (c ≡ d) × (a ≡ x) × (b ≡ y)
fields {C} v w a b x y c d e = (
  ap (λ (k : FlowKey C). k.vlan_ids.items) e,
  ap (λ (k : FlowKey C). k.channel_id) e,
  ap (λ (k : FlowKey C). k.lower) e,
  ap (λ (k : FlowKey C). k.higher) e,
)

pub of_one_connection : {C : Type 0} → KeysAreOfOneConnection C
of_one_connection v w a b x y c d e = by (key_is v a b c) (key_is w x y d)
  where
    by : ((key_between v a b c).0 ≡ flow_key v a b c) ⊎ ((key_between v a b c).0 ≡ flow_key v b a c)
        → ((key_between w x y d).0 ≡ flow_key w x y d) ⊎ ((key_between w x y d).0 ≡ flow_key w y x d)
        → (v ≡ w) × (c ≡ d) × ((a ≡ x) × (b ≡ y) ⊎ (a ≡ y) × (b ≡ x))
    by (inl p) (inl q) = let f = fields v w a b x y c d (sym p ∙ e ∙ q) in (f.0, f.1, inl (f.2, f.3))
    by (inl p) (inr q) = let f = fields v w a b y x c d (sym p ∙ e ∙ q) in (f.0, f.1, inr (f.2, f.3))
    by (inr p) (inl q) = let f = fields v w b a x y c d (sym p ∙ e ∙ q) in (f.0, f.1, inr (f.3, f.2))
    by (inr p) (inr q) = let f = fields v w b a y x c d (sym p ∙ e ∙ q) in (f.0, f.1, inl (f.3, f.2))

-- keys are compared by all their fields
pub key_same : {C : Type 0} {end_eq : Endpoint → Endpoint → Bool} {channel_eq : C → C → Bool}
    → EqualIsSame end_eq → EqualIsSame channel_eq → (a b : FlowKey C)
    → Decides (pointwise nat_eq a.vlan_ids.items b.vlan_ids.items
    && (end_eq a.lower b.lower && (end_eq a.higher b.higher && channel_eq a.channel_id b.channel_id))) (a ≡ b)
key_same {C} ends channels a b = record_same
    (field bytes_decides (λ (k : FlowKey C). k.vlan_ids.items) (field ends (λ (k : FlowKey C). k.lower)
    (field ends (λ (k : FlowKey C). k.higher) (last_field channels (λ (k : FlowKey C). k.channel_id)))))
    (λ v l h c i. record { vlan_ids = record { items = v i }; lower = l i; higher = h i; channel_id = c i })

pub packets_both_ways : {C : Type 0} → PacketsBothWays C
packets_both_ways there back a b channel differ e f g =
    rw (e, f, g) (ap Some (both_ways (vlan_ids_of there.link_exts.items) a b channel differ))
