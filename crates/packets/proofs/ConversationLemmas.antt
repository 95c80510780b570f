-- The two directions of a conversation.
use Rattle.std.proofs.Common.{◌≡◌, ◌∙◌, ◌⊎◌, inl, inr, Bool, true, false, Option, Some, None, refl, ap, sym, not}
use Rattle.std.specs.Ordering.{ordering_reverse}
use Rattle.std.specs.declared.cmp.Ordering.{Ordering}
use Rattle.std.specs.declared.cmp.Ordering.TheVariants.{Less, Equal, Greater}
use Rattle.std.proofs.lemmas.Cmp.{nat_cmp_total, nat_list_cmp_total}
use Rattle.std.proofs.lemmas.Map.Lookups.{exact_bytes, exact_unsigned}
use Rattle.packets.specs.Conversations.{address_order, ascends, ascends_by, from_lower, order_of_ports}
use Rattle.packets.specs.Conversations.{turned, turned_addresses, turned_ports}
use Rattle.packets.specs.declared.flows.conversation.Conversation.{Conversation}
use Rattle.ep_packet.specs.declared.addresses.Addresses.{Addresses}
use Rattle.ep_packet.specs.declared.addresses.Addresses.TheVariants.{V4, V6}
use Rattle.packets.specs.declared.show.endpoints.Ports.{Ports}

addresses-twice : (a : Addresses) → turned_addresses (turned_addresses a) ≡ a
addresses-twice (V4 s d) = refl
addresses-twice (V6 s d) = refl

ports-twice : (p : Option Ports) → turned_ports (turned_ports p) ≡ p
ports-twice None = refl
ports-twice (Some p) = refl

pub turned-turned : (c : Conversation) → turned (turned c) ≡ c
turned-turned c = λ i. record {
  addresses = addresses-twice c.addresses i;
  ports = ports-twice c.ports i;
  protocol = c.protocol;
}

address_order-turned : (a : Addresses)
    → address_order (turned_addresses a) ≡ ordering_reverse (address_order a)
address_order-turned (V4 s d) = nat_list_cmp_total.antisymm d s
address_order-turned (V6 s d) = nat_list_cmp_total.antisymm d s

order_of_ports-turned : (p : Option Ports)
    → order_of_ports (turned_ports p) ≡ ordering_reverse (order_of_ports p)
order_of_ports-turned None = refl
order_of_ports-turned (Some p) = nat_cmp_total.antisymm p.destination p.source

addresses-same : (a : Addresses) → address_order a ≡ Equal → turned_addresses a ≡ a
addresses-same (V4 s d) e = let same = exact_bytes s d e in λ i. V4 (sym same i) (same i)
addresses-same (V6 s d) e = let same = exact_bytes s d e in λ i. V6 (sym same i) (same i)

ports-same : (p : Option Ports) → order_of_ports p ≡ Equal → turned_ports p ≡ p
ports-same None e = refl
ports-same (Some p) e = let same = exact_unsigned p.source p.destination e in
    λ i. Some (record { source = sym same i; destination = same i })

-- one direction ascends and the other doesn't, or they are the same
either : (a p : Ordering) → (ascends_by (ordering_reverse a) (ordering_reverse p) ≡ not (ascends_by a p))
    ⊎ ((a ≡ Equal) × (p ≡ Equal))
either Less p = inl refl
either Greater p = inl refl
either Equal Less = inl refl
either Equal Greater = inl refl
either Equal Equal = inr (refl, refl)

ascends-turned : (c : Conversation) → ascends (turned c)
    ≡ ascends_by (ordering_reverse (address_order c.addresses)) (ordering_reverse (order_of_ports c.ports))
ascends-turned c = λ i. ascends_by (address_order-turned c.addresses i) (order_of_ports-turned c.ports i)

differing : (c : Conversation) (b : Bool) → ascends c ≡ b → ascends (turned c) ≡ not b
    → from_lower (turned c) ≡ from_lower c
differing c true e f = rw (e, f) (turned-turned c)
differing c false e f = rw (e, f) refl

-- both directions are of one conversation
pub from_lower-turned : (c : Conversation) → from_lower (turned c) ≡ from_lower c
from_lower-turned c = by (either (address_order c.addresses) (order_of_ports c.ports))
  where
    by : (ascends_by (ordering_reverse (address_order c.addresses)) (ordering_reverse (order_of_ports c.ports))
        ≡ not (ascends c))
        ⊎ ((address_order c.addresses ≡ Equal) × (order_of_ports c.ports ≡ Equal))
        → from_lower (turned c) ≡ from_lower c
    by (inl e) = differing c (ascends c) refl (ascends-turned c ∙ e)
    by (inr e) = let same : turned c ≡ c = λ i. record {
      addresses = addresses-same c.addresses e.0 i;
      ports = ports-same c.ports e.1 i;
      protocol = c.protocol;
    } in ap from_lower same

from_lower-is : (c : Conversation) → (from_lower c ≡ c) ⊎ (from_lower c ≡ turned c)
from_lower-is c = by (ascends c) refl
  where
    by : (b : Bool) → ascends c ≡ b → (from_lower c ≡ c) ⊎ (from_lower c ≡ turned c)
    by true e = inl (rw e refl)
    by false e = inr (rw e refl)

-- and no others are
pub from_lower-same : (a b : Conversation) → from_lower a ≡ from_lower b → (a ≡ b) ⊎ (a ≡ turned b)
from_lower-same a b e = by (from_lower-is a) (from_lower-is b)
  where
    by : (from_lower a ≡ a) ⊎ (from_lower a ≡ turned a) → (from_lower b ≡ b) ⊎ (from_lower b ≡ turned b)
        → (a ≡ b) ⊎ (a ≡ turned b)
    by (inl p) (inl q) = inl (sym p ∙ e ∙ q)
    by (inl p) (inr q) = inr (sym p ∙ e ∙ q)
    by (inr p) (inl q) = inr (sym (turned-turned a) ∙ ap turned (sym p ∙ e ∙ q))
    by (inr p) (inr q) = inl (sym (turned-turned a) ∙ ap turned (sym p ∙ e ∙ q) ∙ turned-turned b)
