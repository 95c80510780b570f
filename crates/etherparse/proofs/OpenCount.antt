-- A pool's reassemblies, counted by the lists that it shows.
use Rattle.std.proofs.Common.{◌≡◌, ◌≢◌, ◌∙◌, refl, subst, sym, inl, inr, ◌↔◌, ℕ, ◌<◌, ◌≤◌, ◌&&◌, ◌||◌, Bool, true}
use Rattle.std.proofs.Common.{Option, List, [], ◌∷◌, length, map, get_or, arith, IsTrue}
use Rattle.std.proofs.lemmas.Bool.{and_parts, cases_Bool, eq-eqb, eqb-true, true≢false}
use Rattle.std.proofs.lemmas.Bool.Decides.{same_from_decides}
use Rattle.std.proofs.lemmas.List.{get_or-map, length-map}
use Rattle.std.proofs.lemmas.List.Elements.{recursion_from_All}
use Rattle.std.proofs.lemmas.Map.Entries.{length-keys_of}
use Rattle.std.proofs.lemmas.Map.Keys.{apart_from_distinct}
use Rattle.std.proofs.lemmas.Map.Made.{IsDistinct-from_AllPairs}
use Rattle.std.proofs.lemmas.Map.Steps.{length-le_from_keys}
use Rattle.std.proofs.lemmas.Map.Views.{All-keys_from_lookup}
use Rattle.std.specs.Bool.{Decides}
use Rattle.std.specs.Cmp.{IsEquivalence}
use Rattle.std.specs.List.{All, AllPairs, AllByRecursion, IsDistinct, list_any}
use Rattle.std.specs.Map.{keys_of, lookup}
use Rattle.std.specs.Prelude.{◌==◌, nat_eq, IsSome}
use Rattle.ep_packet.specs.Class.{FragmentName}
use Rattle.ep_packet.specs.declared.addresses.Addresses.{Addresses}
use Rattle.ep_packet.specs.declared.addresses.Addresses.TheVariants.{V4, V6}
use Rattle.etherparse.specs.declared.defrag.ip_frag_id.IpFragId.{IpFragId}
use Rattle.etherparse.specs.declared.defrag.ip_frag_version_spec_id.IpFragVersionSpecId.{IpFragVersionSpecId}
use Rattle.etherparse.specs.declared.defrag.ip_frag_version_spec_id.IpFragVersionSpecId.TheVariants.{Ipv4, Ipv6}
use Rattle.etherparse.specs.declared.defrag.overlap_rule.OverlapRule.{OverlapRule}
use Rattle.etherparse.specs.declared.defrag.reassembly.Reassembly.{Reassembly}
use Rattle.etherparse.specs.Counts.{open_in}
use Rattle.etherparse.specs.IpDefragPool.{same_id as same_by}
use Rattle.etherparse.specs.IpFragId.{id_named, rule_over, same_name}
use Rattle.etherparse.specs.OpenReassemblies.{AreOpen, IsOpenCount}
use Rattle.etherparse.specs.Outcome.{Held}
use Rattle.etherparse.specs.PoolCalls.{Lists, ShowsHeld, ShowsLists}
use Rattle.etherparse.specs.ReassemblyTable.{Pool}

abbrev same_id : IpFragId ℕ → IpFragId ℕ → Bool
same_id = same_by nat_eq

-- the name and the channel in an id
abbrev between : IpFragVersionSpecId → Addresses
between (Ipv4 source destination identification) = V4 source destination
between (Ipv6 source destination identification) = V6 source destination

abbrev identified : IpFragVersionSpecId → ℕ
identified (Ipv4 source destination identification) = identification
identified (Ipv6 source destination identification) = identification

abbrev datagram_of : IpFragId ℕ → FragmentName × ℕ
datagram_of id = (
  record {
    vlan_ids = id.vlan_ids.items;
    addresses = between id.ip;
    identification = identified id.ip;
    number = id.payload_ip_number.0;
  },
  id.channel_id,
)

abbrev id_of : FragmentName × ℕ → IpFragId ℕ
id_of message = id_named message.0 message.1

id_again : (id : IpFragId ℕ) → id_of (datagram_of id) ≡ id
id_again id = grind arith

reassembly_held : (rule : OverlapRule) (o : Option (Reassembly ℕ)) (h : Held) → ShowsHeld rule o h
    → h.fragments ≢ [] → IsSome o
reassembly_held rule o h shows held = grind arith

-- what holds of all elements holds of one that equals an element
any_has : {K : Type 0} (same : K → K → Bool) (exact : (a b : K) → same a b ≡ true → a ≡ b)
    (P : K → Type 0) (q : K) (xs : List K) → AllByRecursion P xs → list_any (same q) xs ≡ true → P q
any_has same exact P q [] all any = cc
any_has same exact P q (x ∷ xs) all any =
    elim (cases_Bool (same q x)) [
      | inl t ↦ subst P (sym (exact q x t)) all.0
      | inr t ↦ any_has same exact P q xs all.1
          (subst (λ (b : Bool). (b || list_any (same q) xs) ≡ true) t any)
    ]

module _ (components : (a b : FragmentName) (x y : ℕ)
    → same_id (id_named a x) (id_named b y) ≡ (same_name a b && (x == y)))
    (same : (a b : FragmentName) → IsTrue (same_name a b) ↔ (a ≡ b)) where
  kept_apart : (a b : IpFragId ℕ) → same_id a b
      ≡ (same_name (datagram_of a).0 (datagram_of b).0 && (a.channel_id == b.channel_id))
  kept_apart a b = grind arith

  ids : (a b : IpFragId ℕ) → Decides (same_id a b) (a ≡ b)
  ids a b = (
    λ t.
        let both = and_parts (same_name (datagram_of a).0 (datagram_of b).0)
        (a.channel_id == b.channel_id) (sym (kept_apart a b) ∙ t) in
        let name : (datagram_of a).0 ≡ (datagram_of b).0 =
        (same (datagram_of a).0 (datagram_of b).0).0 both.0 in
        let channel = eqb-true a.channel_id b.channel_id both.1 in
        grind arith,
    λ e. subst (λ (k : IpFragId ℕ). same_id a k ≡ true) e
        (kept_apart a a
        ∙ rw ((same (datagram_of a).0 (datagram_of a).0).1 refl)
        (eq-eqb a.channel_id a.channel_id refl)),
  )

  laws : IsEquivalence same_id
  laws = record {
    refl = λ a. (ids a a).1 refl;
    symm = λ a b. same_from_decides (same_id a b) (same_id b a) (ids a b)
        (λ t. sym ((ids b a).0 t), λ e. (ids b a).1 (sym e));
    congr = grind (arith, ids);
  }

  module _ (pool : Pool (IpFragId ℕ) ℕ) (lists : Lists)
      (distinct : IsDistinct same_id (keys_of pool.reassemblies)) (shows : ShowsLists pool lists) where
    abbrev here : List (IpFragId ℕ)
    here = keys_of pool.reassemblies

    abbrev all_open : List (FragmentName × ℕ)
    all_open = map datagram_of here

    -- the names of its reassemblies
    differ : AllPairs (λ (a b : FragmentName × ℕ). a ≢ b) all_open
    differ i j d below within is =
        let second : j < length here = omega (arith, length-map here datagram_of) in
        let first : i < length here = omega (arith, second) in
        let at_i = get_or-map datagram_of here i (id_of d) d first in
        let at_j = get_or-map datagram_of here j (id_of d) d second in
        let e : get_or here i (id_of d) ≡ get_or here j (id_of d) =
        grind arith in
        true≢false (sym ((ids (get_or here i (id_of d)) (get_or here j (id_of d))).1 e)
        ∙ apart_from_distinct same_id here i j (id_of d) distinct below second)

    abbrev IsHeld : FragmentName × ℕ → Type 0
    IsHeld m = (lists m.0 m.1).fragments ≢ []

    held_at : (k : IpFragId ℕ) → IsSome (lookup (same_id k) pool.reassemblies) → IsHeld (datagram_of k)
    held_at k some =
        let m = datagram_of k in
        grind arith

    each : All IsHeld all_open
    each i d within =
        let below : i < length here = omega (arith, length-map here datagram_of) in
        subst IsHeld (sym (get_or-map datagram_of here i (id_of d) d below))
        (All-keys_from_lookup laws (λ (k : IpFragId ℕ). IsHeld (datagram_of k)) pool.reassemblies held_at
        i (id_of d) below)

    -- and no other has a list that isn't empty
    module _ (others : List (FragmentName × ℕ)) (are_open : AreOpen lists others) where
      abbrev there : List (IpFragId ℕ)
      there = map id_of others

      others_differ : AllPairs (λ (a b : IpFragId ℕ). a ≢ b) there
      others_differ i j d below within is =
          let second : j < length others = omega (arith, length-map others id_of) in
          let first : i < length others = omega (arith, second) in
          let at_i = get_or-map id_of others i (datagram_of d) d first in
          let at_j = get_or-map id_of others j (datagram_of d) d second in
          let e : get_or others i (datagram_of d) ≡ get_or others j (datagram_of d) =
          grind arith in
          are_open.differ i j (datagram_of d) below second e

      abbrev IsHere : IpFragId ℕ → Type 0
      IsHere k = IsSome (lookup (same_id k) pool.reassemblies)

      are_here : All IsHere there
      are_here i d within =
          let below : i < length others = omega (arith, length-map others id_of) in
          let m = get_or others i (datagram_of d) in
          subst IsHere (sym (get_or-map id_of others i (datagram_of d) d below))
          (reassembly_held (rule_over m.0.addresses) (lookup (same_id (id_of m)) pool.reassemblies)
          (lists m.0 m.1)
          (shows m.0 m.1) (are_open.each i (datagram_of d) below))

      no_more : length others ≤ open_in pool
      no_more =
          omega (
            arith,
            length-le_from_keys laws there pool.reassemblies (IsDistinct-from_AllPairs ids there others_differ) (λ q any. any_has same_id (λ a b t. (ids a b).0 t) IsHere q there (recursion_from_All IsHere there are_here) any),
            length-map others id_of,
          )

    pub counted : IsOpenCount lists (open_in pool)
    counted = record {
      datagrams = all_open;
      are_open = record { differ = differ; each = each };
      counted = grind (arith, length-map, length-keys_of);
      most = no_more;
    }
