-- What is counted of packets by keys, with one packet more.
use Rattle.std.proofs.Common.{◌≡◌, Bool, true, false, List, [], ◌∷◌, ◌++◌, Option, Some, None, unwrap_or, refl, ap, sym}
use Rattle.std.proofs.Common.{◌∙◌, ℕ, cond, option_map, slice_get}
use Rattle.std.specs.Prelude.{if◌then◌else◌}
use Rattle.std.specs.List.{list_any}
use Rattle.std.specs.Map.{keys_of, lookup}
use Rattle.std.proofs.lemmas.List.Sums.{fold-append}
use Rattle.std.proofs.lemmas.Map.Keys.{any_passes_from_place}
use Rattle.std.proofs.lemmas.Option.{slice_get-map}
use Rattle.indexmap.specs.IndexMap.{IndexMap, Updates, get, insert_entry, keys, with_value_at}
use Rattle.indexmap.proofs.CallerLemmas.{keys-with_value_at}
use Rattle.packets.specs.Table.{CountsBy, SkipsOthers, Tallies, is_key, keys_in, with_key}

-- of each key those are counted that have it, with one packet more, which has this key
keys-more : {K P V : Type 0} (of : (P → Bool) → List P → V) (same : K → K → Bool)
    (key_of : P → Option K) (old new : K → V) (packets : List P) (packet : P) (key : K) (v : V)
    → SkipsOthers of → ((a b : K) → same a b ≡ true → a ≡ b) → key_of packet ≡ Some key
    → ((q : K) → old q ≡ of (λ p. is_key same q (key_of p)) packets)
    → ((kind : P → Bool) → old key ≡ of kind packets → kind packet ≡ true
    → v ≡ of kind (packets ++ packet ∷ []))
    → ((q : K) → same key q ≡ true → new q ≡ v) → ((q : K) → same key q ≡ false → new q ≡ old q)
    → (q : K) → new q ≡ of (λ p. is_key same q (key_of p)) (packets ++ packet ∷ [])
keys-more {K} of same key_of old new packets packet key v skips exact keyed counted added here others q =
    elim (same key q) as (λ b. same key q ≡ b
    → new q ≡ of (λ p. is_key same q (key_of p)) (packets ++ packet ∷ [])) [
      | true ↦ λ e.
          let kept : is_key same q (key_of packet) ≡ true = ap (is_key same q) keyed ∙ e in
          let before : old key ≡ of (λ p. is_key same q (key_of p)) packets =
          ap old (exact key q e) ∙ counted q in
          here q e ∙ added (λ p. is_key same q (key_of p)) before kept
      | false ↦ λ e.
          let other : is_key same q (key_of packet) ≡ false = ap (is_key same q) keyed ∙ e in
          others q e ∙ counted q ∙ skips (λ p. is_key same q (key_of p)) packets packet other
    ] refl

cons-chosen : {X : Type 0} (b : Bool) (x : X) (xs ys : List X)
    → ◌≡◌ {A = List X} (x ∷ (if b then xs else ys)) (if b then (x ∷ xs) else (x ∷ ys))
cons-chosen true x xs ys = refl
cons-chosen false x xs ys = refl

insert_entry-keys : {K V : Type 0} (same : K → K → Bool) (entries : List (K × V)) (key : K) (v : V)
    → keys_of (insert_entry same entries key v) ≡ with_key same (keys_of entries) (Some key)
insert_entry-keys same [] key v = refl
insert_entry-keys {K} same (e ∷ es) key v =
    elim (same key e.0) as (λ b. same key e.0 ≡ b → keys_of (insert_entry same (e ∷ es) key v)
    ≡ with_key same (keys_of (e ∷ es)) (Some key)) [
      | true ↦ λ h. rw h refl
      | false ↦ λ h. rw h (ap (λ (ks : List K). e.0 ∷ ks) (insert_entry-keys same es key v)
          ∙ cons-chosen (list_any (same key) (keys_of es)) e.0 (keys_of es)
          (keys_of es ++ key ∷ []))
    ] refl

keys-after : {K P : Type 0} (same : K → K → Bool) (key_of : P → Option K)
    (packets : List P) (packet : P) → keys_in same key_of (packets ++ packet ∷ [])
    ≡ with_key same (keys_in same key_of packets) (key_of packet)
keys-after {K} {P} same key_of packets packet =
    fold-append (λ (keys : List K) (p : P). with_key same keys (key_of p)) [] packets
    (packet ∷ [])

-- the keys where the value of one is inserted
pub keys-inserted : {K V S : Type 0} (same : K → K → Bool) (before after : IndexMap K V S)
    (key : K) (v : V) → after.entries ≡ insert_entry same before.entries key v
    → keys after ≡ with_key same (keys before) (Some key)
keys-inserted same before after key v inserted =
    ap keys_of inserted ∙ insert_entry-keys same before.entries key v

-- the keys stay where the value of one of them is written
pub keys-written : {K V S : Type 0} (same : K → K → Bool) (map : IndexMap K V S) (i : ℕ) (key : K)
    (old new : V) → same key key ≡ true → slice_get map.entries i ≡ Some (key, old)
    → keys (with_value_at map i new) ≡ with_key same (keys map) (Some key)
keys-written {K} {V} same map i key old new itself at =
    let at_keys : slice_get (keys map) i ≡ Some key =
    slice_get-map (λ (e : K × V). e.0) map.entries i ∙ ap (option_map (λ e. e.0)) at in
    let there : list_any (same key) (keys map) ≡ true =
    any_passes_from_place (same key) (keys map) i key at_keys itself in
    keys-with_value_at map i new
    ∙ sym (ap (λ (b : Bool). if b then keys map else (keys map ++ key ∷ [])) there)

-- what is counted of keys has one packet more that has this key, where its value is new
pub keys-updated : {K P V S : Type 0} {of : (P → Bool) → List P → V} {same : K → K → Bool}
    {key_of : P → Option K} (old new : Tallies K V) (before after : IndexMap K V S)
    (packets : List P) (packet : P) (key : K) (v : V) → SkipsOthers of
    → ((a b : K) → same a b ≡ true → a ≡ b)
    → before.entries ≡ old.entries → new.entries ≡ after.entries
    → keys after ≡ with_key same (keys before) (Some key)
    → Updates same before after key (Some v)
    → ((kind : P → Bool)
    → unwrap_or (lookup (same key) old.entries) (of (λ p. false) []) ≡ of kind packets
    → kind packet ≡ true → v ≡ of kind (packets ++ packet ∷ []))
    → key_of packet ≡ Some key → CountsBy of same key_of old packets
    → CountsBy of same key_of new (packets ++ packet ∷ [])
keys-updated {K} {P} {V} {S} {of} {same} {key_of} old new before after packets packet key v skips
    exact were are listed updated added keyed counted =
    let nothing : V = of (λ p. false) [] in
    let or_nothing = λ (o : Option V). unwrap_or o nothing in
    let value_in = λ (es : List (K × V)) (q : K). or_nothing (lookup (same q) es) in
    record {
      keys = ap keys_of are ∙ listed
          ∙ ap (λ (ks : List K). with_key same ks (Some key)) (ap keys_of were ∙ counted.keys)
          ∙ sym (keys-after same key_of packets packet
          ∙ ap (with_key same (keys_in same key_of packets)) keyed);
      tallied = keys-more of same key_of (value_in old.entries) (value_in new.entries) packets
          packet key v skips exact keyed counted.tallied added
          (λ q e. ap (λ es. value_in es q) are ∙ ap or_nothing
          (updated.0 q ∙ ap (λ (b : Bool). cond b (Some v) (get same before q)) e))
          (λ q e. ap (λ es. value_in es q) are ∙ ap or_nothing (updated.2 q e)
          ∙ ap (λ es. value_in es q) were);
    }

-- what is counted of keys is the same with one packet more that has no key
pub keys-same : {K P V : Type 0} {of : (P → Bool) → List P → V} {same : K → K → Bool}
    {key_of : P → Option K} (table : Tallies K V) (packets : List P) (packet : P) → SkipsOthers of
    → key_of packet ≡ None → CountsBy of same key_of table packets
    → CountsBy of same key_of table (packets ++ packet ∷ [])
keys-same {K} {P} {V} {of} {same} {key_of} table packets packet skips none counted = record {
  keys = counted.keys ∙ sym (keys-after same key_of packets packet
      ∙ ap (with_key same (keys_in same key_of packets)) none);
  tallied = λ q. counted.tallied q
      ∙ skips (λ p. is_key same q (key_of p)) packets packet (ap (is_key same q) none);
}

-- it is that of all tables with these entries
pub keys-moved : {K P V : Type 0} {of : (P → Bool) → List P → V} {same : K → K → Bool}
    {key_of : P → Option K} (old new : Tallies K V) (packets : List P) → new.entries ≡ old.entries
    → CountsBy of same key_of old packets → CountsBy of same key_of new packets
keys-moved {K} {P} {V} {of} {same} {key_of} old new packets e counted = record {
  keys = ap keys_of e ∙ counted.keys;
  tallied = λ q. ap (λ es. unwrap_or (lookup (same q) es) (of (λ p. false) [])) e
      ∙ counted.tallied q;
}

-- of no packet, where that is the same of each kind
pub keys-none : {K P V : Type 0} {of : (P → Bool) → List P → V} {same : K → K → Bool}
    {key_of : P → Option K} (table : Tallies K V)
    → ((kind : P → Bool) → of (λ p. false) [] ≡ of kind []) → table.entries ≡ []
    → CountsBy of same key_of table []
keys-none {K} {P} {V} {of} {same} {key_of} table nothing e = record {
  keys = ap keys_of e;
  tallied = λ q. ap (λ es. unwrap_or (lookup (same q) es) (of (λ p. false) [])) e
      ∙ nothing (λ p. is_key same q (key_of p));
}
