-- What is counted of packets by keys.
use Rattle.std.specs.Prelude.{◌≡◌, ℕ, Bool, false, if◌then◌else◌, List, [], ◌∷◌, ◌++◌, fold, Option, Some, None}
use Rattle.std.specs.Prelude.{unwrap_or}
use Rattle.std.specs.List.{list_any}
use Rattle.std.specs.Map.{keys_of, lookup}
use Rattle.packets.specs.Tally.{tally_of}
use Rattle.packets.specs.declared.outline.Outline.{Outline}
use Rattle.packets.specs.declared.summary.tally.Tally.{Tally}

-- what is counted, each beside its key, and the capacity for so many others
pub record Tallies (K V : Type 0) : Type 0 where
  pub entries : List (K × V)
  pub spare : ℕ

abbrev pub no_tally : Tally
no_tally = record { packets = 0; bytes = 0; first = None }

-- the tally of a key: that of no packet where there is none
abbrev pub tally_at : {K : Type 0} → (K → K → Bool) → Tallies K Tally → K → Tally
tally_at same table key = unwrap_or (lookup (same key) table.entries) no_tally

abbrev pub is_key : {K : Type 0} → (K → K → Bool) → K → Option K → Bool
is_key same key None = false
is_key same key (Some own) = same own key

-- keys, and after them this one if it is none of them
abbrev pub with_key : {K : Type 0} → (K → K → Bool) → List K → Option K → List K
with_key same keys None = keys
with_key same keys (Some key) =
    if list_any (same key) keys then keys else (keys ++ key ∷ [])

-- the keys that packets have, each once, in the order in which they came first
abbrev pub keys_in : {K P : Type 0} → (K → K → Bool) → (P → Option K) → List P → List K
keys_in same key_of packets = fold (λ keys packet. with_key same keys (key_of packet)) [] packets

-- what is counted of packets of a kind is the same with a packet of another kind
abbrev pub SkipsOthers : {P V : Type 0} → ((P → Bool) → List P → V) → Type 0
SkipsOthers {P} of = (kind : P → Bool) (packets : List P) (packet : P) → kind packet ≡ false
    → of kind packets ≡ of kind (packets ++ packet ∷ [])

-- the keys are those that packets have, and of each those are counted that have it
pub record CountsBy {K P V : Type 0} (of : (P → Bool) → List P → V) (same : K → K → Bool)
    (key_of : P → Option K) (table : Tallies K V) (packets : List P) : Type 0 where
  pub keys : keys_of table.entries ≡ keys_in same key_of packets
  pub tallied : (key : K) → unwrap_or (lookup (same key) table.entries) (of (λ packet. false) [])
      ≡ of (λ packet. is_key same key (key_of packet)) packets

-- the same of tallies
abbrev pub CountsKeys : {K : Type 0} → (K → K → Bool) → (Outline → Option K) → Tallies K Tally
    → List Outline → Type 0
CountsKeys same key_of table packets = CountsBy tally_of same key_of table packets
