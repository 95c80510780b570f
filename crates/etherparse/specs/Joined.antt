-- Datagrams that are joined from fragments no two of which cover the same offset.
use Rattle.std.specs.Prelude.{◌≡◌, ℕ, List, [], ◌∷◌, ◌++◌, All, AllPairs, Contains, ⊤}
use Rattle.etherparse.specs.declared.defrag.overlap_rule.OverlapRule.TheVariants.{Refuses}
use Rattle.etherparse.specs.Fragments.{Fragment, start_of, end_of, Holds, IsAccepted, Complete}
use Rattle.etherparse.specs.FragmentBytes.{text_of}

-- the first one starts at an offset, and each other one where the one before it ends
abbrev pub AreInRow : ℕ → List Fragment → Type 0
AreInRow location [] = ⊤
AreInRow location (f ∷ fs) = (start_of f ≡ location) × AreInRow (end_of f) fs

-- their bytes
abbrev pub joined_bytes : List Fragment → List ℕ
joined_bytes [] = []
joined_bytes (f ∷ fs) = f.bytes ++ joined_bytes fs

-- the text is that of some of these fragments in a row, no two of which cover the same offset
pub record IsJoined (fs : List Fragment) (text : List ℕ) : Type 0 where
  pub parts : List Fragment
  pub among : All (Contains fs) parts
  pub in_row : AreInRow 0 parts
  pub apart : AllPairs (λ f g. (p : ℕ) → Holds f p → Holds g p → ⊥) parts
  pub text_is : text ≡ joined_bytes parts

-- so is the text of accepted fragments that are complete, where overlaps are refused
abbrev pub NoOverlap : Type 0
NoOverlap = (fs : List Fragment) → IsAccepted Refuses fs → Complete fs → IsJoined fs (text_of fs)
