-- The order in which the entries of a table started. An entry is named by its slot, its index in
-- the table.
use Rattle.std.specs.Prelude.{◌≡◌, ℕ, zero, suc, ◌-◌, ◌<◌, ◌≤◌, ◌≢◌, ◌==◌, ◌&&◌, ◌^◌, Bool, false, not, nat_lt}
use Rattle.std.specs.Prelude.{if◌then◌else◌, List, [], ◌∷◌, ⊤, length, map, filter, min, max, slice_index}
use Rattle.std.specs.List.{list_any}

-- the slots, from that of the entry that started first to that of the one that started last; and
-- for how many more there is memory
pub record StartedSlots : Type 0 where
  pub order : List ℕ
  pub room : ℕ

-- whether a number is there
abbrev pub has : ℕ → List ℕ → Bool
has n ns = list_any (λ m. m == n) ns

-- the others
abbrev pub without : ℕ → List ℕ → List ℕ
without n ns = filter (λ m. not (m == n)) ns

-- the same with another number instead of one
abbrev pub renamed : (from to : ℕ) → List ℕ → List ℕ
renamed from to ns = map (λ m. if m == from then to else m) ns

-- the order once the entry of a slot is removed, and the entry of the last slot takes that slot
abbrev pub order_without : (slot : ℕ) → List ℕ → List ℕ
order_without slot order = renamed (length order - 1) slot (without slot order)

-- no number is there twice
abbrev pub AreDistinct : List ℕ → Type 0
AreDistinct [] = ⊤
AreDistinct (n ∷ ns) = (has n ns ≡ false) × AreDistinct ns

-- the slots are those below their count, each once
pub record IsOrder (order : List ℕ) : Type 0 where
  pub distinct : AreDistinct order
  pub members : (slot : ℕ) → has slot order ≡ nat_lt slot (length order)

-- ---- links: node 0 is before the oldest and after the newest, and that of a slot is one more

-- from one node on to another each is linked to the next, and the next to it
abbrev pub Joined : (newer older : ℕ → ℕ) → (before : ℕ) → List ℕ → (after : ℕ) → Type 0
Joined newer older before [] after = (newer before ≡ after) × (older after ≡ before)
Joined newer older before (p ∷ ps) after =
    (newer before ≡ p) × (older p ≡ before) × Joined newer older p ps after

-- so many nodes that follow one
abbrev pub walk : (newer : ℕ → ℕ) → (count node : ℕ) → List ℕ
walk newer zero node = []
walk newer (suc count) node = newer node ∷ walk newer count (newer node)

-- the link of each node
abbrev pub link : List ℕ → ℕ → ℕ
link links p = slice_index links p

-- the nodes that follow node 0
abbrev pub nodes : (newer : List ℕ) → List ℕ
nodes newer = walk (link newer) (length newer - 1) 0

abbrev pub slots_of : List ℕ → List ℕ
slots_of ps = map (λ p. p - 1) ps

-- for how many more nodes than these there is memory, of so many in all
abbrev pub room_beside : (len capacity : ℕ) → ℕ
room_beside len capacity = min capacity (2 ^ 32) - max 1 len

-- the nodes are linked in a ring, each once
pub record IsRing (newer older : List ℕ) : Type 0 where
  pub same : length older ≡ length newer
  pub fits : length newer ≤ 2 ^ 32
  pub joined : Joined (link newer) (link older) 0 (nodes newer) 0
  pub distinct : AreDistinct (nodes newer)
  pub members : (p : ℕ) → has p (nodes newer) ≡ (nat_lt 0 p && nat_lt p (length newer))

-- ---- changes of the links, from f (to newer ones) and g (to older ones) to f' and g'

-- p is taken out: the nodes before and after it are linked to one another
pub record TakesOut (p : ℕ) (f g f' g' : ℕ → ℕ) : Type 0 where
  pub newer_at : f' (g p) ≡ f p
  pub older_at : g' (f p) ≡ g p
  pub newer : (q : ℕ) → q ≢ g p → f' q ≡ f q
  pub older : (q : ℕ) → q ≢ f p → g' q ≡ g q

-- what was linked to p is linked to r
pub record Moves (p r : ℕ) (f g f' g' : ℕ → ℕ) : Type 0 where
  pub newer_at : f' r ≡ f p
  pub older_at : g' r ≡ g p
  pub newer_before : f' (g p) ≡ r
  pub older_after : g' (f p) ≡ r
  pub newer : (q : ℕ) → q ≢ r → q ≢ g p → f' q ≡ f q
  pub older : (q : ℕ) → q ≢ r → q ≢ f p → g' q ≡ g q

-- p is linked in before z
pub record PutsLast (p z : ℕ) (f g f' g' : ℕ → ℕ) : Type 0 where
  pub newer_at : f' p ≡ z
  pub older_at : g' p ≡ g z
  pub newer_before : f' (g z) ≡ p
  pub older_after : g' z ≡ p
  pub newer : (q : ℕ) → q ≢ p → q ≢ g z → f' q ≡ f q
  pub older : (q : ℕ) → q ≢ p → q ≢ z → g' q ≡ g q

-- what was linked to p is linked to r, unless they are the same
pub record MovesTo (p r : ℕ) (newer older newer' older' : List ℕ) : Type 0 where
  pub stays : p ≡ r → (newer' ≡ newer) × (older' ≡ older)
  pub moves : p ≢ r → Moves p r (link newer) (link older) (link newer') (link older')

-- the nodes that p is linked to are there, and aren't r
pub record CanMoveTo (p r : ℕ) (newer older : List ℕ) : Type 0 where
  pub before : link older p < length newer
  pub before_apart : link older p ≢ r
  pub after : link newer p < length newer
  pub after_apart : link newer p ≢ r
