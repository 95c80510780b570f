-- How many reassemblies there are at once, by the lists of their accepted fragments.
use Rattle.std.specs.Prelude.{◌≡◌, ◌≢◌, ◌≤◌, ℕ, List, [], length, take, All, AllPairs}
use Rattle.ep_packet.specs.Class.{FragmentName}
use Rattle.etherparse.specs.PoolCalls.{Lists, lists_after}
use Rattle.etherparse.specs.declared.defrag.pool_calls.PoolCall.{PoolCall}

-- these datagrams, each by its name and channel, are all different, and the list of none is empty
pub record AreOpen (lists : Lists) (datagrams : List (FragmentName × ℕ)) : Type 0 where
  pub differ : AllPairs (λ a b. a ≢ b) datagrams
  pub each : All (λ m. (lists m.0 m.1).fragments ≢ []) datagrams

-- there are so many of them, and no more
pub record IsOpenCount (lists : Lists) (count : ℕ) : Type 0 where
  pub datagrams : List (FragmentName × ℕ)
  pub are_open : AreOpen lists datagrams
  pub counted : length datagrams ≡ count
  pub most : (others : List (FragmentName × ℕ)) → AreOpen lists others → length others ≤ count

-- after none of these calls there are more of them than so many
abbrev pub NeverMore : Lists → List PoolCall → (most : ℕ) → Type 0
NeverMore lists calls most = (k : ℕ) (datagrams : List (FragmentName × ℕ))
    → AreOpen (lists_after lists (take k calls)) datagrams → length datagrams ≤ most
