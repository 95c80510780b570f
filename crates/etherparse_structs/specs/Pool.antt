-- A pool as C holds it.
use Rattle.std.specs.Prelude.{◌≡◌, true, Option, Some}
use Rattle.etherparse.specs.PoolCalls.{Lists, ShowsLists}
use Rattle.etherparse_structs.specs.FramePool.{Kept, kept_of_message}
use Rattle.etherparse_structs.specs.declared.frame_pool.FramePool.{FramePool}
use Rattle.etherparse_structs.specs.declared.pool.EpPool.{EpPool}

-- one that is open has reassemblies
abbrev pub IsPool : EpPool → Type 0
IsPool p = p.is_open ≡ true → (frames : FramePool) × (p.held.value ≡ Some frames)

-- an open pool shows the fragments of each name, and keeps this message, if it keeps one
pub record Keeps (p : EpPool) (lists : Lists) (kept : Option Kept) : Type 0 where
  pub frames : FramePool
  pub is_open : p.is_open ≡ true
  pub held : p.held.value ≡ Some frames
  pub shows : ShowsLists frames.pool lists
  pub is_kept : kept_of_message frames.kept ≡ kept
