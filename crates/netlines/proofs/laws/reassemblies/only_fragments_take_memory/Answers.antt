use Rattle.std.proofs.Common.{inl, inr}
use Rattle.netlines.proofs.laws.reassemblies.only_fragments_take_memory.Goals as goal

pub returns : goal.returns
returns c reported read written none output = elim output [
  | inl nothing ↦ nothing
  | inr ends ↦ (let memory_taken = none ends.before ends.line ends.later ends.parts in
      let takes = ends.takes in absurd (cc))
]
