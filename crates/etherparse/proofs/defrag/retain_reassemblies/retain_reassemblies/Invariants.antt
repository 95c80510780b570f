use Rattle.std.proofs.Common.{◌≡◌, ℕ, ◌+◌, ◌-◌, ◌<◌, ◌≤◌, true, get_or, vec_len}
use Rattle.std.specs.Fn.{FnReturnsAt}
use Rattle.indexmap.specs.IndexMap.{get, index_map_len}
use Rattle.std.specs.Prelude.{filter, is_some}
use Rattle.std.specs.Map.{keys_of}
use Rattle.etherparse.specs.SpareBuffers.{HasSlots}
use Rattle.etherparse.specs.Starts.{Tracks, names_in}
use Rattle.etherparse.proofs.Retaining.{MayStay}
use Rattle.etherparse.proofs.defrag.retain_reassemblies.retain_reassemblies.Given as goal

abbrev pub invariant-loop-at : goal.invariant-loop-at
invariant-loop-at g l = record {
  within : l.at ≤ index_map_len l.reassemblies;
  each : (q : _) → MayStay (FnReturnsAt g.F.Fn l.keep) (get g.K.PartialEq.eq l.initial.reassemblies q)
      (get g.K.PartialEq.eq l.reassemblies q);
  tested : (k : ℕ) (d : _) → k < l.at
      → FnReturnsAt g.F.Fn l.keep (get_or l.reassemblies.entries k d).1.timestamp true;
  slots : HasSlots l.spare (index_map_len l.reassemblies);
  counts : index_map_len l.reassemblies + vec_len l.spare.bytes
      ≡ index_map_len l.initial.reassemblies + vec_len l.initial.spare.bytes;
  sections : index_map_len l.reassemblies + vec_len l.spare.sections
      ≡ index_map_len l.initial.reassemblies + vec_len l.initial.spare.sections;
  fewer : index_map_len l.reassemblies ≤ index_map_len l.initial.reassemblies;
  tracks : Tracks l.starts.order l.held_bytes l.reassemblies.entries;
  names : names_in (keys_of l.reassemblies.entries) l.starts.order
      ≡ filter (λ q. is_some (get g.K.PartialEq.eq l.reassemblies q))
      (names_in (keys_of l.initial.reassemblies.entries) l.initial.starts.order);
}

abbrev pub decreases-loop-at : goal.decreases-loop-at
decreases-loop-at g l = index_map_len l.reassemblies - l.at
