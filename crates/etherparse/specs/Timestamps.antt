-- The timestamps of reassemblies, and what is read of them.
use Rattle.std.specs.Prelude.{Bool, Option, option_map, map}
use Rattle.etherparse.specs.ReassemblyTable.{Pool, reassembly_at}
use Rattle.etherparse.specs.declared.defrag.reassembly.Reassembly.{Reassembly}

-- the timestamp of a name, if it has a reassembly
abbrev pub timestamp_at : {K T : Type 0} → (K → K → Bool) → Pool K T → K → Option T
timestamp_at {K} {T} same pool name =
    option_map (λ (s : Reassembly T). s.timestamp) (reassembly_at same pool name)

-- the same reassembly, with what is read of its timestamp in place of that
abbrev pub reassembly_by : {T U : Type 0} → (T → U) → Reassembly T → Reassembly U
reassembly_by read s = record { buf = s.buf; timestamp = read s.timestamp }

-- the same pool, with what is read of each timestamp
abbrev pub pool_by : {K T U : Type 0} → (T → U) → Pool K T → Pool K U
pool_by {K} {T} read pool = record {
  reassemblies = map (λ (e : K × Reassembly T). (e.0, reassembly_by read e.1)) pool.reassemblies;
  starts = pool.starts;
  spare = pool.spare;
  spare_sections = pool.spare_sections;
  memory = pool.memory;
}
