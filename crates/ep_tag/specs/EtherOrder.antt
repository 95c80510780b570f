-- Payloads after an ether type, compared by the type, then by what bounds them, then by their
-- bytes.
use Rattle.std.specs.Prelude.{ℕ, List, ◌∷◌, ◌++◌, Bool, if◌then◌else◌}
use Rattle.std.specs.Hash as fed
use Rattle.ep_base.specs.LenSource.{source_index}
use Rattle.ep_tag.specs.Ether.{EtherPayload, LaxEtherPayload, present_ether}

-- all of a payload in one list, which is compared number by number
abbrev pub ordered_as : EtherPayload → List ℕ
ordered_as p = p.ether_type.0 ∷ source_index p.len_source ∷ p.payload

-- what a hasher is fed
abbrev pub hashed_as : EtherPayload → fed.HashWrites
hashed_as p = fed.u16 p.ether_type.0 ++ fed.u8 (source_index p.len_source)
    ++ fed.slice fed.u8 p.payload

-- whether bytes are missing, as a number
abbrev pub incomplete_index : Bool → ℕ
incomplete_index incomplete = if incomplete then 1 else 0

-- a payload that may have been cut off: before the rest, whether it was
abbrev pub lax_ordered_as : LaxEtherPayload → List ℕ
lax_ordered_as p = incomplete_index p.incomplete ∷ ordered_as (present_ether p)

abbrev pub lax_hashed_as : LaxEtherPayload → fed.HashWrites
lax_hashed_as p = fed.u8 (incomplete_index p.incomplete) ++ hashed_as (present_ether p)
