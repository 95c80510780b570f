-- MACsec payloads and their kinds are compared by lists, which differ where they do.
use Rattle.std.specs.Prelude.{ℕ, List, [], ◌∷◌}
use Rattle.ep_tag.specs.declared.link.macsec_p_type.MacsecPType.{MacsecPType}
use Rattle.ep_tag.specs.declared.link.macsec_p_type.MacsecPType.TheVariants as ptype
use Rattle.ep_tag.specs.EtherOrder.{incomplete_index, lax_ordered_as, ordered_as}
use Rattle.ep_tag.specs.MacsecLax.{LaxMacsecPayload, LaxUnmodified, LaxModified}
use Rattle.ep_tag.specs.MacsecPayload.{MacsecPayload, Unmodified, Modified}

abbrev pub compared_as : MacsecPayload → List ℕ
compared_as (Unmodified p) = 0 ∷ ordered_as p
compared_as (Modified bytes) = 1 ∷ bytes

abbrev pub lax_compared_as : LaxMacsecPayload → List ℕ
lax_compared_as (LaxUnmodified p) = 0 ∷ lax_ordered_as p
lax_compared_as (LaxModified incomplete bytes) = 1 ∷ incomplete_index incomplete ∷ bytes

-- the index of a kind among the four, and an unmodified payload's ether type
abbrev pub ptype_ordered_as : MacsecPType → List ℕ
ptype_ordered_as (ptype.Unmodified t) = 0 ∷ t.0 ∷ []
ptype_ordered_as ptype.Modified = 1 ∷ []
ptype_ordered_as ptype.Encrypted = 2 ∷ []
ptype_ordered_as ptype.EncryptedUnmodified = 3 ∷ []
