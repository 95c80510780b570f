-- The extension headers of an IPv4 packet that are read from a reader.
use Rattle.std.specs.Prelude.{◌≡◌, ℕ, List, Option, Some, None}
use Rattle.std.specs.Io.KnownBytes.{Consumes}
use Rattle.ep_base.specs.declared.err.layer.Layer.TheVariants.{IpAuthHeader}
use Rattle.ep_base.specs.declared.net.ip_number.IpNumber.{IpNumber}
use Rattle.ep_ext.specs.Ipv4Exts.{IsAuthAfter, auth_bytes, ipv4_exts_of, number_after}
use Rattle.ep_ext.specs.Limited.{Limited, at_next_layer, Takes}
use Rattle.ep_ext.specs.declared.net.ipv4_extensions.Ipv4Extensions.{Ipv4Extensions}

-- the value and the number after it are those of this header, or of none
pub record IsOfAuth (first : ℕ) (auth : Option (List ℕ))
    (answer : Ipv4Extensions × IpNumber) : Type 0 where
  pub named : IsAuthAfter first auth
  pub value : answer.0 ≡ ipv4_exts_of auth
  pub number : answer.1.0 ≡ number_after first auth

-- a reader whose known bytes went from old to new gave the header after this number
abbrev pub ReadsAuthAfter : ℕ → Option (List ℕ) → Option (List ℕ)
    → Ipv4Extensions × IpNumber → Type 0
ReadsAuthAfter first old new answer =
    (auth : Option (List ℕ)) × IsOfAuth first auth answer × Consumes old new (auth_bytes auth)

-- a reader gave the header within its limit, as a layer, or nothing was read
abbrev pub TakesAuth : {T : Type 0} → (T → Option (List ℕ)) → Limited T
    → Option (List ℕ) → Limited T → Type 0
TakesAuth remaining old None new = new ≡ old
TakesAuth remaining old (Some auth) new = Takes remaining (at_next_layer old IpAuthHeader) auth new

abbrev pub ReadsAuthWithin : {T : Type 0} → (T → Option (List ℕ)) → ℕ → Limited T → Limited T
    → Ipv4Extensions × IpNumber → Type 0
ReadsAuthWithin remaining first old new answer =
    (auth : Option (List ℕ)) × IsOfAuth first auth answer × TakesAuth remaining old auth new
