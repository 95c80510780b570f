-- The differentiated services code points that have a name (RFC 2474, 2597, 3246, 5865, 8622).
use Rattle.std.specs.Prelude.{◌≡◌, ◌≢◌, ℕ, Result, Ok, Err}
use Rattle.ep_base.specs.declared.net.ip_dscp_known.IpDscpKnown.{IpDscpKnown}
use Rattle.ep_base.specs.declared.net.ip_dscp_known.IpDscpKnown.TheVariants.{ClassSelector0}
use Rattle.ep_base.specs.declared.net.ip_dscp_known.IpDscpKnown.TheVariants.{ClassSelector1}
use Rattle.ep_base.specs.declared.net.ip_dscp_known.IpDscpKnown.TheVariants.{ClassSelector2}
use Rattle.ep_base.specs.declared.net.ip_dscp_known.IpDscpKnown.TheVariants.{ClassSelector3}
use Rattle.ep_base.specs.declared.net.ip_dscp_known.IpDscpKnown.TheVariants.{ClassSelector4}
use Rattle.ep_base.specs.declared.net.ip_dscp_known.IpDscpKnown.TheVariants.{ClassSelector5}
use Rattle.ep_base.specs.declared.net.ip_dscp_known.IpDscpKnown.TheVariants.{ClassSelector6}
use Rattle.ep_base.specs.declared.net.ip_dscp_known.IpDscpKnown.TheVariants.{ClassSelector7}
use Rattle.ep_base.specs.declared.net.ip_dscp_known.IpDscpKnown.TheVariants.{AfGroup1Low}
use Rattle.ep_base.specs.declared.net.ip_dscp_known.IpDscpKnown.TheVariants.{AfGroup1Medium}
use Rattle.ep_base.specs.declared.net.ip_dscp_known.IpDscpKnown.TheVariants.{AfGroup1High}
use Rattle.ep_base.specs.declared.net.ip_dscp_known.IpDscpKnown.TheVariants.{AfGroup2Low}
use Rattle.ep_base.specs.declared.net.ip_dscp_known.IpDscpKnown.TheVariants.{AfGroup2Medium}
use Rattle.ep_base.specs.declared.net.ip_dscp_known.IpDscpKnown.TheVariants.{AfGroup2High}
use Rattle.ep_base.specs.declared.net.ip_dscp_known.IpDscpKnown.TheVariants.{AfGroup3Low}
use Rattle.ep_base.specs.declared.net.ip_dscp_known.IpDscpKnown.TheVariants.{AfGroup3Medium}
use Rattle.ep_base.specs.declared.net.ip_dscp_known.IpDscpKnown.TheVariants.{AfGroup3High}
use Rattle.ep_base.specs.declared.net.ip_dscp_known.IpDscpKnown.TheVariants.{AfGroup4Low}
use Rattle.ep_base.specs.declared.net.ip_dscp_known.IpDscpKnown.TheVariants.{AfGroup4Medium}
use Rattle.ep_base.specs.declared.net.ip_dscp_known.IpDscpKnown.TheVariants.{AfGroup4High}
use Rattle.ep_base.specs.declared.net.ip_dscp_known.IpDscpKnown.TheVariants.{ExpeditedForwarding}
use Rattle.ep_base.specs.declared.net.ip_dscp_known.IpDscpKnown.TheVariants.{VoiceAdmit}
use Rattle.ep_base.specs.declared.net.ip_dscp_known.IpDscpKnown.TheVariants.{LowerEffort}
use Rattle.ep_base.specs.declared.net.ip_dscp_unknown_value_error.IpDscpUnknownValueError.{IpDscpUnknownValueError}

-- the code point of a name
abbrev pub code_point : IpDscpKnown → ℕ
code_point ClassSelector0 = 0
code_point ClassSelector1 = 8
code_point ClassSelector2 = 16
code_point ClassSelector3 = 24
code_point ClassSelector4 = 32
code_point ClassSelector5 = 40
code_point ClassSelector6 = 48
code_point ClassSelector7 = 56
code_point AfGroup1Low = 10
code_point AfGroup1Medium = 12
code_point AfGroup1High = 14
code_point AfGroup2Low = 18
code_point AfGroup2Medium = 20
code_point AfGroup2High = 22
code_point AfGroup3Low = 26
code_point AfGroup3Medium = 28
code_point AfGroup3High = 30
code_point AfGroup4Low = 34
code_point AfGroup4Medium = 36
code_point AfGroup4High = 38
code_point ExpeditedForwarding = 46
code_point VoiceAdmit = 44
code_point LowerEffort = 1

-- `Ok` of the name of this code point, or an error with the code point, where none has a name
abbrev pub IsKnown : ℕ → Result IpDscpKnown IpDscpUnknownValueError → Type 0
IsKnown n (Ok known) = code_point known ≡ n
IsKnown n (Err e) = (e ≡ record { value = n }) × ((known : IpDscpKnown) → code_point known ≢ n)

-- the code point of a name has that name and no other
abbrev pub KnownRoundTrip : Type 0
KnownRoundTrip = (known : IpDscpKnown) (answer : Result IpDscpKnown IpDscpUnknownValueError)
    → IsKnown (code_point known) answer → answer ≡ Ok known
