-- The names of code points, by number.
use Rattle.std.proofs.Common.{arith, ◌≡◌, ◌==◌, if◌then◌else◌, ℕ, Ok, Err, sym, ap, ◌∙◌, refl}
use Rattle.ep_base.specs.declared.net.ip_dscp_known.IpDscpKnown.{IpDscpKnown}
use Rattle.ep_base.specs.declared.net.ip_dscp_known.IpDscpKnown.TheVariants.{ClassSelector0, ClassSelector1}
use Rattle.ep_base.specs.declared.net.ip_dscp_known.IpDscpKnown.TheVariants.{ClassSelector2, ClassSelector3}
use Rattle.ep_base.specs.declared.net.ip_dscp_known.IpDscpKnown.TheVariants.{ClassSelector4, ClassSelector5}
use Rattle.ep_base.specs.declared.net.ip_dscp_known.IpDscpKnown.TheVariants.{ClassSelector6, ClassSelector7}
use Rattle.ep_base.specs.declared.net.ip_dscp_known.IpDscpKnown.TheVariants.{AfGroup1Low, AfGroup1Medium, AfGroup1High}
use Rattle.ep_base.specs.declared.net.ip_dscp_known.IpDscpKnown.TheVariants.{AfGroup2Low, AfGroup2Medium, AfGroup2High}
use Rattle.ep_base.specs.declared.net.ip_dscp_known.IpDscpKnown.TheVariants.{AfGroup3Low, AfGroup3Medium, AfGroup3High}
use Rattle.ep_base.specs.declared.net.ip_dscp_known.IpDscpKnown.TheVariants.{AfGroup4Low, AfGroup4Medium, AfGroup4High}
use Rattle.ep_base.specs.declared.net.ip_dscp_known.IpDscpKnown.TheVariants.{ExpeditedForwarding, VoiceAdmit}
use Rattle.ep_base.specs.declared.net.ip_dscp_known.IpDscpKnown.TheVariants.{LowerEffort}
use Rattle.ep_base.specs.IpDscpKnown.{code_point, KnownRoundTrip}

-- the name of a code point, and some name of the others
abbrev name_of : ℕ → IpDscpKnown
name_of n = if n == 0 then ClassSelector0
    else (if n == 8 then ClassSelector1
    else (if n == 16 then ClassSelector2
    else (if n == 24 then ClassSelector3
    else (if n == 32 then ClassSelector4
    else (if n == 40 then ClassSelector5
    else (if n == 48 then ClassSelector6
    else (if n == 56 then ClassSelector7
    else (if n == 10 then AfGroup1Low
    else (if n == 12 then AfGroup1Medium
    else (if n == 14 then AfGroup1High
    else (if n == 18 then AfGroup2Low
    else (if n == 20 then AfGroup2Medium
    else (if n == 22 then AfGroup2High
    else (if n == 26 then AfGroup3Low
    else (if n == 28 then AfGroup3Medium
    else (if n == 30 then AfGroup3High
    else (if n == 34 then AfGroup4Low
    else (if n == 36 then AfGroup4Medium
    else (if n == 38 then AfGroup4High
    else (if n == 46 then ExpeditedForwarding
    else (if n == 44 then VoiceAdmit else (LowerEffort))))))))))))))))))))))

name_of-code_point : (known : IpDscpKnown) → name_of (code_point known) ≡ known
name_of-code_point known = grind arith

pub known_round_trip : KnownRoundTrip
known_round_trip known (Ok other) same =
    ap Ok (sym (name_of-code_point other) ∙ ap name_of same ∙ name_of-code_point known)
known_round_trip known (Err e) none = absurd (none.1 known refl)
