-- The two bits of explicit congestion notification.
use Rattle.std.specs.Prelude.{◌≡◌, ℕ, zero, suc, ◌<◌, ◌≤◌, Result, Ok, Err}
use Rattle.ep_base.specs.declared.err.value_too_big_error.ValueTooBigError.{ValueTooBigError}
use Rattle.ep_base.specs.declared.err.value_type.ValueType.TheVariants as kind
use Rattle.ep_base.specs.declared.net.ip_ecn.IpEcn.{IpEcn}
use Rattle.ep_base.specs.declared.net.ip_ecn.IpEcn.TheVariants.{NotEct, Ect1, Ect0, CongestionExperienced}
use Rattle.ep_base.specs.Bounded.{too_big}

-- the number of a notification
abbrev pub ecn_number : IpEcn → ℕ
ecn_number NotEct = 0
ecn_number Ect1 = 1
ecn_number Ect0 = 2
ecn_number CongestionExperienced = 3

-- the notification of a number, the last one from 3 on
abbrev pub ecn_of : ℕ → IpEcn
ecn_of zero = NotEct
ecn_of (suc zero) = Ect1
ecn_of (suc (suc zero)) = Ect0
ecn_of (suc (suc (suc n))) = CongestionExperienced

-- `Ok` of the notification with this number, or an error that names it
abbrev pub IsEcn : ℕ → Result IpEcn (ValueTooBigError ℕ) → Type 0
IsEcn n (Ok ecn) = (n ≤ 3) × (ecn ≡ ecn_of n)
IsEcn n (Err e) = (3 < n) × (e ≡ too_big kind.IpEcn 3 n)
