-- Notifications of congestion and their numbers.
use Rattle.std.proofs.Common.{◌≡◌, ℕ, ◌<◌, arith}
use Rattle.ep_base.specs.IpEcn.{ecn_of, ecn_number}
use Rattle.ep_base.specs.declared.net.ip_ecn.IpEcn.{IpEcn}

pub ecn_of-number : (e : IpEcn) → ecn_of (ecn_number e) ≡ e
ecn_of-number e = grind arith

pub ecn_number_below : (e : IpEcn) → ecn_number e < 4
ecn_number_below e = grind arith

pub number-ecn_of : (n : ℕ) → n < 4 → ecn_number (ecn_of n) ≡ n
number-ecn_of n h = grind arith
