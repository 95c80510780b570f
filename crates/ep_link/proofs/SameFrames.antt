-- Frames that a test of equality finds equal.
use Rattle.std.proofs.Common.{◌≡◌, Bool, if◌then◌else◌, nat_eq, ap, arith}
use Rattle.std.specs.Bool.{Decides}
use Rattle.std.specs.Cmp.Lexicographic.{pointwise, bytes_decides}
use Rattle.ep_base.proofs.Same.{two_parts}
use Rattle.ep_link.specs.Frame.{EthernetFrame, compared_as}

flags_same : (x y : Bool) → Decides (nat_eq (if x then 1 else 0) (if y then 1 else 0)) (x ≡ y)
flags_same x y = grind arith

pub same_frames : (a b : EthernetFrame)
    → Decides (pointwise nat_eq (compared_as a) (compared_as b)) (a ≡ b)
same_frames a b =
    two_parts (flags_same a.has_fcs b.has_fcs) (bytes_decides a.bytes b.bytes)
    (λ flags bytes i. record { bytes = bytes i; has_fcs = flags i })
    (λ e. (ap (λ (f : EthernetFrame). f.has_fcs) e, ap (λ (f : EthernetFrame). f.bytes) e))
