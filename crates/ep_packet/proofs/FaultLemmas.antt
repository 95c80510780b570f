-- Faults with offsets from an earlier start.
use Rattle.std.proofs.Common.{◌≡◌, ℕ, ◌+◌, ◌≤◌, arith}
use Rattle.ep_ipslice.specs.FaultOffset.{ip_offset, ipv6_offset}
use Rattle.ep_ipslice.specs.declared.err.ip.slice_error.SliceError.{SliceError as IpFault}
use Rattle.ep_ipslice.specs.declared.err.ipv6.slice_error.SliceError.{SliceError as Ipv6Fault}
use Rattle.ep_packet.specs.SliceFault.{offset_by, of_ip, of_ipv6, fault_offset}
use Rattle.ep_packet.specs.declared.err.packet.slice_error.SliceError.{SliceError}

pub offset_of_ip : (e : IpFault) → fault_offset (of_ip e) ≡ ip_offset e
offset_of_ip e = grind arith

pub offset_of_ipv6 : (e : Ipv6Fault) → fault_offset (of_ipv6 e) ≡ ipv6_offset e
offset_of_ipv6 e = grind arith

pub moved_twice : (m n : ℕ) (e : SliceError) → offset_by m (offset_by n e) ≡ offset_by (m + n) e
moved_twice m n e = grind arith

pub moved_nothing : (e : SliceError) → offset_by 0 e ≡ e
moved_nothing e = grind arith

-- a fault at offset 0, moved, has the new offset or none
pub offset_moved : (e : SliceError) (n m : ℕ) → fault_offset e ≡ 0 → n ≤ m → fault_offset (offset_by
    n e) ≤ m
offset_moved e n m h fits = grind arith
