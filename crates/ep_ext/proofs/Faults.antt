-- How much can be added to the offset of a fault.
use Rattle.std.proofs.Common.{◌≡◌, ℕ, ◌+◌, ◌<◌, ◌^◌, List, length, Option, Some, Err, arith, length-append}
use Rattle.ep_ext.specs.Auth.{auth_at}
use Rattle.ep_ext.specs.Chain.{Chain, Fault, fault_at, fault_of}
use Rattle.ep_base.specs.SliceError.{CanMove}
use Rattle.ep_ext.specs.Slot.{Order}
use Rattle.ep_ext.specs.Value.{Piece}
use Rattle.ep_base.specs.declared.err.slice_error.SliceError.{SliceError}
use Rattle.ep_ext.specs.declared.err.ip_auth.header_error.HeaderError.{HeaderError as AuthError}
use Rattle.ep_ext.specs.declared.net.ipv6_ext_slot.Ipv6ExtSlot.{Ipv6ExtSlot}

-- a fault of an authentication header at the start can be moved
pub auth_moves : (bytes : List ℕ) (e : SliceError AuthError) (n : ℕ) → auth_at bytes ≡ Err e
    → n < 2 ^ 64 → CanMove e n
auth_moves bytes e n is fits = grind arith

fault_at_moves : (offset n : ℕ) (slot : Option Ipv6ExtSlot) (last : ℕ) (rest : List ℕ)
    (fault : Fault) → fault_at offset slot last rest ≡ Some fault
    → offset + n < 2 ^ 64 → CanMove fault.0 n
fault_at_moves offset n slot last rest fault found fits = grind arith

-- the fault of a row lies within its bytes
pub row_fault_moves : (order : Order) (first : ℕ) (bytes : List ℕ) (pieces : List Piece) (last : ℕ)
    (rest : List ℕ) (fault : Fault) (n : ℕ) →
    Chain order first bytes pieces last rest → fault_of order pieces last rest ≡ Some fault
    → length bytes + n < 2 ^ 64 → CanMove fault.0 n
row_fault_moves order first bytes pieces last rest fault n chain found fits =
    grind (arith, fault_at_moves, length-append)
