-- Results of the calls that read extension headers from a slice.
use Rattle.std.specs.Prelude.{◌≡◌, ℕ, List, Option, Some, None, Result, Ok, Err}
use Rattle.std.specs.Borrow.{Bor}
use Rattle.ep_base.specs.declared.err.layer.Layer.{Layer}
use Rattle.ep_base.specs.declared.net.ip_number.IpNumber.{IpNumber}
use Rattle.ep_ext.specs.Slot.{slot_of}
use Rattle.ep_ext.specs.Value.{Piece, value_of}
use Rattle.ep_ext.specs.Chain.{Fault, fault_of}
use Rattle.ep_base.specs.declared.err.slice_error.SliceError.{SliceError}
use Rattle.ep_ext.specs.declared.err.ipv6_exts.header_error.HeaderError.{HeaderError}
use Rattle.ep_ext.specs.declared.net.ipv6_extensions.Ipv6Extensions.{Ipv6Extensions}

-- the results of a call that stops at a fault, and of one that refuses it
pub record Stops (pieces : List Piece) (last : ℕ) (rest : List ℕ)
    (answer : Ipv6Extensions × IpNumber × Bor (List ℕ) × Option Fault) : Type 0 where
  pub value : answer.0 ≡ value_of pieces
  pub number : answer.1.0 ≡ last
  pub left : answer.2.now ≡ rest
  pub fault : answer.3 ≡ fault_of slot_of pieces last rest

abbrev pub Answers : List Piece → ℕ → List ℕ
    → Result (Ipv6Extensions × IpNumber × Bor (List ℕ)) (SliceError HeaderError) → Type 0
Answers pieces last rest (Ok r) =
    (r.0 ≡ value_of pieces) × (r.1.0 ≡ last) × (r.2.now ≡ rest)
    × (fault_of slot_of pieces last rest ≡ None)
Answers pieces last rest (Err e) = (layer : Layer)
    × (fault_of slot_of pieces last rest ≡ Some (e, layer))
