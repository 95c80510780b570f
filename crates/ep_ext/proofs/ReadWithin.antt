-- Refusals of a reader with a limit.
use Rattle.std.proofs.Common.{arith, ◌≡◌, ℕ, List, Option, Some, refl, sym, subst}
use Rattle.ep_base.specs.declared.err.layer.Layer.TheVariants.{Ipv6ExtHeader}
use Rattle.ep_ext.specs.Limited.{Limited, at_next_layer}
use Rattle.ep_ext.specs.Passed.{slot_after}
use Rattle.ep_ext.specs.Slot.{slot_of}
use Rattle.ep_ext.specs.Value.{slots}
use Rattle.ep_ext.specs.Raw.{raw_len}
use Rattle.ep_ext.specs.Reads.{RefusesAuthWithin, RefusesHeader}
use Rattle.ep_ext.specs.ReadsExts.{RefusesBytes, RefusesExtWithin, RefusesRowWithin, TakesRow, auth_exts_error}
use Rattle.ep_ext.specs.ReadsExts.{bytes_error, read_layer}
use Rattle.ep_ext.specs.declared.err.io.limited_read_error.LimitedReadError.{LimitedReadError}
use Rattle.ep_ext.specs.declared.err.io.limited_read_error.LimitedReadError.TheVariants as bytes_fault
use Rattle.ep_ext.specs.declared.err.ip_auth.header_limited_read_error.HeaderLimitedReadError.{HeaderLimitedReadError as AuthLimitedReadError}
use Rattle.ep_ext.specs.declared.err.ip_auth.header_limited_read_error.HeaderLimitedReadError.TheVariants as auth_limited
use Rattle.ep_ext.specs.declared.err.ipv6_exts.header_limited_read_error.HeaderLimitedReadError.{HeaderLimitedReadError}
use Rattle.ep_ext.specs.declared.net.ipv6_ext_slot.Ipv6ExtSlot.{Ipv6ExtSlot}
use Rattle.ep_ext.specs.declared.net.ipv6_ext_slot.Ipv6ExtSlot.TheVariants.{HopByHop, Destination, Routing, Fragment}
use Rattle.ep_ext.specs.declared.net.ipv6_ext_slot.Ipv6ExtSlot.TheVariants.{Authentication, FinalDestination}
use Rattle.ep_ext.specs.declared.net.ipv6_extensions.Ipv6Extensions.{Ipv6Extensions}
use Rattle.ep_ext.specs.declared.net.passed.Passed.{Passed}
use Rattle.ep_ext.proofs.ReadWalk.{Given, given_most, given_slot}

module _ {T : Type 0} (remaining : T → Option (List ℕ)) (old new : Limited T) (number : ℕ) where
  pub bytes_refused : (at : Ipv6ExtSlot) (e : LimitedReadError) (far : HeaderLimitedReadError)
      → far ≡ bytes_error e →
      RefusesBytes remaining at (at_next_layer old (read_layer at)) e new
      → RefusesExtWithin remaining (Some at) number old far new
  bytes_refused at e far is refused = grind arith

  pub auth_refused : (e : AuthLimitedReadError) (far : HeaderLimitedReadError)
      → far ≡ auth_exts_error e →
      RefusesAuthWithin remaining (at_next_layer old (read_layer Authentication)) e new
      → RefusesExtWithin remaining (Some Authentication) number old far new
  auth_refused (auth_limited.Io e) far is refused = rw is (Authentication, refl, refused)
  auth_refused (auth_limited.Len e) far is refused = rw is (Authentication, refl, refused)
  auth_refused (auth_limited.Content e) far is refused = rw is (refl, refused)

-- the refusal of a header of the raw layout is that of its slot
pub raw_bytes_refused : {T : Type 0} (remaining : T → Option (List ℕ)) (slot : Ipv6ExtSlot)
    (old new : Limited T) (e : LimitedReadError) →
    (slot ≡ Fragment → ⊥) → (slot ≡ Authentication → ⊥)
    → RefusesHeader remaining 8 raw_len (at_next_layer old Ipv6ExtHeader) e new
    → RefusesBytes remaining slot (at_next_layer old (read_layer slot)) e new
raw_bytes_refused remaining HopByHop old new e fragment auth refused = refused
raw_bytes_refused remaining Destination old new e fragment auth refused = refused
raw_bytes_refused remaining Routing old new e fragment auth refused = refused
raw_bytes_refused remaining Fragment old new e fragment auth refused = absurd (fragment refl)
raw_bytes_refused remaining Authentication old new e fragment auth refused = absurd (auth refl)
raw_bytes_refused remaining FinalDestination old new e fragment auth refused = refused

-- a row, after which a header was refused
pub row_refused : {T : Type 0} (remaining : T → Option (List ℕ)) (old between new : Limited T)
    (first : ℕ) (value : Ipv6Extensions) (passed : Passed) (number : ℕ)
    (slot : Option Ipv6ExtSlot) (e : HeaderLimitedReadError) →
    Given (λ pieces. TakesRow remaining old pieces between) first value passed number
    → slot_after passed number ≡ slot →
    RefusesExtWithin remaining slot number between e new
    → RefusesRowWithin remaining first old e new
row_refused remaining old between new first value passed number slot e given is refused =
    let there : slot_of (slots given.pieces) number ≡ slot =
    given_slot (λ pieces. TakesRow remaining old pieces between) first value passed
    number given slot is in (
      given.pieces,
      number,
      between,
      given.row,
      given_most (λ pieces. TakesRow remaining old pieces between) first value passed number given,
      given.kept,
      subst (λ (p : Option Ipv6ExtSlot). RefusesExtWithin remaining p number between e new)
          (sym there) refused,
    )
