-- One extension header of an IPv6 packet, as an element of its row of headers.
use Rattle.std.specs.Prelude.{ℕ, List, Result, Ok, Err}
use Rattle.ep_ext.specs.Auth.{auth_len}
use Rattle.ep_ext.specs.Chain.{prefix_of}
use Rattle.ep_ext.specs.Raw.{raw_len}
use Rattle.ep_ext.specs.Value.{Piece}
use Rattle.ep_base.specs.declared.err.slice_error.SliceError.{SliceError}
use Rattle.ep_ext.specs.declared.err.ipv6_exts.header_error.HeaderError.{HeaderError}
use Rattle.ep_ext.specs.declared.net.ipv6_ext_slot.Ipv6ExtSlot.{Ipv6ExtSlot}
use Rattle.ep_ext.specs.declared.net.ipv6_ext_slot.Ipv6ExtSlot.TheVariants as slot
use Rattle.ep_ipslice.specs.declared.net.ipv6_extension_slice.Ipv6ExtensionSlice.{Ipv6ExtensionSlice}
use Rattle.ep_ipslice.specs.declared.net.ipv6_extension_slice.Ipv6ExtensionSlice.TheVariants.{HopByHop, Routing}
use Rattle.ep_ipslice.specs.declared.net.ipv6_extension_slice.Ipv6ExtensionSlice.TheVariants.{Fragment}
use Rattle.ep_ipslice.specs.declared.net.ipv6_extension_slice.Ipv6ExtensionSlice.TheVariants.{DestinationOptions}
use Rattle.ep_ipslice.specs.declared.net.ipv6_extension_slice.Ipv6ExtensionSlice.TheVariants.{Authentication}

-- the slot of a header and its bytes
abbrev pub piece_of : Ipv6ExtensionSlice → Piece
piece_of (HopByHop header) = (slot.HopByHop, header)
piece_of (Routing header) = (slot.Routing, header)
piece_of (Fragment header) = (slot.Fragment, header)
piece_of (DestinationOptions header) = (slot.Destination, header)
piece_of (Authentication header) = (slot.Authentication, header)

-- the header of these bytes in a slot
abbrev pub ext_of : Ipv6ExtSlot → List ℕ → Ipv6ExtensionSlice
ext_of slot.HopByHop header = HopByHop header
ext_of slot.Destination header = DestinationOptions header
ext_of slot.Routing header = Routing header
ext_of slot.Fragment header = Fragment header
ext_of slot.Authentication header = Authentication header
ext_of slot.FinalDestination header = DestinationOptions header

-- the length in bytes of the header of a slot with which the bytes start, by its own length field
abbrev pub ext_len : Ipv6ExtSlot → List ℕ → ℕ
ext_len slot.HopByHop bytes = raw_len bytes
ext_len slot.Destination bytes = raw_len bytes
ext_len slot.Routing bytes = raw_len bytes
ext_len slot.Fragment bytes = 8
ext_len slot.Authentication bytes = auth_len bytes
ext_len slot.FinalDestination bytes = raw_len bytes

abbrev pub some_ext : Ipv6ExtSlot → Result (List ℕ) (SliceError HeaderError)
    → Result Ipv6ExtensionSlice (SliceError HeaderError)
some_ext slot (Ok header) = Ok (ext_of slot header)
some_ext slot (Err e) = Err e

-- the header of this slot at the start of the bytes, or why there is none
abbrev pub ext_at : Ipv6ExtSlot → List ℕ → Result Ipv6ExtensionSlice (SliceError HeaderError)
ext_at slot bytes = some_ext slot (prefix_of slot bytes)
