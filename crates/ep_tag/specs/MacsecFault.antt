-- Why bytes do not begin with a MACsec header (IEEE 802.1AE, clause 9).
use Rattle.std.specs.Prelude.{ℕ, List, length, take, nat_lt, Result, ◌∷◌, []}
use Rattle.ep_base.specs.declared.err.layer.Layer.TheVariants.{MacsecHeader}
use Rattle.ep_tag.specs.declared.err.macsec.header_error.HeaderError.TheVariants.{UnexpectedVersion}
use Rattle.ep_tag.specs.declared.err.macsec.header_error.HeaderError.TheVariants.{InvalidUnmodifiedShortLen}
use Rattle.ep_base.specs.declared.err.slice_error.SliceError.{SliceError}
use Rattle.ep_base.specs.declared.err.slice_error.SliceError.TheVariants.{Len, Content}
use Rattle.ep_tag.specs.declared.err.macsec.header_error.HeaderError.{HeaderError}
use Rattle.ep_base.specs.LenError.{too_few_bytes}
use Rattle.ep_base.specs.Refusals.{unless_refused}
use Rattle.ep_tag.specs.Macsec.{has_no_room, header_len_of, version_of}

-- the header at the start of the bytes, or the first fault: 6 bytes, version, room for the ether
-- type, whole header
abbrev pub header_at : List ℕ → Result (List ℕ) (SliceError HeaderError)
header_at bytes = unless_refused (
    (nat_lt (length bytes) 6, Len (too_few_bytes MacsecHeader 6 (length bytes)))
    ∷ (version_of bytes, Content UnexpectedVersion)
    ∷ (has_no_room bytes, Content InvalidUnmodifiedShortLen)
    ∷ (
      nat_lt (length bytes) (header_len_of bytes),
      Len (too_few_bytes MacsecHeader (header_len_of bytes) (length bytes)),
    )
    ∷ []) (take (header_len_of bytes) bytes)
