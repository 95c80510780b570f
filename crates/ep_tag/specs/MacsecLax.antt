-- What a MACsec header makes of the bytes after it, as far as they are there (IEEE 802.1AE, clause 9).
use Rattle.std.specs.Prelude.{ℕ, Bool, true, false, nat_lt, if◌then◌else◌, List, length, drop}
use Rattle.std.specs.Prelude.{Option, Some, None, Result, Ok, Err}
use Rattle.ep_base.specs.declared.len_source.LenSource.{LenSource}
use Rattle.ep_base.specs.declared.len_source.LenSource.TheVariants.{Slice}
use Rattle.ep_base.specs.declared.err.slice_error.SliceError.{SliceError}
use Rattle.ep_tag.specs.declared.err.macsec.header_error.HeaderError.{HeaderError}
use Rattle.ep_tag.specs.Ether.{LaxEtherPayload, complete_ether, present_ether}
use Rattle.ep_tag.specs.Macsec.{ether_type_of, is_unmodified}
use Rattle.ep_tag.specs.MacsecFault.{header_at}
use Rattle.ep_tag.specs.MacsecPayload.{Macsec, MacsecPayload, Modified, Unmodified, bytes_under, payload_len_of, source_of}

-- what there is of the bytes after the header, and whether some are missing
pub data LaxMacsecPayload : Type 0 where
  LaxUnmodified : LaxEtherPayload → LaxMacsecPayload
  LaxModified : Bool → List ℕ → LaxMacsecPayload

-- the bytes of the header, and what there is of what follows it
pub record LaxMacsec : Type 0 where
  pub header : List ℕ
  pub payload : LaxMacsecPayload

-- a payload of which nothing is missing
abbrev pub complete_payload : MacsecPayload → LaxMacsecPayload
complete_payload (Unmodified p) = LaxUnmodified (complete_ether p)
complete_payload (Modified bytes) = LaxModified false bytes

abbrev pub complete : Macsec → LaxMacsec
complete m = record { header = m.header; payload = complete_payload m.payload }

-- the payload, where nothing of it is missing
abbrev pub complete_in : LaxMacsecPayload → Option MacsecPayload
complete_in (LaxUnmodified p) = if p.incomplete then None else Some (Unmodified (present_ether p))
complete_in (LaxModified incomplete bytes) = if incomplete then None else Some (Modified bytes)

-- bytes as what there is of the payload of a header
abbrev pub lax_payload_under : List ℕ → Bool → LenSource → List ℕ → LaxMacsecPayload
lax_payload_under header incomplete source bytes =
    if is_unmodified header then LaxUnmodified
    (record {
      incomplete = incomplete;
      ether_type = ether_type_of header;
      len_source = source;
      payload = bytes;
    })
    else LaxModified incomplete bytes

-- a header and what there is of its payload: all bytes after the header, where they are fewer than
-- the short length leaves for it
abbrev pub lax_macsec_with : List ℕ → List ℕ → LaxMacsec
lax_macsec_with header rest = record {
  header = header;
  payload = if nat_lt (length rest) (payload_len_of header)
      then lax_payload_under header true Slice rest
      else lax_payload_under header false (source_of header) (bytes_under header rest);
}

abbrev pub lax_macsec_after : List ℕ → Result (List ℕ) (SliceError HeaderError)
    → Result LaxMacsec (SliceError HeaderError)
lax_macsec_after bytes (Ok header) = Ok (lax_macsec_with header (drop (length header) bytes))
lax_macsec_after bytes (Err e) = Err e

-- the header at the start of the bytes and what there is of its payload, or the header's first fault
abbrev pub lax_macsec_at : List ℕ → Result LaxMacsec (SliceError HeaderError)
lax_macsec_at bytes = lax_macsec_after bytes (header_at bytes)

-- what there is of what the header's ether type names, where it has one
abbrev pub lax_named_payload : LaxMacsecPayload → Option LaxEtherPayload
lax_named_payload (LaxUnmodified p) = Some p
lax_named_payload (LaxModified incomplete bytes) = None
