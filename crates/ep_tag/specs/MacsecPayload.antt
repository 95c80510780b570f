-- What a MACsec header makes of the bytes after it (IEEE 802.1AE, clause 9).
use Rattle.std.specs.Prelude.{◌≡◌, ◌<◌, ℕ, ◌+◌, ◌-◌, ◌==◌, nat_lt, if◌then◌else◌, List, [], ◌++◌, length, take, drop}
use Rattle.std.specs.Prelude.{Option, Some, None, Result, Ok, Err}
use Rattle.std.specs.Result.{result_flatten, result_map_both}
use Rattle.ep_base.specs.declared.err.layer.Layer.TheVariants.{MacsecPacket}
use Rattle.ep_base.specs.declared.len_source.LenSource.{LenSource}
use Rattle.ep_base.specs.declared.len_source.LenSource.TheVariants.{Slice, MacsecShortLength}
use Rattle.ep_base.specs.declared.err.slice_error.SliceError.{SliceError}
use Rattle.ep_base.specs.declared.err.slice_error.SliceError.TheVariants.{Len}
use Rattle.ep_tag.specs.declared.err.macsec.header_error.HeaderError.{HeaderError}
use Rattle.ep_tag.specs.Ether.{EtherPayload}
use Rattle.ep_base.specs.LenError.{too_few_bytes}
use Rattle.ep_tag.specs.Macsec.{IsMacsecHeader, ether_type_of, is_unmodified, short_len_of, type_len}
use Rattle.ep_tag.specs.MacsecFault.{header_at}

-- what follows the header: bytes that an ether type names, or bytes that were changed
pub data MacsecPayload : Type 0 where
  Unmodified : EtherPayload → MacsecPayload
  Modified : List ℕ → MacsecPayload

-- the bytes of the header, and what follows it
pub record Macsec : Type 0 where
  pub header : List ℕ
  pub payload : MacsecPayload

-- how many bytes the short length leaves for the payload
abbrev pub payload_len_of : List ℕ → ℕ
payload_len_of header = short_len_of header - type_len header

-- what bounds the payload where no byte of it is missing
abbrev pub source_of : List ℕ → LenSource
source_of header = if short_len_of header == 0 then Slice else MacsecShortLength

-- bytes as the payload of a header
abbrev pub payload_under : List ℕ → List ℕ → MacsecPayload
payload_under header bytes =
    if is_unmodified header then Unmodified
    (record {
      ether_type = ether_type_of header;
      len_source = source_of header;
      payload = bytes;
    })
    else Modified bytes

-- the bytes start with header and payload; a short length above 0 says how long the
-- payload is, and without it the payload is all that follows
pub record IsMacsec (bytes : List ℕ) (macsec : Macsec) : Type 0 where
  pub is-header : IsMacsecHeader macsec.header
  pub payload : List ℕ
  pub beyond : List ℕ
  pub parts : bytes ≡ macsec.header ++ payload ++ beyond
  pub all : short_len_of macsec.header ≡ 0 → beyond ≡ []
  pub size : 0 < short_len_of macsec.header → length payload ≡ payload_len_of macsec.header
  pub kind : macsec.payload ≡ payload_under macsec.header payload

-- the payload's bytes among those after the header
abbrev pub bytes_under : List ℕ → List ℕ → List ℕ
bytes_under header rest = if short_len_of header == 0 then rest
    else take (payload_len_of header) rest

-- header and payload at the start of the bytes, or the first fault: that of the header, then too few
-- bytes after it
abbrev pub macsec_at : List ℕ → Result Macsec (SliceError HeaderError)
macsec_at bytes = result_flatten (result_map_both (λ (header : List ℕ).
    let rest = drop (length header) bytes in
    if nat_lt (length rest) (payload_len_of header)
    then Err (Len (too_few_bytes MacsecPacket (length header + payload_len_of header)
    (length header + length rest)))
    else Ok (record { header = header; payload = payload_under header (bytes_under header rest) }))
    (λ e. e) (header_at bytes))

-- what the header's ether type names, where it has one
abbrev pub named_payload : MacsecPayload → Option EtherPayload
named_payload (Unmodified p) = Some p
named_payload (Modified bytes) = None
