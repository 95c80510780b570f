-- Why bytes start with no UDP header, or with no datagram (RFC 768).
use Rattle.std.specs.Prelude.{ℕ, ◌==◌, ◌&&◌, not, nat_lt, if◌then◌else◌, List, [], ◌∷◌, length, take, Result, Ok, Err}
use Rattle.ep_base.specs.LenError.{too_few_bytes}
use Rattle.ep_base.specs.Refusals.{unless_refused}
use Rattle.ep_base.specs.declared.err.layer.Layer.TheVariants.{UdpHeader, UdpPayload}
use Rattle.ep_base.specs.declared.err.len_error.LenError.{LenError}
use Rattle.ep_base.specs.declared.len_source.LenSource.TheVariants.{UdpHeaderLen}
use Rattle.ep_tcpudp.specs.Udp.{lax_summed_udp, length_of, summed_udp}

-- the header at the start of the bytes, or that bytes are missing
abbrev pub header_at : List ℕ → Result (List ℕ) LenError
header_at bytes = if nat_lt (length bytes) 8 then Err (too_few_bytes UdpHeader 8 (length bytes))
    else Ok (take 8 bytes)

-- the datagram at the start of the bytes, or the first fault: too few bytes for a header, or for what
-- the length field says, or a length field that counts no whole header
abbrev pub udp_at : List ℕ → Result (List ℕ) LenError
udp_at bytes = unless_refused (
    (nat_lt (length bytes) 8, too_few_bytes UdpHeader 8 (length bytes))
    ∷ (
      nat_lt (length bytes) (length_of bytes),
      too_few_bytes UdpPayload (length_of bytes) (length bytes),
    )
    ∷ (
      not (length_of bytes == 0) && nat_lt (length_of bytes) 8,
      record (too_few_bytes UdpHeader 8 (length_of bytes)) { len_source = UdpHeaderLen },
    )
    ∷ []) (summed_udp bytes)

-- what there is of the datagram at the start of the bytes, or that bytes of its header are missing
abbrev pub lax_udp_at : List ℕ → Result (List ℕ) LenError
lax_udp_at bytes = unless_refused (
    (nat_lt (length bytes) 8, too_few_bytes UdpHeader 8 (length bytes)) ∷ []) (lax_summed_udp bytes)
