-- The offset of a fault lies within the bytes, so that the length of what comes before them can be
-- added to it.
use Rattle.std.proofs.Common.{◌≡◌, ◌∙◌, sym, ap, subst, ℕ, ◌+◌, ◌-◌, ◌<◌, ◌≤◌, ◌^◌, List, length, drop, Some}
use Rattle.std.proofs.Common.{Result, Err, IfErr, arith}
use Rattle.std.proofs.lemmas.List.{length-drop}
use Rattle.ep_ip.specs.Ipv6Fault as v6
use Rattle.ep_base.specs.declared.err.slice_error.SliceError.{SliceError as HeaderSliceError}
use Rattle.ep_base.specs.declared.err.slice_error.SliceError.TheVariants as slice_error
use Rattle.ep_ext.specs.Auth.{auth_at}
use Rattle.ep_ext.specs.Chain.{Chain, Fault, fault_of}
use Rattle.ep_ext.specs.Ipv4Exts.{auth_after}
use Rattle.ep_base.specs.SliceError.{CanMove}
use Rattle.ep_ext.specs.Slot.{Order}
use Rattle.ep_ext.specs.Value.{Piece}
use Rattle.ep_ext.specs.declared.err.ip_auth.header_error.HeaderError.{HeaderError as AuthFault}
use Rattle.ep_ext.specs.declared.err.ipv6_exts.header_error.HeaderError.{HeaderError as ExtsFault}
use Rattle.ep_base.specs.declared.len_source.LenSource.{LenSource}
use Rattle.ep_ipslice.specs.FaultOffset.{ip_offset, ipv4_offset, ipv6_offset}
use Rattle.ep_ipslice.specs.IpSlice.{IsIpFaultIn, NoBytes, OtherVersion, OfIpv4, OfIpv6, ipv4_fault, ipv6_fault}
use Rattle.ep_ipslice.specs.Ipv4Packet.{ipv4_packet_at, of_auth_fault}
use Rattle.ep_ipslice.specs.Ipv6Fault as ipv6
use Rattle.ep_ipslice.specs.Ipv6Fault.{IsFaultIn, OfHeader, OfLength, OfExtensions}
use Rattle.ep_ipslice.specs.Ipv6Packet.{body_of}
use Rattle.ep_ipslice.specs.Packet.{body_len}
use Rattle.ep_ipslice.specs.declared.err.ip.slice_error.SliceError.{SliceError}
use Rattle.ep_ipslice.specs.declared.err.ipv4.slice_error.SliceError.{SliceError as Ipv4Fault}
use Rattle.ep_ipslice.specs.declared.err.ipv6.slice_error.SliceError.{SliceError as Ipv6Fault}
use Rattle.ep_base.proofs.Cells.{take_fits}

-- laws of faults of extension headers, as they are called
abbrev pub AuthMoves : Type 0
AuthMoves = (bytes : List ℕ) (error : HeaderSliceError AuthFault) (n : ℕ)
    → auth_at bytes ≡ Err error → n < 2 ^ 64 → CanMove error n

abbrev pub RowMoves : Type 0
RowMoves = (order : Order) (first : ℕ) (bytes : List ℕ) (pieces : List Piece) (last : ℕ)
    (rest : List ℕ) (fault : Fault) (n : ℕ) →
    Chain order first bytes pieces last rest → fault_of order pieces last rest ≡ Some fault
    → length bytes + n < 2 ^ 64 → CanMove fault.0 n

of_err : {A E : Type 0} (P : E → Type 0) (r : Result A E) (e : E) → r ≡ Err e → IfErr r P → P e
of_err P r e is each = subst (λ (x : Result _ _). IfErr x P) is each

-- the body of a packet lies within the bytes after the header
pub body_fits : (bytes header : List ℕ) → length (body_of bytes header) ≤ length bytes - 40
body_fits bytes header = omega (
  arith,
  take_fits (body_len header (length bytes - 40)) (drop 40 bytes),
  length-drop 40 bytes,
)

v6_at_start : (bytes : List ℕ)
    → IfErr (v6.header_at bytes) (λ e. ipv6_offset (ipv6.of_header_fault e) ≡ 0)
v6_at_start bytes = grind arith

-- the offset can be counted from n bytes earlier
abbrev Fits : ℕ → List ℕ → Type 0
Fits offset bytes = (n : ℕ) → length bytes + n < 2 ^ 64 → offset + n < 2 ^ 64

zero_fits : (offset : ℕ) (bytes : List ℕ) → offset ≡ 0 → Fits offset bytes
zero_fits offset bytes zero n fits = omega (arith, zero, fits)

auth_fits : AuthMoves → (bytes header body : List ℕ) (number : ℕ) → length header ≤ length bytes
    → IfErr (auth_after number body)
    (λ e. Fits (ipv4_offset (of_auth_fault (length header) e)) bytes)
auth_fits moves bytes header body number short = grind arith

pub ipv4_fits : AuthMoves → (bytes : List ℕ) (e : Ipv4Fault) → ipv4_packet_at bytes ≡ Err e
    → Fits (ipv4_offset e) bytes
ipv4_fits moves bytes e is = grind arith

-- a fault of the extension headers, in a body that ends within the bytes
exts_fits : (bytes : List ℕ) (source : LenSource) (e : HeaderSliceError ExtsFault)
    → 40 ≤ length bytes → ((n : ℕ) → length bytes - 40 + n < 2 ^ 64 → CanMove e n)
    → Fits (ipv6_offset (ipv6.of_exts_fault source e)) bytes
exts_fits bytes source (slice_error.Len e) enough moves n fits =
    omega (arith, moves (40 + n) (omega (arith, enough, fits)), fits)
exts_fits bytes source (slice_error.Content e) enough moves n fits = omega (arith, fits)

pub ipv6_fits : RowMoves → (order : Order) (bytes : List ℕ) (e : Ipv6Fault)
    → IsFaultIn order bytes e → Fits (ipv6_offset e) bytes
ipv6_fits moves order bytes e (OfHeader fault is error) =
    zero_fits (ipv6_offset e) bytes (ap ipv6_offset error
    ∙ of_err (λ f. ipv6_offset (ipv6.of_header_fault f) ≡ 0)
    (v6.header_at bytes) fault is (v6_at_start bytes))
ipv6_fits moves order bytes e (OfLength header is short) =
    zero_fits (ipv6_offset e) bytes (ap ipv6_offset short.error)
ipv6_fits moves order bytes e (OfExtensions header is row) =
    let enough : 40 ≤ length bytes =
    grind arith in
    subst (λ (f : Ipv6Fault). Fits (ipv6_offset f) bytes) (sym row.error)
    (exts_fits bytes _ row.fault.0 enough
    (λ n fits. moves order _ (body_of bytes header) row.pieces row.last row.rest row.fault n
    row.chain row.found (omega (arith, body_fits bytes header, fits))))

-- the fault of a version is at the same offset
ipv4_same : (e : Ipv4Fault) → ip_offset (ipv4_fault e) ≡ ipv4_offset e
ipv4_same e = grind arith

ipv6_same : (e : Ipv6Fault) → ip_offset (ipv6_fault e) ≡ ipv6_offset e
ipv6_same e = grind arith

pub ip_fits : AuthMoves → RowMoves → (order : Order) (bytes : List ℕ) (e : SliceError)
    → IsIpFaultIn order bytes e → Fits (ip_offset e) bytes
ip_fits auths rows order bytes e (NoBytes none error) n fits =
    zero_fits (ip_offset e) bytes (ap ip_offset error) n fits
ip_fits auths rows order bytes e (OtherVersion some four six error) n fits =
    zero_fits (ip_offset e) bytes (ap ip_offset error) n fits
ip_fits auths rows order bytes e (OfIpv4 fault version is error) n fits =
    omega (arith, ipv4_fits auths bytes fault is n fits, ap ip_offset error ∙ ipv4_same fault)
ip_fits auths rows order bytes e (OfIpv6 fault version is error) n fits =
    omega (arith, ipv6_fits rows order bytes fault is n fits, ap ip_offset error ∙ ipv6_same fault)
