-- Bytes that start with no packet have one first fault.
use Rattle.std.proofs.Common.{◌≡◌, ℕ, ◌<◌, ◌-◌, List, ◌∷◌, length, take, drop, refl, sym, ap, ◌∙◌, arith, []}
use Rattle.ep_base.proofs.Prefixes.{ok_same, err_same, ok_err}
use Rattle.ep_ip.specs.Ipv4.{version_of}
use Rattle.ep_ip.specs.Ipv6.{next_header_of}
use Rattle.ep_ext.specs.Chain.{Chain}
use Rattle.ep_ext.specs.Slot.{Order}
use Rattle.ep_ipslice.specs.IpSlice.{IsIpFaultIn, NoBytes, OtherVersion, OfIpv4, OfIpv6, ipv4_fault, ipv6_fault}
use Rattle.ep_ipslice.specs.Ipv6Fault.{IsFaultIn, IsRowFault, OfHeader, OfLength, OfExtensions}
use Rattle.ep_ipslice.specs.Packet.{body_len}
use Rattle.ep_ipslice.specs.declared.err.ip.slice_error.SliceError.{SliceError as IpFault}
use Rattle.ep_ipslice.specs.declared.err.ipv6.slice_error.SliceError.{SliceError}
use Rattle.ep_ipslice.proofs.IpParts.{four_six}
use Rattle.ep_ipslice.proofs.ViewWalk.{ChainAlone}

-- the row of one header ends at one fault
row_fault_alone : ChainAlone → (order : Order) (bytes header other : List ℕ) (e f : SliceError)
    → header ≡ other → IsRowFault order bytes header e → IsRowFault order bytes other f → e ≡ f
row_fault_alone alone order bytes header other e f same p q =
    let following : ℕ = length bytes - 40 in
    let chain : Chain order (next_header_of header)
    (take (body_len header following) (drop 40 bytes)) q.pieces q.last q.rest =
    grind arith in
    let one = alone order (next_header_of header)
    (take (body_len header following) (drop 40 bytes)) p.pieces q.pieces p.last q.last p.rest
    q.rest p.chain chain in
    let fault : p.fault ≡ q.fault =
    grind arith in
    grind arith

pub ipv6_fault_alone : ChainAlone → (order : Order) (bytes : List ℕ) (e f : SliceError)
    → IsFaultIn order bytes e → IsFaultIn order bytes f → e ≡ f
ipv6_fault_alone alone order bytes e f (OfHeader a at_a is_a) (OfHeader b at_b is_b) = grind arith
ipv6_fault_alone alone order bytes e f (OfHeader a at_a is_a) (OfLength h at_h cut) = grind arith
ipv6_fault_alone alone order bytes e f (OfHeader a at_a is_a) (OfExtensions h at_h row) =
    absurd (ok_err h a (sym at_h ∙ at_a))
ipv6_fault_alone alone order bytes e f (OfLength h at_h cut) (OfHeader b at_b is_b) = grind arith
ipv6_fault_alone alone order bytes e f (OfLength h at_h cut) (OfLength k at_k other) = grind arith
ipv6_fault_alone alone order bytes e f (OfLength h at_h cut) (OfExtensions k at_k row) = grind arith
ipv6_fault_alone alone order bytes e f (OfExtensions h at_h row) (OfHeader b at_b is_b) =
    absurd (ok_err h b (sym at_h ∙ at_b))
ipv6_fault_alone alone order bytes e f (OfExtensions h at_h row) (OfLength k at_k cut) = grind arith
ipv6_fault_alone alone order bytes e f (OfExtensions h at_h row) (OfExtensions k at_k other) =
    row_fault_alone alone order bytes h k e f (ok_same h k (sym at_h ∙ at_k)) row other

-- where there are no bytes, the version is neither
version_at_end : (bytes : List ℕ) → length bytes ≡ 0 → version_of bytes ≡ 0
version_at_end [] len = refl
version_at_end (x ∷ xs) len = absurd (omega arith)

not_four : (bytes : List ℕ) → length bytes ≡ 0 → version_of bytes ≡ 4 → ⊥
not_four bytes len four = omega (arith, version_at_end bytes len, four)

none_some : (n : ℕ) → n ≡ 0 → 0 < n → ⊥
none_some n none some = omega arith

pub ip_fault_alone : ChainAlone → (order : Order) (bytes : List ℕ) (e f : IpFault)
    → IsIpFaultIn order bytes e → IsIpFaultIn order bytes f → e ≡ f
ip_fault_alone alone order bytes e f (NoBytes none is) (NoBytes none2 is2) = is ∙ sym is2
ip_fault_alone alone order bytes e f (NoBytes none is) (OtherVersion some other4 other6 is2) =
    absurd (none_some (length bytes) none some)
ip_fault_alone alone order bytes e f (NoBytes none is) (OfIpv4 fault four at is2) =
    absurd (not_four bytes none four)
ip_fault_alone alone order bytes e f (NoBytes none is) (OfIpv6 fault six at is2) = grind arith
ip_fault_alone alone order bytes e f (OtherVersion some other4 other6 is) (NoBytes none is2) =
    absurd (none_some (length bytes) none some)
ip_fault_alone alone order bytes e f (OtherVersion some other4 other6 is)
    (OtherVersion some2 not4 not6 is2) = is ∙ sym is2
ip_fault_alone alone order bytes e f (OtherVersion some other4 other6 is)
    (OfIpv4 fault four at is2) = absurd (other4 four)
ip_fault_alone alone order bytes e f (OtherVersion some other4 other6 is)
    (OfIpv6 fault six at is2) = absurd (other6 six)
ip_fault_alone alone order bytes e f (OfIpv4 fault four at is) (NoBytes none is2) =
    absurd (not_four bytes none four)
ip_fault_alone alone order bytes e f (OfIpv4 fault four at is)
    (OtherVersion some other4 other6 is2) = absurd (other4 four)
ip_fault_alone alone order bytes e f (OfIpv4 fault four at is) (OfIpv4 fault2 four2 at2 is2) =
    is ∙ ap ipv4_fault (err_same fault fault2 (sym at ∙ at2)) ∙ sym is2
ip_fault_alone alone order bytes e f (OfIpv4 fault four at is) (OfIpv6 fault2 six at2 is2) =
    absurd (four_six (version_of bytes) four six)
ip_fault_alone alone order bytes e f (OfIpv6 fault six at is) (NoBytes none is2) = grind arith
ip_fault_alone alone order bytes e f (OfIpv6 fault six at is)
    (OtherVersion some other4 other6 is2) = absurd (other6 six)
ip_fault_alone alone order bytes e f (OfIpv6 fault six at is) (OfIpv4 fault2 four at2 is2) =
    absurd (four_six (version_of bytes) four six)
ip_fault_alone alone order bytes e f (OfIpv6 fault six at is) (OfIpv6 fault2 six2 at2 is2) =
    is ∙ ap ipv6_fault (ipv6_fault_alone alone order bytes fault fault2 at at2) ∙ sym is2
