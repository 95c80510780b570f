-- The bytes of a UDP header against its fields.
use Rattle.std.proofs.Common.{arith, ◌≡◌, ℕ, List, ◌++◌, sym, refl, ◌∙◌}
use Rattle.ep_base.specs.Bytes.{IsBytes}
use Rattle.ep_tcpudp.specs.Udp.{IsUdpHeader, udp_header_of, encoding, Fits}
use Rattle.ep_tcpudp.specs.declared.transport.udp_header.UdpHeader.{UdpHeader}
use Rattle.ep_base.proofs.Cells.{as_cells}
use Rattle.ep_tcpudp.proofs.Words.{half_cells}

-- what is read from the bytes of a header is encoded by them
pub encoding-udp_header_of : (bytes : List ℕ) → IsUdpHeader bytes → IsBytes bytes
    → encoding (udp_header_of bytes) ≡ bytes
encoding-udp_header_of bytes header fits =
    let half = λ (p : ℕ). half_cells p bytes fits in
    (λ i. half 0 i ++ (half 2 i ++ (half 4 i ++ half 6 i))) ∙ sym (as_cells 8 bytes header.whole)

-- the fields are read again
pub udp_header_of-encoding : (h : UdpHeader) → Fits h → udp_header_of (encoding h) ≡ h
udp_header_of-encoding h fits = grind arith

pub IsUdpHeader-encoding : (h : UdpHeader) → IsUdpHeader (encoding h)
IsUdpHeader-encoding h = record { whole = refl }
