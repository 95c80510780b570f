-- The bytes of the header of a Linux cooked capture against its fields.
use Rattle.std.proofs.Common.{◌≡◌, ℕ, ◌+◌, ◌*◌, ◌/◌, ◌%◌, List, ◌∷◌, ◌++◌, length, get_or, arith, sym, ap, ◌∙◌, []}
use Rattle.std.proofs.lemmas.List.{length-append, take_at}
use Rattle.ep_base.specs.Bytes.{IsBytes}
use Rattle.ep_base.proofs.Cells.{as_cells, take-drop-cells}
use Rattle.ep_link.specs.Sll.{IsSllHeader, NamesProtocol, Fits, sll_header_of, protocol_number, protocol_of, encoding}
use Rattle.ep_link.specs.declared.link.arp_hardware_id.ArpHardwareId.{ArpHardwareId}
use Rattle.ep_link.specs.declared.link.linux_sll_header.LinuxSllHeader.{LinuxSllHeader}
use Rattle.ep_link.proofs.EthernetEncoding.{at_after_prefix}
use Rattle.ep_base.proofs.Numbers.{high_of, low_of, two_again}

-- the number stays, whatever the hardware type makes of it
pub number-protocol_of : (hardware : ArpHardwareId) (n : ℕ) → protocol_number (protocol_of hardware n) ≡ n
number-protocol_of hardware n = grind arith

-- the fields that are read from a header encode its bytes
pub encoding-sll_header_of : (bytes : List ℕ) → IsSllHeader bytes → IsBytes bytes
    → encoding (sll_header_of bytes) ≡ bytes
encoding-sll_header_of bytes is fits =
    rw (
      number-protocol_of (record { 0 = 256 * get_or bytes 2 0 + get_or bytes 3 0 })
          (256 * get_or bytes 14 0 + get_or bytes 15 0),
      high_of (get_or bytes 0 0) (get_or bytes 1 0) (fits 0) (fits 1),
      low_of (get_or bytes 0 0) (get_or bytes 1 0) (fits 1),
      high_of (get_or bytes 2 0) (get_or bytes 3 0) (fits 2) (fits 3),
      low_of (get_or bytes 2 0) (get_or bytes 3 0) (fits 3),
      high_of (get_or bytes 4 0) (get_or bytes 5 0) (fits 4) (fits 5),
      low_of (get_or bytes 4 0) (get_or bytes 5 0) (fits 5),
      take-drop-cells 8 6 bytes (omega (arith, is.whole)),
      high_of (get_or bytes 14 0) (get_or bytes 15 0) (fits 14) (fits 15),
      low_of (get_or bytes 14 0) (get_or bytes 15 0) (fits 15),
    )
    (sym (as_cells 16 bytes is.whole))

-- the bytes that fields encode are a header
pub IsSllHeader-encoding : (h : LinuxSllHeader) → Fits h → IsSllHeader (encoding h)
IsSllHeader-encoding h fits = record {
  packet_type = grind arith;
  whole = grind (arith, length-append);
}

-- the fields are read again, where hardware type and number name the protocol
pub sll_header_of-encoding : (h : LinuxSllHeader) → Fits h → NamesProtocol h
    → sll_header_of (encoding h) ≡ h
sll_header_of-encoding h fits names =
    let n = protocol_number h.protocol_type in
    let tail : List ℕ = n / 256 % 256 ∷ n % 256 ∷ [] in
    let packet_type = two_again h.packet_type (omega (arith, fits.packet_type)) in
    let hardware = two_again h.arp_hrd_type.0 fits.hardware_type in
    let address_len = two_again h.sender_address_valid_length fits.address_len in
    let address = take_at h.sender_address tail 8 fits.address in
    let high = at_after_prefix h.sender_address tail 8 0 fits.address in
    let low = at_after_prefix h.sender_address tail 8 1 fits.address in
    let number = (λ i. 256 * high i + low i) ∙ two_again n fits.number in
    let kind = (λ i. protocol_of (record { 0 = hardware i }) (number i)) ∙ names in
    grind arith

-- the list that the code makes
pub put_together : (a b c d e f : ℕ) (s : List ℕ) (g h : ℕ) → length s ≡ 8 →
    a ∷ b ∷ c ∷ d ∷ e ∷ f ∷ get_or s 0 0 ∷ get_or s 1 0 ∷ get_or s 2 0 ∷ get_or s 3 0 ∷
    get_or s 4 0 ∷ get_or s 5 0 ∷ get_or s 6 0 ∷ get_or s 7 0 ∷ g ∷ h ∷ []
    ≡ a ∷ b ∷ c ∷ d ∷ e ∷ f ∷ (s ++ (g ∷ h ∷ []))
put_together a b c d e f s g h len =
    sym (ap (λ (xs : List ℕ). a ∷ b ∷ c ∷ d ∷ e ∷ f ∷ (xs ++ (g ∷ h ∷ []))) (as_cells 8 s len))
