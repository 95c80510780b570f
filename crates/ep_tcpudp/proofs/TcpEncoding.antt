-- The bytes of a TCP header against its fields.
use Rattle.std.proofs.Common.{◌≡◌, ℕ, ◌+◌, ◌*◌, ◌/◌, ◌%◌, ◌^◌, ◌<◌, ◌≤◌, Bool, true, false, eqb, List, length, get_or}
use Rattle.std.proofs.Common.{arith, refl}
use Rattle.ep_base.specs.Bytes.{IsBytes, flag}
use Rattle.ep_tcpudp.specs.Tcp.{IsTcpHeader, tcp_header_of, encoding, with_reserved_bits_zero, flags, data_offset}
use Rattle.ep_tcpudp.specs.Tcp.{data_offset_of, options_of, Fits}
use Rattle.ep_tcpudp.specs.declared.transport.tcp_header.TcpHeader.{TcpHeader}
use Rattle.ep_tcpudp.proofs.TcpPrefix.{options_rest, options_offset, readable_header}
use Rattle.ep_base.proofs.Numbers.{two_again, four_again}
use Rattle.ep_tcpudp.proofs.Words.{half_cells, word_cells}
use Rattle.ep_base.proofs.Bits.{flag_worth}

-- a flag as a number
bit : Bool → ℕ
bit true = 1
bit false = 0

bit_below : (b : Bool) → bit b < 2
unfolding bit
bit_below b = grind arith

eqb_bit : (b : Bool) → eqb (bit b) 1 ≡ b
unfolding bit
eqb_bit b = grind arith

flag-bit : (b : Bool) (w : ℕ) → flag b w ≡ bit b * w
unfolding bit
flag-bit b w = grind arith

-- the flags of a byte make up the byte
flags_are : (n : ℕ) → n < 256 →
    flag (eqb (n / 2 ^ 7 % 2) 1) 128 + flag (eqb (n / 2 ^ 6 % 2) 1) 64 + flag
    (eqb (n / 2 ^ 5 % 2) 1) 32 + flag (eqb (n / 2 ^ 4 % 2) 1) 16 + flag
    (eqb (n / 2 ^ 3 % 2) 1) 8 + flag (eqb (n / 2 ^ 2 % 2) 1) 4 + flag
    (eqb (n / 2 ^ 1 % 2) 1) 2 + flag (eqb (n / 2 ^ 0 % 2) 1) 1 ≡ n
flags_are n h = grind (arith, flag_worth)

-- the bits of a number that eight bits make up
bits_of : (n a b c d e f g h : ℕ)
    → n ≡ a * 128 + b * 64 + c * 32 + d * 16 + e * 8 + f * 4 + g * 2 + h * 1
    → a < 2 → b < 2 → c < 2 → d < 2 → e < 2 → f < 2 → g < 2 → h < 2
    → (n / 2 ^ 7 % 2 ≡ a) × (n / 2 ^ 6 % 2 ≡ b) × (n / 2 ^ 5 % 2 ≡ c) × (n / 2 ^ 4 % 2 ≡ d)
    × (n / 2 ^ 3 % 2 ≡ e) × (n / 2 ^ 2 % 2 ≡ f) × (n / 2 ^ 1 % 2 ≡ g) × (n / 2 ^ 0 % 2 ≡ h)
bits_of n a b c d e f g h is pa pb pc pd pe pf pg ph = grind arith

flags_bits : (h : TcpHeader)
    → flags h ≡ bit h.cwr * 128 + bit h.ece * 64 + bit h.urg * 32 + bit h.ack * 16 + bit
    h.psh * 8 + bit h.rst * 4 + bit h.syn * 2 + bit h.fin * 1
flags_bits h = grind (arith, flag-bit)

offset_and_ns : (n rest : ℕ) → rest ≡ n / 16
    → rest * 16 + flag (eqb (n / 2 ^ 0 % 2) 1) 1 ≡ n / 16 * 16 + n % 2
offset_and_ns n rest e = rw (flag_worth (n / 2 ^ 0 % 2) 1 (omega arith)) (omega arith)

-- what is read from the bytes of a header is encoded so, with the reserved bits as 0
pub encoding-tcp_header_of : (bytes : List ℕ) → IsTcpHeader bytes → IsBytes bytes
    → encoding (tcp_header_of bytes) ≡ with_reserved_bits_zero bytes
encoding-tcp_header_of bytes header fits =
    let least : 20 ≤ length bytes = omega (arith, header.minimum, header.whole) in
    let words : 5 + length (options_of bytes) / 4 ≡ data_offset_of bytes =
    options_offset bytes (options_of bytes) (readable_header bytes header) refl in
    let offset = offset_and_ns (get_or bytes 12 0) (5 + length (options_of bytes) / 4) words in
    let flags = flags_are (get_or bytes 13 0) (fits 13) in
    let rest = options_rest bytes header in
    let value : ℕ = get_or bytes 12 0 / 16 * 16 + get_or bytes 12 0 % 2 in
    let half = λ (p : ℕ). half_cells p bytes fits in
    let word = λ (p : ℕ). word_cells p bytes fits in
    grind arith

offset_again : (len : ℕ) (ns : Bool) → ((5 + len / 4) * 16 + flag ns 1) / 16 ≡ 5 + len / 4
offset_again len ns = grind arith

ns_bit : (n b : ℕ) → b < 2 → (n * 16 + b * 1) / 2 ^ 0 % 2 ≡ b
ns_bit n b h = omega arith

ns_again : (n : ℕ) (ns : Bool) → eqb ((n * 16 + flag ns 1) / 2 ^ 0 % 2) 1 ≡ ns
ns_again n ns = rw (flag-bit ns 1, ns_bit n (bit ns) (bit_below ns)) (eqb_bit ns)

-- the bytes of a header are a header
pub IsTcpHeader-encoding : (h : TcpHeader) → Fits h → IsTcpHeader (encoding h)
IsTcpHeader-encoding h fits = record {
  minimum = rw (offset_again (length h.options) h.ns) (omega arith);
  whole = rw (offset_again (length h.options) h.ns) (omega (arith, fits.options.words));
}

-- the fields are read again
pub tcp_header_of-encoding : (h : TcpHeader) → Fits h → tcp_header_of (encoding h) ≡ h
tcp_header_of-encoding h fits =
    let source_port = two_again h.source_port fits.source_port in
    let destination_port = two_again h.destination_port fits.destination_port in
    let sequence_number = four_again h.sequence_number fits.sequence_number in
    let acknowledgment_number = four_again h.acknowledgment_number fits.acknowledgment_number in
    let ns = ns_again (data_offset h) h.ns in
    let bits = bits_of (flags h) (bit h.cwr) (bit h.ece) (bit h.urg) (bit h.ack)
    (bit h.psh) (bit h.rst) (bit h.syn) (bit h.fin) (flags_bits h)
    (bit_below h.cwr) (bit_below h.ece) (bit_below h.urg) (bit_below h.ack)
    (bit_below h.psh) (bit_below h.rst) (bit_below h.syn) (bit_below h.fin) in
    let cwr : eqb (flags h / 2 ^ 7 % 2) 1 ≡ h.cwr = rw bits.0 (eqb_bit h.cwr) in
    let ece : eqb (flags h / 2 ^ 6 % 2) 1 ≡ h.ece = rw bits.1 (eqb_bit h.ece) in
    let urg : eqb (flags h / 2 ^ 5 % 2) 1 ≡ h.urg = rw bits.2 (eqb_bit h.urg) in
    let ack : eqb (flags h / 2 ^ 4 % 2) 1 ≡ h.ack = rw bits.3 (eqb_bit h.ack) in
    let psh : eqb (flags h / 2 ^ 3 % 2) 1 ≡ h.psh = rw bits.4 (eqb_bit h.psh) in
    let rst : eqb (flags h / 2 ^ 2 % 2) 1 ≡ h.rst = rw bits.5 (eqb_bit h.rst) in
    let syn : eqb (flags h / 2 ^ 1 % 2) 1 ≡ h.syn = rw bits.6 (eqb_bit h.syn) in
    let fin : eqb (flags h / 2 ^ 0 % 2) 1 ≡ h.fin = rw bits.7 (eqb_bit h.fin) in
    let window_size = two_again h.window_size fits.window_size in
    let checksum = two_again h.checksum fits.checksum in
    let urgent_pointer = two_again h.urgent_pointer fits.urgent_pointer in
    let options = options_rest (encoding h) (IsTcpHeader-encoding h fits) in
    grind arith
