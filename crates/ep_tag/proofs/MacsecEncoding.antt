-- The bytes of a MACsec header against its fields.
use Rattle.std.proofs.Common.{◌≡◌, ℕ, ◌+◌, ◌*◌, ◌/◌, ◌%◌, ◌^◌, ◌<◌, ◌≤◌, ◌&&◌, Bool, true, false, [], not, cond, eqb}
use Rattle.std.proofs.Common.{List, ◌∷◌, ◌++◌, length, drop, get_or, set, Option, Some, None, arith, sym, refl, ap, ◌∙◌}
use Rattle.std.specs.Int.{byte_at}
use Rattle.std.specs.Prelude.{is_some}
use Rattle.std.proofs.lemmas.List.{append-nil, drop_all}
use Rattle.ep_base.specs.Bytes.{IsBytes}
use Rattle.ep_base.proofs.Cells.{cells, drop-cells}
use Rattle.ep_base.specs.declared.link.ether_type.EtherType.{EtherType}
use Rattle.ep_tag.specs.Macsec.{IsMacsecHeader, HasRoom, Fits, TypeFits, has_sci, macsec_header_of, first_byte}
use Rattle.ep_tag.specs.Macsec.{is_changed, is_encrypted, ptype_of, ptype_encoding, sci_of, sci_encoding, encoding}
use Rattle.ep_tag.specs.Macsec.{version_of, with_unused_bits_zero}
use Rattle.ep_tag.specs.declared.link.macsec_header.MacsecHeader.{MacsecHeader}
use Rattle.ep_tag.specs.declared.link.macsec_p_type.MacsecPType.{MacsecPType}
use Rattle.ep_tag.specs.declared.link.macsec_p_type.MacsecPType.TheVariants as ptype
use Rattle.ep_base.proofs.Numbers.{digits_of, four_again, two_again}

-- a flag as a bit
abbrev bit : Bool → ℕ
bit true = 1
bit false = 0

eqb-bit : (b : Bool) → eqb (bit b) 1 ≡ b
eqb-bit b = grind arith

-- the two bits of a kind of payload
abbrev encrypted_in : MacsecPType → Bool
encrypted_in (ptype.Unmodified t) = false
encrypted_in ptype.Modified = false
encrypted_in ptype.Encrypted = true
encrypted_in ptype.EncryptedUnmodified = true

abbrev changed_in : MacsecPType → Bool
changed_in (ptype.Unmodified t) = false
changed_in ptype.Modified = true
changed_in ptype.Encrypted = true
changed_in ptype.EncryptedUnmodified = false

-- the bits of a number that is the sum of their weights
record Bits (n a b c d e an : ℕ) : Type 0 where
  version : n / 2 ^ 7 % 2 ≡ 0
  es : n / 2 ^ 6 % 2 ≡ a
  sc : n / 2 ^ 5 % 2 ≡ b
  scb : n / 2 ^ 4 % 2 ≡ c
  encrypted : n / 2 ^ 3 % 2 ≡ d
  changed : n / 2 ^ 2 % 2 ≡ e
  number : n % 2 ^ 2 ≡ an

bits_of : (n a b c d e an : ℕ) → a ≤ 1 → b ≤ 1 → c ≤ 1 → d ≤ 1 → e ≤ 1 → an ≤ 3
    → n ≡ 64 * a + 32 * b + 16 * c + 8 * d + 4 * e + an → Bits n a b c d e an
bits_of n a b c d e an ha hb hc hd he hn is = grind arith

bits_in : (h : MacsecHeader) → h.an ≤ 3 →
    Bits (first_byte h) (bit h.endstation_id) (bit (is_some h.sci)) (bit h.scb)
    (bit (encrypted_in h.ptype)) (bit (changed_in h.ptype)) h.an
bits_in h small = grind arith

-- the flags are read again
flag_again : (n : ℕ) (b : Bool) → n ≡ bit b → eqb n 1 ≡ b
flag_again n b e = ap (λ k. eqb k 1) e ∙ eqb-bit b

has_sci-encoding : (h : MacsecHeader) → h.an ≤ 3 → has_sci (encoding h) ≡ is_some h.sci
has_sci-encoding h small = flag_again _ (is_some h.sci) (bits_in h small).sc

is_encrypted-encoding : (h : MacsecHeader) → h.an ≤ 3
    → is_encrypted (encoding h) ≡ encrypted_in h.ptype
is_encrypted-encoding h small = flag_again _ (encrypted_in h.ptype) (bits_in h small).encrypted

is_changed-encoding : (h : MacsecHeader) → h.an ≤ 3 → is_changed (encoding h) ≡ changed_in h.ptype
is_changed-encoding h small = flag_again _ (changed_in h.ptype) (bits_in h small).changed

type_again : (x y a b c d : ℕ) (sci : Option ℕ) (t : EtherType) → t.0 < 2 ^ 16 →
    let bytes = x ∷ y ∷ a ∷ b ∷ c ∷ d ∷ sci_encoding sci ++ ptype_encoding (ptype.Unmodified t) in
    let offset = 6 + cond (is_some sci) 8 0 in
    256 * get_or bytes offset 0 + get_or bytes (offset + 1) 0 ≡ t.0
type_again x y a b c d (Some n) t fits = two_again t.0 fits
type_again x y a b c d None t fits = two_again t.0 fits

kind_again : (x y a b c d : ℕ) (sci : Option ℕ) (p : MacsecPType) → TypeFits p →
    let bytes = x ∷ y ∷ a ∷ b ∷ c ∷ d ∷ sci_encoding sci ++ ptype_encoding p in
    let offset = 6 + cond (is_some sci) 8 0 in
    cond (encrypted_in p) (cond (changed_in p) ptype.Encrypted ptype.EncryptedUnmodified)
    (cond (changed_in p) ptype.Modified
    (ptype.Unmodified
    (record { 0 = 256 * get_or bytes offset 0 + get_or bytes (offset + 1) 0 }))) ≡ p
kind_again x y a b c d sci (ptype.Unmodified t) fits = simp type_again
kind_again x y a b c d sci ptype.Modified fits = refl
kind_again x y a b c d sci ptype.Encrypted fits = refl
kind_again x y a b c d sci ptype.EncryptedUnmodified fits = refl

short_again : (n : ℕ) → n ≤ 63 → n % 2 ^ 6 ≡ n
short_again n h = omega arith

pub macsec_header_of-encoding : (h : MacsecHeader) → Fits h → macsec_header_of (encoding h) ≡ h
macsec_header_of-encoding h fits =
    let bits = bits_in h fits.an in
    let es = flag_again _ h.endstation_id bits.es in
    let scb = flag_again _ h.scb bits.scb in
    let sc = has_sci-encoding h fits.an in
    let encrypted = is_encrypted-encoding h fits.an in
    let changed = is_changed-encoding h fits.an in
    let short_len = short_again h.short_len fits.short_len in
    let packet_nr = four_again h.packet_nr fits.packet_nr in
    let sci : sci_of (encoding h) ≡ h.sci =
    grind arith in
    let kind : ptype_of (encoding h) ≡ h.ptype =
    grind arith in
    grind arith

-- the length is as the first byte says
encoding_len : (x y a b c d : ℕ) (sci : Option ℕ) (p : MacsecPType) →
    length (x ∷ y ∷ a ∷ b ∷ c ∷ d ∷ sci_encoding sci ++ ptype_encoding p)
    ≡ 6 + cond (is_some sci) 8 0 + cond (not (encrypted_in p) && not (changed_in p)) 2 0
encoding_len x y a b c d sci p = grind arith

least_of : (n : ℕ) (a b : Bool) → n ≡ 6 + cond a 8 0 + cond b 2 0 → 6 ≤ n
least_of n a b e = omega arith

-- the bytes that fields encode are a header, where the short length has room for the ether type
pub IsMacsecHeader-encoding : (h : MacsecHeader) → Fits h → HasRoom h → IsMacsecHeader (encoding h)
IsMacsecHeader-encoding h fits room =
    let len = encoding_len (first_byte h) h.short_len (byte_at 3 h.packet_nr)
    (byte_at 2 h.packet_nr) (byte_at 1 h.packet_nr) (byte_at 0 h.packet_nr) h.sci h.ptype in
    let version = (bits_in h fits.an).version in
    grind (arith, least_of, has_sci-encoding, is_encrypted-encoding, is_changed-encoding)

first_byte-macsec_header_of : (header : List ℕ) → version_of header ≡ false → get_or header 0 0 <
    256
    → first_byte (macsec_header_of header) ≡ get_or header 0 0
first_byte-macsec_header_of header version fits = grind arith

-- the secure channel identifier and the ether type, cell by cell
sci_cells : (header : List ℕ) → IsBytes header →
    sci_encoding
    (Some (256 *
    (256 * (256 *
    (256 * (256 *
    (256 * (256 * get_or header 6 0 + get_or header 7 0) + get_or header 8
    0) + get_or header 9 0) + get_or header 10 0) + get_or header 11 0) + get_or
    header 12 0) + get_or header 13 0))
    ≡ cells 8 6 header
sci_cells header fits = grind arith

type_cells : (header : List ℕ) (p : ℕ) → IsBytes header →
    ptype_encoding
    (ptype.Unmodified (record { 0 = 256 * get_or header p 0 + get_or header (p + 1) 0 }))
    ≡ cells 2 p header
type_cells header p fits = grind arith

last_cells : (n p : ℕ) (xs : List ℕ) → length xs ≡ p + n → drop p xs ≡ cells n p xs
last_cells n p xs len =
    let past : drop (p + n) xs ≡ [] = drop_all (p + n) xs (omega arith) in
    cc (drop-cells n p xs (omega arith), past, append-nil (cells n p xs))

-- what follows the packet number, at each of the four lengths
tail_is : (sc encrypted changed : Bool) (header : List ℕ) → IsBytes header →
    length header ≡ 6 + cond sc 8 0 + cond (not encrypted && not changed) 2 0 →
    sci_encoding
    (cond sc (Some
    (256 * (256 *
    (256 * (256 *
    (256 * (256 * (256 * get_or header 6 0 + get_or header 7 0) + get_or header 8
    0) + get_or header 9 0) + get_or header 10 0) + get_or header 11 0) + get_or
    header 12 0) + get_or header 13 0)) None)
    ++ ptype_encoding (cond encrypted (cond changed ptype.Encrypted ptype.EncryptedUnmodified)
    (cond changed ptype.Modified
    (ptype.Unmodified
    (record { 0 = 256 * get_or header (6 + cond sc 8 0) 0 + get_or header (6 + cond sc 8 0 + 1) 0 }))))
    ≡ drop 6 header
tail_is true true true header fits len = ap (λ (xs : List ℕ). xs ++ []) (sci_cells header fits)
    ∙ sym (last_cells 8 6 header len)
tail_is true true false header fits len = ap (λ (xs : List ℕ). xs ++ []) (sci_cells header fits)
    ∙ sym (last_cells 8 6 header len)
tail_is true false true header fits len = ap (λ (xs : List ℕ). xs ++ []) (sci_cells header fits)
    ∙ sym (last_cells 8 6 header len)
tail_is true false false header fits len =
    ap (λ (xs : List ℕ). xs ++ ptype_encoding
    (ptype.Unmodified (record { 0 = 256 * get_or header 14 0 + get_or header 15 0 })))
    (sci_cells header fits)
    ∙ ap (λ (ys : List ℕ). cells 8 6 header ++ ys) (type_cells header 14 fits)
    ∙ sym (drop-cells 8 6 header (omega arith)
    ∙ ap (λ (ys : List ℕ). cells 8 6 header ++ ys) (last_cells 2 14 header len))
tail_is false true true header fits len = sym (last_cells 0 6 header len)
tail_is false true false header fits len = sym (last_cells 0 6 header len)
tail_is false false true header fits len = sym (last_cells 0 6 header len)
tail_is false false false header fits len =
    type_cells header 6 fits ∙ sym (last_cells 2 6 header len)

-- the fields that are read from a header encode its bytes, but for the unused bits
pub encoding-macsec_header_of : (header : List ℕ) → IsMacsecHeader header → IsBytes header
    → encoding (macsec_header_of header) ≡ with_unused_bits_zero header
encoding-macsec_header_of header is fits =
    let first = first_byte-macsec_header_of header is.version (fits 0) in
    let digits = digits_of (get_or header 2 0) (get_or header 3 0) (get_or header 4 0)
    (get_or header 5 0) (fits 2) (fits 3) (fits 4) (fits 5) in
    let tail = tail_is (has_sci header) (is_encrypted header)
    (is_changed header) header fits is.whole in
    let all : header ≡ cells 6 0 header ++ drop 6 header = drop-cells 6 0 header is.least in
    let zeroed = ap (λ (xs : List ℕ). set xs 1 (get_or header 1 0 % 2 ^ 6)) all in
    rw (first, digits.0, digits.1, digits.2, digits.3, tail) (sym zeroed)
