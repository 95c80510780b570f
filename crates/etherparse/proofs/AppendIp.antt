-- IP headers that lead through all extension headers are appended where there is capacity.
use Rattle.std.proofs.Common.{arith, ◌≡◌, ◌∙◌, ap, ℕ, ◌+◌, List, ◌++◌, length, length-append, append_assoc, Option}
use Rattle.std.proofs.Common.{Some, None, Result, Err, IsOk, is_some, if◌then◌else◌}
use Rattle.ep_base.specs.declared.net.ip_number.IpNumber.{IpNumber}
use Rattle.ep_ext.specs.Follow.{Appends, Follows, header_len, walk_fault}
use Rattle.ep_ext.specs.Ipv4Exts.{ipv4_exts_encoding, ipv4_with_link}
use Rattle.ep_ext.specs.Link.{all_slots, pieces_in, with_links}
use Rattle.ep_ext.specs.Value.{Piece, bytes_of}
use Rattle.ep_ext.specs.declared.err.ipv6_exts.exts_walk_error.ExtsWalkError.{ExtsWalkError}
use Rattle.ep_ext.specs.declared.err.ipv6_exts.header_write_error.HeaderWriteError.{HeaderWriteError}
use Rattle.ep_ext.specs.declared.err.ipv6_exts.header_write_error.HeaderWriteError.TheVariants.{Memory}
use Rattle.ep_ext.specs.declared.net.ipv4_extensions.Ipv4Extensions.{Ipv4Extensions}
use Rattle.ep_ext.specs.declared.net.ipv6_extensions.Ipv6Extensions.{Ipv6Extensions}
use Rattle.ep_ip.specs.Ipv4.{encoding as encoding_v4}
use Rattle.ep_ip.specs.Ipv4Checksum.{right_checksum}
use Rattle.ep_ip.specs.Ipv6.{encoding}
use Rattle.ep_ip.specs.declared.net.ipv4_header.Ipv4Header.{Ipv4Header}
use Rattle.ep_ip.specs.declared.net.ipv6_header.Ipv6Header.{Ipv6Header}
use Rattle.ep_packet.specs.declared.net.ip_headers.IpHeaders.TheVariants.{Ipv4, Ipv6}
use Rattle.etherparse.proofs.LinkedExts.{first_linked, ipv4_linked_len, linked_len, pieces_len}
use Rattle.etherparse.specs.Built.{ip_bytes, with_last_number}

no_fault : (e : ExtsWalkError) (fault : Option ExtsWalkError) → fault ≡ None → fault ≡ Some e → ⊥
no_fault e fault none some = cc

pub appended : (value : Ipv6Extensions) (pieces : List Piece) (last : ℕ) (old new : List ℕ)
    (result : Result Unit HeaderWriteError)
    → walk_fault value pieces last ≡ None → (result ≡ Err Memory → ⊥)
    → Appends value pieces last old new result
    → IsOk result × (new ≡ old ++ bytes_of pieces)
appended value pieces last old new result whole memory appends = grind arith

-- an IPv6 header that names the first number, and the extension headers after it
pub ipv6_appended : (h : Ipv6Header) (e new : Ipv6Extensions) (first : IpNumber) (last : ℕ)
    (prefix middle whole : List ℕ)
    → new ≡ with_links e last → Follows new first.0 (pieces_in new all_slots) last
    → middle ≡ prefix ++ encoding (record h { next_header = first })
    → whole ≡ middle ++ bytes_of (pieces_in new all_slots)
    → whole ≡ prefix ++ ip_bytes (with_last_number (Ipv6 h e) last)
ipv6_appended h e new first last prefix middle whole links follows header exts =
    grind (arith, first_linked, append_assoc)

pub ipv6_len : (e new : Ipv6Extensions) (last : ℕ) (middle whole : List ℕ) → new ≡ with_links e last
    → whole ≡ middle ++ bytes_of (pieces_in new all_slots)
    → length whole ≡ length middle + header_len e
ipv6_len e new last middle whole links exts = grind (arith, length-append, pieces_len, linked_len)

-- an IPv4 header that names the first number, and the extension header after it. 51: an
-- authentication header (RFC 4302).
pub ipv4_appended : (h : Ipv4Header) (e new : Ipv4Extensions) (first : IpNumber) (last : ℕ)
    (prefix middle whole : List ℕ)
    → new ≡ ipv4_with_link e last → first.0 ≡ (if is_some e.auth then 51 else last)
    → middle ≡ prefix ++ encoding_v4
    (record h {
      protocol = first;
      header_checksum = right_checksum (record h { protocol = first });
    })
    → whole ≡ middle ++ ipv4_exts_encoding new → whole ≡ prefix ++ ip_bytes (with_last_number (Ipv4
    h e) last)
ipv4_appended h e new first last prefix middle whole links named header exts =
    exts
    ∙ ap (λ (xs : List ℕ). xs ++ ipv4_exts_encoding new) header
    ∙ append_assoc prefix
    (encoding_v4
    (record h {
      protocol = first;
      header_checksum = right_checksum (record h { protocol = first });
    }))
    (ipv4_exts_encoding new)
    ∙ (λ i. prefix ++ (encoding_v4 (record h {
      protocol = record { 0 = named i };
      header_checksum = right_checksum (record h { protocol = record { 0 = named i } });
    }) ++ ipv4_exts_encoding (links i)))

pub ipv4_len : (e new : Ipv4Extensions) (last : ℕ) (middle whole : List ℕ)
    → new ≡ ipv4_with_link e last
    → whole ≡ middle ++ ipv4_exts_encoding new
    → length whole ≡ length middle + length (ipv4_exts_encoding e)
ipv4_len e new last middle whole links exts = grind (arith, length-append, ipv4_linked_len)
