-- The IPv4 header checksum (RFC 791, section 3.1; RFC 1071): the complement of the ones-complement
-- sum of the header's 16-bit words, with the checksum field as 0.
use Rattle.std.specs.Prelude.{◌≡◌, ℕ, ◌⊎◌}
use Rattle.ep_base.specs.Sum.{checksum}
use Rattle.ep_ip.specs.Ipv4.{encoding}
use Rattle.ep_ip.specs.declared.net.ipv4_header.Ipv4Header.{Ipv4Header}

-- the checksum that belongs to the other fields
abbrev pub right_checksum : Ipv4Header → ℕ
right_checksum h = checksum (encoding (record h { header_checksum = 0 }))

-- the field holds it, or ffff instead of 0: both are the zero of a ones-complement sum
abbrev pub HasRightChecksum : Ipv4Header → Type 0
HasRightChecksum h = (h.header_checksum ≡ right_checksum h)
    ⊎ ((right_checksum h ≡ 0) × (h.header_checksum ≡ 65535))
