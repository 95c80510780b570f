-- Messages of multicast listener discovery: version 1 (RFC 2710, section 3), and queries and reports
-- of version 2 (RFC 3810, section 5).
use Rattle.std.specs.Prelude.{ℕ, ◌+◌, ◌*◌, ◌==◌, nat_lt, List, length, slice_range, drop, if◌then◌else◌}
use Rattle.std.specs.Prelude.{Option, Some, None, Result, Ok}
use Rattle.ep_base.specs.Bytes.{num}
use Rattle.ep_icmp.specs.Multicast.{needs, too_few}
use Rattle.ep_icmp.specs.declared.transport.icmpv6.mld.MldMessage.{MldMessage}
use Rattle.ep_icmp.specs.declared.transport.icmpv6.mld.MldMessage.TheVariants as mld
use Rattle.ep_icmp.specs.declared.transport.multicast.multicast_error.MulticastError.{MulticastError}

abbrev pub group_of : List ℕ → List ℕ
group_of bytes = slice_range bytes 8 24

-- the end of the sources of a query of version 2, which bytes 26 and 27 count
abbrev pub sources_end : List ℕ → ℕ
sources_end bytes = 28 + 16 * num bytes 26 2

-- a query is of version 1 where it has 24 bytes, and of version 2 where it has 28 or more (RFC 3810,
-- section 8.1)
abbrev pub query_at : List ℕ → Result MldMessage MulticastError
query_at bytes =
    if length bytes == 24 then Ok (mld.Query (num bytes 4 2) (group_of bytes)) else (
    if nat_lt (length bytes) 24 then too_few 24 bytes else (
    if nat_lt (length bytes) 28 then too_few 28 bytes else
    needs (sources_end bytes) bytes
    (mld.QueryV2 (num bytes 4 2) (group_of bytes) (slice_range bytes 28 (sources_end bytes)))))

-- the message that bytes are; none where the type is another, and else perhaps too few bytes
abbrev pub mld_at : List ℕ → Option (Result MldMessage MulticastError)
mld_at bytes =
    if num bytes 0 1 == 130 then Some (query_at bytes) else (
    if num bytes 0 1 == 131 then Some (needs 24 bytes (mld.Report (group_of bytes))) else (
    if num bytes 0 1 == 132 then Some (needs 24 bytes (mld.Done (group_of bytes))) else (
    if num bytes 0 1 == 143 then Some (needs 8 bytes (mld.ReportV2 (record {
      rest = drop 8 bytes;
      end = length (drop 8 bytes);
      count = num bytes 6 2;
    }))) else None)))
