-- Messages of the Internet group management protocol: versions 1 and 2 (RFC 2236, section 2), and
-- queries and reports of version 3 (RFC 3376, section 4).
use Rattle.std.specs.Prelude.{ℕ, ◌+◌, ◌*◌, ◌==◌, ◌||◌, nat_lt, List, length, slice_range, drop, if◌then◌else◌}
use Rattle.std.specs.Prelude.{Option, Some, None, Result, Ok}
use Rattle.ep_base.specs.Bytes.{num}
use Rattle.ep_icmp.specs.Multicast.{needs, too_few}
use Rattle.ep_icmp.specs.declared.transport.igmp.IgmpMessage.{IgmpMessage}
use Rattle.ep_icmp.specs.declared.transport.igmp.IgmpMessage.TheVariants as igmp
use Rattle.ep_icmp.specs.declared.transport.multicast.multicast_error.MulticastError.{MulticastError}

abbrev pub group_of : List ℕ → List ℕ
group_of bytes = slice_range bytes 4 8

-- the end of the sources of a query of version 3, which bytes 10 and 11 count
abbrev pub sources_end : List ℕ → ℕ
sources_end bytes = 12 + 4 * num bytes 10 2

-- a query is of version 1 or 2 where it has 8 bytes, and of version 3 where it has 12 or more (RFC
-- 3376, section 7.1)
abbrev pub query_at : List ℕ → Result IgmpMessage MulticastError
query_at bytes =
    if length bytes == 8 then Ok (igmp.Query (num bytes 1 1) (group_of bytes)) else (
    if nat_lt (length bytes) 8 then too_few 8 bytes else (
    if nat_lt (length bytes) 12 then too_few 12 bytes else
    needs (sources_end bytes) bytes
    (igmp.QueryV3 (num bytes 1 1) (group_of bytes) (slice_range bytes 12 (sources_end bytes)))))

-- a report of version 1 or 2, or the end of a membership, by its type
abbrev pub member : ℕ → List ℕ → IgmpMessage
member t group = if t == 18 then igmp.ReportV1 group else (
    if t == 22 then igmp.ReportV2 group else igmp.Leave group)

-- the message that bytes are; none where the type is another, and else perhaps too few bytes
abbrev pub igmp_at : List ℕ → Option (Result IgmpMessage MulticastError)
igmp_at bytes =
    if num bytes 0 1 == 17 then Some (query_at bytes) else (
    if (num bytes 0 1 == 18) || ((num bytes 0 1 == 22) || (num bytes 0 1 == 23))
    then Some (needs 8 bytes (member (num bytes 0 1) (group_of bytes))) else (
    if num bytes 0 1 == 34 then Some (needs 8 bytes (igmp.ReportV3 (record {
      rest = drop 8 bytes;
      end = length (drop 8 bytes);
      count = num bytes 6 2;
    }))) else None))
