-- Whether the checksum of an IPv4 header is right (RFC 791, section 3.1).
use Rattle.std.specs.Prelude.{ℕ, Bool, true, false, if◌then◌else◌, List, Option, Some, None, Result, Ok, Err}
use Rattle.checksum_verdicts.specs.declared.verdict.Verdict.{Verdict}
use Rattle.checksum_verdicts.specs.declared.verdict.Verdict.TheVariants as verdict
use Rattle.ep_base.specs.Sum.{all_ones}
use Rattle.ep_packet.specs.declared.err.packet.slice_error.SliceError.{SliceError}
use Rattle.ep_packet.specs.declared.net.net_slice.NetSlice.{NetSlice}
use Rattle.ep_packet.specs.declared.net.net_slice.NetSlice.TheVariants as net
use Rattle.ep_packet.specs.declared.sliced_packet.SlicedPacket.{SlicedPacket}

-- all words of the header, the checksum among them, sum to all ones
abbrev pub sum_verdict : List ℕ → Verdict
sum_verdict header = if all_ones header then verdict.Good else verdict.Bad

abbrev pub net_header_verdict : Option NetSlice → Option Verdict
net_header_verdict None = None
net_header_verdict (Some (net.Ipv4 packet)) = Some (sum_verdict packet.header)
net_header_verdict (Some (net.Ipv6 packet)) = None
net_header_verdict (Some (net.Arp packet)) = None

-- of a packet that isn't refused, if checksums are verified
abbrev pub header_verdict : (checksums : Bool) → Result SlicedPacket SliceError → Option Verdict
header_verdict false layers = None
header_verdict true (Ok packet) = net_header_verdict packet.net
header_verdict true (Err e) = None
