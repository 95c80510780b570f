-- The cases of an error of writing IP headers.
use Rattle.std.specs.Prelude.{Bool, true, false, Option, Some, None}
use Rattle.ep_ext.specs.declared.err.ipv4_exts.exts_walk_error.ExtsWalkError as ipv4
use Rattle.ep_ext.specs.declared.err.ipv6_exts.exts_walk_error.ExtsWalkError as ipv6
use Rattle.ep_packet.specs.declared.err.ip.headers_write_error.HeadersWriteError.{HeadersWriteError}
use Rattle.ep_packet.specs.declared.err.ip.headers_write_error.HeadersWriteError.TheVariants.{Memory, Ipv4Exts}
use Rattle.ep_packet.specs.declared.err.ip.headers_write_error.HeadersWriteError.TheVariants.{Ipv6Exts}

-- out of memory
abbrev pub is_memory : HeadersWriteError → Bool
is_memory Memory = true
is_memory (Ipv4Exts e) = false
is_memory (Ipv6Exts e) = false

-- the fault of a version's extension headers, where it is one
abbrev pub ipv4_exts_in : HeadersWriteError → Option ipv4.ExtsWalkError
ipv4_exts_in Memory = None
ipv4_exts_in (Ipv4Exts e) = Some e
ipv4_exts_in (Ipv6Exts e) = None

abbrev pub ipv6_exts_in : HeadersWriteError → Option ipv6.ExtsWalkError
ipv6_exts_in Memory = None
ipv6_exts_in (Ipv4Exts e) = None
ipv6_exts_in (Ipv6Exts e) = Some e
