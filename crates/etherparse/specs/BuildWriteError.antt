-- What an error of writing a packet reports.
use Rattle.std.specs.Prelude.{ℕ, Bool, true, false, Option, Some, None}
use Rattle.ep_base.specs.declared.err.value_too_big_error.ValueTooBigError.{ValueTooBigError}
use Rattle.ep_ext.specs.declared.err.ipv4_exts.exts_walk_error.ExtsWalkError as ipv4
use Rattle.ep_ext.specs.declared.err.ipv6_exts.exts_walk_error.ExtsWalkError as ipv6
use Rattle.etherparse.specs.declared.err.packet.build_write_error.BuildWriteError.{BuildWriteError}
use Rattle.etherparse.specs.declared.err.packet.build_write_error.BuildWriteError.TheVariants.{ArpHeaderNotMatch}
use Rattle.etherparse.specs.declared.err.packet.build_write_error.BuildWriteError.TheVariants.{Icmpv6InIpv4, Ipv4Exts}
use Rattle.etherparse.specs.declared.err.packet.build_write_error.BuildWriteError.TheVariants.{Ipv6Exts, Memory}
use Rattle.etherparse.specs.declared.err.packet.build_write_error.BuildWriteError.TheVariants.{PayloadLen}

-- memory was missing
abbrev pub is_memory : BuildWriteError → Bool
is_memory Memory = true
is_memory (PayloadLen e) = false
is_memory (Ipv4Exts e) = false
is_memory (Ipv6Exts e) = false
is_memory Icmpv6InIpv4 = false
is_memory ArpHeaderNotMatch = false

-- the fault that it is, where it is of that kind
abbrev pub payload_len_in : BuildWriteError → Option (ValueTooBigError ℕ)
payload_len_in Memory = None
payload_len_in (PayloadLen e) = Some e
payload_len_in (Ipv4Exts e) = None
payload_len_in (Ipv6Exts e) = None
payload_len_in Icmpv6InIpv4 = None
payload_len_in ArpHeaderNotMatch = None

abbrev pub ipv4_exts_in : BuildWriteError → Option ipv4.ExtsWalkError
ipv4_exts_in Memory = None
ipv4_exts_in (PayloadLen e) = None
ipv4_exts_in (Ipv4Exts e) = Some e
ipv4_exts_in (Ipv6Exts e) = None
ipv4_exts_in Icmpv6InIpv4 = None
ipv4_exts_in ArpHeaderNotMatch = None

abbrev pub ipv6_exts_in : BuildWriteError → Option ipv6.ExtsWalkError
ipv6_exts_in Memory = None
ipv6_exts_in (PayloadLen e) = None
ipv6_exts_in (Ipv4Exts e) = None
ipv6_exts_in (Ipv6Exts e) = Some e
ipv6_exts_in Icmpv6InIpv4 = None
ipv6_exts_in ArpHeaderNotMatch = None

-- ICMPv6 over IPv4
abbrev pub is_icmpv6_in_ipv4 : BuildWriteError → Bool
is_icmpv6_in_ipv4 Memory = false
is_icmpv6_in_ipv4 (PayloadLen e) = false
is_icmpv6_in_ipv4 (Ipv4Exts e) = false
is_icmpv6_in_ipv4 (Ipv6Exts e) = false
is_icmpv6_in_ipv4 Icmpv6InIpv4 = true
is_icmpv6_in_ipv4 ArpHeaderNotMatch = false
