-- A message of a multicast group, over IPv4 or IPv6, as fields and numbers.
use Rattle.std.specs.Prelude.{ℕ, Bool, true, false, List, replicate, Option, Some, None, Result, Ok, Err}
use Rattle.etherparse.specs.icmp.Multicast.{RecordsLeft}
use Rattle.etherparse.specs.icmp.declared.transport.icmpv6.mld.MldMessage.{MldMessage}
use Rattle.etherparse.specs.icmp.declared.transport.icmpv6.mld.MldMessage.TheVariants as mld
use Rattle.etherparse.specs.icmp.declared.transport.igmp.IgmpMessage.{IgmpMessage}
use Rattle.etherparse.specs.icmp.declared.transport.igmp.IgmpMessage.TheVariants as igmp
use Rattle.etherparse.specs.icmp.declared.transport.multicast.multicast_error.MulticastError.{MulticastError}
use Rattle.etherparse_structs.specs.GroupRecord.{padded}
use Rattle.etherparse_structs.specs.Part.{no_part, part_at}
use Rattle.etherparse_structs.specs.declared.group_message.EpGroupMessage.{EpGroupMessage}

abbrev pub no_group_message : EpGroupMessage
no_group_message = record {
  sources = no_part;
  records = record { left = no_part; count = 0; is_ipv6 = false };
  needed = 0;
  there = 0;
  kind = 0;
  max_response = 0;
  group = replicate 16 0;
}

-- fewer bytes than the type needs
abbrev pub short_struct : MulticastError → EpGroupMessage
short_struct e =
    record no_group_message { needed = e.needed_len; there = e.actual_len; kind = 7 }

abbrev pub about_group : (kind max_response : ℕ) → (group : List ℕ) → EpGroupMessage
about_group kind max_response group =
    record no_group_message { kind = kind; max_response = max_response; group = group }

-- the records of a report, which start at byte 8
abbrev pub with_records : (is_ipv6 : Bool) → RecordsLeft → EpGroupMessage
with_records is_ipv6 left = record no_group_message {
  records = record { left = part_at 8 left.rest; count = left.count; is_ipv6 = is_ipv6 };
  kind = 6;
}

-- a message of IGMP; sources start at byte 12
abbrev pub igmp_struct : IgmpMessage → EpGroupMessage
igmp_struct (igmp.Query time group) = about_group 1 time (padded group)
igmp_struct (igmp.QueryV3 code group sources) =
    record (about_group 2 code (padded group)) { sources = part_at 12 sources }
igmp_struct (igmp.ReportV1 group) = about_group 3 0 (padded group)
igmp_struct (igmp.ReportV2 group) = about_group 4 0 (padded group)
igmp_struct (igmp.Leave group) = about_group 5 0 (padded group)
igmp_struct (igmp.ReportV3 left) = with_records false left

-- a message of multicast listener discovery; sources start at byte 28
abbrev pub mld_struct : MldMessage → EpGroupMessage
mld_struct (mld.Query delay group) = about_group 1 delay group
mld_struct (mld.QueryV2 code group sources) =
    record (about_group 2 code group) { sources = part_at 28 sources }
mld_struct (mld.Report group) = about_group 3 0 group
mld_struct (mld.Done group) = about_group 5 0 group
mld_struct (mld.ReportV2 left) = with_records true left

-- bytes that are a message, or too few for one
abbrev pub igmp_struct_in : Option (Result IgmpMessage MulticastError) → EpGroupMessage
igmp_struct_in None = no_group_message
igmp_struct_in (Some (Err e)) = short_struct e
igmp_struct_in (Some (Ok message)) = igmp_struct message

abbrev pub mld_struct_in : Option (Result MldMessage MulticastError) → EpGroupMessage
mld_struct_in None = no_group_message
mld_struct_in (Some (Err e)) = short_struct e
mld_struct_in (Some (Ok message)) = mld_struct message
