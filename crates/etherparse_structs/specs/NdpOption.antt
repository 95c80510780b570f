-- An option of neighbor discovery, as fields and numbers.
use Rattle.std.specs.Prelude.{ℕ, ◌+◌, ◌-◌, ◌==◌, false, if◌then◌else◌, List, [], ◌∷◌, length, replicate, Option, Some, None}
use Rattle.std.specs.Prelude.{Result, Ok, Err}
use Rattle.etherparse.specs.base.declared.err.len_error.LenError.{LenError}
use Rattle.etherparse.specs.icmp.Ndp as ndp
use Rattle.etherparse.specs.icmp.NdpOptions.{Left, items_of}
use Rattle.etherparse.specs.icmp.declared.transport.icmpv6.ndp.ndp_option.NdpOption.{NdpOption}
use Rattle.etherparse.specs.icmp.declared.transport.icmpv6.ndp.ndp_option.NdpOption.TheVariants as option
use Rattle.etherparse.specs.icmp.declared.transport.icmpv6.ndp.ndp_option_error.NdpOptionError.{NdpOptionError}
use Rattle.etherparse.specs.icmp.declared.transport.icmpv6.ndp.ndp_option_error.NdpOptionError.TheVariants as fault
use Rattle.etherparse.specs.icmp.declared.transport.icmpv6.ndp.prefix_information.PrefixInformation.{PrefixInformation}
use Rattle.etherparse_structs.specs.Part.{no_part, part_at, part_bytes}
use Rattle.etherparse_structs.specs.declared.ndp_option.EpNdpOption.{EpNdpOption}
use Rattle.etherparse_structs.specs.declared.part.EpPart.{EpPart}

-- what follows the header of a message; nothing where the bytes are none, or too few for one
abbrev pub ndp_options_part : Option (Result (List ℕ) LenError) → EpPart
ndp_options_part None = no_part
ndp_options_part (Some (Err e)) = no_part
ndp_options_part (Some (Ok message)) = record {
  offset = ndp.header_len (ndp.message_of message);
  len = length message - ndp.header_len (ndp.message_of message);
}

abbrev pub no_ndp_option : EpNdpOption
no_ndp_option = record {
  option = no_part;
  carried = no_part;
  needed = 0;
  there = 0;
  kind = 0;
  fault = 0;
  lifetime = 0;
  valid_lifetime = 0;
  preferred_lifetime = 0;
  mtu = 0;
  option_type = 0;
  prefix_length = 0;
  on_link = false;
  autonomous = false;
  prefix = replicate 16 0;
}

-- an option of so many bytes at this offset
abbrev pub of_kind : (kind type_u8 place len : ℕ) → EpNdpOption
of_kind kind type_u8 place len = record no_ndp_option {
  option = record { offset = place; len = len };
  kind = kind;
  option_type = type_u8;
}

-- one that carries these bytes after its first ones
abbrev pub carrying : (kind type_u8 place first : ℕ) → List ℕ → EpNdpOption
carrying kind type_u8 place first carried =
    record (of_kind kind type_u8 place (first + length carried)) {
      carried = part_at (place + first) carried;
    }

abbrev pub prefix_struct : (place : ℕ) → PrefixInformation → EpNdpOption
prefix_struct place p = record (of_kind 4 3 place 32) {
  prefix_length = p.prefix_length;
  on_link = p.on_link;
  autonomous = p.autonomous;
  valid_lifetime = p.valid_lifetime;
  preferred_lifetime = p.preferred_lifetime;
  prefix = p.prefix;
}

-- an option at this offset: addresses and what isn't known follow two bytes, other bytes follow eight
abbrev pub option_struct : (place : ℕ) → NdpOption → EpNdpOption
option_struct place (option.SourceLinkLayerAddress address) = carrying 2 1 place 2 address
option_struct place (option.TargetLinkLayerAddress address) = carrying 3 2 place 2 address
option_struct place (option.PrefixInformation p) = prefix_struct place p
option_struct place (option.RedirectedHeader packet) = carrying 5 4 place 8 packet
option_struct place (option.Mtu mtu) = record (of_kind 6 5 place 8) { mtu = mtu }
option_struct place (option.RecursiveDnsServer lifetime addresses) =
    record (carrying 7 25 place 8 addresses) { lifetime = lifetime }
option_struct place (option.DnsSearchList lifetime names) =
    record (carrying 8 31 place 8 names) { lifetime = lifetime }
option_struct place (option.Unknown kind bytes) = carrying 1 kind place 2 bytes

-- why the bytes at this offset are no option
abbrev pub fault_struct : (place : ℕ) → NdpOptionError → EpNdpOption
fault_struct place (fault.UnexpectedEnd offset needed there) =
    record (of_kind 9 0 place 0) { fault = 1; needed = needed; there = there }
fault_struct place (fault.ZeroLength offset) = record (of_kind 9 0 place 0) { fault = 2 }

-- an item of a list of options, and the next one where there is one
abbrev pub item_struct : (place : ℕ) → Result NdpOption NdpOptionError → EpNdpOption
item_struct place (Ok option) = option_struct place option
item_struct place (Err fault) = fault_struct place fault

abbrev pub option_struct_in : (place : ℕ) → Option (Result NdpOption NdpOptionError) → EpNdpOption
option_struct_in place None = no_ndp_option
option_struct_in place (Some item) = item_struct place item

-- how many bytes an option has
abbrev pub option_len : NdpOption → ℕ
option_len option = (option_struct 0 option).option.len

abbrev pub item_len : Result NdpOption NdpOptionError → ℕ
item_len item = (item_struct 0 item).option.len

-- items in a row, from this offset on
abbrev pub structs_from : (place : ℕ) → List (Result NdpOption NdpOptionError) → List EpNdpOption
structs_from place [] = []
structs_from place (item ∷ items) =
    item_struct place item ∷ structs_from (place + item_len item) items

-- what is left in a part of these bytes
abbrev pub left_in : List ℕ → EpPart → Left
left_in bytes part = record {
  rest = part_bytes bytes part;
  end = length (part_bytes bytes part);
}

-- all options of this part of the bytes, in their order; a fault is the last
abbrev pub ndp_options_left : List ℕ → EpPart → List EpNdpOption
ndp_options_left bytes left = structs_from left.offset (items_of (left_in bytes left))

-- a struct of kind 0 is none
abbrev pub some_ndp_option : EpNdpOption → Option EpNdpOption
some_ndp_option option = if option.kind == 0 then None else Some option

-- the bytes that an option carries
abbrev pub carried_bytes : NdpOption → List ℕ
carried_bytes (option.SourceLinkLayerAddress address) = address
carried_bytes (option.TargetLinkLayerAddress address) = address
carried_bytes (option.PrefixInformation p) = []
carried_bytes (option.RedirectedHeader packet) = packet
carried_bytes (option.Mtu mtu) = []
carried_bytes (option.RecursiveDnsServer lifetime addresses) = addresses
carried_bytes (option.DnsSearchList lifetime names) = names
carried_bytes (option.Unknown kind bytes) = bytes

abbrev pub carried_in : Option (Result NdpOption NdpOptionError) → List ℕ
carried_in None = []
carried_in (Some (Err f)) = []
carried_in (Some (Ok option)) = carried_bytes option
