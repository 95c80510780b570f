-- The extension headers that a plan describes, and the first field that describes none.
use Rattle.std.specs.Prelude.{ℕ, ◌≡◌, ◌%◌, ◌==◌, ◌||◌, not, nat_lt, false, if◌then◌else◌, List, length, Option, Some, None}
use Rattle.std.specs.Option.{option_map, option_or}
use Rattle.etherparse.specs.ext.declared.net.ip_auth_header.IpAuthHeader.{IpAuthHeader}
use Rattle.etherparse.specs.ext.declared.net.ipv4_extensions.Ipv4Extensions.{Ipv4Extensions}
use Rattle.etherparse.specs.ext.declared.net.ipv6_extensions.Ipv6Extensions.{Ipv6Extensions}
use Rattle.etherparse.specs.ext.declared.net.ipv6_fragment_header.Ipv6FragmentHeader.{Ipv6FragmentHeader}
use Rattle.etherparse.specs.ext.declared.net.ipv6_raw_ext_header.Ipv6RawExtHeader.{Ipv6RawExtHeader}
use Rattle.etherparse_structs.specs.Part.{no_part, part_bytes}
use Rattle.etherparse_structs.specs.Wrong.{wrong_above}
use Rattle.etherparse_structs.specs.declared.part.EpPart.{EpPart}
use Rattle.etherparse_structs.specs.declared.plan.PlanField.{PlanField}
use Rattle.etherparse_structs.specs.declared.plan.PlanField.TheVariants as field
use Rattle.etherparse_structs.specs.declared.planned_extensions.EpPlannedExtensions.{EpPlannedExtensions}

abbrev pub no_extensions : EpPlannedExtensions
no_extensions = record {
  hop_by_hop_options = no_part;
  destination_options = no_part;
  routing = no_part;
  final_destination_options = no_part;
  integrity_check_value = no_part;
  identification = 0;
  spi = 0;
  sequence_number = 0;
  fragment_offset = 0;
  more_fragments = false;
  has_fragment_header = false;
  has_authentication = false;
}

-- no header is described
pub record HasNone (e : EpPlannedExtensions) : Type 0 where
  pub hop_by_hop_options : e.hop_by_hop_options.len ≡ 0
  pub destination_options : e.destination_options.len ≡ 0
  pub routing : e.routing.len ≡ 0
  pub final_destination_options : e.final_destination_options.len ≡ 0
  pub fragment_header : e.has_fragment_header ≡ false
  pub authentication : e.has_authentication ≡ false

-- the header whose payload is this part, if it has bytes. (The builder sets the next number.)
abbrev pub raw_in : (bytes : List ℕ) → EpPart → Option Ipv6RawExtHeader
raw_in bytes part = if part.len == 0 then None
    else Some (record { next_header = record { 0 = 0 }; payload = part_bytes bytes part })

abbrev pub fragment_in : EpPlannedExtensions → Option Ipv6FragmentHeader
fragment_in e = if e.has_fragment_header then Some (record {
  next_header = record { 0 = 0 };
  fragment_offset = e.fragment_offset;
  more_fragments = e.more_fragments;
  identification = e.identification;
}) else None

abbrev pub auth_in : EpPlannedExtensions → (bytes : List ℕ) → Option IpAuthHeader
auth_in e bytes = if e.has_authentication then Some (record {
  next_header = record { 0 = 0 };
  spi = e.spi;
  sequence_number = e.sequence_number;
  icv = part_bytes bytes e.integrity_check_value;
}) else None

-- destination options after a routing header
abbrev pub final_options_in : EpPlannedExtensions → (bytes : List ℕ) → Option Ipv6RawExtHeader
final_options_in e bytes = if e.routing.len == 0 then None
    else raw_in bytes e.final_destination_options

unfoldable pub ipv4_exts_in : EpPlannedExtensions → (bytes : List ℕ) → Ipv4Extensions
ipv4_exts_in e bytes = record { auth = auth_in e bytes }

unfoldable pub ipv6_exts_in : EpPlannedExtensions → (bytes : List ℕ) → Ipv6Extensions
ipv6_exts_in e bytes = record {
  hop_by_hop_options = raw_in bytes e.hop_by_hop_options;
  destination_options = raw_in bytes e.destination_options;
  routing = option_map (λ header. record {
    routing = header;
    final_destination_options = final_options_in e bytes;
  }) (raw_in bytes e.routing);
  fragment = fragment_in e;
  auth = auth_in e bytes;
}

-- there are bytes of a header that can't be there
abbrev pub wrong_there : PlanField → EpPart → Option PlanField
wrong_there f part = if part.len == 0 then None else Some f

-- a payload that isn't whole within the bytes, or of a length that no header states (RFC 6564,
-- section 4)
unfoldable pub wrong_raw : (bytes : List ℕ) → PlanField → EpPart → Option PlanField
wrong_raw bytes f part = if part.len == 0 then None
    else (if not (length (part_bytes bytes part) == part.len)
    || nat_lt 2046 (length (part_bytes bytes part))
    || not (length (part_bytes bytes part) % 8 == 6)
    then Some f else None)

abbrev pub wrong_fragment : EpPlannedExtensions → Option PlanField
wrong_fragment e = if e.has_fragment_header
    then wrong_above 8191 e.fragment_offset field.FragmentHeader else None

-- an integrity check value that isn't whole within the bytes, or of a length that no header states
-- (RFC 4302, section 2.2)
unfoldable pub wrong_auth : EpPlannedExtensions → (bytes : List ℕ) → Option PlanField
wrong_auth e bytes = if e.has_authentication
    then (if not (length (part_bytes bytes e.integrity_check_value) == e.integrity_check_value.len)
    || nat_lt 1016 (length (part_bytes bytes e.integrity_check_value))
    || not (length (part_bytes bytes e.integrity_check_value) % 4 == 0)
    then Some field.Authentication else None) else None

abbrev pub wrong_final_options : EpPlannedExtensions → (bytes : List ℕ) → Option PlanField
wrong_final_options e bytes = if e.routing.len == 0
    then wrong_there field.FinalDestinationOptions e.final_destination_options
    else wrong_raw bytes field.FinalDestinationOptions e.final_destination_options

-- over IPv4 there is an authentication header alone
unfoldable pub wrong_ipv4_exts : EpPlannedExtensions → (bytes : List ℕ) → Option PlanField
wrong_ipv4_exts e bytes =
    option_or (wrong_there field.HopByHopOptions e.hop_by_hop_options)
    (option_or (wrong_there field.DestinationOptions e.destination_options)
    (option_or (wrong_there field.Routing e.routing)
    (option_or (if e.has_fragment_header then Some field.FragmentHeader else None)
    (option_or (wrong_auth e bytes)
    (wrong_there field.FinalDestinationOptions e.final_destination_options)))))

unfoldable pub wrong_ipv6_exts : EpPlannedExtensions → (bytes : List ℕ) → Option PlanField
wrong_ipv6_exts e bytes =
    option_or (wrong_raw bytes field.HopByHopOptions e.hop_by_hop_options)
    (option_or (wrong_raw bytes field.DestinationOptions e.destination_options)
    (option_or (wrong_raw bytes field.Routing e.routing)
    (option_or (wrong_fragment e)
    (option_or (wrong_auth e bytes)
    (wrong_final_options e bytes)))))
