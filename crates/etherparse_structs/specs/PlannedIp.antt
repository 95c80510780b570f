-- The headers of the network layer that a plan describes, and the first field that describes none.
use Rattle.std.specs.Prelude.{ℕ, ◌≡◌, ◌%◌, ◌==◌, ◌||◌, not, false, nat_lt, if◌then◌else◌, List, take, Option, Some, None}
use Rattle.std.specs.Option.{option_or}
use Rattle.etherparse.specs.base.IpEcn.{ecn_of}
use Rattle.etherparse.specs.ip.Ipv4.{default_header}
use Rattle.etherparse.specs.ip.declared.net.ipv4_header.Ipv4Header.{Ipv4Header}
use Rattle.etherparse.specs.ip.declared.net.ipv6_header.Ipv6Header.{Ipv6Header}
use Rattle.etherparse.specs.packet.declared.net.ip_headers.IpHeaders.{IpHeaders}
use Rattle.etherparse.specs.packet.declared.net.ip_headers.IpHeaders.TheVariants.{Ipv4, Ipv6}
use Rattle.etherparse_structs.specs.PlannedExtensions.{HasNone, ipv4_exts_in, ipv6_exts_in, wrong_ipv4_exts, wrong_ipv6_exts}
use Rattle.etherparse_structs.specs.Wrong.{wrong_above}
use Rattle.etherparse_structs.specs.declared.plan.EpPlan.{EpPlan}
use Rattle.etherparse_structs.specs.declared.plan.PlanField.{PlanField}
use Rattle.etherparse_structs.specs.declared.plan.PlanField.TheVariants as field
use Rattle.etherparse_structs.specs.declared.planned_extensions.EpPlannedExtensions.{EpPlannedExtensions}

abbrev pub ipv4_options_in : EpPlan → List ℕ
ipv4_options_in p = take p.ipv4_options_len p.ipv4_options

-- the default header but for these fields
abbrev pub ipv4_in : EpPlan → Ipv4Header
ipv4_in p = record default_header {
  dscp = p.dscp;
  ecn = ecn_of p.ecn;
  identification = p.identification;
  dont_fragment = not p.may_fragment;
  more_fragments = p.more_fragments;
  fragment_offset = p.fragment_offset;
  time_to_live = p.hops;
  source = p.ipv4_source;
  destination = p.ipv4_destination;
  options = ipv4_options_in p;
}

abbrev pub ipv6_in : EpPlan → Ipv6Header
ipv6_in p = record {
  traffic_class = p.traffic_class;
  flow_label = p.flow_label;
  payload_length = 0;
  next_header = record { 0 = 255 };
  hop_limit = p.hops;
  source = p.ipv6_source;
  destination = p.ipv6_destination;
}

-- the headers with these extension headers, whose parts are in these bytes
unfoldable pub ip_in : EpPlan → EpPlannedExtensions → List ℕ → IpHeaders
ip_in p e bytes = if p.ip_version == 4 then Ipv4 (ipv4_in p) (ipv4_exts_in e bytes)
    else Ipv6 (ipv6_in p) (ipv6_exts_in e bytes)

-- options are whole words (RFC 791, section 3.1)
abbrev pub wrong_ipv4_options : EpPlan → Option PlanField
wrong_ipv4_options p = if nat_lt 40 p.ipv4_options_len || not (p.ipv4_options_len % 4 == 0)
    then Some field.Ipv4OptionsLen else None

abbrev pub wrong_ipv4 : EpPlan → Option PlanField
wrong_ipv4 p = option_or (wrong_above 63 p.dscp field.Dscp) (option_or (wrong_above 3 p.ecn field.Ecn)
    (option_or (wrong_above 8191 p.fragment_offset field.FragmentOffset) (wrong_ipv4_options p)))

abbrev pub wrong_ipv6 : EpPlan → Option PlanField
wrong_ipv6 p = wrong_above 1048575 p.flow_label field.FlowLabel

unfoldable pub wrong_ip : EpPlan → EpPlannedExtensions → List ℕ → Option PlanField
wrong_ip p e bytes = if p.ip_version == 4 then option_or (wrong_ipv4 p) (wrong_ipv4_exts e bytes)
    else (if p.ip_version == 6 then option_or (wrong_ipv6 p) (wrong_ipv6_exts e bytes)
    else Some field.IpVersion)

-- addresses and hops determine the headers
pub record IsPlainIpv4 (p : EpPlan) (e : EpPlannedExtensions) : Type 0 where
  pub version : p.ip_version ≡ 4
  pub no_options : p.ipv4_options_len ≡ 0
  pub identification : p.identification ≡ 0
  pub fragment_offset : p.fragment_offset ≡ 0
  pub dscp : p.dscp ≡ 0
  pub ecn : p.ecn ≡ 0
  pub may_not_fragment : p.may_fragment ≡ false
  pub last_fragment : p.more_fragments ≡ false
  pub no_extensions : HasNone e

pub record IsPlainIpv6 (p : EpPlan) (e : EpPlannedExtensions) : Type 0 where
  pub version : p.ip_version ≡ 6
  pub traffic_class : p.traffic_class ≡ 0
  pub flow_label : p.flow_label ≡ 0
  pub no_extensions : HasNone e
