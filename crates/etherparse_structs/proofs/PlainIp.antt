-- The headers that addresses and hops determine are those of the builder's smaller steps.
use Rattle.std.proofs.Common.{ℕ, ◌≡◌, refl, List, Option, Some, None, Ok}
use Rattle.etherparse.specs.BuiltSteps.{ipv4_between, ipv6_between}
use Rattle.etherparse.specs.PacketImpl.{PacketImpl}
use Rattle.etherparse.specs.packet.declared.net.ip_headers.IpHeaders.{IpHeaders}
use Rattle.etherparse_structs.specs.PlannedExtensions.{ipv4_exts_in, ipv6_exts_in, wrong_auth, wrong_ipv4_exts}
use Rattle.etherparse_structs.specs.PlannedExtensions.{wrong_ipv6_exts, wrong_raw}
use Rattle.etherparse_structs.specs.PlannedIp.{IsPlainIpv4, IsPlainIpv6, ip_in, wrong_ip}
use Rattle.etherparse_structs.specs.Wrong.{unless}
use Rattle.etherparse_structs.specs.declared.plan.EpPlan.{EpPlan}
use Rattle.etherparse_structs.specs.declared.plan.PlanField.{PlanField}
use Rattle.etherparse_structs.specs.declared.planned_extensions.EpPlannedExtensions.{EpPlannedExtensions}

-- no field is at fault
pub ipv4_right : (p : EpPlan) (e : EpPlannedExtensions) (bytes : List ℕ) → IsPlainIpv4 p e
    → wrong_ip p e bytes ≡ None
unfolding wrong_ip wrong_ipv4_exts wrong_auth
ipv4_right p e bytes plain =
    let none = plain.no_extensions in
    rw (
      plain.version,
      plain.no_options,
      plain.fragment_offset,
      plain.dscp,
      plain.ecn,
      none.hop_by_hop_options,
      none.destination_options,
      none.routing,
      none.final_destination_options,
      none.fragment_header,
      none.authentication,
    ) refl

-- the headers are those of the step
pub ipv4_same : (p : EpPlan) (e : EpPlannedExtensions) (bytes : List ℕ) → IsPlainIpv4 p e
    → ip_in p e bytes ≡ ipv4_between p.ipv4_source p.ipv4_destination p.hops
unfolding ip_in ipv4_exts_in
ipv4_same p e bytes plain =
    rw (
      plain.version,
      plain.no_options,
      plain.identification,
      plain.fragment_offset,
      plain.dscp,
      plain.ecn,
      plain.may_not_fragment,
      plain.last_fragment,
      plain.no_extensions.authentication,
    ) refl

pub ipv6_right : (p : EpPlan) (e : EpPlannedExtensions) (bytes : List ℕ) → IsPlainIpv6 p e
    → wrong_ip p e bytes ≡ None
unfolding wrong_ip wrong_ipv6_exts wrong_raw wrong_auth
ipv6_right p e bytes plain =
    let none = plain.no_extensions in
    rw (
      plain.version,
      plain.flow_label,
      none.hop_by_hop_options,
      none.destination_options,
      none.routing,
      none.fragment_header,
      none.authentication,
      none.final_destination_options,
    ) refl

pub ipv6_same : (p : EpPlan) (e : EpPlannedExtensions) (bytes : List ℕ) → IsPlainIpv6 p e
    → ip_in p e bytes ≡ ipv6_between p.ipv6_source p.ipv6_destination p.hops
unfolding ip_in ipv6_exts_in
ipv6_same p e bytes plain =
    let none = plain.no_extensions in
    rw (
      plain.version,
      plain.traffic_class,
      plain.flow_label,
      none.hop_by_hop_options,
      none.destination_options,
      none.routing,
      none.fragment_header,
      none.authentication,
    ) refl

-- a step that chooses the headers that are described
pub chosen_step : (wrong : Option PlanField) (described chosen : IpHeaders) (result before : PacketImpl)
    → wrong ≡ None → described ≡ chosen → result ≡ record before { ip_headers = Some chosen }
    → Ok result ≡ unless wrong (record before { ip_headers = Some described })
chosen_step wrong described chosen result before right same is = rw (right, same, is) refl
