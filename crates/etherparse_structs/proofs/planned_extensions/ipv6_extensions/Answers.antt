use Rattle.std.proofs.Common.{◌∙◌, sym}
use Rattle.std.specs.Option.{option_map}
use Rattle.etherparse_structs.specs.PlannedExtensions.{auth_in, final_options_in, fragment_in, ipv6_exts_in, raw_in, wrong_auth}
use Rattle.etherparse_structs.specs.PlannedExtensions.{wrong_final_options, wrong_fragment, wrong_ipv6_exts, wrong_raw}
use Rattle.etherparse_structs.specs.declared.plan.PlanField.TheVariants as field
use Rattle.etherparse_structs.proofs.PlanLemmas.{all_there}
use Rattle.etherparse_structs.proofs.planned_extensions.ipv6_extensions.Goals as goal

pub returns : goal.returns
unfolding wrong_ipv6_exts ipv6_exts_in
returns c =
    let e = c.args.extensions.now in
    let bytes = c.args.bytes.now in
    rw c.with_final_options.ensures (all_there
    (wrong_raw bytes field.HopByHopOptions e.hop_by_hop_options)
    (wrong_raw bytes field.DestinationOptions e.destination_options)
    (wrong_raw bytes field.Routing e.routing) (wrong_fragment e) (wrong_auth e bytes)
    (wrong_final_options e bytes)
    (raw_in bytes e.hop_by_hop_options) (raw_in bytes e.destination_options) (raw_in bytes e.routing)
    (fragment_in e) (auth_in e bytes) (final_options_in e bytes)
    c.in_ok-hop_by_hop_options.hop_by_hop_options
    c.in_ok-destination_options.destination_options
    c.in_ok-routing.routing
    c.in_ok-fragment.fragment
    c.in_ok-auth.auth
    c.in_ok-final_options.final_options
    (λ first second third fourth fifth last. record {
      hop_by_hop_options = first;
      destination_options = second;
      routing = option_map (λ header. record { routing = header; final_destination_options = last }) third;
      fragment = fourth;
      auth = fifth;
    })
    (sym c.raw_header.ensures ∙ c.in_ok-hop_by_hop_options.was {u = tt})
    (sym c.raw_header-2.ensures ∙ c.in_ok-destination_options.was {u = tt})
    (sym c.raw_header-3.ensures ∙ c.in_ok-routing.was {u = tt})
    (sym c.fragment_header.ensures ∙ c.in_ok-fragment.was {u = tt})
    (sym c.auth_header.ensures ∙ c.in_ok-auth.was {u = tt})
    (sym c.final_options.ensures ∙ c.in_ok-final_options.was {u = tt}))
