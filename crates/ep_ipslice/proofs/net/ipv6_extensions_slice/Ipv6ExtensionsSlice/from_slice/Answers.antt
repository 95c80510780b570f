use Rattle.std.proofs.Common.{◌∙◌, sym}
use Rattle.ep_ipslice.proofs.ViewWalk.{stops_same}
use Rattle.ep_ipslice.specs.Ipv6Exts.{view_order}
use Rattle.ep_ipslice.proofs.net.ipv6_extensions_slice.Ipv6ExtensionsSlice.from_slice.Goals as goal

pub returns-in_default-default-default-None-clause-only : goal.returns-in_default-default-default-None-clause-only
returns-in_default-default-default-None-clause-only c = λ pieces last rest chain.
    let found = c.walk.ensures in
    let stops = stops_same c.chain_is_alone.ensures c.args.first.0 c.args.slice.now found.0 pieces
    found.1 last found.2 rest c.walk.result found.3 chain found.4 in
    (stops.view, stops.number, stops.left, sym stops.fault ∙ c.in_default-default-default-None.is-3)

pub returns-in_default-default-default-Some-clause-only : goal.returns-in_default-default-default-Some-clause-only
returns-in_default-default-default-Some-clause-only c = λ pieces last rest chain.
    let found = c.walk.ensures in
    let stops = stops_same c.chain_is_alone.ensures c.args.first.0 c.args.slice.now found.0 pieces
    found.1 last found.2 rest c.walk.result found.3 chain found.4 in (
      c.in_default-default-default-Some.field-0-1-3,
      sym stops.fault
          ∙ c.in_default-default-default-Some.is-3,
    )

pub returns-in_default-default-default-Some-clause-offset : goal.returns-in_default-default-default-Some-clause-offset
returns-in_default-default-default-Some-clause-offset c = λ n fits.
    let found = c.walk.ensures in
    c.faults_can_be_moved.ensures.row view_order c.args.first.0 c.args.slice.now found.0 found.1
    found.2 (
      c.in_default-default-default-Some.error,
      c.in_default-default-default-Some.field-0-1-3,
    ) n found.3
    (sym found.4.fault ∙ c.in_default-default-default-Some.is-3) fits
