use Rattle.std.proofs.Common.{◌≡◌, length}
use Rattle.ep_icmp.specs.NdpOptions.{items_of}
use Rattle.ep_icmp.specs.NdpValid.{items_refusal}
use Rattle.ep_icmp.proofs.transport.icmpv6.ndp.ndp_slice.NdpSlice.options_refusal.Given as goal

-- the items before had no refusal
abbrev pub invariant-options : goal.invariant-options
invariant-options l = items_refusal l.fn.unspecified (items_of l.options)
    ≡ items_refusal l.fn.unspecified (items_of l.initial.options)

abbrev pub decreases-options : goal.decreases-options
decreases-options l = length (items_of l.options)
