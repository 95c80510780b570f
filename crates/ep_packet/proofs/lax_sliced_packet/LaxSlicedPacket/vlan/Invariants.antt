use Rattle.std.proofs.Common.{◌≡◌, [], ◌∷◌, MatchOption, take}
use Rattle.ep_packet.specs.LaxView.{lax_vlan_tags}
use Rattle.ep_packet.proofs.lax_sliced_packet.LaxSlicedPacket.vlan.Given as goal

-- the first of the tags that were passed, if there is one
abbrev pub invariant-loop-tag : goal.invariant-loop-tag
invariant-loop-tag l = MatchOption l.outer
    (lax_vlan_tags (take l.tag-index l.self.link_exts.items) ≡ [])
    (λ tag. lax_vlan_tags (take l.tag-index l.self.link_exts.items) ≡ tag ∷ [])
