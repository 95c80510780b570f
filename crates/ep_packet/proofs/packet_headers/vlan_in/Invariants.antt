use Rattle.std.proofs.Common.{◌≡◌, [], ◌∷◌, MatchOption, take}
use Rattle.ep_packet.specs.PacketHeaders.{vlan_headers}
use Rattle.ep_packet.proofs.packet_headers.vlan_in.Given as goal

-- the first of the tags that were passed, if there is one
abbrev pub invariant-loop-tag : goal.invariant-loop-tag
invariant-loop-tag l = MatchOption l.outer
    (vlan_headers (take l.tag-index l.tags.items) ≡ [])
    (λ tag. vlan_headers (take l.tag-index l.tags.items) ≡ tag.now ∷ [])
