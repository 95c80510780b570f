use Rattle.std.proofs.Common.{◌≡◌, ◌≤◌, length, take}
use Rattle.ep_packet.specs.LaxView.{lax_vlan_ids_of}
use Rattle.ep_packet.proofs.lax_sliced_packet.LaxSlicedPacket.vlan_ids.Given as goal

abbrev pub invariant-loop-tag : goal.invariant-loop-tag
invariant-loop-tag l = record {
  ids : l.ids.items ≡ lax_vlan_ids_of (take l.tag-index l.self.link_exts.items);
  few : length l.ids.items ≤ l.tag-index;
}
