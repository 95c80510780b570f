use Rattle.std.proofs.Common.{◌≡◌, ◌≤◌, length, take}
use Rattle.ep_packet.specs.Tags.{vlan_ids_of}
use Rattle.ep_packet.proofs.sliced_packet.SlicedPacket.vlan_ids.Given as goal

abbrev pub invariant-loop-tag : goal.invariant-loop-tag
invariant-loop-tag l = record {
  ids : l.ids.items ≡ vlan_ids_of (take l.tag-index l.self.link_exts.items);
  few : length l.ids.items ≤ l.tag-index;
}
