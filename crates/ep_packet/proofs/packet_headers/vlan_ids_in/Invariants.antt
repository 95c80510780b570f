use Rattle.std.proofs.Common.{◌≡◌, ◌≤◌, length, take}
use Rattle.ep_packet.specs.PacketHeaders.{ids_in}
use Rattle.ep_packet.proofs.packet_headers.vlan_ids_in.Given as goal

abbrev pub invariant-loop-tag : goal.invariant-loop-tag
invariant-loop-tag l = record {
  ids : l.ids.items ≡ ids_in (take l.tag-index l.tags.items);
  few : length l.ids.items ≤ l.tag-index;
}
