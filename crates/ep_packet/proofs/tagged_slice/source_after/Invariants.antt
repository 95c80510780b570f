use Rattle.std.proofs.Common.{◌≡◌, false, take}
use Rattle.ep_packet.specs.PacketView.{any_has_short_len}
use Rattle.ep_packet.proofs.tagged_slice.source_after.Given as goal

abbrev pub invariant-loop-tag : goal.invariant-loop-tag
invariant-loop-tag l = any_has_short_len (take l.tag-index l.tags.items) ≡ false
