use Rattle.std.proofs.Common.{◌≡◌, map, take}
use Rattle.ep_tag.specs.LinkExt.{lax_fields_of}
use Rattle.ep_packet.proofs.lax_packet_headers.headers_of.Given as goal

abbrev pub invariant-loop-tag : goal.invariant-loop-tag
invariant-loop-tag l = l.headers.items ≡ map lax_fields_of (take l.tag-index l.tags.items)
