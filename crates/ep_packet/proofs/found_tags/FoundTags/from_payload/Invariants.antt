use Rattle.std.proofs.Common.{◌≡◌, ◌≤◌, ◌-◌, ◌*◌, length}
use Rattle.ep_packet.proofs.FoundTagsLemmas.{SoFar}
use Rattle.ep_packet.proofs.found_tags.FoundTags.from_payload.Given as goal
use Rattle.ep_packet.specs.Tags.{find_tags}

-- what is found of the whole is what was found so far, joined with what is to be found of the rest
abbrev pub invariant-loop-count : goal.invariant-loop-count
invariant-loop-count g l = record {
  count : length l.tags.items ≡ l._count;
  size : l.len ≤ 16 * l._count;
  so_far : SoFar g.P.TaggedPayload.tag_at g.P.TaggedPayload.tag_len g.P.TaggedPayload.payload_after
      (find_tags g.P.TaggedPayload.tag_at g.P.TaggedPayload.tag_len g.P.TaggedPayload.payload_after 3 l.fn.payload)
      l.tags.items l.len (3 - l._count) l.rest;
}
