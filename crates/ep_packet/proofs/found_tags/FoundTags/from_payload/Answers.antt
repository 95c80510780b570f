use Rattle.std.proofs.Common.{◌∙◌, ◌+◌, ◌-◌, Ok, ap, arith, sym}
use Rattle.ep_packet.proofs.FoundTagsLemmas.{ends_faulty, ends_full, ends_untagged, goes_on_none, goes_on_some}
use Rattle.ep_packet.proofs.found_tags.FoundTags.from_payload.Goals as goal

pub returns-in-Ok-None-clause-tags : goal.returns-in-Ok-None-clause-tags
returns-in-Ok-None-clause-tags g c =
    let kind = g.P.TaggedPayload in
    ends_untagged kind.tag_at kind.tag_len kind.payload_after _ c.loop-count.tags.items c.loop-count.len
    (3 - (c.loop-count._count + 1)) (3 - c.loop-count._count) c.loop-count.rest
    c.loop-count.invariant.so_far (omega arith)
    (sym c.tag.ensures ∙ c.in-Ok-None.is ∙ ap Ok c.in-Ok-None.field-0-is)

pub returns-in-Err-clause-tags : goal.returns-in-Err-clause-tags
returns-in-Err-clause-tags g c =
    let kind = g.P.TaggedPayload in
    ends_faulty kind.tag_at kind.tag_len kind.payload_after _ c.loop-count.tags.items c.loop-count.len
    (3 - (c.loop-count._count + 1)) (3 - c.loop-count._count) c.loop-count.rest c.in-Err.fault
    c.loop-count.invariant.so_far (omega arith) (sym c.tag.ensures ∙ c.in-Err.is)

pub returns-in-None-clause-tags : goal.returns-in-None-clause-tags
returns-in-None-clause-tags g c =
    let kind = g.P.TaggedPayload in
    goes_on_none kind.tag_at kind.tag_len kind.payload_after _ c.loop-count.tags.items c.push.new.self.items
    c.loop-count.len c.tag_len-len.result (3 - (c.loop-count._count + 1)) (3 - c.loop-count._count)
    c.loop-count.rest c.in-Ok-Some.tag c.loop-count.invariant.so_far (omega arith)
    (sym c.tag.ensures ∙ c.in-Ok-Some.is ∙ ap Ok c.in-Ok-Some.field-0-is)
    c.push.ensures.items c.tag_len-len.ensures.len (sym c.payload_after-next.ensures ∙ c.in-None.is)

pub returns-clause-tags : goal.returns-clause-tags
returns-clause-tags g c =
    let kind = g.P.TaggedPayload in
    ends_full kind.tag_at kind.tag_len kind.payload_after _ c.loop-count.tags.items c.loop-count.len
    (3 - c.loop-count._count) c.loop-count.rest c.loop-count.invariant.so_far (omega arith)

pub loop-count-preserved : goal.loop-count-preserved
loop-count-preserved g c =
    let kind = g.P.TaggedPayload in
    record {
      count = omega arith;
      size = omega arith;
      so_far =
          goes_on_some kind.tag_at kind.tag_len kind.payload_after _ c.loop-count.tags.items
          c.push.new.self.items c.loop-count.len c.tag_len-len.result (3 - (c.loop-count._count + 1))
          (3 - c.loop-count._count) c.loop-count.rest c.in-Ok-Some.tag c.in-Some.payload
          c.loop-count.invariant.so_far (omega arith)
          (sym c.tag.ensures ∙ c.in-Ok-Some.is ∙ ap Ok c.in-Ok-Some.field-0-is)
          c.push.ensures.items c.tag_len-len.ensures.len (sym c.payload_after-next.ensures ∙ c.in-Some.is);
    }
