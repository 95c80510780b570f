use Rattle.std.proofs.Common.{◌∙◌, ◌≤◌, Err, ap, arith, length, subst, sym}
use Rattle.ep_packet.specs.SliceFault.{fault_offset}
use Rattle.ep_packet.specs.declared.err.packet.slice_error.SliceError.{SliceError}
use Rattle.ep_packet.proofs.PartsLemmas.{found_parts, found_stop}
use Rattle.ep_packet.proofs.TagsLemmas.{Found, found_faulty, found_whole}
use Rattle.ep_packet.proofs.tagged_slice.TaggedSlice.from_ether_payload.Goals as goal

pub moved-requires : goal.moved-requires
moved-requires c =
    let stop = found_stop c.args.payload _ c.in-Some.fault
    (c.found.view_is ∙ c.from_payload-found.ensures.tags) c.in-Some.is in
    let most = subst (λ (f : Found). f.len ≤ 48) (sym c.found.view_is) c.from_payload-found.ensures.most in
    omega (arith, stop.0, most)

pub returns-in-Some-clause-tags : goal.returns-in-Some-clause-tags
returns-in-Some-clause-tags c =
    ap Err c.moved.ensures
    ∙ found_faulty c.args.payload _ c.in-Some.fault
    (c.found.view_is ∙ c.from_payload-found.ensures.tags) c.in-Some.is

pub returns-in-Some-clause-offset : goal.returns-in-Some-clause-offset
returns-in-Some-clause-offset c =
    subst (λ (e : SliceError). fault_offset e ≤ length c.args.payload.payload) (sym c.moved.ensures)
    (found_stop c.args.payload _ c.in-Some.fault
    (c.found.view_is ∙ c.from_payload-found.ensures.tags) c.in-Some.is).1

pub returns-in-None-clause-tags : goal.returns-in-None-clause-tags
returns-in-None-clause-tags c =
    found_whole c.args.payload _ (c.found.view_is ∙ c.from_payload-found.ensures.tags) c.in-None.is

pub returns-in-None-clause-parts : goal.returns-in-None-clause-parts
returns-in-None-clause-parts c =
    found_parts c.args.payload _ (c.found.view_is ∙ c.from_payload-found.ensures.tags)
