use Rattle.std.proofs.Common.{arith, sym, ◌∙◌}
use Rattle.ep_tag.proofs.MacsecPrefix.{taken, prefix_at}
use Rattle.ep_tag.proofs.link.macsec_header_slice.MacsecHeaderSlice.from_slice.Goals as goal

pub returns-clause-exact : goal.returns-clause-exact
returns-clause-exact c =
    taken c.args.slice.now c.header_len_of-header_len.result (omega arith)
    (sym c.has_version.ensures ∙ c.if-has_version.false)
    (sym c.has_no_room.ensures ∙ c.if-has_no_room.false)
    c.header_len_of-header_len.ensures.len (omega arith)

pub invariant_of-result : goal.invariant_of-result
invariant_of-result c =
    prefix_at c.args.slice.now c.header_len_of-header_len.result (omega arith)
    (sym c.has_version.ensures ∙ c.if-has_version.false)
    (sym c.has_no_room.ensures ∙ c.if-has_no_room.false)
    c.header_len_of-header_len.ensures.len (omega arith)
