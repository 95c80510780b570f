use Rattle.std.proofs.Common.{◌∙◌, ◌-◌, ◌||◌, ℕ, Bool, List, get_or, length, sym, ap, refl, arith}
use Rattle.ep_ipslice.specs.Ipv6Ext.{piece_of}
use Rattle.ep_ipslice.proofs.Cuts.{split_prefix, split_back}
use Rattle.ep_ipslice.proofs.ViewWalk.{ext_found, kept_more, found_closed, found_fault, passed_bytes}
use Rattle.ep_ipslice.proofs.net.ipv6_extensions_slice.Ipv6ExtensionsSlice.walk.Goals as goal

pub headers-preserved : goal.headers-preserved
headers-preserved c =
    let found = ext_found c.in-Some.slot c.headers.rest.now c.in-Ok.header c.in-Ok.ensures.exact in
    let header : List ℕ = (piece_of c.in-Ok.header).1 in
    let rest : List ℕ = c.headers.rest.now in
    kept_more c.row_grows_by_a_header.ensures.row c.row_grows_by_a_header.ensures.bytes
    c.args.first.0 c.args.slice.now c.headers.has_header c.headers.fragmented c.headers.number.0 rest
    c.in-Some.slot header c.split_at.result.1.now (get_or c.split_at.result.0.now 0 0)
    (c.headers.fragmented || c.is_fragmenting-fragmented.result)
    c.headers.invariant (sym c.slot_of.ensures ∙ c.in-Some.is) found.0
    (split_back rest header found.1.0 c.split_at.result.1.now _ found.1.1
    (ap length c.bytes.ensures) c.split_at.ensures.back)
    (ap (λ (xs : List ℕ). get_or xs 0 0)
    (split_prefix rest header found.1.0 c.split_at.result.0.now _ found.1.1
    (ap length c.bytes.ensures) c.split_at.ensures.front))
    (ap (λ (b : Bool). c.headers.fragmented || b)
    (c.is_fragmenting-fragmented.ensures ∙ c.in-Ok.ensures.fragmenting))

pub add_slice_offset-requires : goal.add_slice_offset-requires
add_slice_offset-requires c =
    c.faults_can_be_moved.ensures.prefix c.in-Some.slot c.headers.rest.now c.in-Err.error
    (length c.args.slice.now - length c.headers.rest.now) c.in-Err.ensures.err (omega arith)

pub returns-in-Err : goal.returns-in-Err
returns-in-Err c =
    let kept = c.headers.invariant in
    found_fault c.row_ends_where_none_is_taken.ensures.fault c.args.first.0 c.args.slice.now
    c.headers.has_header c.headers.fragmented c.headers.number c.headers.rest
    c.of_parts-extensions.result
    c.in-Some.slot c.in-Err.error c.add_slice_offset.result
    (length c.args.slice.now - length c.headers.rest.now) c.layer.result kept
    (sym c.slot_of.ensures ∙ c.in-Some.is)
    (c.of_parts-extensions.ensures kept.pieces
    (passed_bytes c.args.first.0 c.args.slice.now c.headers.has_header c.headers.fragmented
    c.headers.number.0 c.headers.rest.now kept _ refl) kept.started kept.parted)
    c.in-Err.ensures.err refl c.add_slice_offset.ensures c.layer.ensures

pub returns : goal.returns
returns c =
    let kept = c.headers.invariant in
    found_closed c.row_ends_where_none_is_taken.ensures.closed c.args.first.0 c.args.slice.now
    c.headers.has_header c.headers.fragmented c.headers.number c.headers.rest
    c.of_parts-extensions-2.result
    c.misplaced.result kept (sym c.slot_of.ensures ∙ c.in_default.is)
    (c.of_parts-extensions-2.ensures kept.pieces
    (passed_bytes c.args.first.0 c.args.slice.now c.headers.has_header c.headers.fragmented
    c.headers.number.0 c.headers.rest.now kept _ refl) kept.started kept.parted)
    c.misplaced.ensures
