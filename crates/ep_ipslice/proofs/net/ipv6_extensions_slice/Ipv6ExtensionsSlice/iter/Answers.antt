use Rattle.std.proofs.Common.{[], ◌∙◌, ap, refl, sym}
use Rattle.ep_ipslice.specs.Ipv6Exts.{Ipv6Exts}
use Rattle.ep_ipslice.specs.Ipv6Walk.{headers_left}
use Rattle.ep_ipslice.proofs.Left.{none_left, none_named, view_left, view_pieces}
use Rattle.ep_ipslice.proofs.net.ipv6_extensions_slice.Ipv6ExtensionsSlice.iter.Goals as goal

pub new-requires : goal.new-requires
new-requires c =
    let exts : Ipv6Exts =
    record {
      first_header = c.self.inside.first_header;
      fragmented = c.self.inside.fragmented;
      slice = c.self.inside.slice.now;
    } in
    view_left exts c.in-Some.first c.self.invariant c.in-Some.is

pub returns-in-Some-clause-headers : goal.returns-in-Some-clause-headers
returns-in-Some-clause-headers c = λ first pieces last row seen.
    let exts : Ipv6Exts =
    record {
      first_header = c.self.inside.first_header;
      fragmented = c.self.inside.fragmented;
      slice = c.self.inside.slice.now;
    } in
    ap headers_left c.new.ensures ∙ view_pieces c.whole_header_is_found.ensures.found
    c.whole_header_is_found.ensures.least exts c.in-Some.first first pieces last c.in-Some.is
    row (c.self.view_is ∙ seen)

pub returns-in-None-clause-headers : goal.returns-in-None-clause-headers
returns-in-None-clause-headers c = λ first pieces last row seen.
    ap headers_left c.default.ensures ∙ none_left 59 [] refl
    ∙ sym (none_named first pieces
    (sym (ap (λ (exts : Ipv6Exts). exts.first_header) (c.self.view_is ∙ seen)) ∙ c.in-None.is))
