use Rattle.std.proofs.Common.{◌≡◌, IsOkAnd, refl, subst}
use Rattle.ep_ext.specs.Fragment.{fragment_header_of, fragment_encoding}
use Rattle.ep_ext.specs.declared.net.ipv6_fragment_header.Ipv6FragmentHeader.{Ipv6FragmentHeader}
use Rattle.ep_ext.proofs.laws.headers.fragment_header_is_read_again.Goals as goal

pub returns : goal.returns
returns c = λ rest is.
    let header = c.args.header.now in
    let again : fragment_header_of (fragment_encoding header) ≡ header = c.header_len-len.ensures.fields in
    let P : Ipv6FragmentHeader → Type 0 =
    λ h. IsOkAnd c.from_slice.result (λ r. (r.0 ≡ h) × (r.1.now ≡ rest)) in
    subst P again (c.from_slice.ensures.only (fragment_encoding header) rest
    (record { whole = refl }) is)
