use Rattle.std.proofs.Common.{◌≡◌, IsOkAnd, refl, subst}
use Rattle.ep_ext.specs.Raw.{raw_of, raw_encoding}
use Rattle.ep_ext.specs.declared.net.ipv6_raw_ext_header.Ipv6RawExtHeader.{Ipv6RawExtHeader}
use Rattle.ep_ext.proofs.laws.headers.raw_header_is_read_again.Goals as goal

pub returns : goal.returns
returns c = λ rest is.
    let header = c.args.header.now in
    let again : raw_of (raw_encoding header) ≡ header = refl in
    let P : Ipv6RawExtHeader → Type 0 =
    λ h. IsOkAnd c.from_slice.result (λ r. (r.0 ≡ h) × (r.1.now ≡ rest)) in
    subst P again (c.from_slice.ensures.only
    (raw_encoding header) rest c.header_len-len.ensures.header is)
