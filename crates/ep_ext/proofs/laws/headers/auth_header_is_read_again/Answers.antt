use Rattle.std.proofs.Common.{◌≡◌, IsOkAnd, subst}
use Rattle.ep_ext.specs.Auth.{auth_of, auth_encoding}
use Rattle.ep_ext.specs.declared.net.ip_auth_header.IpAuthHeader.{IpAuthHeader}
use Rattle.ep_ext.proofs.laws.headers.auth_header_is_read_again.Goals as goal

pub returns : goal.returns
returns c = λ rest is.
    let header = c.args.header.now in
    let again : auth_of (auth_encoding header) ≡ header = c.header_len-len.ensures.fields in
    let P : IpAuthHeader → Type 0 =
    λ h. IsOkAnd c.from_slice.result (λ r. (r.0 ≡ h) × (r.1.now ≡ rest)) in
    subst P again (c.from_slice.ensures.only
    (auth_encoding header) rest c.header_len-len.ensures.header is)
