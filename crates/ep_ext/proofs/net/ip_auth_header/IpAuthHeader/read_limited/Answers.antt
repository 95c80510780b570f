use Rattle.std.proofs.Common.{take, subst, ap, ◌∙◌, refl}
use Rattle.ep_base.specs.declared.err.layer.Layer.TheVariants.{IpAuthHeader}
use Rattle.ep_ext.specs.Auth.{auth_of}
use Rattle.ep_ext.specs.Limited.{Limited, Takes, at_next_layer}
use Rattle.ep_ext.specs.Reads.{RefusesAuthWithin}
use Rattle.ep_ext.proofs.Reading.{auth_next, auth_refused_within}
use Rattle.ep_ext.proofs.net.ip_auth_header.IpAuthHeader.read_limited.Given.{Over}
use Rattle.ep_ext.proofs.net.ip_auth_header.IpAuthHeader.read_limited.Goals as goal

pub returns-in-Ok-clause-only : goal.returns-in-Ok-clause-only
returns-in-Ok-clause-only g c = λ header rest is_header known fits.
    let read = c.in-Ok.ensures.found in
    let P : Limited g.row.R.Denot → Type 0 =
    λ r. Takes g.R.Read.remaining r (take c.in-Ok.len c.read_bytes_limited.new.bytes)
    c.read_bytes_limited.new.reader in
    let takes : P (at_next_layer c.args.reader.now IpAuthHeader) = subst P c.start_layer.ensures
    read.2 in
    let next = auth_next (g.R.Read.remaining c.args.reader.now.reader)
    (g.R.Read.remaining c.read_bytes_limited.new.reader.reader) header rest
    (take c.in-Ok.len c.read_bytes_limited.new.bytes) is_header known read.1 takes.consumed in
    (c.to_header.ensures ∙ ap auth_of c.of_bytes.ensures ∙ next.0, next.1)

refused : (g : Over) (c : goal.In-Err g)
    → RefusesAuthWithin g.R.Read.remaining (at_next_layer c.args.reader.now IpAuthHeader)
    c.in-Err.error
    c.read_bytes_limited.new.reader
refused g c =
    let P : Limited g.row.R.Denot → Type 0 =
    λ r. RefusesAuthWithin g.R.Read.remaining r c.in-Err.error
    c.read_bytes_limited.new.reader in
    subst P c.start_layer.ensures c.in-Err.ensures.err

pub returns-in-Err-clause-only : goal.returns-in-Err-clause-only
returns-in-Err-clause-only g c = λ header rest is_header known fits.
    auth_refused_within g.R.Read.remaining (at_next_layer c.args.reader.now IpAuthHeader)
    c.read_bytes_limited.new.reader c.in-Err.error header rest is_header refl
    fits known (refused g c)

pub returns-in-Err-clause-err : goal.returns-in-Err-clause-err
returns-in-Err-clause-err g c = refused g c
