use Rattle.std.proofs.Common.{take, subst, ◌∙◌, refl}
use Rattle.ep_base.specs.declared.err.layer.Layer.TheVariants.{Ipv6ExtHeader}
use Rattle.ep_ext.specs.Raw.{raw_len}
use Rattle.ep_ext.specs.Limited.{Limited, Takes, at_next_layer}
use Rattle.ep_ext.specs.Reads.{RefusesHeader}
use Rattle.ep_ext.proofs.Reading.{raw_next, raw_refused}
use Rattle.ep_ext.proofs.net.ipv6_raw_ext_header.Ipv6RawExtHeader.read_limited.Given.{Over}
use Rattle.ep_ext.proofs.net.ipv6_raw_ext_header.Ipv6RawExtHeader.read_limited.Goals as goal

pub returns-in-Ok-clause-only : goal.returns-in-Ok-clause-only
returns-in-Ok-clause-only g c = λ header rest is_header known fits.
    let read = c.in-Ok.ensures.found in
    let P : Limited g.row.R.Denot → Type 0 =
    λ r. Takes g.R.Read.remaining r (take c.in-Ok.len c.read_bytes_limited.new.bytes)
    c.read_bytes_limited.new.reader in
    let takes : P (at_next_layer c.args.reader.now Ipv6ExtHeader) =
    subst P c.start_layer.ensures read.2 in
    let next = raw_next (g.R.Read.remaining c.args.reader.now.reader)
    (g.R.Read.remaining c.read_bytes_limited.new.reader.reader) header rest
    (take c.in-Ok.len c.read_bytes_limited.new.bytes) is_header known read.1 takes.consumed in
    (c.of_bytes.ensures ∙ next.0, next.1)

refused : (g : Over) (c : goal.In-Err g)
    → RefusesHeader g.R.Read.remaining 8 raw_len
    (at_next_layer c.args.reader.now Ipv6ExtHeader) c.in-Err.error c.read_bytes_limited.new.reader
refused g c =
    let P : Limited g.row.R.Denot → Type 0 =
    λ r. RefusesHeader g.R.Read.remaining 8 raw_len r c.in-Err.error
    c.read_bytes_limited.new.reader in
    subst P c.start_layer.ensures c.in-Err.ensures.err

pub returns-in-Err-clause-only : goal.returns-in-Err-clause-only
returns-in-Err-clause-only g c = λ header rest is_header known fits.
    raw_refused g.R.Read.remaining (at_next_layer c.args.reader.now Ipv6ExtHeader)
    c.read_bytes_limited.new.reader c.in-Err.error header rest is_header refl
    fits known (refused g c)

pub returns-in-Err-clause-err : goal.returns-in-Err-clause-err
returns-in-Err-clause-err g c = refused g c
