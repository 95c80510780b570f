use Rattle.ep_tag.specs.Vlan.{double_encoding}
use Rattle.ep_tag.proofs.laws.double_vlan.header_is_read_again.Goals as goal

pub returns : goal.returns
returns c = λ rest names prefix_is.
    let read = c.from_slice.ensures.only (double_encoding c.args.header.now) rest
    (c.headers_are_their_bytes.ensures.header names) prefix_is in
    rw (c.headers_are_their_bytes.ensures.fields) at read
