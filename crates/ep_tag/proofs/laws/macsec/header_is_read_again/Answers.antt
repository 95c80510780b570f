use Rattle.ep_tag.proofs.laws.macsec.header_is_read_again.Goals as goal

pub returns : goal.returns
returns c = λ rest room prefix_is.
    let read = c.from_slice.ensures.only c.to_bytes-bytes.result.items rest
    (c.to_bytes-bytes.ensures.header room) (rw c.to_bytes-bytes.ensures.bytes prefix_is) in
    rw (c.to_bytes-bytes.ensures.fields) at read
