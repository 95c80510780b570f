use Rattle.ep_icmp.proofs.laws.ndp.header_is_read_again.Goals as goal

pub returns : goal.returns
returns c = λ rest parts.
    let read = c.from_slice.ensures.only c.to_bytes-bytes.result.items rest
    c.to_bytes-bytes.ensures.header (rw c.to_bytes-bytes.ensures.bytes parts) in
    rw (c.to_bytes-bytes.ensures.fields) at read
