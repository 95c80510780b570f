use Rattle.ep_ip.proofs.laws.ipv6.header_is_read_again.Goals as goal

pub returns : goal.returns
returns c = λ rest prefix_is.
    let read = c.from_slice.ensures.only c.to_bytes-bytes.result rest
    c.to_bytes-bytes.ensures.header (rw c.to_bytes-bytes.ensures.bytes prefix_is) in
    rw (c.to_bytes-bytes.ensures.fields) at read
