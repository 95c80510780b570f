use Rattle.std.proofs.Common.{rules}
use Rattle.ep_link.proofs.SllEncoding.{put_together}
use Rattle.ep_link.proofs.link.linux_sll_header.LinuxSllHeader.encoded.Goals as goal

pub returns-clause-bytes : goal.returns-clause-bytes
returns-clause-bytes c =
    let h = c.args.self.now in
    rw (
      c.to_be_bytes-packet_type.ensures,
      c.value.ensures.value,
      c.to_be_bytes-hardware_type.ensures,
      c.to_be_bytes-address_len.ensures,
      c.to_be_bytes-number.ensures,
      c.from.ensures,
    )
    (put_together _ _ _ _ _ _ h.sender_address _ _ (search rules))
