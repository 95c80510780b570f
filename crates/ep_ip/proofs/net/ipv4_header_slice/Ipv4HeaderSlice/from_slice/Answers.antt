use Rattle.std.proofs.Common.{arith}
use Rattle.ep_base.proofs.Bits.{masks}
use Rattle.ep_ip.proofs.Ipv4Prefix.{header_at-ok}
use Rattle.ep_ip.proofs.net.ipv4_header_slice.Ipv4HeaderSlice.from_slice.Goals as goal

pub returns : goal.returns
returns c = record { exact = grind (arith, masks, header_at-ok) }
