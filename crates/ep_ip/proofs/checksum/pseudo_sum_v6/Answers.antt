use Rattle.std.proofs.Common.{rules}
use Rattle.ep_ip.proofs.PseudoSums.{pseudo_v6_sums}
use Rattle.ep_ip.proofs.checksum.pseudo_sum_v6.Goals as goal

pub returns : goal.returns
returns c =
    pseudo_v6_sums c.args.source c.args.destination c.args.number.0 c.args.len _ _ _ _ _
    (search rules) (search rules)
    c.new.ensures.text c.add_16bytes.ensures.text c.add_16bytes-2.ensures.text
    (rw c.to_be_bytes.ensures at c.add_4bytes.ensures.text) c.add_4bytes-2.ensures.text
