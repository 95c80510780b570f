use Rattle.std.proofs.Common.{rules}
use Rattle.ep_ip.proofs.PseudoSums.{pseudo_v4_sums}
use Rattle.ep_ip.proofs.checksum.pseudo_sum_v4.Goals as goal

pub returns : goal.returns
returns c =
    pseudo_v4_sums c.args.source c.args.destination c.args.number.0 c.args.len _ _ _ _ _
    (search rules) (search rules)
    c.new.ensures.text c.add_4bytes.ensures.text c.add_4bytes-2.ensures.text
    c.add_2bytes.ensures.text (rw c.to_be_bytes.ensures at c.add_2bytes-2.ensures.text)
