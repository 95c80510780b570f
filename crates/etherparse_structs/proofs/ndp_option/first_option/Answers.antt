use Rattle.std.proofs.Common.{◌∙◌, ap}
use Rattle.etherparse.specs.icmp.NdpOptions.{item_at}
use Rattle.etherparse_structs.proofs.NdpOptionLemmas.{item_most}
use Rattle.etherparse_structs.proofs.ndp_option.first_option.Goals as goal

pub returns-clause-most : goal.returns-clause-most
returns-clause-most c =
    item_most c.args.options.now c.next-item.result
    (c.next-item.ensures.item ∙ ap item_at c.from_slice-iterator.ensures)
