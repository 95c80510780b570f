use Rattle.etherparse.proofs.BuiltSums.{sums_to_all_ones}
use Rattle.etherparse.proofs.laws.packet_builder.builder.built_messages_sum_to_all_ones.Goals as goal

pub returns : goal.returns
returns c =
    sums_to_all_ones c.sealed_sums_to_all_ones.ensures c.sealed_sums_to_all_ones-2.ensures.header
    c.checksums_sum_to_all_ones.ensures
    c.checksums_sum_to_all_ones-2.ensures c.args.ip.now c.args.transport.now c.args.payload.now
    c.addresses_are_whole.ensures c.options_are_whole.ensures
