use Rattle.ep_ext.proofs.Ipv4Chains.{ipv4_reads_back}
use Rattle.ep_ext.proofs.laws.extensions.written_ipv4_chain_reads_back.Goals as goal

pub returns : goal.returns
returns c = ipv4_reads_back c.args.headers.now c.args.first.0 c.args.slice.now c.from_slice.result
    c.from_slice.ensures.only c.has_whole_header.ensures
