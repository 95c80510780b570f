use Rattle.ep_ip.specs.Skip.{skip}
use Rattle.ep_ext.proofs.Skipped.{skip_answer}
use Rattle.ep_ext.proofs.laws.chains.skip_call_agrees_with_chain.Goals as goal

pub returns : goal.returns
returns c = λ order pieces last rest keeps chain following.
    skip_answer (skip c.args.first.0 c.args.slice.now) last rest
    c.skip_all_header_extensions_in_slice.result
    c.skip_all_header_extensions_in_slice.ensures.exact
    (c.skip_agrees_with_chain.ensures.any order c.args.first.0 c.args.slice.now pieces last rest
    keeps chain following)
