use Rattle.std.proofs.Common.{List, ℕ, sym, subst}
use Rattle.ep_ext.specs.Chain.{Chain}
use Rattle.ep_ext.specs.Slot.{slot_of}
use Rattle.ep_ext.proofs.ValueEncodedThenParsed.{reads_back}
use Rattle.ep_ext.proofs.laws.extensions.read_call_gives_written_chain.Goals as goal

pub returns : goal.returns
returns c = λ pieces last rest follows whole following cut.
    let first = c.args.first.0 in
    let value = c.args.headers.now in
    let law = c.written_chain_reads_back.ensures value first pieces last rest
    c.has_whole_headers.ensures follows whole following in
    let chain = subst (λ (bytes : List ℕ). Chain slot_of first bytes pieces last rest) (sym cut)
    law.0 in
    reads_back value pieces last rest c.from_slice.result
    (c.from_slice.ensures.only pieces last rest chain) law.1 law.2
