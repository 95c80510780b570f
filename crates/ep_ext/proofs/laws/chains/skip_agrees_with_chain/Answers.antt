use Rattle.ep_ext.specs.Slot.{slot_of}
use Rattle.ep_ext.proofs.Skipped.{chain_skips, slot_numbers}
use Rattle.ep_ext.proofs.laws.chains.skip_agrees_with_chain.Goals as goal

pub returns-clause-value : goal.returns-clause-value
returns-clause-value c = λ first bytes pieces last rest. chain_skips slot_of first bytes pieces last
    rest c.skip_follows_every_walk.ensures.answer slot_numbers

pub returns-clause-any : goal.returns-clause-any
returns-clause-any c = λ order first bytes pieces last rest. chain_skips order first bytes pieces
    last rest c.skip_follows_every_walk.ensures.answer

pub returns-clause-own : goal.returns-clause-own
returns-clause-own c = slot_numbers
