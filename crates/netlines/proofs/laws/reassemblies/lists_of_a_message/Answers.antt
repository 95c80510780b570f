use Rattle.std.proofs.Common.{ap}
use Rattle.etherparse.specs.PoolCalls.{Lists}
use Rattle.netlines.proofs.AnswerLemmas.{lists_after_lines-nil}
use Rattle.netlines.proofs.ArrivalLemmas.{fragment_answered, list_with_fragment, list_with_other}
use Rattle.netlines.proofs.laws.reassemblies.lists_of_a_message.Goals as goal

pub returns-clause-none : goal.returns-clause-none
returns-clause-none c name channel =
    ap (λ (lists : Lists). lists name channel) lists_after_lines-nil

pub returns-clause-answer : goal.returns-clause-answer
returns-clause-answer c earlier line name channel f has =
    fragment_answered line name channel f has earlier

pub returns-clause-fragment : goal.returns-clause-fragment
returns-clause-fragment c earlier line name channel f has =
    list_with_fragment line name channel f has earlier

pub returns-clause-other : goal.returns-clause-other
returns-clause-other c earlier line name channel no_fragment no_forget =
    list_with_other c.equal_names.ensures.same line name channel earlier no_fragment no_forget
