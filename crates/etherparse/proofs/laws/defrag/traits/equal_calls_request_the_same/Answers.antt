use Rattle.etherparse.proofs.SameCalls.{calls_same, answers_same}
use Rattle.etherparse.proofs.laws.defrag.traits.equal_calls_request_the_same.Goals as goal

pub returns-clause-calls : goal.returns-clause-calls
returns-clause-calls c = calls_same

pub returns-clause-pool_answers : goal.returns-clause-pool_answers
returns-clause-pool_answers c = answers_same c.equal_payloads_have_one_value.ensures
    c.types_are_plain_data.ensures.ip_defrag_error.equals
    c.types_are_plain_data-2.ensures.slice_error.equals
