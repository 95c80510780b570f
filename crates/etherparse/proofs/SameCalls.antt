-- Calls and answers of a pool that compare as equal describe the same.
use Rattle.std.proofs.Common.{arith, ◌≡◌, ◌↔◌, IsTrue, ap}
use Rattle.std.proofs.lemmas.Bool.Decides.{nat_tests, Decides-eqb}
use Rattle.std.specs.Cmp.Lexicographic.{bytes_decides}
use Rattle.ep_base.specs.Traits.{EqualIsSame}
use Rattle.ep_base.proofs.Same.{one_part, two_parts}
use Rattle.ep_packet.specs.contracts.err.packet.slice_error.SliceErrorPartialEq.TheImpl as faults
use Rattle.etherparse.specs.IpDefragPool.{payload_parsed}
use Rattle.etherparse.specs.PoolCalls.{answer_result, request_of_call}
use Rattle.etherparse.specs.PoolCalls.PoolRequest.{Came, Stays}
use Rattle.etherparse.specs.contracts.defrag.ip_defrag_error.IpDefragErrorPartialEq.TheImpl as refusals
use Rattle.etherparse.specs.contracts.defrag.ip_defrag_payload_vec.IpDefragPayloadVecPartialEq.TheImpl as payloads
use Rattle.etherparse.specs.contracts.defrag.pool_calls.PoolCallPartialEq.TheImpl as calls
use Rattle.etherparse.specs.contracts.defrag.pool_calls.PoolAnswerPartialEq.TheImpl as pool_answers
use Rattle.etherparse.specs.declared.defrag.ip_defrag_payload_vec.IpDefragPayloadVec.{IpDefragPayloadVec}
use Rattle.etherparse.specs.declared.defrag.pool_calls.PoolCall.{PoolCall}
use Rattle.etherparse.specs.declared.defrag.pool_calls.PoolCall.TheVariants.{Frame, RetainFrom}
use Rattle.etherparse.specs.declared.defrag.pool_calls.PoolAnswer.{PoolAnswer}
use Rattle.etherparse.specs.declared.defrag.pool_calls.PoolAnswer.TheVariants as pool_answer

pub calls_same : (a b : PoolCall) → IsTrue (calls.ghosts.eq a b) ↔ (request_of_call a ≡ request_of_call b)
calls_same (Frame f t c) (Frame g u d) =
    two_parts (bytes_decides f.now g.now)
    (two_parts (Decides-eqb t u) (Decides-eqb c d) (λ x y. (x, y)) (λ both. both))
    (λ x y i. Came (x i) (y.0 i) (y.1 i)) (λ is. (cc, (cc, cc)))
calls_same (RetainFrom m) (RetainFrom n) = one_part (Decides-eqb m n) (ap Stays) (λ is. cc)
calls_same a b = (λ is. cc, λ is. cc)

pub answers_same : ((a b : IpDefragPayloadVec) → IsTrue (payloads.ghosts.eq a b)
    ↔ (payload_parsed a ≡ payload_parsed b))
    → EqualIsSame refusals.ghosts.eq → EqualIsSame faults.ghosts.eq →
    (a b : PoolAnswer) → IsTrue (pool_answers.ghosts.eq a b) ↔ (answer_result a ≡ answer_result b)
answers_same same refused faulty a b = grind (arith, nat_tests)
