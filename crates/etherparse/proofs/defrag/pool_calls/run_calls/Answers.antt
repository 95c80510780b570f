use Rattle.std.proofs.Common.{arith, List, [], ◌∷◌, ◌++◌, ◌<◌, ◌+◌, get_or, length, map, subst, take}
use Rattle.std.proofs.lemmas.List.{take_all}
use Rattle.etherparse.specs.declared.defrag.pool_calls.PoolCall.{PoolCall}
use Rattle.etherparse.specs.PoolCalls.{Answered, Lists, CallsAnswered, ShowsLists, answer_result, lists_after}
use Rattle.etherparse.proofs.JoinedDatagrams.{answers_join}
use Rattle.etherparse.proofs.CallAnswers.{bounded_more, prefix_has, no_call, same_call, answers_more, answers_with_memory}
use Rattle.etherparse.proofs.defrag.pool_calls.run_calls.Goals as goal

pub loop-call-preserved : goal.loop-call-preserved
loop-call-preserved g c =
    let i = c.loop-call.invariant in
    let pushed = rw c.unwrap.ensures at c.push.ensures.items in
    let longer = rw c.unwrap.ensures at c.push.ensures.len in
    let call = get_or c.args.calls.now c.loop-call.call-index no_call in
    let below : c.loop-call.call-index < length c.args.calls.now = omega arith in
    let is = same_call c.args.calls.now c.loop-call.call-index below in
    let answered : (lists : Lists) → ShowsLists c.loop-call.pool lists
    → Answered (ShowsLists c.answer-pool_answer.new.pool) lists call (answer_result c.answer-pool_answer.result) =
    c.answer-pool_answer.ensures.answered in
    let more : (lists : Lists) → ShowsLists c.args.pool.now lists
    → CallsAnswered (ShowsLists c.answer-pool_answer.new.pool) lists
    (take (c.loop-call.call-index + 1) c.args.calls.now)
    (map answer_result (c.loop-call.pool_answers.items ++ c.answer-pool_answer.result ∷ [])) =
    λ lists shows. answers_more (ShowsLists c.loop-call.pool)
    (ShowsLists c.answer-pool_answer.new.pool) lists c.args.calls.now c.loop-call.call-index
    call c.loop-call.pool_answers.items c.answer-pool_answer.result below is
    answered (i.answers_so_far lists shows) in
    record {
      len = omega (arith, longer);
      room = omega (arith, c.push.ensures.capacity);
      answers_so_far = λ lists shows. rw pushed (more lists shows);
      bounded = λ lists most shows has start never.
          let reported = rw pushed at has in
          let here = answers_with_memory (ShowsLists c.answer-pool_answer.new.pool) lists
          (take (c.loop-call.call-index + 1) c.args.calls.now)
          (map answer_result (c.loop-call.pool_answers.items ++ c.answer-pool_answer.result ∷ []))
          (more lists shows) reported in
          bounded_more c.loop-call.pool c.answer-pool_answer.new.pool lists c.args.calls.now
          (c.loop-call.call-index + 1) most c.answer-pool_answer.ensures.bound
          (i.bounded lists most shows
          (prefix_has c.loop-call.pool_answers.items c.answer-pool_answer.result reported) start never) never
          (c.open_reassemblies_are_counted.ensures c.answer-pool_answer.new.pool
          (lists_after lists (take (c.loop-call.call-index + 1) c.args.calls.now))
          c.open_len.ensures.names here.1);
    }

pub returns-clause-pool_answers : goal.returns-clause-pool_answers
returns-clause-pool_answers g c lists shows =
    subst (λ (calls : List PoolCall). CallsAnswered (ShowsLists c.loop-call.pool) lists calls
    (map answer_result c.loop-call.pool_answers.items))
    (take_all c.loop-call.call-index c.args.calls.now (omega arith))
    (c.loop-call.invariant.answers_so_far lists shows)

pub returns-clause-reported : goal.returns-clause-reported
returns-clause-reported g c lists shows has =
    (answers_with_memory (ShowsLists c.loop-call.pool) lists c.args.calls.now
    (map answer_result c.loop-call.pool_answers.items) (returns-clause-pool_answers g c lists shows) has).0

pub returns-clause-joined : goal.returns-clause-joined
returns-clause-joined g c lists shows accepted =
    answers_join (ShowsLists c.loop-call.pool) lists c.args.calls.now
    (map answer_result c.loop-call.pool_answers.items) (returns-clause-pool_answers g c lists shows) accepted

pub returns-clause-lists : goal.returns-clause-lists
returns-clause-lists g c lists shows has =
    (answers_with_memory (ShowsLists c.loop-call.pool) lists c.args.calls.now
    (map answer_result c.loop-call.pool_answers.items) (returns-clause-pool_answers g c lists shows) has).1

pub returns-clause-bound : goal.returns-clause-bound
returns-clause-bound g c lists most shows has start never =
    c.loop-call.invariant.bounded lists most shows has start never
