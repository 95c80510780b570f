use Rattle.std.proofs.Common.{◌≡◌, ◌≤◌, ◌+◌, ℕ, map, take, length}
use Rattle.std.specs.List.{AllByRecursion}
use Rattle.std.specs.Prelude.{vec_len, vec_capacity}
use Rattle.etherparse.specs.Counts.{open_in}
use Rattle.etherparse.specs.OpenReassemblies.{NeverMore}
use Rattle.etherparse.specs.PoolCalls.{HasMemory, Lists, CallsAnswered, ShowsLists, answer_result}
use Rattle.etherparse.proofs.defrag.pool_calls.run_calls.Given as goal

-- the answers so far are those to the calls so far
abbrev pub invariant-loop-call : goal.invariant-loop-call
invariant-loop-call g l = record {
  len : vec_len l.pool_answers ≡ l.call-index;
  room : length l.calls ≤ vec_capacity l.pool_answers;
  answers_so_far : (lists : Lists) → ShowsLists l.fn.pool lists
      → CallsAnswered (ShowsLists l.pool) lists (take l.call-index l.calls) (map answer_result l.pool_answers.items);
  bounded : (lists : Lists) (most : ℕ) → ShowsLists l.fn.pool lists
      → AllByRecursion HasMemory (map answer_result l.pool_answers.items)
      → open_in l.fn.pool + l.fn.pool.spare ≤ most → NeverMore lists l.calls most
      → open_in l.pool + l.pool.spare ≤ most;
}
