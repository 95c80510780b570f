-- Calls that are answered one by one.
use Rattle.std.proofs.Common.{◌≡◌, ℕ, ◌+◌, ◌<◌, ◌≤◌, inl, inr, Option, Some, None, List, [], ◌∷◌, ◌++◌, map, take}
use Rattle.std.proofs.Common.{length, get_or, sym, refl, subst, arith}
use Rattle.std.proofs.lemmas.Grind.{common_steps}
use Rattle.std.proofs.lemmas.List.{take_more, map-append}
use Rattle.std.specs.List.{AllByRecursion}
use Rattle.std.specs.Option.{option_map}
use Rattle.ep_packet.specs.Class.{Class, class_of}
use Rattle.ep_packet.specs.Class.Class.{Whole, Cut, Other, Refused as Faulty}
use Rattle.ep_packet.specs.declared.err.packet.slice_error.SliceError.{SliceError}
use Rattle.etherparse.specs.declared.defrag.ip_defrag_error.IpDefragError.{IpDefragError}
use Rattle.etherparse.specs.declared.defrag.overlap_rule.OverlapRule.{OverlapRule}
use Rattle.etherparse.specs.declared.defrag.pool_calls.PoolCall.{PoolCall}
use Rattle.etherparse.specs.declared.defrag.pool_calls.PoolCall.TheVariants.{Frame, RetainFrom}
use Rattle.etherparse.specs.declared.defrag.pool_calls.PoolAnswer.{PoolAnswer}
use Rattle.etherparse.specs.declared.defrag.ip_frag_id.IpFragId.{IpFragId}
use Rattle.etherparse.specs.Counts.{Bounded, open_in}
use Rattle.etherparse.specs.Fragments.{Fragment, fragment, named_end, refusal_at}
use Rattle.etherparse.specs.IpFragId.{id_named, rule_over}
use Rattle.etherparse.specs.OpenReassemblies.{IsOpenCount, NeverMore}
use Rattle.etherparse.specs.Outcome.{Outcome, memory_error, outcome}
use Rattle.etherparse.specs.PoolCalls.{Answered, HasMemory, Lists, CallsAnswered, CallResult, answer_to_frame, answers}
use Rattle.etherparse.specs.PoolCalls.{lists_after, lists_with, outcome_at, answer_result, result_of_outcome}
use Rattle.etherparse.specs.PoolCalls.{memory_error_at, memory_error_at_frame}
use Rattle.etherparse.specs.PoolCalls.CallResult.{Refused}
use Rattle.etherparse.specs.Processed.{MemoryErrorsAreReported}
use Rattle.etherparse.specs.ReassemblyTable.{Pool}
use Rattle.etherparse.proofs.OutcomeLemmas.{by_outcome}

-- one answer more, where each list of names at which the ones before may end is continued by it
pub CallsAnswered-push : (ends more : Lists → Type 0) (lists : Lists) (calls : List PoolCall)
    (tolds : List CallResult) (call : PoolCall) (reported : CallResult)
    → ((here : Lists) → ends here → Answered more here call reported) → CallsAnswered ends lists calls
    tolds
    → CallsAnswered more lists (calls ++ call ∷ []) (tolds ++ reported ∷ [])
CallsAnswered-push ends more lists [] [] call reported goes_on h = goes_on lists h
CallsAnswered-push ends more lists [] (t ∷ tolds) call reported goes_on h = absurd h
CallsAnswered-push ends more lists (c ∷ calls) [] call reported goes_on h = absurd h
CallsAnswered-push ends more lists (c ∷ calls) (t ∷ tolds) call reported goes_on (inl h) =
    inl (h.0, CallsAnswered-push ends more (lists_with lists c) calls tolds call reported goes_on h.1)
CallsAnswered-push ends more lists (c ∷ calls) (t ∷ tolds) call reported goes_on (inr h) =
    inr (h.0, CallsAnswered-push ends more lists calls tolds call reported goes_on h.1)

-- the calls that were answered, with the next one
one_more : (calls : List PoolCall) (i : ℕ) (call : PoolCall) → i < length calls
    → call ≡ get_or calls i call → take (i + 1) calls ≡ take i calls ++ call ∷ []
one_more calls i call below at = grind (arith, take_more)

-- the answers with that to one call more
pub answers_more : (ends more : Lists → Type 0) (lists : Lists) (calls : List PoolCall) (i : ℕ)
    (call : PoolCall) (pool_answers : List PoolAnswer) (pool_answer : PoolAnswer) → i < length calls
    → call ≡ get_or calls i call
    → ((here : Lists) → ends here → Answered more here call (answer_result pool_answer))
    → CallsAnswered ends lists (take i calls) (map answer_result pool_answers)
    → CallsAnswered more lists (take (i + 1) calls) (map answer_result (pool_answers ++ pool_answer ∷ []))
answers_more ends more lists calls i call pool_answers pool_answer below at goes_on h =
    subst (λ (cs : List PoolCall). CallsAnswered more lists cs (map answer_result (pool_answers ++ pool_answer ∷ [])))
    (sym (one_more calls i call below at))
    (subst (CallsAnswered more lists (take i calls ++ call ∷ []))
    (sym (map-append answer_result pool_answers (pool_answer ∷ [])))
    (CallsAnswered-push ends more lists (take i calls) (map answer_result pool_answers) call
    (answer_result pool_answer) goes_on h))

-- ---- where no memory is lacking

lacks_memory : (f : Fragment) (o : Outcome) (t : CallResult)
    → option_map Refused (memory_error f o) ≡ Some t → HasMemory t → ⊥
lacks_memory f o t is has = grind arith

frame_memory_error : (lists : Lists) (class : Class) (channel : ℕ) (t : CallResult)
    → option_map Refused (memory_error_at_frame lists class channel) ≡ Some t → HasMemory t → ⊥
frame_memory_error lists (Cut name offset more bytes) channel t is has =
    let f = fragment offset more bytes in
    lacks_memory f (outcome_at lists name channel f) t is has
frame_memory_error lists (Whole addresses number bytes message) channel t is has = cc
frame_memory_error lists Other channel t is has = cc
frame_memory_error lists Faulty channel t is has = cc

none_reported : (e : IpDefragError) → None ≡ Some e → HasMemory (Refused e)
none_reported e is = cc

refusal_has : (named : Option ℕ) (f : Fragment) (e : IpDefragError) → refusal_at named f ≡ Some e
    → HasMemory (Refused e)
refusal_has named f e is = grind arith

-- so no answer reports it
fragment_has : (rule : OverlapRule) (id : IpFragId ℕ) (fs : List Fragment) (f : Fragment)
    → HasMemory (result_of_outcome id (outcome rule fs f))
fragment_has rule id fs f = by_outcome rule fs f (λ (o : Outcome). HasMemory (result_of_outcome id o))
    (λ e refused. refusal_has (named_end fs) f e refused) (λ _ _. tt) (λ _ _. tt) (λ _ _. tt)

answer_has : (lists : Lists) (class : Class) (channel : ℕ) (fault : Option SliceError)
    → HasMemory (answer_to_frame lists class channel fault)
answer_has lists (Cut name offset more bytes) channel fault =
    fragment_has (rule_over name.addresses) (id_named name channel)
    (lists name channel).fragments (fragment offset more bytes)
answer_has lists (Whole addresses number bytes message) channel fault = tt
answer_has lists Other channel fault = tt
answer_has lists Faulty channel fault = tt

pub memory_errors_are_reported : MemoryErrorsAreReported
memory_errors_are_reported = record { answers = answer_has; memory_errors = frame_memory_error }

-- what may be answered in place of an answer reports out of memory
memory_errors : (lists : Lists) (call : PoolCall) (t : CallResult)
    → option_map Refused (memory_error_at lists call) ≡ Some t → HasMemory t → ⊥
memory_errors lists (Frame frame time channel) t is has =
    frame_memory_error lists (class_of frame.now) channel t is has
memory_errors lists (RetainFrom from) t is has = cc

-- the reported answers are those with memory, and the lists those after all calls
pub answers_with_memory : (ends : Lists → Type 0) (lists : Lists) (calls : List PoolCall)
    (tolds : List CallResult) → CallsAnswered ends lists calls tolds → AllByRecursion HasMemory tolds
    → (tolds ≡ answers lists calls) × ends (lists_after lists calls)
answers_with_memory ends lists [] [] h has = (refl, h)
answers_with_memory ends lists [] (t ∷ tolds) h has = absurd h
answers_with_memory ends lists (call ∷ calls) [] h has = absurd h
answers_with_memory ends lists (call ∷ calls) (t ∷ tolds) (inl h) has =
    grind (arith, answers_with_memory ends (lists_with lists call) calls tolds h.1 has.1)
answers_with_memory ends lists (call ∷ calls) (t ∷ tolds) (inr h) has =
    absurd (memory_errors lists call t h.0 has.0)

-- ---- how many reassemblies there are

has_prefix : (tolds : List CallResult) (reported : CallResult) → AllByRecursion HasMemory (tolds ++ reported ∷ [])
    → AllByRecursion HasMemory tolds
has_prefix [] reported has = tt
has_prefix (t ∷ tolds) reported has = (has.0, has_prefix tolds reported has.1)

pub prefix_has : (pool_answers : List PoolAnswer) (pool_answer : PoolAnswer)
    → AllByRecursion HasMemory (map answer_result (pool_answers ++ pool_answer ∷ []))
    → AllByRecursion HasMemory (map answer_result pool_answers)
prefix_has pool_answers pool_answer has = has_prefix (map answer_result pool_answers) (answer_result pool_answer)
    (subst (AllByRecursion HasMemory) (map-append answer_result pool_answers (pool_answer ∷ [])) has)

-- one call more leaves no more than before, or no more than there are reassemblies
pub bounded_more : (before after : Pool (IpFragId ℕ) ℕ) (lists : Lists) (calls : List PoolCall)
    (k most : ℕ) → Bounded before after → open_in before + before.spare ≤ most
    → NeverMore lists calls most
    → IsOpenCount (lists_after lists (take k calls)) (open_in after)
    → open_in after + after.spare ≤ most
bounded_more before after lists calls k most (inl fewer) start never count = omega (arith, fewer)
bounded_more before after lists calls k most (inr none) start never count =
    omega (arith, none, count.counted, never k count.datagrams count.are_open)

-- the call that is read at an index after the end of a list
abbrev pub no_call : PoolCall
no_call = Frame (record { ref_ptr = (0, 0); now = [] }) 0 0

pub same_call : (calls : List PoolCall) (i : ℕ) → i < length calls
    → get_or calls i no_call ≡ get_or calls i (get_or calls i no_call)
same_call calls i below = grind (arith, common_steps)
