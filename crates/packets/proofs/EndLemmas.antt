-- How runs end: by a write or otherwise.
use Rattle.std.proofs.Common.{◌≡◌, ◌⊎◌, sym, refl, subst, arith, ℕ, Bool, List, [], Option, Result, Ok, Err, MatchResult}
use Rattle.std.proofs.Common.{OnOk, OnErr, append-nil, inl, inr}
use Rattle.captures.specs.PacketSteps.{Gives}
use Rattle.captures.specs.Skipping.{none_skipped}
use Rattle.captures.specs.Units.{skipped_in}
use Rattle.captures.specs.declared.packet.Packet.{Packet}
use Rattle.captures.specs.declared.skipped.Skipped.{Skipped}
use Rattle.captures.specs.declared.state.State.{State}
use Rattle.captures.specs.declared.state.State.TheVariants.{Start}
use Rattle.captures.specs.declared.translation.run_error.RunError.{RunError}
use Rattle.captures.specs.declared.translation.run_error.RunError.TheVariants.{Read, Write, WriteZero, Memory}
use Rattle.captures.specs.declared.translation.run_error.RunError.TheVariants.{TooManyReads, Capture, BadLine}
use Rattle.captures.specs.declared.unfit.Unfit.{Unfit}
use Rattle.packets.specs.PacketRuns.{AreButLast, AreTaken, BreaksBy, EndsBy, Leaves, Unbroken, UnlessOutOfMemory}

pub weaker_match : {E : Type 0} (result : Result Unit E) (A C : Type 0) (B D : E → Type 0)
    → (A → C) → ((error : E) → B error → D error) → MatchResult result (λ _. A) B
    → MatchResult result (λ _. C) D
weaker_match (Ok done) A C B D ok err holds = ok holds
weaker_match (Err error) A C B D ok err holds = err error holds

pub by_result : {E : Type 0} (result : Result Unit E) (A B : Type 0) → OnOk result A
    → OnErr result B → MatchResult result (λ _. A) (λ _. B)
by_result (Ok done) A B ok err = ok
by_result (Err error) A B ok err = err

pub by_both : {E : Type 0} (result : Result Unit E) (A B C D : Type 0) → OnOk result A → OnOk result B
    → OnErr result C → OnErr result D → MatchResult result (λ _. A × B) (λ _. C × D)
by_both (Ok done) A B C D a b c d = (a, b)
by_both (Err error) A B C D a b c d = (c, d)

-- one of two, by whichever holds of two others
pub by_either : {A B C D : Type 0} → A ⊎ B → (A → C) → (B → D) → C ⊎ D
by_either (inl a) first second = inl (first a)
by_either (inr b) first second = inr (second b)

pub weaker_break : (writes : Bool) (error : RunError) (A B : Type 0) → (A → B)
    → BreaksBy writes error A → BreaksBy writes error B
weaker_break writes Read A B from by = by
weaker_break writes Write A B from by = (by.0, from by.1)
weaker_break writes WriteZero A B from by = (by.0, from by.1)
weaker_break writes Memory A B from by = by
weaker_break writes TooManyReads A B from by = by
weaker_break writes (Capture why position) A B from by = by
weaker_break writes (BadLine number) A B from by = by

-- what holds after a write's error, which ends a run
pub broken : (writes : Bool) (error : RunError) (A : Type 0) → BreaksBy writes error A
    → A × ((P Q : Type 0) → Q → Unbroken (Err error) P Q)
broken writes Read A by = absurd by
broken writes Write A by = (by.1, λ P Q q. q)
broken writes WriteZero A by = (by.1, λ P Q q. q)
broken writes Memory A by = absurd by
broken writes TooManyReads A by = absurd by
broken writes (Capture why position) A by = absurd by
broken writes (BadLine number) A by = absurd by

-- a write ended a run, or it didn't
pub either_way : (result : Result Unit RunError) (A B C : Type 0) → Unbroken result A B
    → (A → ((P Q : Type 0) → P → Unbroken result P Q) → C)
    → (B → ((P Q : Type 0) → Q → Unbroken result P Q) → C) → C
either_way (Ok done) A B C holds first second = first holds (λ P Q p. p)
either_way (Err Read) A B C holds first second = first holds (λ P Q p. p)
either_way (Err Write) A B C holds first second = second holds (λ P Q q. q)
either_way (Err WriteZero) A B C holds first second = second holds (λ P Q q. q)
either_way (Err Memory) A B C holds first second = first holds (λ P Q p. p)
either_way (Err TooManyReads) A B C holds first second = first holds (λ P Q p. p)
either_way (Err (Capture why position)) A B C holds first second = first holds (λ P Q p. p)
either_way (Err (BadLine number)) A B C holds first second = first holds (λ P Q p. p)

pub weaker_unbroken : (result : Result Unit RunError) (A B C D : Type 0) → (A → C) → (B → D)
    → Unbroken result A B → Unbroken result C D
weaker_unbroken result A B C D first second holds = either_way result A B (Unbroken result C D) holds
    (λ a here. here C D (first a)) (λ b here. here C D (second b))

-- memory ran out for a packet
pub left_by_memory : (result : Result Unit RunError) (Goes Fails : Type 0) → result ≡ Err Memory → Goes ⊎ Fails
    → Goes ⊎ ((result ≡ Err Memory) × Fails)
left_by_memory result Goes Fails is (inl goes) = inl goes
left_by_memory result Goes Fails is (inr fails) = inr (is, fails)

-- where the visitor has no other relation for it
pub always_unbroken : (result : Result Unit RunError) (Goes Breaks : Type 0) → Leaves result Goes ⊥ Breaks
    → Unbroken result Goes Breaks
always_unbroken result Goes Breaks (inl holds) = holds
always_unbroken result Goes Breaks (inr none) = absurd none.1

pub unbroken_always : (result : Result Unit RunError) (A : Type 0) → Unbroken result A ⊥ → A
unbroken_always result A holds =
    either_way result A ⊥ A holds (λ a here. a) (λ none here. absurd none)

-- no write ends it
pub left_either : (result : Result Unit RunError) (Goes Fails C : Type 0) → Leaves result Goes Fails ⊥
    → (Goes → C) → (result ≡ Err Memory → Fails → C) → C
left_either result Goes Fails C (inl holds) first second = first (unbroken_always result Goes holds)
left_either result Goes Fails C (inr failed) first second = second failed.0 failed.1

-- the packets that were given are the first ones, and none is left out
pub all_first : (unfit : Unfit) (skipped : Skipped) (bytes : List ℕ) (given : List Packet)
    (state : State) (rest : List ℕ) → Gives (Start unfit) bytes given state rest
    → skipped_in state ≡ skipped → AreButLast unfit skipped bytes given
all_first unfit skipped bytes given state rest gives counts = (
  [],
  omega arith,
  (
    state,
    rest,
    subst (λ (l : List Packet). Gives (Start unfit) bytes l state rest) (sym (append-nil given))
        gives,
    counts,
  ),
)

-- it was given packets of the bytes
pub ends_taken : (unfit : Unfit) (skipped : Skipped) (left : Option (List ℕ)) (bytes : List ℕ)
    (given : List Packet) (writes : Bool) (result : Result Unit RunError)
    → EndsBy writes unfit skipped left bytes given result → AreTaken unfit skipped bytes given
ends_taken unfit skipped left bytes given writes (Ok done) ends = inr ends.0
ends_taken unfit skipped left bytes given writes (Err Read) ends =
    inl (all_first unfit skipped bytes given ends.state ends.rest ends.gives ends.counts)
ends_taken unfit skipped left bytes given writes (Err Write) ends = ends.1
ends_taken unfit skipped left bytes given writes (Err WriteZero) ends = ends.1
ends_taken unfit skipped left bytes given writes (Err Memory) ends = inl ends
ends_taken unfit skipped left bytes given writes (Err TooManyReads) (inl (are, reads)) =
    inl (all_first unfit skipped bytes given are.state are.rest are.gives are.counts)
ends_taken unfit skipped left bytes given writes (Err TooManyReads) (inr (first, count)) =
    inl (all_first unfit skipped bytes given first.0 first.1 first.2 first.3)
ends_taken unfit skipped left bytes given writes (Err (Capture why position)) ends =
    inl (all_first unfit skipped bytes given ends.state ends.rest ends.gives ends.counts)
ends_taken unfit skipped left bytes given writes (Err (BadLine number)) ends = absurd ends

-- a write that failed is how it ends
pub break_ends : (writes : Bool) (unfit : Unfit) (skipped : Skipped) (left : Option (List ℕ))
    (bytes : List ℕ) (given : List Packet) (error : RunError) (Breaks : Type 0)
    → BreaksBy writes error Breaks → AreTaken unfit skipped bytes given
    → EndsBy writes unfit skipped left bytes given (Err error)
break_ends writes unfit skipped left bytes given Read Breaks by taken = absurd by
break_ends writes unfit skipped left bytes given Write Breaks by taken = (by.0, taken)
break_ends writes unfit skipped left bytes given WriteZero Breaks by taken = (by.0, taken)
break_ends writes unfit skipped left bytes given Memory Breaks by taken = absurd by
break_ends writes unfit skipped left bytes given TooManyReads Breaks by taken = absurd by
break_ends writes unfit skipped left bytes given (Capture why position) Breaks by taken = absurd by
break_ends writes unfit skipped left bytes given (BadLine number) Breaks by taken = absurd by

pub nothing_first : (unfit : Unfit) → AreButLast unfit none_skipped [] []
nothing_first unfit = all_first unfit none_skipped [] [] (Start unfit) []
    (record { units = []; row = (refl, refl); parts = refl }) refl

pub unless_out_of_memory : (result : Result Unit RunError) (Holds : Type 0) → Holds
    → UnlessOutOfMemory result Holds
unless_out_of_memory (Ok done) Holds holds = holds
unless_out_of_memory (Err Read) Holds holds = holds
unless_out_of_memory (Err Write) Holds holds = holds
unless_out_of_memory (Err WriteZero) Holds holds = holds
unless_out_of_memory (Err Memory) Holds holds = tt
unless_out_of_memory (Err TooManyReads) Holds holds = holds
unless_out_of_memory (Err (Capture why position)) Holds holds = holds
unless_out_of_memory (Err (BadLine number)) Holds holds = holds

pub weaker_out_of_memory : (result : Result Unit RunError) (A B : Type 0) → (A → B)
    → UnlessOutOfMemory result A → UnlessOutOfMemory result B
weaker_out_of_memory (Ok done) A B from holds = from holds
weaker_out_of_memory (Err Read) A B from holds = from holds
weaker_out_of_memory (Err Write) A B from holds = from holds
weaker_out_of_memory (Err WriteZero) A B from holds = from holds
weaker_out_of_memory (Err Memory) A B from holds = tt
weaker_out_of_memory (Err TooManyReads) A B from holds = from holds
weaker_out_of_memory (Err (Capture why position)) A B from holds = from holds
weaker_out_of_memory (Err (BadLine number)) A B from holds = from holds
