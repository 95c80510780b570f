use Rattle.std.proofs.Common.{◌∙◌, arith, sym, [], ◌∷◌}
use Rattle.std.proofs.lemmas.List.Elements.{All-cons, All-nil}
use Rattle.ep_packet.specs.Class.{class_of}
use Rattle.etherparse.specs.declared.defrag.pool_calls.PoolCall.TheVariants.{Frame}
use Rattle.etherparse.specs.PoolCalls.{lists_with, no_lists}
use Rattle.etherparse.proofs.OpenAtLiterals.{IsOpen, started_by, first, some, two_before}
use Rattle.etherparse.proofs.laws.defrag.open_reassemblies.more_reassemblies_at_once.Goals as goal

pub returns-clause-before : goal.returns-clause-before
returns-clause-before c = two_before c.equal_names.ensures.same

pub returns-clause-after : goal.returns-clause-after
returns-clause-after c frame name is h =
    let held = started_by c.equal_names.ensures.same name (class_of frame.now) is in
    let IsHeld = IsOpen (lists_with no_lists (Frame frame 4 3)) in
    let most = h 1 ((name, 3) ∷ []) (record {
      differ = λ i j d low high. absurd (omega arith);
      each = All-cons IsHeld (name, 3) []
          (λ none. some first (sym held ∙ none)) (All-nil IsHeld);
    }) in
    omega arith
