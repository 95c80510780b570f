-- What the code keeps of the slots that were passed.
use Rattle.std.proofs.Common.{arith, ◌≡◌, ℕ, true, List, ◌∷◌, ◌++◌, refl, ap, ◌∙◌, []}
use Rattle.ep_ext.specs.Slot.{slot_of}
use Rattle.ep_ext.specs.Passed.{Shows, flags_of, with_slot, slot_after, is_started}
use Rattle.ep_ext.specs.declared.net.ipv6_ext_slot.Ipv6ExtSlot.{Ipv6ExtSlot}
use Rattle.ep_ext.specs.declared.net.passed.Passed.{Passed}
use Rattle.ep_ext.proofs.Values.{passed_more}

started_more : (slots : List Ipv6ExtSlot) (slot : Ipv6ExtSlot)
    → true ≡ is_started (slots ++ slot ∷ [])
started_more [] slot = refl
started_more (p ∷ slots) slot = refl

pub flags_more : (slots : List Ipv6ExtSlot) (slot : Ipv6ExtSlot)
    → with_slot (flags_of slots) slot ≡ flags_of (slots ++ slot ∷ [])
flags_more slots slot = grind (arith, passed_more, started_more)

pub shows_more : (passed : Passed) (slots : List Ipv6ExtSlot) (slot : Ipv6ExtSlot)
    → Shows passed slots → Shows (with_slot passed slot) (slots ++ slot ∷ [])
shows_more passed slots slot s = ap (λ (p : Passed). with_slot p slot) s
    ∙ flags_more slots slot

pub slot_shown : (passed : Passed) (slots : List Ipv6ExtSlot) (number : ℕ) → Shows passed slots
    → slot_after passed number ≡ slot_of slots number
slot_shown passed slots number s = grind arith
