-- Source routes: steps over options.
use Rattle.std.proofs.Common.{arith, ◌≡◌, refl, ℕ, zero, suc, List, [], ◌∷◌, length, take, drop, ◌≤◌, ◌<◌, ◌-◌, nat_lt}
use Rattle.std.proofs.Common.{if◌then◌else◌, None}
use Rattle.std.proofs.Math.Seq.{take-length}
use Rattle.std.proofs.lemmas.Bool.Decides.{nat_tests}
use Rattle.std.proofs.lemmas.List.{length-drop}
use Rattle.packets.specs.SourceRoute.{route_after}

-- bytes that belong to an option before are passed over
pub route_after-drop : (skipped : ℕ) (bytes : List ℕ)
    → route_after skipped bytes ≡ route_after 0 (drop skipped bytes)
route_after-drop zero bytes = refl
route_after-drop (suc skipped) [] = refl
route_after-drop (suc skipped) (byte ∷ bytes) = route_after-drop skipped bytes

route_after-past : (skipped : ℕ) (bytes : List ℕ) → length bytes ≤ skipped
    → route_after skipped bytes ≡ None
route_after-past skipped [] h = grind arith
route_after-past zero (byte ∷ bytes) h = absurd (omega (arith, h))
route_after-past (suc skipped) (byte ∷ bytes) h = route_after-past skipped bytes (omega (arith, h))

-- an option with this length: the bytes after its kind
pub in_short : (len : ℕ) (bytes : List ℕ) → len < 2
    → (if nat_lt len 2 then None else route_after (len - 1) bytes) ≡ None
in_short len bytes h = grind (arith, nat_tests)

pub past_all : (len : ℕ) (bytes : List ℕ) → length bytes < len - 1
    → (if nat_lt len 2 then None else route_after (len - 1) bytes) ≡ None
past_all len bytes h = grind (arith, nat_tests, route_after-past (len - 1) bytes (omega (arith, h)))

to_rest : (n : ℕ) (bytes : List ℕ)
    → route_after 0 (take (length bytes - n) (drop n bytes)) ≡ route_after n bytes
to_rest n bytes = rw (← length-drop n bytes, take-length (drop n bytes), route_after-drop n bytes)

pub past_others : (len : ℕ) (bytes : List ℕ) → 2 ≤ len
    → (if nat_lt len 2 then None else route_after (len - 1) bytes)
    ≡ route_after 0 (take (length bytes - (len - 1)) (drop (len - 1) bytes))
past_others len bytes h = grind (arith, nat_tests, to_rest (len - 1) bytes)
