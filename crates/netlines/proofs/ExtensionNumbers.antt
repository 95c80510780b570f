-- Which messages are refused for the number of an extension header.
use Rattle.std.proofs.Common.{[], ◌≡◌, ◌↔◌, ◌⊎◌, sym, inl, inr, ℕ, ◌≤◌, true, Some, None, List, ◌∷◌, length, lit<}
use Rattle.std.proofs.Common.{arith}
use Rattle.std.specs.Prelude.{Contains, ◌==◌, ◌||◌}
use Rattle.std.proofs.lemmas.Bool.Decides.{nat_tests}
use Rattle.etherparse.specs.declared.defrag.ip_frag_version_spec_id.IpFragVersionSpecId.{IpFragVersionSpecId}
use Rattle.etherparse.specs.declared.defrag.ip_frag_version_spec_id.IpFragVersionSpecId.TheVariants.{Ipv4, Ipv6}
use Rattle.netlines.specs.PostRefusal.{bad_cut, names_extension, post_refusal}
use Rattle.netlines.specs.declared.letter.Letter.{Letter}
use Rattle.netlines.specs.declared.post_error.PostError.TheVariants.{ExtensionNumber}

one_of : (n : ℕ) → ((n == 0) || (n == 43) || (n == 44) || (n == 51) || (n == 60)) ≡ true
    → (n ≡ 0) ⊎ ((n ≡ 43) ⊎ ((n ≡ 44) ⊎ ((n ≡ 51) ⊎ (n ≡ 60))))
one_of n is = grind (arith, nat_tests)

among : (n : ℕ) → ((n == 0) || (n == 43) || (n == 44) || (n == 51) || (n == 60)) ≡ true
    → Contains (0 ∷ 43 ∷ 44 ∷ 51 ∷ 60 ∷ []) n
among n is = elim (one_of n is) [
  | inl e ↦ (0, lit< tt, sym e)
  | inr (inl e) ↦ (1, lit< tt, sym e)
  | inr (inr (inl e)) ↦ (2, lit< tt, sym e)
  | inr (inr (inr (inl e))) ↦ (3, lit< tt, sym e)
  | inr (inr (inr (inr e))) ↦ (4, lit< tt, sym e)
]

named : (n : ℕ) → Contains (0 ∷ 43 ∷ 44 ∷ 51 ∷ 60 ∷ []) n
    → ((n == 0) || (n == 43) || (n == 44) || (n == 51) || (n == 60)) ≡ true
named n h = grind arith

pub v4_names : (version_id : IpFragVersionSpecId) (number : ℕ) (source destination : List ℕ)
    (identification : ℕ) → version_id ≡ Ipv4 source destination identification
    → (names_extension version_id number ≡ true) ↔ (number ≡ 51)
v4_names version_id number source destination identification is = grind arith

pub v6_names : (version_id : IpFragVersionSpecId) (number : ℕ) (source destination : List ℕ)
    (identification : ℕ) → version_id ≡ Ipv6 source destination identification
    → (names_extension version_id number ≡ true) ↔ Contains (0 ∷ 43 ∷ 44 ∷ 51 ∷ 60 ∷ []) number
v6_names version_id number source destination identification is = grind (arith, among, named)

pub extension_is_refused : (letter : Letter) (message cuts : List ℕ)
    → bad_cut (length message) cuts ≡ None → length message ≤ 65535
    → (post_refusal letter message cuts ≡ Some ExtensionNumber)
    ↔ (names_extension letter.version_id letter.number.0 ≡ true)
extension_is_refused letter message cuts good short = grind arith
