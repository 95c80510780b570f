-- The numbers that the walk skips among those of extension headers.
use Rattle.std.proofs.Common.{arith, ◌≡◌, ℕ, ◌==◌, Bool, false, ◌||◌, cond, List, Some, None}
use Rattle.ep_ip.specs.Skip.{length_kind, len_of_kind, skipped_by}

-- the fourth test and the last two after the others
pub three_last : (a b c d e f g h i j k : Bool) →
    (a || (b || (c || (d || (e || (f || (g || (h || (i || (j || (k || false)))))))))))
    ≡ ((a || (b || (c || (e || (f || (g || (h || (i || false)))))))) || (d || (j || k)))
three_last a b c d e f g h i j k = grind arith

-- a number is skipped by its kind, where 44 and 51 are among those that are
abbrev kind_by : Bool → Bool → Bool → ℕ
kind_by is_fragment is_authentication skipped =
    cond is_fragment 102 (cond is_authentication 97 (cond skipped 111 46))

by_kind : (n : ℕ) (bytes : List ℕ) →
    cond (length_kind n == 46) None (Some (len_of_kind (length_kind n) bytes)) ≡ skipped_by n bytes
by_kind n bytes = grind arith

pub none_by_kind : (n kind : ℕ) (bytes : List ℕ) → kind ≡ length_kind n → kind ≡ 46
    → None ≡ skipped_by n bytes
none_by_kind n kind bytes is dot = grind arith

pub some_by_kind : (n kind : ℕ) (bytes : List ℕ) (len : ℕ) → kind ≡ length_kind n
    → (kind ≡ 46 → ⊥) → len ≡ len_of_kind kind bytes → Some len ≡ skipped_by n bytes
some_by_kind n kind bytes len is other counted = grind arith
