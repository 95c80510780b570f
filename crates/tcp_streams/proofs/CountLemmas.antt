-- How many positions have something.
use Rattle.std.proofs.Common.{◌≡◌, ℕ, zero, suc, ◌+◌, ◌<◌, ◌≤◌, Bool, true, false, cond, not, arith, refl}
use Rattle.tcp_streams.specs.PlacedSegments.{count_from}

one_most : (b : Bool) (x n : ℕ) → x ≤ n → cond b 1 0 + x ≤ suc n
one_most true x n h = omega arith
one_most false x n h = omega arith

pub count_from-most : (has : ℕ → Bool) (p n : ℕ) → count_from has p n ≤ n
count_from-most has p zero = omega arith
count_from-most has p (suc n) = one_most (has p) (count_from has (p + 1) n) n (count_from-most has (p + 1) n)

pub counted_most_of : (has : ℕ → Bool) (p n count : ℕ) → count ≡ count_from has p n → count ≤ n
counted_most_of has p n count is = omega (arith, is, count_from-most has p n)

pub count_from-same : (f g : ℕ → Bool) (p n : ℕ) → ((q : ℕ) → p ≤ q → q < p + n → f q ≡ g q)
    → count_from f p n ≡ count_from g p n
count_from-same f g p zero same = refl
count_from-same f g p (suc n) same =
    let here = same p (omega arith) (omega arith) in
    let rest = count_from-same f g (p + 1) n (λ q low high. same q (omega arith) (omega arith)) in
    rw (here, rest)

pub count_from-none : (f : ℕ → Bool) (p n : ℕ) → ((q : ℕ) → p ≤ q → q < p + n → f q ≡ false) → count_from f p n ≡ 0
count_from-none f p zero none = refl
count_from-none f p (suc n) none =
    let here = none p (omega arith) (omega arith) in
    let rest = count_from-none f (p + 1) n (λ q low high. none q (omega arith) (omega arith)) in
    rw (here, rest)

pub count_from-split : (f : ℕ → Bool) (p m n : ℕ)
    → count_from f p (m + n) ≡ count_from f p m + count_from f (p + m) n
count_from-split f p zero n =
    let size : 0 + n ≡ n = omega arith in
    let at : p + 0 ≡ p = omega arith in
    rw (size, at) (omega arith)
count_from-split f p (suc m) n =
    let size : suc m + n ≡ suc (m + n) = omega arith in
    let at : p + 1 + m ≡ p + suc m = omega arith in
    let rest = rw at at (count_from-split f (p + 1) m n) in
    rw (size, rest) (omega arith)

one_not : (a b : Bool) (x y n : ℕ) → a ≡ not b → x + y ≡ n → cond a 1 0 + x + (cond b 1 0 + y) ≡ suc n
one_not a b x y n is sum = grind arith

pub count_from-not : (f g : ℕ → Bool) (p n : ℕ) → ((q : ℕ) → p ≤ q → q < p + n → f q ≡ not (g q))
    → count_from f p n + count_from g p n ≡ n
count_from-not f g p zero is = refl
count_from-not f g p (suc n) is =
    one_not (f p) (g p) (count_from f (p + 1) n) (count_from g (p + 1) n) n (is p (omega arith) (omega arith))
    (count_from-not f g (p + 1) n (λ q low high. is q (omega arith) (omega arith)))
