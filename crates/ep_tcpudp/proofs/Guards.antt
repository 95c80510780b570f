-- A test, and what follows from its two ways.
use Rattle.std.proofs.Common.{◌≡◌, Bool, true, false, cond, refl}

pub by_test : {A : Type 0} (P : Type 0) (b : Bool) (x y r : A) → (b ≡ true → x ≡ r → P)
    → (b ≡ false → y ≡ r → P) → cond b x y ≡ r → P
by_test P true x y r yes_way no_way h = yes_way refl h
by_test P false x y r yes_way no_way h = no_way refl h
