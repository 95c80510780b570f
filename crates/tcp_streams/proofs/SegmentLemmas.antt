-- Lists of segments, and one more of them.
use Rattle.std.proofs.Common.{◌≡◌, ℕ, zero, suc, ◌+◌, ◌-◌, ◌<◌, ◌≤◌, false, cond, List, [], ◌∷◌, ◌++◌, length}
use Rattle.std.proofs.Common.{drop, get_or, max, ◌||◌, Option, Some, None, arith, refl, ap, ◌∙◌}
use Rattle.std.proofs.lemmas.Bool.Decides.{nat_tests}
use Rattle.std.proofs.lemmas.List.{append_assoc, append-nil}
use Rattle.std.specs.Prelude.{IsSome}
use Rattle.std.specs.Option.{option_or}
use Rattle.tcp_streams.specs.PlacedSegments.{Placed, end_of, is_empty, byte_from, byte_at, last_end, bytes_from}
use Rattle.tcp_streams.specs.PlacedSegments.{fin_of, is_reset, differs, clashes, conflicts_with, conflicts_after}

-- ---- one more segment

pub nothing_after : {X : Type 0} (a : Option X) → option_or a None ≡ a
nothing_after None = refl
nothing_after (Some x) = refl

pub byte_at-push : (ss : List Placed) (s : Placed) (p : ℕ)
    → byte_at (ss ++ s ∷ []) p ≡ option_or (byte_at ss p) (byte_from s.position s.bytes p)
byte_at-push [] s p = nothing_after (byte_from s.position s.bytes p)
byte_at-push (t ∷ ss) s p = grind (arith, byte_at-push ss s p)

pub last_end-push : (ss : List Placed) (s : Placed)
    → last_end (ss ++ s ∷ []) ≡ max (last_end ss) (cond (is_empty s) 0 (end_of s))
last_end-push [] s = omega arith
last_end-push (t ∷ ss) s = omega (arith, last_end-push ss s)

pub fin_of-push : (ss : List Placed) (s : Placed)
    → fin_of (ss ++ s ∷ []) ≡ option_or (fin_of ss) (cond s.fin (Some (end_of s)) None)
fin_of-push [] s = refl
fin_of-push (t ∷ ss) s = grind (arith, fin_of-push ss s)

pub is_reset-push : (ss : List Placed) (s : Placed) → is_reset (ss ++ s ∷ []) ≡ (is_reset ss || s.reset)
is_reset-push [] s = grind arith
is_reset-push (t ∷ ss) s = grind (arith, is_reset-push ss s)

pub conflicts_after-push : (before ss : List Placed) (s : Placed)
    → conflicts_after before (ss ++ s ∷ []) ≡ conflicts_after before ss ++ conflicts_with (before ++ ss) s
conflicts_after-push before [] s = simp append-nil
conflicts_after-push before (t ∷ ss) s = simp (conflicts_after-push (before ++ t ∷ []) ss s, append_assoc)

-- ---- the text

-- bytes up to a missing one
pub bytes_from-is : (f : ℕ → Option ℕ) (p n : ℕ) (t : List ℕ)
    → ((i : ℕ) → i < length t → f (p + i) ≡ Some (get_or t i 0)) → f (p + length t) ≡ None
    → length t ≤ n → bytes_from f p n ≡ t
bytes_from-is f p zero [] has none short = refl
bytes_from-is f p zero (b ∷ t) has none short = absurd (omega arith)
bytes_from-is f p (suc n) [] has none short =
    let here : f p ≡ None = ap f (omega arith) ∙ none in rw here refl
bytes_from-is f p (suc n) (b ∷ t) has none short =
    let here : f p ≡ Some b = ap f (omega arith) ∙ has 0 (omega arith) in
    let rest = bytes_from-is f (p + 1) n t
    (λ i h. ap f (omega arith) ∙ has (suc i) (omega arith)) (ap f (omega arith) ∙ none) (omega arith) in
    rw (here, rest) refl

-- bytes that are all there, and those after them
abbrev pub AllThere : (ℕ → Option ℕ) → (p k : ℕ) → Type 0
AllThere f p k = (i : ℕ) → i < k → IsSome (f (p + i))

there_more : (f : ℕ → Option ℕ) (p k : ℕ) → AllThere f p (suc k) → AllThere f (p + 1) k
there_more f p k has i h =
    let same : p + suc i ≡ p + 1 + i = omega arith in
    let here = has (suc i) (omega arith) in rw same at here

drop_step : (f : ℕ → Option ℕ) (p k n : ℕ) (o : Option ℕ) → f p ≡ o → IsSome o
    → drop k (bytes_from f (p + 1) (k + n)) ≡ bytes_from f (p + suc k) n
    → drop (suc k) (bytes_from f p (suc (k + n))) ≡ bytes_from f (p + suc k) n
drop_step f p k n None is some rest = cc
drop_step f p k n (Some b) is some rest = rw is rest

pub drop-bytes_from : (f : ℕ → Option ℕ) (p k n : ℕ) → AllThere f p k
    → drop k (bytes_from f p (k + n)) ≡ bytes_from f (p + k) n
drop-bytes_from f p zero n has =
    let same : 0 + n ≡ n = omega arith in
    let at : p ≡ p + 0 = omega arith in
    ap (bytes_from f p) same ∙ ap (λ (q : ℕ). bytes_from f q n) at
drop-bytes_from f p (suc k) n has =
    let size : suc k + n ≡ suc (k + n) = omega arith in
    let at : p + 1 + k ≡ p + suc k = omega arith in
    let here : p + 0 ≡ p = omega arith in
    rw size (drop_step f p k n (f p) refl (rw here at (has 0 (omega arith)))
    (rw at at (drop-bytes_from f (p + 1) k n (there_more f p k has))))

length_step : (f : ℕ → Option ℕ) (p k n : ℕ) (o : Option ℕ) → f p ≡ o → IsSome o
    → length (bytes_from f (p + 1) (k + n)) ≡ k + length (bytes_from f (p + suc k) n)
    → length (bytes_from f p (suc (k + n))) ≡ suc k + length (bytes_from f (p + suc k) n)
length_step f p k n None is some rest = cc
length_step f p k n (Some b) is some rest = rw is (omega (arith, rest))

pub length-bytes_from : (f : ℕ → Option ℕ) (p k n : ℕ) → AllThere f p k
    → length (bytes_from f p (k + n)) ≡ k + length (bytes_from f (p + k) n)
length-bytes_from f p zero n has =
    let same : 0 + n ≡ n = omega arith in
    let at : p + 0 ≡ p = omega arith in rw (same, at) (omega arith)
length-bytes_from f p (suc k) n has =
    let size : suc k + n ≡ suc (k + n) = omega arith in
    let at : p + 1 + k ≡ p + suc k = omega arith in
    let here : p + 0 ≡ p = omega arith in
    rw size (length_step f p k n (f p) refl (rw here at (has 0 (omega arith)))
    (rw at at (length-bytes_from f (p + 1) k n (there_more f p k has))))

pub byte_from-here : (q : ℕ) (bs : List ℕ) (p : ℕ) → q ≤ p → p < q + length bs
    → byte_from q bs p ≡ Some (get_or bs (p - q) 0)
byte_from-here q bs p low high = grind (arith, nat_tests)

pub byte_from-is : (q : ℕ) (bs : List ℕ) (p k : ℕ) → p ≡ q + k → k < length bs
    → byte_from q bs p ≡ Some (get_or bs k 0)
byte_from-is q bs p k is h =
    byte_from-here q bs p (omega arith) (omega arith) ∙ ap (λ (n : ℕ). Some (get_or bs n 0)) (omega arith)

-- no byte lies at the end of the last one or after it
pub byte_from-none : (position : ℕ) (bytes : List ℕ) (p : ℕ) → position + length bytes ≤ p
    → byte_from position bytes p ≡ None
byte_from-none position bytes p h = grind (arith, nat_tests)

pub byte_at-past : (ss : List Placed) (p : ℕ) → last_end ss ≤ p → byte_at ss p ≡ None
byte_at-past [] p h = refl
byte_at-past (s ∷ ss) p h = grind (arith, nat_tests, byte_at-past ss p (omega arith))

-- ---- conflicts

pub clashes_none : (f : ℕ → Option ℕ) (p : ℕ) (bs : List ℕ)
    → ((i : ℕ) → i < length bs → differs (f (p + i)) (get_or bs i 0) ≡ false) → clashes f p bs ≡ []
clashes_none f p [] h = refl
clashes_none f p (b ∷ bs) h =
    let here : differs (f p) b ≡ false =
    ap (λ (q : ℕ). differs (f q) b) (omega arith) ∙ h 0 (omega arith) in
    let rest = clashes_none f (p + 1) bs (λ i l. ap (λ (q : ℕ). differs (f q) (get_or bs i 0)) (omega arith)
    ∙ h (suc i) (omega arith)) in
    rw (here, rest)

pub clashes_same : (f g : ℕ → Option ℕ) (p : ℕ) (bs : List ℕ)
    → ((i : ℕ) → i < length bs → differs (f (p + i)) (get_or bs i 0) ≡ differs (g (p + i)) (get_or bs i 0))
    → clashes f p bs ≡ clashes g p bs
clashes_same f g p [] h = refl
clashes_same f g p (b ∷ bs) h =
    let here : differs (f p) b ≡ differs (g p) b =
    ap (λ (q : ℕ). differs (f q) b) (omega arith) ∙ h 0 (omega arith) ∙ ap (λ (q : ℕ). differs (g q) b) (omega arith) in
    let rest = clashes_same f g (p + 1) bs (λ i l. ap (λ (q : ℕ). differs (f q) (get_or bs i 0)) (omega arith)
    ∙ h (suc i) (omega arith) ∙ ap (λ (q : ℕ). differs (g q) (get_or bs i 0)) (omega arith)) in
    rw (here, rest)

last_clash : (f : ℕ → Option ℕ) (p q : ℕ) (b : ℕ) → q ≡ p
    → clashes f p (b ∷ []) ≡ cond (differs (f q) b) (q ∷ []) []
last_clash f p q b is = rw is

pub clashes-push : (f : ℕ → Option ℕ) (p : ℕ) (bs : List ℕ) (b : ℕ)
    → clashes f p (bs ++ b ∷ []) ≡ clashes f p bs ++ cond (differs (f (p + length bs)) b) ((p + length bs) ∷ []) []
clashes-push f p [] b = last_clash f p (p + 0) b (omega arith)
clashes-push f p (c ∷ bs) b =
    let at : p + 1 + length bs ≡ p + suc (length bs) = omega arith in
    let rest = rw at at (clashes-push f (p + 1) bs b) in
    grind arith
