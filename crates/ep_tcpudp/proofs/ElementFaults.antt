-- What is wrong with an option that isn't read, and back.
use Rattle.std.proofs.Common.{◌≡◌, inl, inr, ⊎_elim, ℕ, ◌<◌, ◌≤◌, true, false, eqb, List, length, Result, Err, arith}
use Rattle.std.proofs.Common.{sym, refl, ap, ◌∙◌, subst}
use Rattle.std.proofs.lemmas.Bool.{eqb-true, lt-ltb, or_cases}
use Rattle.ep_base.specs.Bytes.{num}
use Rattle.ep_tcpudp.specs.Elements.{HasOneSize, IsFault, IsSizeOfBlocks}
use Rattle.ep_tcpudp.specs.Options.{kind_at, of_size, is_size_of_blocks, acknowledgement_at, element_at}
use Rattle.ep_tcpudp.specs.declared.transport.tcp_option_element.TcpOptionElement.{TcpOptionElement}
use Rattle.ep_tcpudp.specs.declared.transport.tcp_option_read_error.TcpOptionReadError.{TcpOptionReadError}
use Rattle.ep_tcpudp.specs.declared.transport.tcp_option_read_error.TcpOptionReadError.TheVariants.{UnexpectedEndOfSlice}
use Rattle.ep_tcpudp.specs.declared.transport.tcp_option_read_error.TcpOptionReadError.TheVariants.{UnexpectedSize}
use Rattle.ep_tcpudp.specs.declared.transport.tcp_option_read_error.TcpOptionReadError.TheVariants.{UnknownId}
use Rattle.ep_tcpudp.proofs.Guards.{by_test}

-- ---- the sizes of selective acknowledgements

blocks_is : (n : ℕ) → is_size_of_blocks n ≡ true → IsSizeOfBlocks n
blocks_is n h =
    ⊎_elim (λ (one : eqb n 10 ≡ true). let e = eqb-true _ _ one in
    (1, (omega arith, omega arith, omega arith))) (λ h.
    ⊎_elim (λ (two : eqb n 18 ≡ true). let e = eqb-true _ _ two in
    (2, (omega arith, omega arith, omega arith))) (λ h.
    ⊎_elim (λ (three : eqb n 26 ≡ true). let e = eqb-true _ _ three in
    (3, (omega arith, omega arith, omega arith)))
    (λ (four : eqb n 34 ≡ true). let e = eqb-true _ _ four in
    (4, (omega arith, omega arith, omega arith)))
    (or_cases _ _ h)) (or_cases _ _ h)) (or_cases _ _ h)

no_blocks : (n : ℕ) → (IsSizeOfBlocks n → ⊥) → is_size_of_blocks n ≡ false
no_blocks n none = grind (arith, blocks_is)

-- ---- what isn't read has a fault

of_size-fault : (size : ℕ) (bytes : List ℕ) (value : TcpOptionElement) (f : TcpOptionReadError)
    → HasOneSize (kind_at bytes) size
    → of_size size bytes value ≡ Err f → IsFault bytes f
of_size-fault size bytes value f one h = grind arith

acknowledgement-fault : (bytes : List ℕ) (f : TcpOptionReadError) → kind_at bytes ≡ 5
    → acknowledgement_at bytes ≡ Err f → IsFault bytes f
acknowledgement-fault bytes f is_kind h = grind arith

unknown-fault : (bytes : List ℕ) (f : TcpOptionReadError) → eqb (kind_at bytes) 0 ≡ false
    → eqb (kind_at bytes) 1 ≡ false → eqb (kind_at bytes) 2 ≡ false
    → eqb (kind_at bytes) 3 ≡ false → eqb (kind_at bytes) 4 ≡ false → eqb (kind_at bytes) 5 ≡ false
    → eqb (kind_at bytes) 8 ≡ false
    → ◌≡◌ {A = Result TcpOptionElement TcpOptionReadError} (Err (UnknownId (kind_at bytes))) (Err f)
    → IsFault bytes f
unknown-fault bytes f k0 k1 k2 k3 k4 k5 k8 h = grind arith

pub element_fault : (bytes : List ℕ) (f : TcpOptionReadError) → eqb (kind_at bytes) 0 ≡ false
    → element_at bytes ≡ Err f → IsFault bytes f
element_fault bytes f k0 h =
    let P : Type 0 = IsFault bytes f in
    by_test P (eqb (kind_at bytes) 1) _ _ _ (λ _ h. cc) (λ k1 h.
    by_test P (eqb (kind_at bytes) 2) _ _ _
    (λ k h. of_size-fault 4 bytes _ f (inl (eqb-true _ _ k, refl)) h) (λ k2 h.
    by_test P (eqb (kind_at bytes) 3) _ _ _
    (λ k h. of_size-fault 3 bytes _ f (inr (inl (eqb-true _ _ k, refl))) h) (λ k3 h.
    by_test P (eqb (kind_at bytes) 4) _ _ _
    (λ k h. of_size-fault 2 bytes _ f (inr (inr (inl (eqb-true _ _ k, refl)))) h) (λ k4 h.
    by_test P (eqb (kind_at bytes) 5) _ _ _
    (λ k h. acknowledgement-fault bytes f (eqb-true _ _ k) h) (λ k5 h.
    by_test P (eqb (kind_at bytes) 8) _ _ _
    (λ k h. of_size-fault 10 bytes _ f (inr (inr (inr (eqb-true _ _ k, refl)))) h) (λ k8 h.
    unknown-fault bytes f k0 k1 k2 k3 k4 k5 k8 h) h) h) h) h) h) h

-- ---- what has a fault isn't read

-- options of the kinds that have one size
short_of_one_size : (bytes : List ℕ) (kind needed : ℕ) → HasOneSize kind needed
    → kind_at bytes ≡ kind → length bytes < needed
    → element_at bytes ≡ Err (UnexpectedEndOfSlice kind needed (length bytes))
short_of_one_size bytes kind needed one is_kind short = grind arith

other_than_one_size : (bytes : List ℕ) (kind right : ℕ) → HasOneSize kind right
    → kind_at bytes ≡ kind → right ≤ length bytes → (num bytes 1 1 ≡ right → ⊥)
    → element_at bytes ≡ Err (UnexpectedSize kind (num bytes 1 1))
other_than_one_size bytes kind right one is_kind room other = grind arith

-- selective acknowledgements
acknowledgement_is : (bytes : List ℕ) → kind_at bytes ≡ 5
    → element_at bytes ≡ acknowledgement_at bytes
acknowledgement_is bytes is_kind = rw is_kind refl

short_acknowledgement : (bytes : List ℕ) → length bytes < 2
    → acknowledgement_at bytes ≡ Err (UnexpectedEndOfSlice (kind_at bytes) 2 (length bytes))
short_acknowledgement bytes short = rw (lt-ltb (length bytes) 2 short) refl

cut_acknowledgement : (bytes : List ℕ) → 2 ≤ length bytes → IsSizeOfBlocks (num bytes 1 1)
    → length bytes < num bytes 1 1
    → acknowledgement_at bytes
    ≡ Err (UnexpectedEndOfSlice (kind_at bytes) (num bytes 1 1) (length bytes))
cut_acknowledgement bytes room size short = grind arith

other_acknowledgement : (bytes : List ℕ) → 2 ≤ length bytes → (IsSizeOfBlocks (num bytes 1 1) → ⊥)
    → acknowledgement_at bytes ≡ Err (UnexpectedSize (kind_at bytes) (num bytes 1 1))
other_acknowledgement bytes room other = grind arith

pub fault_refused : (bytes : List ℕ) (f : TcpOptionReadError) → IsFault bytes f
    → element_at bytes ≡ Err f
fault_refused bytes (UnexpectedEndOfSlice kind needed left) h =
    ⊎_elim
    (λ (one : HasOneSize kind needed). short_of_one_size bytes kind needed one h.0
    (omega (arith, h.2, h.3)) ∙ ap (λ n. Err (UnexpectedEndOfSlice kind needed n)) h.2)
    (λ five. acknowledgement_is bytes (h.0 ∙ five.0) ∙
    ⊎_elim
    (λ (short : (length bytes < 2) × (needed ≡ 2)). short_acknowledgement bytes short.0
    ∙ (λ i. Err (UnexpectedEndOfSlice (h.0 i) (sym short.1 i) (h.2 i))))
    (λ (cut : (2 ≤ length bytes) × (num bytes 1 1 ≡ needed) × IsSizeOfBlocks needed).
    cut_acknowledgement bytes cut.0 (subst IsSizeOfBlocks (sym cut.1) cut.2)
    (omega (arith, h.2, h.3, cut.1))
    ∙ (λ i. Err (UnexpectedEndOfSlice (h.0 i) (cut.1 i) (h.2 i))))
    five.1)
    h.1
fault_refused bytes (UnexpectedSize kind size) h =
    ⊎_elim
    (λ (one : (right : ℕ) × (HasOneSize kind right × (right ≤ length bytes) × (size ≡ right → ⊥))).
    other_than_one_size bytes kind one.0 one.1.0 h.0 one.1.1 (λ e. one.1.2 (sym h.1 ∙ e))
    ∙ ap (λ n. Err (UnexpectedSize kind n)) h.1)
    (λ (five : (kind ≡ 5) × (2 ≤ length bytes) × (IsSizeOfBlocks size → ⊥)).
    acknowledgement_is bytes (h.0 ∙ five.0)
    ∙ other_acknowledgement bytes five.1 (λ s. five.2 (subst IsSizeOfBlocks h.1 s))
    ∙ (λ i. Err (UnexpectedSize (h.0 i) (h.1 i))))
    h.2
fault_refused bytes (UnknownId kind) h = grind arith

pub fault_kind : (bytes : List ℕ) (f : TcpOptionReadError) → IsFault bytes f → kind_at bytes ≡ 0 → ⊥
fault_kind bytes f h none = grind arith
