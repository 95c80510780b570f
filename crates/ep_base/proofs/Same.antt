-- What a derived test of equality finds equal is the same, field by field.
use Rattle.std.proofs.Common.{◌≡◌, Bool, true, ◌&&◌, Some, None, refl, ap, rules}
use Rattle.std.proofs.lemmas.Bool.{and_parts, and_from}
use Rattle.std.specs.Bool.{Decides}
use Rattle.std.specs.Option.{option_eq}
use Rattle.ep_base.specs.Traits.{EqualIsSame}

-- Values of one part, and of two: what makes a value of its parts, and the parts of a value.

pub one_part : {P Q : Type 0} {test : Bool} → Decides test P → (P → Q) → (Q → P) → Decides test Q
one_part part make parts = (λ is. make (part.0 is), λ whole. part.1 (parts whole))

pub two_parts : {P Q R : Type 0} {s t : Bool} → Decides s P → Decides t Q → (P → Q → R)
    → (R → P × Q) → Decides (s && t) R
two_parts {s = s} {t = t} first second make parts = (
  λ is. let both = and_parts s t is in make (first.0 both.0) (second.0 both.1),
  λ whole. and_from s t (first.1 (parts whole).0) (second.1 (parts whole).1),
)

pub both : {P Q : Type 0} {s t : Bool} → Decides s P → Decides t Q → Decides (s && t) (P × Q)
both first second = two_parts first second (λ x y. (x, y)) (λ p. p)

pub options_same : {A : Type 0} {eq : A → A → Bool} → EqualIsSame eq → EqualIsSame (option_eq eq)
options_same same None None = (λ is. refl, λ is. refl)
options_same same None (Some y) = search rules
options_same same (Some x) None = search rules
options_same same (Some x) (Some y) = one_part (same x y) (ap Some) (λ e. cc)

-- Records: a `field` for each but the last, the `last_field`, and how paths between the fields make
-- one between the records.

-- the test of some fields, and how the records are made of equal fields
abbrev pub TestsFields : {T : Type 0} → Bool → T → T → Type 0 → Type 0
TestsFields test a b Make = (test ≡ true → Make → a ≡ b) × (a ≡ b → test ≡ true)

module _ {T A : Type 0} {eq : A → A → Bool} {a b : T} (same : EqualIsSame eq) (f : T → A) where
  pub last_field : TestsFields (eq (f a) (f b)) a b (f a ≡ f b → a ≡ b)
  last_field = (λ is make. make ((same (f a) (f b)).0 is), λ e. (same (f a) (f b)).1 (ap f e))

  pub field : {more : Bool} {Make : Type 0} → TestsFields more a b Make
      → TestsFields (eq (f a) (f b) && more) a b (f a ≡ f b → Make)
  field {more = more} others = (
    λ is make.
        let both = and_parts (eq (f a) (f b)) more is in
        others.0 both.1 (make ((same (f a) (f b)).0 both.0)),
    λ e. and_from (eq (f a) (f b)) more ((same (f a) (f b)).1 (ap f e)) (others.1 e),
  )

pub record_same : {T Make : Type 0} {test : Bool} {a b : T} → TestsFields test a b Make → Make
    → Decides test (a ≡ b)
record_same fields make = (λ is. fields.0 is make, fields.1)
