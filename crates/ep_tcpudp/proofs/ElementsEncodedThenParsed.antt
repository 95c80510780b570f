-- Elements of options are parsed again from the bytes that encode them.
use Rattle.std.proofs.Common.{◌≡◌, ℕ, ◌-◌, ◌%◌, List, ◌∷◌, ◌++◌, length, map, replicate, Option, Some, None, Ok, arith}
use Rattle.std.proofs.Common.{refl, append_assoc, false, eqb, []}
use Rattle.std.proofs.lemmas.Bool.{ne_eqb}
use Rattle.std.proofs.lemmas.List.{drop_at}
use Rattle.std.proofs.lemmas.List.Concat.{flat_map-cons}
use Rattle.ep_tcpudp.specs.Options.{element_bytes, elements_bytes, packed_element, element_at, size_at, is_end}
use Rattle.ep_tcpudp.specs.Options.{items_of, FitsElement, FitsElements, ElementsComeBack}
use Rattle.ep_tcpudp.specs.declared.transport.tcp_option_element.TcpOptionElement.{TcpOptionElement}
use Rattle.ep_tcpudp.specs.declared.transport.tcp_option_element.TcpOptionElement.TheVariants.{Noop, MaximumSegmentSize}
use Rattle.ep_tcpudp.specs.declared.transport.tcp_option_element.TcpOptionElement.TheVariants.{WindowScale}
use Rattle.ep_tcpudp.specs.declared.transport.tcp_option_element.TcpOptionElement.TheVariants.{SelectiveAcknowledgementPermitted}
use Rattle.ep_tcpudp.specs.declared.transport.tcp_option_element.TcpOptionElement.TheVariants.{SelectiveAcknowledgement}
use Rattle.ep_tcpudp.specs.declared.transport.tcp_option_element.TcpOptionElement.TheVariants.{Timestamp}
use Rattle.ep_tcpudp.proofs.OptionsItems.{items-step, items-end}

acknowledgement_again : (first : ℕ × ℕ) (blocks : List (Option (ℕ × ℕ))) (rest : List ℕ)
    → FitsElement (SelectiveAcknowledgement first blocks)
    → element_at (element_bytes (SelectiveAcknowledgement first blocks) ++ rest)
    ≡ Ok (packed_element (SelectiveAcknowledgement first blocks))
acknowledgement_again first (None ∷ None ∷ None ∷ []) rest fits = grind arith
acknowledgement_again first (None ∷ None ∷ Some c ∷ []) rest fits = grind arith
acknowledgement_again first (None ∷ Some b ∷ None ∷ []) rest fits = grind arith
acknowledgement_again first (None ∷ Some b ∷ Some c ∷ []) rest fits = grind arith
acknowledgement_again first (Some a ∷ None ∷ None ∷ []) rest fits = grind arith
acknowledgement_again first (Some a ∷ None ∷ Some c ∷ []) rest fits = grind arith
acknowledgement_again first (Some a ∷ Some b ∷ None ∷ []) rest fits = grind arith
acknowledgement_again first (Some a ∷ Some b ∷ Some c ∷ []) rest fits = grind arith
acknowledgement_again first [] rest fits = absurd (omega (arith, fits.1))
acknowledgement_again first (a ∷ []) rest fits = absurd (omega (arith, fits.1))
acknowledgement_again first (a ∷ b ∷ []) rest fits = absurd (omega (arith, fits.1))
acknowledgement_again first (a ∷ b ∷ c ∷ d ∷ blocks) rest fits = absurd (omega (arith, fits.1))

-- an element that was written is read, packed
element_again : (element : TcpOptionElement) (rest : List ℕ) → FitsElement element
    → element_at (element_bytes element ++ rest) ≡ Ok (packed_element element)
element_again Noop rest fits = refl
element_again (MaximumSegmentSize size) rest fits = grind arith
element_again (WindowScale shift) rest fits = grind arith
element_again SelectiveAcknowledgementPermitted rest fits = grind arith
element_again (SelectiveAcknowledgement first blocks) rest fits = simp acknowledgement_again
element_again (Timestamp value reply) rest fits = grind arith

size_again : (element : TcpOptionElement) (rest : List ℕ)
    → size_at (element_bytes element ++ rest) ≡ length (element_bytes element)
size_again element rest = grind arith

-- bytes whose first isn't 0 don't end
pub end-cons : (first : ℕ) (rest : List ℕ) → is_end (first ∷ rest) ≡ eqb first 0
end-cons first rest = rw (ne_eqb (length (first ∷ rest)) 0 (λ e. omega arith)) refl

no_end : (element : TcpOptionElement) (rest : List ℕ)
    → is_end (element_bytes element ++ rest) ≡ false
no_end element rest = grind arith

-- the items of what begins with an element
pub item_again : (element : TcpOptionElement) (rest : List ℕ) → FitsElement element
    → items_of (element_bytes element ++ rest) ≡ Ok (packed_element element) ∷ items_of rest
item_again element rest fits = grind (arith, size_again, drop_at, items-step, no_end, element_again)

-- zeros end the list
items-zeros : (k : ℕ) → items_of (replicate k 0) ≡ []
items-zeros k = grind (arith, items-end, end-cons)

items-elements : (elements : List TcpOptionElement) (k : ℕ) → FitsElements elements
    → items_of (elements_bytes elements ++ replicate k 0)
    ≡ map (λ element. Ok (packed_element element)) elements
items-elements [] k fits = items-zeros k
items-elements (element ∷ elements) k fits =
    grind (arith, items-elements elements k fits.1, flat_map-cons, append_assoc, item_again)

pub elements_come_back : ElementsComeBack
elements_come_back elements fits = items-elements elements
    ((4 - length (elements_bytes elements) % 4) % 4) fits
