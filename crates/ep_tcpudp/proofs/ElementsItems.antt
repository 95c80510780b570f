-- The items of options are the elements that they encode, and the fault that ends them.
use Rattle.std.proofs.Common.{◌≡◌, inl, ⊎_elim, ℕ, zero, suc, ◌≤◌, true, false, eqb, List, [], ◌∷◌, ◌++◌, length, drop}
use Rattle.std.proofs.Common.{map, Option, Some, None, Result, Ok, Err, arith, sym, refl, ◌∙◌, append_assoc}
use Rattle.std.proofs.lemmas.Bool.{cases_Bool, ne_eqb, or_parts}
use Rattle.std.proofs.lemmas.List.{append-nil, length-drop}
use Rattle.std.proofs.lemmas.List.Concat.{flat_map-cons}
use Rattle.std.proofs.lemmas.Simd.{map-map}
use Rattle.ep_base.specs.Bytes.{IsBytes}
use Rattle.ep_tcpudp.specs.Elements.{AreItems, EndsAs, IsFault, ItemsAreEncoded, NoOtherItems, items_and}
use Rattle.ep_tcpudp.specs.Options.{kind_at, size_at, element_at, elements_bytes, is_end, items_of, packed_element}
use Rattle.ep_tcpudp.specs.Options.{FitsElements}
use Rattle.ep_tcpudp.specs.declared.transport.tcp_option_element.TcpOptionElement.{TcpOptionElement}
use Rattle.ep_tcpudp.specs.declared.transport.tcp_option_read_error.TcpOptionReadError.{TcpOptionReadError}
use Rattle.ep_tcpudp.proofs.ElementFaults.{element_fault, fault_kind, fault_refused}
use Rattle.ep_tcpudp.proofs.ElementsEncodedThenParsed.{end-cons, item_again}
use Rattle.ep_tcpudp.proofs.ElementsParsedThenEncoded.{IsRead, element_read}
use Rattle.ep_tcpudp.proofs.OptionsItems.{element_size, items-end, items-none, items-step, some_left}
use Rattle.ep_tcpudp.proofs.Words.{drop_fits}

abbrev pub Item : Type 0
Item = Result TcpOptionElement TcpOptionReadError

-- ---- each list is encoded

why_end : (bytes : List ℕ) → is_end bytes ≡ true → EndsAs None bytes
why_end [] h = inl refl
why_end (x ∷ xs) h = grind arith

none_encoded : (bytes : List ℕ) → is_end bytes ≡ true → AreItems bytes (items_of bytes)
none_encoded bytes h = record {
  elements = [];
  fault = None;
  rest = bytes;
  begins = record { encoded = refl; fits = tt; packed = refl };
  ends = why_end bytes h;
  all = items-end bytes h;
}

fault_encoded : (bytes : List ℕ) (f : TcpOptionReadError) → IsFault bytes f
    → items_of bytes ≡ Err f ∷ [] → AreItems bytes (items_of bytes)
fault_encoded bytes f fault is = record {
  elements = [];
  fault = Some f;
  rest = bytes;
  begins = record { encoded = refl; fits = tt; packed = refl };
  ends = fault;
  all = is;
}

more_encoded : (bytes : List ℕ) (x : TcpOptionElement) → IsRead bytes x
    → AreItems (drop (size_at bytes) bytes) (items_of (drop (size_at bytes) bytes))
    → items_of bytes ≡ Ok x ∷ items_of (drop (size_at bytes) bytes)
    → AreItems bytes (items_of bytes)
more_encoded bytes x read more is = record {
  elements = x ∷ more.elements;
  fault = more.fault;
  rest = more.rest;
  begins = grind (arith, append_assoc, flat_map-cons);
  ends = more.ends;
  all = grind arith;
}

no_end_kind : (bytes : List ℕ) → is_end bytes ≡ false → eqb (kind_at bytes) 0 ≡ false
no_end_kind bytes h = (or_parts _ _ h).1

one_encoded : (bytes : List ℕ) (item : Item) → item ≡ element_at bytes
    → IsBytes bytes → is_end bytes ≡ false
    → ((x : TcpOptionElement) → element_at bytes ≡ Ok x
    → AreItems (drop (size_at bytes) bytes) (items_of (drop (size_at bytes) bytes)))
    → AreItems bytes (items_of bytes)
one_encoded bytes (Ok x) e fits goes more =
    let read = element_read bytes x fits (some_left bytes goes) (sym e) in
    grind (arith, more_encoded, items-step)
one_encoded bytes (Err f) e fits goes more =
    fault_encoded bytes f (element_fault bytes f (no_end_kind bytes goes) (sym e))
    (items-step bytes goes ∙ rw (← e, items-none) refl)

encoded_within : (n : ℕ) (bytes : List ℕ) → length bytes ≤ n → IsBytes bytes
    → AreItems bytes (items_of bytes)
encoded_within zero [] h fits = none_encoded [] refl
encoded_within zero (x ∷ xs) h fits = absurd (omega arith)
encoded_within (suc n) bytes h fits =
    ⊎_elim (λ (ends : is_end bytes ≡ true). none_encoded bytes ends)
    (λ (goes : is_end bytes ≡ false). one_encoded bytes (element_at bytes) refl fits goes
    (λ x e. let size = element_size bytes x e in let some = some_left bytes goes in
    grind (arith, encoded_within n (drop (size_at bytes) bytes), length-drop, drop_fits)))
    (cases_Bool (is_end bytes))

pub items_encoded : ItemsAreEncoded
items_encoded bytes fits = encoded_within (length bytes) bytes (omega arith) fits

-- ---- and in one way

read_again : (elements : List TcpOptionElement) (rest : List ℕ) → FitsElements elements
    → items_of (elements_bytes elements ++ rest)
    ≡ map (λ (x : TcpOptionElement). Ok (packed_element x)) elements ++ items_of rest
read_again [] rest fits = refl
read_again (x ∷ elements) rest fits =
    grind (arith, read_again elements rest fits.1, flat_map-cons, append_assoc, item_again)

abbrev pub oks : List TcpOptionElement → List Item
oks elements = map (λ (x : TcpOptionElement). Ok x) elements

elements_first : (elements : List TcpOptionElement) → map packed_element elements ≡ elements
    → ◌≡◌ {A = List Item} (map (λ (x : TcpOptionElement). Ok (packed_element x)) elements)
    (oks elements)
elements_first elements packed = grind (arith, map-map)

not_end : (bytes : List ℕ) → (kind_at bytes ≡ 0 → ⊥) → is_end bytes ≡ false
not_end [] h = absurd (h refl)
not_end (x ∷ xs) h = end-cons x xs ∙ ne_eqb x 0 h

nothing_more : (rest : List ℕ) → EndsAs None rest → items_of rest ≡ []
nothing_more rest ends = grind (arith, items-none, items-end, end-cons)

fault_more : (rest : List ℕ) (f : TcpOptionReadError) → IsFault rest f → items_of rest ≡ Err f ∷ []
fault_more rest f fault = grind (arith, items-step, not_end, fault_kind, fault_refused, items-none)

ended : (elements : List TcpOptionElement) (fault : Option TcpOptionReadError) (rest : List ℕ)
    → EndsAs fault rest → oks elements ++ items_of rest ≡ items_and elements fault
ended elements fault rest ends = grind (arith, nothing_more, append-nil, fault_more)

pub no_other : NoOtherItems
no_other bytes items are =
    let begins = are.begins in
    grind (arith, read_again, elements_first, ended)
