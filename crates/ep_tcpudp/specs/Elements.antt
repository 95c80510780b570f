-- The options of a TCP header as a list, by the table of options: which bytes are which elements,
-- and why the list ends where it does. End, no-operation and maximum segment size: RFC 9293,
-- section 3.2; window scale and timestamps: RFC 7323, sections 2.2 and 3.2; selective
-- acknowledgement: RFC 2018, sections 2 and 3.
use Rattle.std.specs.Prelude.{◌≡◌, ◌≢◌, ◌⊎◌, ◌<◌, ◌≤◌, map, ℕ, ◌+◌, ◌*◌, List, [], ◌∷◌, ◌++◌, length, Option, Some}
use Rattle.std.specs.Prelude.{None, Result, Ok, Err}
use Rattle.ep_base.specs.Bytes.{IsBytes, num}
use Rattle.ep_tcpudp.specs.Options.{FitsElements, elements_bytes, items_of, kind_at, packed_element}
use Rattle.ep_tcpudp.specs.declared.transport.tcp_option_element.TcpOptionElement.{TcpOptionElement}
use Rattle.ep_tcpudp.specs.declared.transport.tcp_option_read_error.TcpOptionReadError.{TcpOptionReadError}
use Rattle.ep_tcpudp.specs.declared.transport.tcp_option_read_error.TcpOptionReadError.TheVariants.{UnexpectedEndOfSlice}
use Rattle.ep_tcpudp.specs.declared.transport.tcp_option_read_error.TcpOptionReadError.TheVariants.{UnexpectedSize}
use Rattle.ep_tcpudp.specs.declared.transport.tcp_option_read_error.TcpOptionReadError.TheVariants.{UnknownId}

-- the bytes are these elements, one after the other, and then the rest. Each number fits its bytes,
-- and of a selective acknowledgement the blocks that are there come first.
pub record Elements (bytes : List ℕ) (elements : List TcpOptionElement)
    (rest : List ℕ) : Type 0 where
  pub encoded : bytes ≡ elements_bytes elements ++ rest
  pub fits : FitsElements elements
  pub packed : map packed_element elements ≡ elements

-- an option of this kind has this size in bytes, and no other
abbrev pub HasOneSize : (kind size : ℕ) → Type 0
HasOneSize kind size =
    ((kind ≡ 2) × (size ≡ 4))
    ⊎ (((kind ≡ 3) × (size ≡ 3)) ⊎ (((kind ≡ 4) × (size ≡ 2)) ⊎ ((kind ≡ 8) × (size ≡ 10))))

-- a selective acknowledgement has this size: kind, size, and one to four blocks of 8 bytes
abbrev pub IsSizeOfBlocks : ℕ → Type 0
IsSizeOfBlocks size = (blocks : ℕ) × ((1 ≤ blocks) × (blocks ≤ 4) × (size ≡ 2 + 8 * blocks))

-- the option of this kind at the start of the bytes needs so many: those of its one size; a
-- selective acknowledgement needs kind and size, and where they are there, as many as the size says
abbrev pub Needs : List ℕ → (kind needed : ℕ) → Type 0
Needs bytes kind needed =
    HasOneSize kind needed
    ⊎ ((kind ≡ 5) × (((length bytes < 2) × (needed ≡ 2))
    ⊎ ((2 ≤ length bytes) × (num bytes 1 1 ≡ needed) × IsSizeOfBlocks needed)))

-- the option of this kind at the start of the bytes has none of its kind's sizes: its bytes are
-- there by the one size that it should have, or of a selective acknowledgement kind and size are
abbrev pub HasOtherSize : List ℕ → (kind size : ℕ) → Type 0
HasOtherSize bytes kind size =
    ((right : ℕ) × (HasOneSize kind right × (right ≤ length bytes) × (size ≢ right)))
    ⊎ ((kind ≡ 5) × (2 ≤ length bytes) × ¬ IsSizeOfBlocks size)

-- what is wrong with the option at the start of the bytes
abbrev pub IsFault : List ℕ → TcpOptionReadError → Type 0
IsFault bytes (UnexpectedEndOfSlice kind needed left) =
    (kind_at bytes ≡ kind) × Needs bytes kind needed × (length bytes ≡ left) × (left < needed)
IsFault bytes (UnexpectedSize kind size) = (kind_at bytes ≡ kind) × (num bytes 1 1 ≡ size)
    × HasOtherSize bytes kind size
IsFault bytes (UnknownId kind) =
    (kind_at bytes ≡ kind) × (kind ≢ 0) × (kind ≢ 1) × (kind ≢ 2) × (kind ≢ 3) × (kind ≢ 4)
    × (kind ≢ 5) × (kind ≢ 8)

-- why a list of options ends before these bytes: none are left, or the first is the option that
-- ends the list; or the option there has this fault
abbrev pub EndsAs : Option TcpOptionReadError → List ℕ → Type 0
EndsAs None rest = (rest ≡ []) ⊎ ((after : List ℕ) × (rest ≡ 0 ∷ after))
EndsAs (Some fault) rest = IsFault rest fault

-- the elements of a list that ends so, and after them the fault if there is one
abbrev pub items_and : List TcpOptionElement → Option TcpOptionReadError
    → List (Result TcpOptionElement TcpOptionReadError)
items_and elements None = map (λ element. Ok element) elements
items_and elements (Some fault) = map (λ element. Ok element) elements ++ Err fault ∷ []

-- these items are what the bytes of options encode, up to the end of the list
pub record AreItems (bytes : List ℕ)
    (items : List (Result TcpOptionElement TcpOptionReadError)) : Type 0 where
  pub elements : List TcpOptionElement
  pub fault : Option TcpOptionReadError
  pub rest : List ℕ
  pub begins : Elements bytes elements rest
  pub ends : EndsAs fault rest
  pub all : items ≡ items_and elements fault

-- all bytes encode the items that they are parsed as
abbrev pub ItemsAreEncoded : Type 0
ItemsAreEncoded = (bytes : List ℕ) → IsBytes bytes → AreItems bytes (items_of bytes)

-- and no others
abbrev pub NoOtherItems : Type 0
NoOtherItems = (bytes : List ℕ) (items : List (Result TcpOptionElement TcpOptionReadError))
    → AreItems bytes items → items ≡ items_of bytes
