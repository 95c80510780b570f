-- The list of options in a TCP header: which bytes encode which element. End, no-operation and
-- maximum segment size: RFC 9293, section 3.2; window scale and timestamps: RFC 7323, sections 2.2
-- and 3.2; selective acknowledgement: RFC 2018, sections 2 and 3.
use Rattle.std.specs.Prelude.{◌≡◌, ◌<◌, ⊤, map, ℕ, zero, suc, ◌+◌, ◌-◌, ◌^◌, min, nat_lt, ◌==◌, ◌||◌, not, Bool}
use Rattle.std.specs.Prelude.{if◌then◌else◌, List, [], ◌∷◌, ◌++◌, length, drop, Option, Some, None, Result, Ok, Err}
use Rattle.std.specs.List.{flat_map}
use Rattle.std.specs.Int.{w16, w32, to_be_bytes}
use Rattle.ep_base.specs.Refusals.{unless_refused}
use Rattle.ep_base.specs.Bytes.{num}
use Rattle.ep_tcpudp.specs.TcpOptions.{whole_options}
use Rattle.ep_tcpudp.specs.declared.transport.tcp_option_element.TcpOptionElement.{TcpOptionElement}
use Rattle.ep_tcpudp.specs.declared.transport.tcp_option_element.TcpOptionElement.TheVariants.{Noop, MaximumSegmentSize}
use Rattle.ep_tcpudp.specs.declared.transport.tcp_option_element.TcpOptionElement.TheVariants.{WindowScale}
use Rattle.ep_tcpudp.specs.declared.transport.tcp_option_element.TcpOptionElement.TheVariants.{SelectiveAcknowledgementPermitted}
use Rattle.ep_tcpudp.specs.declared.transport.tcp_option_element.TcpOptionElement.TheVariants.{SelectiveAcknowledgement}
use Rattle.ep_tcpudp.specs.declared.transport.tcp_option_element.TcpOptionElement.TheVariants.{Timestamp}
use Rattle.ep_tcpudp.specs.declared.transport.tcp_option_read_error.TcpOptionReadError.{TcpOptionReadError}
use Rattle.ep_tcpudp.specs.declared.transport.tcp_option_read_error.TcpOptionReadError.TheVariants.{UnexpectedEndOfSlice}
use Rattle.ep_tcpudp.specs.declared.transport.tcp_option_read_error.TcpOptionReadError.TheVariants.{UnexpectedSize}
use Rattle.ep_tcpudp.specs.declared.transport.tcp_option_read_error.TcpOptionReadError.TheVariants.{UnknownId}
use Rattle.ep_tcpudp.specs.declared.transport.tcp_option_write_error.TcpOptionWriteError.{TcpOptionWriteError}
use Rattle.ep_tcpudp.specs.declared.transport.tcp_option_write_error.TcpOptionWriteError.TheVariants.{NotEnoughSpace}

-- a block of bytes that arrived: the number of its first byte, and of the byte after its last one
abbrev pub block_bytes : ℕ × ℕ → List ℕ
block_bytes block = to_be_bytes w32 block.0 ++ to_be_bytes w32 block.1

-- the bytes of blocks that may be there, in their order
abbrev pub blocks_bytes : List (Option (ℕ × ℕ)) → List ℕ
blocks_bytes [] = []
blocks_bytes (None ∷ rest) = blocks_bytes rest
blocks_bytes (Some block ∷ rest) = block_bytes block ++ blocks_bytes rest

-- the bytes of an element
abbrev pub element_bytes : TcpOptionElement → List ℕ
element_bytes Noop = 1 ∷ []
element_bytes (MaximumSegmentSize size) = 2 ∷ 4 ∷ to_be_bytes w16 size
element_bytes (WindowScale shift) = 3 ∷ 3 ∷ shift ∷ []
element_bytes SelectiveAcknowledgementPermitted = 4 ∷ 2 ∷ []
element_bytes (SelectiveAcknowledgement first rest) =
    5 ∷ (10 + length (blocks_bytes rest)) ∷ (block_bytes first ++ blocks_bytes rest)
element_bytes (Timestamp value reply) = 8 ∷ 10 ∷ (to_be_bytes w32 value ++ to_be_bytes w32 reply)

-- the bytes of elements in a row
abbrev pub elements_bytes : List TcpOptionElement → List ℕ
elements_bytes elements = flat_map element_bytes elements

-- the options that elements are, filled up with 0; more than 40 bytes are refused with their
-- number. (A number above the greatest `usize` is reported as the greatest `usize`.)
abbrev pub options_of_elements : List TcpOptionElement → Result (List ℕ) TcpOptionWriteError
options_of_elements elements =
    if nat_lt 40 (length (elements_bytes elements))
    then Err (NotEnoughSpace (min (length (elements_bytes elements)) (2 ^ 64 - 1))) else
    Ok (whole_options (elements_bytes elements))

-- blocks, with those that are there first
abbrev pub packed_blocks : List (Option (ℕ × ℕ)) → List (Option (ℕ × ℕ))
packed_blocks (None ∷ None ∷ c ∷ []) = c ∷ None ∷ None ∷ []
packed_blocks (None ∷ Some b ∷ c ∷ []) = Some b ∷ c ∷ None ∷ []
packed_blocks (Some a ∷ None ∷ c ∷ []) = Some a ∷ c ∷ None ∷ []
packed_blocks blocks = blocks

-- an element as it is read: of the blocks after the first, those that are there come first
abbrev pub packed_element : TcpOptionElement → TcpOptionElement
packed_element (SelectiveAcknowledgement first rest) =
    SelectiveAcknowledgement first (packed_blocks rest)
packed_element element = element

-- the kind of the option at the start
abbrev pub kind_at : List ℕ → ℕ
kind_at bytes = num bytes 0 1

-- the size of the option at the start in bytes: its second byte, but for a no-operation, which has
-- none
abbrev pub size_at : List ℕ → ℕ
size_at bytes = if kind_at bytes == 1 then 1 else num bytes 1 1

-- an option of a kind that has one size: the bytes are there, and the second byte says how many
abbrev pub of_size : {A : Type 0} → ℕ → List ℕ → A → Result A TcpOptionReadError
of_size size bytes = unless_refused (
    (nat_lt (length bytes) size, UnexpectedEndOfSlice (kind_at bytes) size (length bytes))
    ∷ (not (num bytes 1 1 == size), UnexpectedSize (kind_at bytes) (num bytes 1 1)) ∷ [])

-- the block at offset p
abbrev pub block_at : List ℕ → ℕ → ℕ × ℕ
block_at bytes p = (num bytes p 4, num bytes (p + 4) 4)

-- the same in an option of so many bytes, where it reaches there
abbrev pub block_within : ℕ → List ℕ → ℕ → Option (ℕ × ℕ)
block_within size bytes p = if nat_lt p size then Some (block_at bytes p) else None

-- the blocks of a selective acknowledgement after the first
abbrev pub blocks_at : List ℕ → List (Option (ℕ × ℕ))
blocks_at bytes = block_within (num bytes 1 1) bytes 10 ∷ block_within (num bytes 1 1) bytes 18 ∷
    block_within (num bytes 1 1) bytes 26 ∷ []

-- the sizes of one to four blocks
abbrev pub is_size_of_blocks : ℕ → Bool
is_size_of_blocks size = (size == 10) || ((size == 18) || ((size == 26) || (size == 34)))

abbrev pub acknowledgement_at : List ℕ → Result TcpOptionElement TcpOptionReadError
acknowledgement_at bytes = unless_refused (
    (nat_lt (length bytes) 2, UnexpectedEndOfSlice (kind_at bytes) 2 (length bytes))
    ∷ (not (is_size_of_blocks (num bytes 1 1)), UnexpectedSize (kind_at bytes) (num bytes 1 1))
    ∷ (
      nat_lt (length bytes) (num bytes 1 1),
      UnexpectedEndOfSlice (kind_at bytes) (num bytes 1 1) (length bytes),
    )
    ∷ []) (SelectiveAcknowledgement (block_at bytes 2) (blocks_at bytes))

-- the element at the start of bytes that don't begin with the end of the list, or its fault
abbrev pub element_at : List ℕ → Result TcpOptionElement TcpOptionReadError
element_at bytes =
    if kind_at bytes == 1 then Ok Noop else (
    if kind_at bytes == 2 then of_size 4 bytes (MaximumSegmentSize (num bytes 2 2)) else (
    if kind_at bytes == 3 then of_size 3 bytes (WindowScale (num bytes 2 1)) else (
    if kind_at bytes == 4 then of_size 2 bytes SelectiveAcknowledgementPermitted else (
    if kind_at bytes == 5 then acknowledgement_at bytes else (
    if kind_at bytes == 8 then of_size 10 bytes (Timestamp (num bytes 2 4) (num bytes 6 4)) else
    Err (UnknownId (kind_at bytes)))))))

-- the list of options ends: no bytes are left, or the first is 0
abbrev pub is_end : List ℕ → Bool
is_end bytes = (length bytes == 0) || (kind_at bytes == 0)

-- what is left after the element at the start, and nothing after a fault
abbrev pub rest_after : Result TcpOptionElement TcpOptionReadError → List ℕ → List ℕ
rest_after (Ok element) bytes = drop (size_at bytes) bytes
rest_after (Err fault) bytes = []

-- one step: the next item, and what is left; nothing is left at the end of the list
abbrev pub item_at : List ℕ → Option (Result TcpOptionElement TcpOptionReadError)
item_at bytes = if is_end bytes then None else Some (element_at bytes)

abbrev pub rest_at : List ℕ → List ℕ
rest_at bytes = if is_end bytes then [] else rest_after (element_at bytes) bytes

-- all items, in at most so many steps
unfoldable pub items_within : ℕ → List ℕ → List (Result TcpOptionElement TcpOptionReadError)
items_within zero bytes = []
items_within (suc n) bytes = if is_end bytes then []
    else element_at bytes ∷ items_within n (rest_after (element_at bytes) bytes)

-- all items: the elements up to the end of the list, or up to the first fault, which is the last
-- item. (Each step but the last takes a byte.)
abbrev pub items_of : List ℕ → List (Result TcpOptionElement TcpOptionReadError)
items_of bytes = items_within (length bytes) bytes

-- the numbers of a block fit their 4 bytes
abbrev pub FitsBlock : Option (ℕ × ℕ) → Type 0
FitsBlock None = ⊤
FitsBlock (Some block) = (block.0 < 2 ^ 32) × (block.1 < 2 ^ 32)

abbrev pub FitsBlocks : List (Option (ℕ × ℕ)) → Type 0
FitsBlocks [] = ⊤
FitsBlocks (block ∷ blocks) = FitsBlock block × FitsBlocks blocks

-- the numbers of an element fit their bytes, and after the first block come three that may be there
abbrev pub FitsElement : TcpOptionElement → Type 0
FitsElement Noop = ⊤
FitsElement (MaximumSegmentSize size) = size < 2 ^ 16
FitsElement (WindowScale shift) = shift < 2 ^ 8
FitsElement SelectiveAcknowledgementPermitted = ⊤
FitsElement (SelectiveAcknowledgement first rest) = FitsBlock (Some first)
    × (length rest ≡ 3) × FitsBlocks rest
FitsElement (Timestamp value reply) = (value < 2 ^ 32) × (reply < 2 ^ 32)

abbrev pub FitsElements : List TcpOptionElement → Type 0
FitsElements [] = ⊤
FitsElements (element ∷ elements) = FitsElement element × FitsElements elements

-- what elements were written as is read as these elements, with the blocks that are there first
abbrev pub ElementsComeBack : Type 0
ElementsComeBack = (elements : List TcpOptionElement) → FitsElements elements
    → items_of (whole_options (elements_bytes elements))
    ≡ map (λ element. Ok (packed_element element)) elements
