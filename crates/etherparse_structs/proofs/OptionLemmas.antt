-- The options that are left in a part of bytes.
use Rattle.std.proofs.Common.{◌≡◌, ◌∙◌, sym, ap, subst, refl, ℕ, ◌+◌, ◌-◌, ◌≤◌, ◌==◌, ◌||◌, Bool, true, false}
use Rattle.std.proofs.Common.{List, [], ◌∷◌, map, length, take, drop, Option, Some, None, Result, Ok, Err, arith}
use Rattle.std.proofs.Common.{drop_of_length-le, ⊎_elim, ◌<◌}
use Rattle.std.proofs.lemmas.Bool.{cases_lt}
use Rattle.std.proofs.lemmas.Bool.Decides.{nat_tests}
use Rattle.std.proofs.lemmas.List.{drop-drop, drop-take, length-drop, length-take, length-take-le, take-take}
use Rattle.std.specs.Iterator.{YieldsFirst}
use Rattle.std.specs.Prelude.{if◌then◌else◌}
use Rattle.etherparse.specs.base.Bytes.{num}
use Rattle.etherparse.specs.tcpudp.Options.{acknowledgement_at, element_at, is_end, item_at, items_of, kind_at, of_size}
use Rattle.etherparse.specs.tcpudp.Options.{rest_after, rest_at}
use Rattle.etherparse.specs.tcpudp.declared.transport.tcp_option_element.TcpOptionElement.{TcpOptionElement}
use Rattle.etherparse.specs.tcpudp.declared.transport.tcp_option_element.TcpOptionElement.TheVariants as element
use Rattle.etherparse.specs.tcpudp.declared.transport.tcp_option_read_error.TcpOptionReadError.{TcpOptionReadError}
use Rattle.etherparse.specs.tcpudp.declared.transport.tcp_option_read_error.TcpOptionReadError.TheVariants as fault
use Rattle.etherparse_structs.specs.Part.{part_after, part_at, part_bytes}
use Rattle.etherparse_structs.specs.TcpOption.{element_struct, option_struct, option_struct_in, options_left, some_option}
use Rattle.etherparse_structs.specs.declared.part.EpPart.{EpPart}
use Rattle.etherparse_structs.specs.declared.tcp_option.EpTcpOption.{EpTcpOption}

abbrev Item : Type 0
Item = Result TcpOptionElement TcpOptionReadError

-- what is left of the first bytes after fewer of them
pub drop_taken : (n m : ℕ) (bytes : List ℕ) → n ≤ m
    → take (m - n) (drop n bytes) ≡ drop n (take m bytes)
drop_taken n m bytes fits =
    let whole : n + (m - n) ≡ m = omega arith in
    sym (ap (λ (k : ℕ). drop n (take k bytes)) (sym whole) ∙ drop-take n (m - n) bytes)

-- the bytes of a part after its first n
pub after_first : (bytes : List ℕ) (part : EpPart) (n : ℕ) → n ≤ part.len
    → part_bytes bytes (part_after n part) ≡ drop n (part_bytes bytes part)
after_first bytes part n fits =
    ap (take (part.len - n)) (sym (drop-drop n part.offset bytes))
    ∙ drop_taken n part.len (drop part.offset bytes) fits

pub part_most : (bytes : List ℕ) (part : EpPart) → length (part_bytes bytes part) ≤ part.len
part_most bytes part = omega (arith, length-take part.len (drop part.offset bytes))

-- so many bytes after the first ones of the first bytes of a part are where they are
pub inner_part : (bytes : List ℕ) (part : EpPart) (from m size : ℕ) → from + m ≤ size
    → size ≤ length (part_bytes bytes part)
    → part_bytes bytes (part_at (part.offset + from) (take m (drop from (take size (part_bytes bytes part)))))
    ≡ take m (drop from (take size (part_bytes bytes part)))
inner_part bytes part from m size fits most =
    let b = drop part.offset bytes in
    let whole : take size (part_bytes bytes part) ≡ take size b =
    take-take size part.len b (omega (arith, most, part_most bytes part)) in
    let flat : take m (drop from (take size (part_bytes bytes part))) ≡ take m (drop from b) =
    ap (λ (xs : List ℕ). take m (drop from xs)) whole
    ∙ ap (take m) (sym (drop_taken from size b (omega (arith, fits))))
    ∙ take-take m (size - from) (drop from b) (omega (arith, fits)) in
    let long : length (take m (drop from b)) ≡ m =
    length-take-le m (drop from b)
    (omega (arith, fits, most, length-drop from b, length-take part.len b)) in
    rw (flat, long) (ap (take m) (sym (drop-drop from part.offset bytes)))

-- a suffix by its length
suffix_of : (n : ℕ) (xs : List ℕ) → drop (length xs - length (drop n xs)) xs ≡ drop n xs
suffix_of n xs =
    ⊎_elim
    (λ (less : n < length xs). ap (λ (k : ℕ). drop k xs) (omega (arith, length-drop n xs, less)))
    (λ (beyond : length xs ≤ n).
    drop_of_length-le xs (omega (arith, length-drop n xs, beyond)) ∙ sym (drop_of_length-le xs beyond))
    (cases_lt n (length xs))

rest_case : (item : Item) (xs : List ℕ)
    → drop (length xs - length (rest_after item xs)) xs ≡ rest_after item xs
rest_case (Ok x) xs = suffix_of _ xs
rest_case (Err e) xs = drop_of_length-le xs (omega arith)

rest_by : (ends : Bool) (item : Item) (xs : List ℕ)
    → drop (length xs - length (if ends then [] else rest_after item xs)) xs
    ≡ (if ends then [] else rest_after item xs)
rest_by true item xs = drop_of_length-le xs (omega arith)
rest_by false item xs = rest_case item xs

-- what is left after a step is a suffix
pub rest_is : (xs : List ℕ) → drop (length xs - length (rest_at xs)) xs ≡ rest_at xs
rest_is xs = rest_by (is_end xs) (element_at xs) xs

pub rest_most : (xs : List ℕ) → length (rest_at xs) ≤ length xs
rest_most xs =
    omega (arith, ap length (rest_is xs), length-drop (length xs - length (rest_at xs)) xs)

-- the bytes that are left of a part after a step
pub taken_from : (bytes : List ℕ) (left after : EpPart)
    → after ≡ part_after (length (part_bytes bytes left) - length (rest_at (part_bytes bytes left))) left
    → part_bytes bytes after ≡ rest_at (part_bytes bytes left)
taken_from bytes left after moved =
    let options = part_bytes bytes left in
    let taken = length options - length (rest_at options) in
    ap (part_bytes bytes) moved
    ∙ after_first bytes left taken (omega (arith, part_most bytes left))
    ∙ rest_is options

-- of a choice by a test
chosen : {A : Type 0} (Q : A → Type 0) (test : Bool) (x y : A) → (test ≡ true → Q x) → Q y
    → Q (if test then x else y)
chosen Q true x y one other = one refl
chosen Q false x y one other = other

-- the kind of an item is the first byte
abbrev HasKind : List ℕ → Item → Type 0
HasKind bytes item = (option_struct item).kind ≡ kind_at bytes

sized_kind : (size : ℕ) (bytes : List ℕ) (x : TcpOptionElement)
    → (element_struct x).kind ≡ kind_at bytes → HasKind bytes (of_size size bytes x)
sized_kind size bytes x is = grind arith

blocks_kind : (bytes : List ℕ) → 5 ≡ kind_at bytes → HasKind bytes (acknowledgement_at bytes)
blocks_kind bytes is = grind arith

same : (a b : ℕ) → (a == b) ≡ true → b ≡ a
same a b is = grind (arith, nat_tests)

-- the tests of the kind, the last one first
abbrev from_timestamps : List ℕ → Item
from_timestamps bytes = if kind_at bytes == 8
    then of_size 10 bytes (element.Timestamp (num bytes 2 4) (num bytes 6 4))
    else Err (fault.UnknownId (kind_at bytes))

abbrev from_blocks : List ℕ → Item
from_blocks bytes = if kind_at bytes == 5 then acknowledgement_at bytes else from_timestamps bytes

abbrev from_permitted : List ℕ → Item
from_permitted bytes = if kind_at bytes == 4
    then of_size 2 bytes element.SelectiveAcknowledgementPermitted else from_blocks bytes

abbrev from_scale : List ℕ → Item
from_scale bytes = if kind_at bytes == 3 then of_size 3 bytes (element.WindowScale (num bytes 2 1))
    else from_permitted bytes

abbrev from_segment_size : List ℕ → Item
from_segment_size bytes = if kind_at bytes == 2
    then of_size 4 bytes (element.MaximumSegmentSize (num bytes 2 2)) else from_scale bytes

timestamps_kind : (bytes : List ℕ) → HasKind bytes (from_timestamps bytes)
timestamps_kind bytes =
    chosen (HasKind bytes) (kind_at bytes == 8)
    (of_size 10 bytes (element.Timestamp (num bytes 2 4) (num bytes 6 4)))
    (Err (fault.UnknownId (kind_at bytes)))
    (λ is. sized_kind 10 bytes (element.Timestamp (num bytes 2 4) (num bytes 6 4))
    (same (kind_at bytes) 8 is)) refl

from_blocks_kind : (bytes : List ℕ) → HasKind bytes (from_blocks bytes)
from_blocks_kind bytes =
    chosen (HasKind bytes) (kind_at bytes == 5) (acknowledgement_at bytes) (from_timestamps bytes)
    (λ is. blocks_kind bytes (same (kind_at bytes) 5 is)) (timestamps_kind bytes)

permitted_kind : (bytes : List ℕ) → HasKind bytes (from_permitted bytes)
permitted_kind bytes =
    chosen (HasKind bytes) (kind_at bytes == 4)
    (of_size 2 bytes element.SelectiveAcknowledgementPermitted) (from_blocks bytes)
    (λ is. sized_kind 2 bytes element.SelectiveAcknowledgementPermitted (same (kind_at bytes) 4 is))
    (from_blocks_kind bytes)

scale_kind : (bytes : List ℕ) → HasKind bytes (from_scale bytes)
scale_kind bytes =
    chosen (HasKind bytes) (kind_at bytes == 3)
    (of_size 3 bytes (element.WindowScale (num bytes 2 1))) (from_permitted bytes)
    (λ is. sized_kind 3 bytes (element.WindowScale (num bytes 2 1)) (same (kind_at bytes) 3 is))
    (permitted_kind bytes)

segment_size_kind : (bytes : List ℕ) → HasKind bytes (from_segment_size bytes)
segment_size_kind bytes =
    chosen (HasKind bytes) (kind_at bytes == 2)
    (of_size 4 bytes (element.MaximumSegmentSize (num bytes 2 2))) (from_scale bytes)
    (λ is. sized_kind 4 bytes (element.MaximumSegmentSize (num bytes 2 2))
    (same (kind_at bytes) 2 is)) (scale_kind bytes)

element_kind : (bytes : List ℕ) → HasKind bytes (element_at bytes)
element_kind bytes =
    chosen (HasKind bytes) (kind_at bytes == 1) (Ok element.Noop) (from_segment_size bytes)
    (λ is. same (kind_at bytes) 1 is) (segment_size_kind bytes)

-- an item isn't the end
item_by : (ends : Bool) (bytes : List ℕ) (item : Item) → ((length bytes == 0) || (kind_at bytes == 0)) ≡ ends
    → (if ends then None else Some (element_at bytes)) ≡ Some item
    → ((option_struct item).kind == 0) ≡ false
item_by true bytes item is at = cc
item_by false bytes item is at =
    let found : element_at bytes ≡ item = cc at in
    let named : (option_struct item).kind ≡ kind_at bytes =
    subst (HasKind bytes) found (element_kind bytes) in
    let other : (kind_at bytes == 0) ≡ false = grind arith in
    ap (λ (kind : ℕ). kind == 0) named ∙ other

item_is : (bytes : List ℕ) (item : Item) → item_at bytes ≡ Some item
    → some_option (option_struct item) ≡ Some (option_struct item)
item_is bytes item at =
    ap (λ (t : Bool). if t then None else Some (option_struct item))
    (item_by (is_end bytes) bytes item refl at)

-- the options that the bytes are
abbrev structs : List ℕ → List EpTcpOption
structs bytes = map option_struct (items_of bytes)

-- the option that a step returns is the first of those that were left
step_case : (bytes rest : List ℕ) (left after : EpPart) (item : Option Item)
    → item_at (part_bytes bytes left) ≡ item → YieldsFirst items_of (part_bytes bytes left) item rest
    → part_bytes bytes after ≡ rest
    → YieldsFirst (options_left bytes) left (some_option (option_struct_in item)) after
step_case bytes rest left after None at steps is =
    (ap (map option_struct) steps.0, ap structs is ∙ ap (map option_struct) steps.1)
step_case bytes rest left after (Some item) at steps is =
    subst (λ (o : Option EpTcpOption). YieldsFirst (options_left bytes) left o after)
    (sym (item_is (part_bytes bytes left) item at))
    (ap (map option_struct) steps ∙ ap (λ (xs : List ℕ). option_struct item ∷ structs xs) (sym is))

pub option_is_first : (bytes : List ℕ) (left after : EpPart) (option : EpTcpOption)
    → option ≡ option_struct_in (item_at (part_bytes bytes left))
    → after ≡ part_after (length (part_bytes bytes left) - length (rest_at (part_bytes bytes left))) left
    → YieldsFirst items_of (part_bytes bytes left) (item_at (part_bytes bytes left))
    (rest_at (part_bytes bytes left))
    → YieldsFirst (options_left bytes) left (some_option option) after
option_is_first bytes left after option is moved steps =
    subst (λ (o : EpTcpOption). YieldsFirst (options_left bytes) left (some_option o) after) (sym is)
    (step_case bytes (rest_at (part_bytes bytes left)) left after (item_at (part_bytes bytes left)) refl
    steps (taken_from bytes left after moved))
