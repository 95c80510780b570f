-- The header of a Linux cooked capture at the start of bytes.
use Rattle.std.proofs.Common.{◌≡◌, ℕ, ◌≤◌, List, ◌++◌, length, take, drop, get_or, Result, Ok, arith, sym, ap, ◌∙◌}
use Rattle.std.proofs.lemmas.Bool.{ltb-false}
use Rattle.std.proofs.lemmas.List.{get_or-take, get_or_append_left, length-take-le, length-append, take-append-drop}
use Rattle.std.proofs.lemmas.List.{take_at}
use Rattle.ep_base.specs.declared.err.slice_error.SliceError.{SliceError}
use Rattle.ep_link.specs.declared.err.linux_sll.header_error.HeaderError.{HeaderError}
use Rattle.ep_link.specs.Sll.{IsSllHeader, greatest_packet_type, packet_type_of, sll_len}
use Rattle.ep_link.specs.SllFault.{header_at}
use Rattle.ep_base.specs.Prefixes.{TakesPrefix}
use Rattle.ep_base.proofs.Prefixes.{guard_ok, ok_same, takes}

-- the first bytes of a header say what the header says
pub prefix_is : (bytes : List ℕ) → sll_len ≤ length bytes
    → packet_type_of bytes ≤ greatest_packet_type → IsSllHeader (take sll_len bytes)
prefix_is bytes least kind = grind (arith, get_or-take, length-take-le)

header_found : (bytes prefix : List ℕ) → header_at bytes ≡ Ok prefix
    → IsSllHeader prefix × ((rest : List ℕ) × (bytes ≡ prefix ++ rest))
header_found bytes prefix e =
    let least = guard_ok _ _ _ _ e in
    let kind = guard_ok _ _ _ _ least.1 in
    let small : packet_type_of bytes ≤ greatest_packet_type =
    ltb-false greatest_packet_type (packet_type_of bytes) kind.0 in
    let fits : sll_len ≤ length bytes = ltb-false (length bytes) sll_len least.0 in
    let same : take sll_len bytes ≡ prefix = ok_same _ _ kind.1 in
    rw (← same) (
      prefix_is bytes fits
          small,
      (drop sll_len bytes, sym (take-append-drop sll_len bytes)),
    )

header_at-ok : (bytes : List ℕ) → sll_len ≤ length bytes
    → packet_type_of bytes ≤ greatest_packet_type → header_at bytes ≡ Ok (take sll_len bytes)
header_at-ok bytes least kind = grind arith

-- a header is taken, whatever follows it
header_again : (header rest : List ℕ) → IsSllHeader header → header_at (header ++ rest) ≡ Ok header
header_again header rest is =
    let zeroth : get_or (header ++ rest) 0 0 ≡ get_or header 0 0 =
    get_or_append_left header rest 0 0 (omega (arith, is.whole)) in
    let first : get_or (header ++ rest) 1 0 ≡ get_or header 1 0 =
    get_or_append_left header rest 0 1 (omega (arith, is.whole)) in
    let len = length-append header rest in
    header_at-ok (header ++ rest) (omega (arith, is.whole)) (rw (zeroth, first) is.packet_type)
    ∙ ap Ok (take_at header rest 16 is.whole)

pub takes_header : (bytes : List ℕ) (taken : Result (List ℕ) (SliceError HeaderError))
    → taken ≡ header_at bytes → TakesPrefix IsSllHeader bytes taken
takes_header = takes IsSllHeader header_at header_found header_again
