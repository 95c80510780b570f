use Rattle.std.proofs.Common.{◌≡◌, ◌∙◌, ℕ, List, Option, IsSome, get_or, length, eqb-true, sym, ap, subst, refl, arith}
use Rattle.std.proofs.lemmas.Bool.{eqb-false}
use Rattle.ep_ext.specs.Chain.{IsPiece}
use Rattle.ep_ext.specs.Value.{Piece, bytes_of}
use Rattle.ep_ext.specs.declared.net.ipv6_ext_slot.Ipv6ExtSlot.{Ipv6ExtSlot}
use Rattle.ep_ipslice.specs.Ipv6Ext.{ext_len, ext_of, piece_of}
use Rattle.ep_ipslice.proofs.Cuts.{split_prefix, drop_is}
use Rattle.ep_ipslice.proofs.Left.{first_of, first_has_slot, first_len, first_fits, first_piece, none_left, some_slot}
use Rattle.ep_ipslice.proofs.Left.{left_after}
use Rattle.ep_ipslice.proofs.net.ipv6_extension_slice_iter.first_header.Goals as goal

pub returns-then-is_empty : goal.returns-then-is_empty
returns-then-is_empty c = none_left c.args.number.0 c.args.rest.now
    (eqb-true _ _ (sym c.is_empty.ensures ∙ c.if-is_empty.true))

pub unwrap-slot-requires : goal.unwrap-slot-requires
unwrap-slot-requires c =
    let first = first_of c.args.number.0 c.args.rest.now c.requires
    (eqb-false _ _ (sym c.is_empty.ensures ∙ c.if-is_empty.false)) in
    subst (λ (p : Option Ipv6ExtSlot). IsSome p)
    (sym (c.slot_of.ensures ∙ first_has_slot c.args.number.0 c.args.rest.now first)) refl

pub ext_len-requires : goal.ext_len-requires
ext_len-requires c =
    let first = first_of c.args.number.0 c.args.rest.now c.requires
    (eqb-false _ _ (sym c.is_empty.ensures ∙ c.if-is_empty.false)) in
    omega (
      arith,
      c.whole_header_is_found.ensures.least first.piece.0 first.piece.1
          first.row.1,
      first_fits c.args.number.0 c.args.rest.now first,
    )

pub split_at-requires : goal.split_at-requires
split_at-requires c =
    let first = first_of c.args.number.0 c.args.rest.now c.requires
    (eqb-false _ _ (sym c.is_empty.ensures ∙ c.if-is_empty.false)) in
    let slot : c.unwrap-slot.result ≡ first.piece.0 =
    some_slot _ _ (sym c.unwrap-slot.ensures ∙ c.slot_of.ensures
    ∙ first_has_slot c.args.number.0 c.args.rest.now first) in
    let len : c.ext_len.result ≡ length first.piece.1 =
    c.ext_len.ensures ∙ ap (λ (p : Ipv6ExtSlot). ext_len p c.args.rest.now) slot
    ∙ first_len c.args.number.0 c.args.rest.now first in
    omega (arith, len, first_fits c.args.number.0 c.args.rest.now first)

pub of_bytes-header-requires : goal.of_bytes-header-requires
of_bytes-header-requires c =
    let first = first_of c.args.number.0 c.args.rest.now c.requires
    (eqb-false _ _ (sym c.is_empty.ensures ∙ c.if-is_empty.false)) in
    let slot : c.unwrap-slot.result ≡ first.piece.0 =
    some_slot _ _ (sym c.unwrap-slot.ensures ∙ c.slot_of.ensures
    ∙ first_has_slot c.args.number.0 c.args.rest.now first) in
    let len : c.ext_len.result ≡ length first.piece.1 =
    c.ext_len.ensures ∙ ap (λ (p : Ipv6ExtSlot). ext_len p c.args.rest.now) slot
    ∙ first_len c.args.number.0 c.args.rest.now first in
    let prefix : c.split_at.result.0.now ≡ first.piece.1 =
    split_prefix c.args.rest.now first.piece.1
    (bytes_of first.pieces) c.split_at.result.0.now _ first.cut len c.split_at.ensures.front in
    subst (λ (p : Piece). IsPiece p.0 p.1) (λ i. (sym slot i, sym prefix i)) first.row.1

pub returns : goal.returns
returns c =
    let found = c.whole_header_is_found.ensures.found in
    let first = first_of c.args.number.0 c.args.rest.now c.requires
    (eqb-false _ _ (sym c.is_empty.ensures ∙ c.if-is_empty.false)) in
    let slot : c.unwrap-slot.result ≡ first.piece.0 =
    some_slot _ _ (sym c.unwrap-slot.ensures ∙ c.slot_of.ensures
    ∙ first_has_slot c.args.number.0 c.args.rest.now first) in
    let len : c.ext_len.result ≡ length first.piece.1 =
    c.ext_len.ensures ∙ ap (λ (p : Ipv6ExtSlot). ext_len p c.args.rest.now) slot
    ∙ first_len c.args.number.0 c.args.rest.now first in
    let prefix : c.split_at.result.0.now ≡ first.piece.1 =
    split_prefix c.args.rest.now first.piece.1
    (bytes_of first.pieces) c.split_at.result.0.now _ first.cut len c.split_at.ensures.front in
    let following : c.split_at.result.1.now ≡ bytes_of first.pieces =
    c.split_at.ensures.back ∙ drop_is c.args.rest.now first.piece.1
    (bytes_of first.pieces) _ first.cut len in
    let piece : piece_of c.of_bytes-header.result ≡ first.piece =
    ap piece_of c.of_bytes-header.ensures ∙ (λ i. piece_of (ext_of (slot i) (prefix i)))
    ∙ first_piece c.args.number.0 c.args.rest.now first in
    left_after found c.whole_header_is_found.ensures.least c.args.number.0 c.args.rest.now first
    (piece_of c.of_bytes-header.result)
    (get_or c.split_at.result.0.now 0 0) c.split_at.result.1.now
    piece (ap (λ (xs : List ℕ). get_or xs 0 0) prefix) following
