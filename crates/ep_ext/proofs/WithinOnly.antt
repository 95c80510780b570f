-- What is read of known bytes within a limit.
use Rattle.std.proofs.Common.{◌≡◌, ℕ, ◌+◌, ◌-◌, ◌≤◌, List, ◌∷◌, ◌++◌, length, Option, Some, [], None, Result, Ok, Err}
use Rattle.std.proofs.Common.{get_or, arith, refl, sym, ap, ◌∙◌, subst}
use Rattle.std.proofs.KnownBytes.{Consumes-trans}
use Rattle.std.proofs.lemmas.List.{append_assoc, append-nil, length-append}
use Rattle.std.specs.Io.KnownBytes.{Consumes}
use Rattle.std.specs.Prelude.{IfOk, IfErr, MatchResult}
use Rattle.ep_base.specs.declared.net.ip_number.IpNumber.{IpNumber}
use Rattle.ep_ext.specs.Chain.{IsPiece, Row}
use Rattle.ep_ext.specs.Limited.{Limited, at_next_layer}
use Rattle.ep_ext.specs.Slot.{slot_of}
use Rattle.ep_ext.specs.ReadsExts.{IsWholeRow, IsExtsLimitedIo, ReadsRowWithin, RefusesBytes, RefusesRowWithin}
use Rattle.ep_ext.specs.ReadsExts.{TakesRow, read_layer}
use Rattle.ep_ext.specs.Value.{Piece, slots, bytes_of, value_of}
use Rattle.ep_ext.specs.declared.err.io.limited_read_error.LimitedReadError.TheVariants as bytes_fault
use Rattle.ep_ext.specs.declared.err.ip_auth.header_limited_read_error.HeaderLimitedReadError.TheVariants as auth_limited
use Rattle.ep_ext.specs.declared.err.ipv6_exts.header_error.HeaderError.TheVariants.{HopByHopNotAtStart, IpAuth}
use Rattle.ep_ext.specs.declared.err.ipv6_exts.header_limited_read_error.HeaderLimitedReadError.{HeaderLimitedReadError}
use Rattle.ep_ext.specs.declared.err.ipv6_exts.header_limited_read_error.HeaderLimitedReadError.TheVariants.{Io, Len}
use Rattle.ep_ext.specs.declared.err.ipv6_exts.header_limited_read_error.HeaderLimitedReadError.TheVariants.{Content}
use Rattle.ep_base.specs.declared.err.len_error.LenError.{LenError}
use Rattle.ep_ext.specs.declared.net.ipv6_ext_slot.Ipv6ExtSlot.{Ipv6ExtSlot}
use Rattle.ep_ext.specs.declared.net.ipv6_ext_slot.Ipv6ExtSlot.TheVariants.{HopByHop, Destination, Routing, Fragment}
use Rattle.ep_ext.specs.declared.net.ipv6_ext_slot.Ipv6ExtSlot.TheVariants.{Authentication, FinalDestination}
use Rattle.ep_ext.specs.declared.net.ipv6_extensions.Ipv6Extensions.{Ipv6Extensions}
use Rattle.ep_ext.proofs.Prefixes.{same_prefix, same_rest}
use Rattle.ep_ext.proofs.Reading.{consumed_some, raw_refused, auth_refused_within}
use Rattle.ep_ext.proofs.ReadOnly.{alone, auth_end, read_same}
use Rattle.std.proofs.lemmas.Option.{none-some, same_Some}
use Rattle.ep_ext.proofs.Rows.{end_closed}
use Rattle.ep_base.proofs.KnownReads.{consumes_none}

-- headers that were taken were consumed, and the limit went down by them
pub taken : {T : Type 0} (remaining : T → Option (List ℕ)) (old new : Limited T)
    (pieces : List Piece) → TakesRow remaining old pieces new →
    Consumes (remaining old.reader) (remaining new.reader) (bytes_of pieces)
    × ((new.max_len - new.read_len) + length (bytes_of pieces) ≡ old.max_len - old.read_len)
taken {T = T} remaining old new [] row =
    subst (λ (r : Limited T). Consumes (remaining old.reader) (remaining r.reader) []
    × ((r.max_len - r.read_len) + 0 ≡ old.max_len - old.read_len)) (sym row)
    (consumes_none (remaining old.reader), omega arith)
taken {T = T} remaining old new (piece ∷ pieces) row =
    let between = row.0 in
    let following = taken remaining between new pieces row.2 in
    let limit : between.max_len ≡ old.max_len - old.read_len =
    ap {A = Limited T} (λ r. r.max_len) row.1.counted in
    let read : between.read_len ≡ 0 + length piece.1 =
    ap {A = Limited T} (λ r. r.read_len) row.1.counted in (
      Consumes-trans (remaining old.reader) (remaining between.reader)
          (remaining new.reader) piece.1 (bytes_of pieces) row.1.consumed following.0,
      omega (arith, limit, read, row.1.within, following.1, length-append piece.1 (bytes_of pieces)),
    )

-- of two rows over the same bytes, where one has a slot for its next header and the other has none,
-- the other continues after the one
next_there : (passed : List Ipv6ExtSlot) (number : ℕ) (ps qs : List Piece) (m n : ℕ)
    (r s : List ℕ) (p : Ipv6ExtSlot) →
    Row slot_of passed number ps m → Row slot_of passed number qs n
    → bytes_of ps ++ r ≡ bytes_of qs ++ s →
    slot_of (passed ++ slots ps) m ≡ Some p → slot_of (passed ++ slots qs) n ≡ None →
    (header : List ℕ) × (following : List ℕ) × IsPiece p header × (r ≡ header ++ following)
    × (length (bytes_of ps) + length header ≤ length (bytes_of qs))
next_there passed number [] [] m n r s p row other e free closed = grind arith
next_there passed number [] (q ∷ qs) m n r s p row other e free closed =
    grind (arith, append-nil, same_Some, append_assoc, length-append)
next_there passed number (x ∷ xs) [] m n r s p row other e free closed =
    grind (arith, none-some, append-nil)
next_there passed number (x ∷ xs) (q ∷ qs) m n r s p row other e free closed =
    let slot : q.0 ≡ x.0 = grind arith in
    let both : x.1 ++ (bytes_of xs ++ r) ≡ q.1 ++ (bytes_of qs ++ s) =
    grind (arith, append_assoc) in
    let header : x.1 ≡ q.1 = grind (arith, same_prefix) in
    let following : bytes_of xs ++ r ≡ bytes_of qs ++ s = same_rest x.1 q.1 _ _ header both in
    let piece : q ≡ x = λ i. (slot i, sym header i) in
    let others : Row slot_of (passed ++ x.0 ∷ []) (get_or x.1 0 0) qs n =
    grind arith in
    let free_there : slot_of ((passed ++ x.0 ∷ []) ++ slots xs) m ≡ Some p =
    grind (arith, append_assoc) in
    let closed_there : slot_of ((passed ++ x.0 ∷ []) ++ slots qs) n ≡ None =
    grind (arith, append_assoc) in
    let there = next_there (passed ++ x.0 ∷ [])
    (get_or x.1 0 0) xs qs m n r s p row.2 others following free_there closed_there in
    grind (arith, length-append)

module _ {T : Type 0} (remaining : T → Option (List ℕ)) where
  -- a header that is next, and within the limit, isn't refused for its length
  not_long : (at : Ipv6ExtSlot) (start new : Limited T) (e : LenError) (header following : List ℕ)
      → IsPiece at header → start.read_len ≡ 0 → length header ≤ start.max_len →
      remaining start.reader ≡ Some (header ++ following)
      → RefusesBytes remaining at start (bytes_fault.Len e) new → ⊥
  not_long HopByHop start new e header following piece begins fits known refused =
      raw_refused remaining start new (bytes_fault.Len e) header following piece
      begins fits known refused
  not_long Destination start new e header following piece begins fits known refused =
      raw_refused remaining start new (bytes_fault.Len e) header following piece
      begins fits known refused
  not_long Routing start new e header following piece begins fits known refused =
      raw_refused remaining start new (bytes_fault.Len e) header following piece
      begins fits known refused
  not_long Fragment start new e header following piece begins fits known refused = grind arith
  not_long Authentication start new e header following piece begins fits known refused =
      auth_refused_within remaining start new
      (auth_limited.Len e) header following piece begins fits known refused
  not_long FinalDestination start new e header following piece begins fits known refused =
      raw_refused remaining start new (bytes_fault.Len e) header following piece
      begins fits known refused

  module _ (first : ℕ) (pieces : List Piece) (last : ℕ) (rest : List ℕ)
      (whole : IsWholeRow first pieces last) where
    refused_within : (old new : Limited T) (e : HeaderLimitedReadError)
        → RefusesRowWithin remaining first old e new
        → remaining old.reader ≡ Some (bytes_of pieces ++ rest) →
        length (bytes_of pieces) ≤ old.max_len - old.read_len → IsExtsLimitedIo e
    refused_within old new (Io e) refused known fits = tt
    refused_within old new (Len e) refused known fits =
        let between = refused.2 in
        let facts = taken remaining old between refused.0 refused.5 in
        let given = consumed_some (remaining old.reader) (remaining between.reader)
        (bytes_of pieces ++ rest) (bytes_of refused.0) known facts.0 in
        let there = next_there [] first refused.0 pieces refused.1 last given.0 rest refused.6.0
        refused.3 whole.row (sym given.1) refused.6.1 whole.closed in
        not_long refused.6.0 (at_next_layer between (read_layer refused.6.0)) new e there.0 there.1
        there.2 refl (omega (arith, facts.1, there.4, fits))
        (given.2 ∙ ap Some there.3) refused.6.2
    refused_within old new (Content HopByHopNotAtStart) refused known fits =
        let facts = taken remaining old refused.2 refused.0 refused.5 in
        let same = alone first pieces last rest whole (remaining old.reader)
        (remaining refused.2.reader) refused.0 refused.1 known refused.3 facts.0
        (λ following is. end_closed slot_of (slots refused.0) refused.1 following refused.6.0) in
        grind arith
    refused_within old new (Content (IpAuth e)) refused known fits =
        let facts = taken remaining old refused.2 refused.0 refused.5 in
        let same = alone first pieces last rest whole (remaining old.reader)
        (remaining refused.2.reader) refused.0 refused.1 known refused.3 facts.0
        (auth_end first pieces last rest whole (remaining old.reader) (remaining refused.2.reader)
        (remaining new.reader) refused.0 refused.1 refused.6.1.0 e refused.6.0 refused.6.1.1
        refused.6.1.2.consumed) in
        let there : slot_of (slots refused.0) refused.1 ≡ slot_of (slots pieces) last =
        λ i. slot_of (slots (same.0 i)) (same.1 i) in
        grind arith

    pub read_within : (old new : Limited T)
        (result : Result (Ipv6Extensions × IpNumber) HeaderLimitedReadError)
        → IfOk result (ReadsRowWithin remaining first old new)
        → IfErr result (λ e. RefusesRowWithin remaining first old e new) →
        remaining old.reader ≡ Some (bytes_of pieces ++ rest)
        → length (bytes_of pieces) ≤ old.max_len - old.read_len →
        MatchResult result (λ r. (r.0 ≡ value_of pieces) × (r.1.0 ≡ last)
        × (remaining new.reader ≡ Some rest)) IsExtsLimitedIo
    read_within old new (Ok answer) reads refused known fits =
        read_same first (remaining old.reader) (remaining new.reader) answer
        (reads.0, reads.1, (taken remaining old new reads.0 reads.2).0, reads.3)
        pieces last rest whole known
    read_within old new (Err e) reads refused known fits =
        refused_within old new e refused known fits
