-- What is read from a reader of known bytes.
use Rattle.std.proofs.Common.{◌≡◌, ℕ, List, ◌++◌, Option, Some, Result, Ok, Err, get_or, arith, refl, ap, ◌∙◌, []}
use Rattle.std.proofs.lemmas.Bool.{le-ltb, eq-eqb}
use Rattle.std.proofs.lemmas.List.{length-append}
use Rattle.std.specs.Prelude.{IfOk, IfErr, MatchResult}
use Rattle.std.specs.Io.KnownBytes.{Consumes}
use Rattle.ep_base.specs.declared.net.ip_number.IpNumber.{IpNumber}
use Rattle.ep_ext.specs.Auth.{auth_at}
use Rattle.ep_ext.specs.Chain.{Row, IsEnd, Chain, prefix_of, of_auth}
use Rattle.ep_ext.specs.Slot.{slot_of}
use Rattle.ep_ext.specs.Reads.{HasContentFault}
use Rattle.ep_ext.specs.ReadsExts.{IsWholeRow, IsExtsIo, ReadsRow, RefusesRow}
use Rattle.ep_ext.specs.Value.{Piece, slots, bytes_of, value_of}
use Rattle.ep_ext.specs.declared.err.ip_auth.header_error.HeaderError.{HeaderError as AuthFault}
use Rattle.ep_base.specs.declared.err.slice_error.SliceError.TheVariants as slice_error
use Rattle.ep_ext.specs.declared.err.ipv6_exts.header_error.HeaderError.TheVariants.{HopByHopNotAtStart, IpAuth}
use Rattle.ep_ext.specs.declared.err.ipv6_exts.header_read_error.HeaderReadError.{HeaderReadError}
use Rattle.ep_ext.specs.declared.err.ipv6_exts.header_read_error.HeaderReadError.TheVariants.{Io, Content}
use Rattle.ep_ext.specs.declared.net.ipv6_ext_slot.Ipv6ExtSlot.TheVariants.{Authentication}
use Rattle.ep_ext.specs.declared.net.ipv6_extensions.Ipv6Extensions.{Ipv6Extensions}
use Rattle.ep_ext.proofs.Reading.{consumed_some, not_zero, second}
use Rattle.ep_ext.proofs.Rows.{chain_alone, end_closed, end_fault}

whole_chain : (first : ℕ) (pieces : List Piece) (last : ℕ) (rest : List ℕ)
    → IsWholeRow first pieces last → Chain slot_of first (bytes_of pieces ++ rest) pieces last rest
whole_chain first pieces last rest whole =
    record {
      row = whole.row;
      cut = refl;
      ended = end_closed slot_of (slots pieces) last rest whole.closed;
    }

pub read_same : (first : ℕ) (old new : Option (List ℕ)) (answer : Ipv6Extensions × IpNumber)
    → ReadsRow first old new answer →
    (pieces : List Piece) (last : ℕ) (rest : List ℕ) → IsWholeRow first pieces last
    → old ≡ Some (bytes_of pieces ++ rest) →
    (answer.0 ≡ value_of pieces) × (answer.1.0 ≡ last) × (new ≡ Some rest)
read_same first old new answer reads pieces last rest whole known =
    let given = consumed_some old new (bytes_of pieces ++ rest) (bytes_of reads.0) known reads.2 in
    let chain : Chain slot_of first (bytes_of pieces ++ rest) reads.0 answer.1.0 given.0 =
    grind arith in
    let same = chain_alone slot_of first (bytes_of pieces ++ rest) reads.0 pieces answer.1.0 last
    given.0 rest chain (whole_chain first pieces last rest whole) in
    grind arith

-- the fault of 12 bytes is that of all
fault_by : (prefix following : List ℕ) (e : AuthFault) (b : ℕ) → HasContentFault prefix e
    → get_or prefix 1 0 ≡ b → auth_at (prefix ++ following) ≡ Err (slice_error.Content e)
fault_by prefix following e b fault is =
    grind (arith, length-append, second, le-ltb, eq-eqb, not_zero)

module _ (first : ℕ) (pieces : List Piece) (last : ℕ) (rest : List ℕ)
    (whole : IsWholeRow first pieces last) where
  -- the headers after which no other was read are all of them
  pub alone : (old between : Option (List ℕ)) (ps : List Piece) (number : ℕ)
      → old ≡ Some (bytes_of pieces ++ rest) → Row slot_of [] first ps number
      → Consumes old between (bytes_of ps) →
      ((following : List ℕ) → between ≡ Some following → IsEnd slot_of (slots ps) number following)
      → (ps ≡ pieces) × (number ≡ last)
  alone old between ps number known row consumed ended =
      let given = consumed_some old between (bytes_of pieces ++ rest)
      (bytes_of ps) known consumed in
      let chain : Chain slot_of first (bytes_of pieces ++ rest) ps number given.0 =
      record { row = row; cut = given.1; ended = ended given.0 given.2 } in
      let same = chain_alone slot_of first
      (bytes_of pieces ++ rest) ps pieces number last given.0 rest chain
      (whole_chain first pieces last rest whole) in
      (same.0, same.1)

  pub auth_end : (old between new : Option (List ℕ)) (ps : List Piece) (number : ℕ) (prefix : List ℕ)
      (e : AuthFault) → slot_of (slots ps) number ≡ Some Authentication
      → HasContentFault prefix e →
      Consumes between new prefix → (following : List ℕ) → between ≡ Some following
      → IsEnd slot_of (slots ps) number following
  auth_end old between new ps number prefix e free fault consumed following is =
      let given = consumed_some between new following prefix is consumed in
      end_fault slot_of (slots ps) number following Authentication
      (slice_error.Content (IpAuth e)) free
      (ap (prefix_of Authentication) given.1
      ∙ ap of_auth (fault_by prefix given.0 e (get_or prefix 1 0) fault refl))

  pub read_refused : (old new : Option (List ℕ)) (e : HeaderReadError) → RefusesRow first old e new
      → old ≡ Some (bytes_of pieces ++ rest) → IsExtsIo e
  read_refused old new (Io e) refused known = tt
  read_refused old new (Content HopByHopNotAtStart) refused known = grind (arith, alone, end_closed)
  read_refused old new (Content (IpAuth e)) refused known =
      let at = refused.6 in
      let same = alone old refused.2 refused.0 refused.1 known refused.3 refused.5
      (auth_end old refused.2 new refused.0 refused.1 at.1.0 e at.0 at.1.1 at.1.2) in
      let there : slot_of (slots refused.0) refused.1 ≡ slot_of (slots pieces) last =
      λ i. slot_of (slots (same.0 i)) (same.1 i) in
      grind arith

  pub read_all : (old new : Option (List ℕ))
      (result : Result (Ipv6Extensions × IpNumber) HeaderReadError)
      → IfOk result (ReadsRow first old new) → IfErr result (λ e. RefusesRow first old e new) →
      old ≡ Some (bytes_of pieces ++ rest)
      → MatchResult result (λ r. (r.0 ≡ value_of pieces) × (r.1.0 ≡ last)
      × (new ≡ Some rest)) IsExtsIo
  read_all old new (Ok answer) reads refused known =
      read_same first old new answer reads pieces last rest whole known
  read_all old new (Err e) reads refused known = read_refused old new e refused known
