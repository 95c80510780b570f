-- A long block that is skipped, chunk by chunk.
use Rattle.std.proofs.Common.{◌≡◌, ◌≢◌, ◌∙◌, sym, ap, refl, subst, ℕ, ◌+◌, ◌-◌, ◌<◌, ◌≤◌, arith, List, [], ◌∷◌, ◌++◌}
use Rattle.std.proofs.Common.{length, take, drop, append_assoc, length-append, length-drop, Option, Some, le-leb}
use Rattle.std.proofs.lemmas.List.{take-append-drop, length-take-le}
use lib.Seq.{drop_at}
use Rattle.captures.specs.Dropped.{IsPrefixOfBlock, IsDropped, DropsMore, Leaves, dropped_len, last_of}
use Rattle.captures.specs.Numbers.{word}
use Rattle.captures.specs.Positions.{block_type}
use Rattle.captures.specs.Units.{HasUnit, IsIncomplete, IsLeft, Refuses, Takes}
use Rattle.captures.specs.declared.capture_error.CaptureError.{CaptureError}
use Rattle.captures.specs.declared.capture_error.CaptureError.TheVariants.{BadBlock}
use Rattle.captures.specs.declared.pcapng.long_block.LongBlock.{LongBlock}
use Rattle.captures.specs.declared.pcapng.section.Section.{Section}
use Rattle.captures.specs.declared.state.State.{State}
use Rattle.captures.specs.declared.state.State.TheVariants.{Pcapng}
use Rattle.captures.proofs.BlockLemmas.{word_of, word_back, skipped_prefix}
use Rattle.captures.specs.declared.origin.Origin.{Origin}
use Rattle.captures.specs.declared.text.ledger.Ledger.{Ledger}

-- of no packet
abbrev pub no_origin : Origin
no_origin = record { channel = 0; time = 0; wire_len = 0 }

-- after this many more bytes
abbrev pub following : LongBlock → ℕ → LongBlock
following block n = record {
  order = block.order;
  kind = block.kind;
  len = block.len;
  left = block.left - n;
}

prefix_more : (block : LongBlock) (section : Section) (dropped prefix : List ℕ) (n : ℕ)
    → IsPrefixOfBlock block section dropped → length prefix ≡ n → n ≤ block.left
    → IsPrefixOfBlock (following block n) section (dropped ++ prefix)
prefix_more block section dropped prefix n f size few =
    let long = f.size in
    let left = f.left in
    let all = length-append dropped prefix in
    record {
      order = f.order;
      skipped = skipped_prefix section.order (dropped ++ prefix) dropped prefix refl
          (omega arith) f.skipped;
      kind = grind (arith, word_of);
      size = omega arith;
      words = f.words;
      reported = grind (arith, word_of);
      left = omega arith;
    }

prefix_incomplete : (block : LongBlock) (section : Section) (dropped rest : List ℕ)
    → IsPrefixOfBlock block section dropped → length rest < 4 → IsIncomplete (Pcapng section) (dropped ++ rest)
prefix_incomplete block section dropped rest f few =
    let long = f.size in
    let left = f.left in
    let all = length-append dropped rest in
    let skipped = skipped_prefix section.order (dropped ++ rest) dropped rest refl
    (omega arith) f.skipped in
    let reported = word_of section.order (dropped ++ rest) dropped rest 4 refl (omega arith) ∙ f.reported in
    grind arith

module _ (block : LongBlock) (section : Section) (dropped back later : List ℕ)
    (f : IsPrefixOfBlock block section dropped) (none : block.left ≡ 0) (four : length back ≡ 4) where
  whole : List ℕ
  whole = dropped ++ back

  whole_size : length whole ≡ block.len
  unfolding whole
  whole_size = omega (arith, f.left, length-append dropped back)

  whole_stated : word section.order whole 4 ≡ length whole
  unfolding whole
  whole_stated = grind (arith, word_of, whole_size)

  -- the second length
  whole_back : word section.order whole (length whole - 4) ≡ word block.order (back ++ later) 0
  unfolding whole
  whole_back =
      let all = length-append dropped back in
      let at : length (dropped ++ back) - 4 ≡ length dropped = omega arith in
      grind (arith, word_back, word_of)

  -- another one refuses the block
  refused_back : word block.order (back ++ later) 0 ≢ block.len
      → Refuses (Pcapng section) (dropped ++ (back ++ later)) BadBlock
  unfolding whole
  refused_back other =
      let long = f.size in
      let all = length-append dropped (back ++ later) in
      let skipped = skipped_prefix section.order (dropped ++ (back ++ later)) dropped
      (back ++ later) refl (omega arith) f.skipped in
      let reported = word_of section.order (dropped ++ (back ++ later)) dropped (back ++ later) 4 refl
      (omega arith) ∙ f.reported in
      grind (arith, append_assoc, whole_size, skipped_prefix, whole_back)

  -- the block is a unit without a packet
  passed_back : word block.order (back ++ later) 0 ≡ block.len
      → HasUnit (Pcapng section) (dropped ++ (back ++ later)) (Pcapng section) no_origin [] later
  unfolding whole
  passed_back same =
      grind (
        arith,
        whole_size,
        length-append,
        skipped_prefix,
        whole_stated,
        whole_back,
        append_assoc,
      )

-- a unit without a packet before others
takes_after : (ledger noted : Ledger) (state mid after : State) (bytes rest rest' : List ℕ)
    (text : List ℕ) (origin : Origin) (refusal : Option CaptureError) → HasUnit state bytes mid origin [] rest
    → Takes ledger mid rest after rest' text refusal noted
    → Takes ledger state bytes after rest' text refusal noted
takes_after ledger noted state mid after bytes rest rest' text origin refusal h t = record {
  packets = t.packets;
  passes = record {
    units = h.unit ∷ t.passes.units;
    row = (mid, origin, [], t.packets, h.is_unit, t.passes.row, refl);
    parts = grind (arith, append_assoc);
  };
  reported = t.reported;
  left = t.left;
  come = t.come;
}

-- the last bytes are those after a prefix
pub last_is : (bytes prefix rest : List ℕ) (n : ℕ) → bytes ≡ prefix ++ rest → length rest ≡ n
    → rest ≡ last_of n bytes
last_is bytes prefix rest n parts size =
    let at : length prefix ≡ length bytes - n =
    omega (arith, ap length parts, length-append prefix rest) in
    cc (parts, drop_at prefix rest (length bytes - n) at)

-- more of the block is dropped
drops_more : (block : LongBlock) (section : Section) (n left : ℕ) (dropped bytes prefix rest : List ℕ)
    → IsPrefixOfBlock block section dropped → bytes ≡ prefix ++ rest → length prefix ≡ n
    → n ≤ block.left → length rest ≡ left
    → DropsMore (Pcapng section) dropped bytes (following block n) left
drops_more block section n left dropped bytes prefix rest f parts size few left_is = record {
  prefix = prefix;
  parts = grind (arith, last_is);
  is_dropped = (section, refl, prefix_more block section dropped prefix n f size few);
}

-- fewer bytes than a second length are left
pub held_after : (state : State) (block : LongBlock) (n left : ℕ)
    (dropped bytes prefix rest : List ℕ) → IsDropped state (Some block) dropped
    → bytes ≡ prefix ++ rest → length prefix ≡ n → n ≤ block.left → length rest ≡ left → left < 4
    → DropsMore state dropped bytes (following block n) left × IsIncomplete state (dropped ++ bytes)
held_after state block n left dropped bytes prefix rest d parts size few left_is short =
    let f = prefix_more block d.0 dropped prefix n d.2 size few in
    rw d.1 (
      drops_more block d.0 n left dropped bytes prefix rest d.2 parts size few left_is,
      subst (λ (l : List ℕ). IsIncomplete (Pcapng d.0) l)
          (append_assoc dropped prefix rest ∙ ap (λ (l : List ℕ). dropped ++ l) (sym parts))
          (prefix_incomplete (following block n) d.0 (dropped ++ prefix) rest f (omega arith)),
    )

refused_here : (state : State) (block : LongBlock) (n : ℕ) (dropped bytes prefix back later : List ℕ)
    → IsDropped state (Some block) dropped → bytes ≡ prefix ++ (back ++ later)
    → length prefix ≡ n → n ≡ block.left → length back ≡ 4
    → word block.order (back ++ later) 0 ≢ block.len → Refuses state (dropped ++ bytes) BadBlock
refused_here state block n dropped bytes prefix back later d parts size all four other =
    let f = prefix_more block d.0 dropped prefix n d.2 size (omega arith) in
    rw d.1 (subst (λ (l : List ℕ). Refuses (Pcapng d.0) l BadBlock)
    (append_assoc dropped prefix (back ++ later) ∙ ap (λ (l : List ℕ). dropped ++ l) (sym parts))
    (refused_back (following block n) d.0 (dropped ++ prefix) back later f (omega arith) four other))

-- another second length is there
pub refused_after : (state : State) (block : LongBlock) (n left : ℕ)
    (dropped bytes prefix rest : List ℕ) → IsDropped state (Some block) dropped
    → bytes ≡ prefix ++ rest → length prefix ≡ n → n ≡ block.left → length rest ≡ left → 4 ≤ left
    → word block.order rest 0 ≢ block.len
    → DropsMore state dropped bytes (following block n) left × Refuses state (dropped ++ bytes) BadBlock
refused_after state block n left dropped bytes prefix rest d parts size all left_is long other =
    let split = take-append-drop 4 rest in grind (arith, drops_more, refused_here, length-take-le)

-- its own is, and units may follow
pub passed_after : (state : State) (block : LongBlock) (n left : ℕ)
    (dropped bytes prefix back later : List ℕ) → IsDropped state (Some block) dropped
    → bytes ≡ prefix ++ (back ++ later) → length prefix ≡ n → n ≡ block.left → length back ≡ 4
    → word block.order (back ++ later) 0 ≡ block.len → length later ≡ left
    → HasUnit state (dropped ++ bytes) state no_origin [] (last_of left bytes)
    × (length dropped + length bytes ≡ block.len + left)
passed_after state block n left dropped bytes prefix back later d parts size all four same left_is =
    let f = prefix_more block d.0 dropped prefix n d.2 size (omega arith) in
    let reported = d.2.left in
    let whole = parts ∙ sym (append_assoc prefix back later) in (
      rw d.1 (subst (λ (l : List ℕ). HasUnit (Pcapng d.0) (dropped ++ bytes) (Pcapng d.0) no_origin
          [] l) (last_is bytes (prefix ++ back) later left whole left_is)
          (subst (λ (l : List ℕ). HasUnit (Pcapng d.0) l (Pcapng d.0) no_origin [] later)
          (append_assoc dropped prefix (back ++ later)
          ∙ ap (λ (l : List ℕ). dropped ++ l) (sym parts))
          (passed_back (following block n) d.0 (dropped ++ prefix) back later f
          (omega arith) four same))),
      grind (arith, length-append),
    )

pub passed_here : (state : State) (block : LongBlock) (n left : ℕ)
    (dropped bytes prefix rest : List ℕ) → IsDropped state (Some block) dropped
    → bytes ≡ prefix ++ rest → length prefix ≡ n → n ≡ block.left → 4 ≤ length rest
    → word block.order rest 0 ≡ block.len → left ≡ length rest - 4
    → HasUnit state (dropped ++ bytes) state no_origin [] (last_of left bytes)
    × (length dropped + length bytes ≡ block.len + left)
passed_here state block n left dropped bytes prefix rest d parts size all long same left_is =
    let split = take-append-drop 4 rest in
    passed_after state block n left dropped bytes prefix (take 4 rest) (drop 4 rest) d
    (parts ∙ ap (λ (l : List ℕ). prefix ++ l) (sym split)) size all (length-take-le 4 rest long)
    (ap (λ (r : List ℕ). word block.order r 0) split ∙ same)
    (omega (arith, length-drop 4 rest))

-- a block that is incomplete or refused leaves its last bytes
pub leaves_more : (ledger : Ledger) (state : State) (dropped bytes : List ℕ) (started : LongBlock)
    (left : ℕ) (refusal : Option CaptureError) → DropsMore state dropped bytes started left
    → IsLeft state (dropped ++ bytes) refusal
    → Leaves ledger state (dropped ++ bytes) state (Some started) (last_of left bytes) [] refusal
    ledger
leaves_more ledger state dropped bytes started left refusal d is_left =
    let last = last_of left bytes in
    let same : dropped ++ bytes ≡ (dropped ++ d.prefix) ++ last =
    grind (arith, append_assoc) in
    grind arith

-- what follows the block is taken
pub leaves_after : (ledger noted : Ledger) (state after : State) (bytes later : List ℕ)
    (started : Option LongBlock) (rest text : List ℕ) (origin : Origin)
    (refusal : Option CaptureError) → HasUnit state bytes state origin [] later
    → Leaves ledger state later after started rest text refusal noted
    → Leaves ledger state bytes after started rest text refusal noted
leaves_after ledger noted state after bytes later started rest text origin refusal h l =
    record {
      dropped = l.dropped;
      is_dropped = l.is_dropped;
      takes = takes_after ledger noted state state after bytes later (l.dropped ++ rest) text
          origin refusal h l.takes;
    }

-- what is taken of a chunk that was read after what is held
pub takes_chunk : (ledger noted : Ledger) (state after : State) (dropped held chunk : List ℕ) (started : Option LongBlock)
    (rest text : List ℕ) (refusal : Option CaptureError)
    → (l : Leaves ledger state (dropped ++ (held ++ chunk)) after started rest text refusal noted)
    → Takes ledger state ((dropped ++ held) ++ chunk) after (l.dropped ++ rest) text refusal
    noted
takes_chunk ledger noted state after dropped held chunk started rest text refusal l =
    subst (λ (bytes : List ℕ). Takes ledger state bytes after (l.dropped ++ rest) text
    refusal noted)
    (sym (append_assoc dropped held chunk)) l.takes

-- how many bytes are dropped, and of which block
pub dropped_size : (state : State) (started : Option LongBlock) (dropped : List ℕ)
    → IsDropped state started dropped → length dropped ≡ dropped_len started
dropped_size state started dropped d = grind arith

pub dropped_type : (state : State) (block : LongBlock) (dropped held : List ℕ)
    → IsDropped state (Some block) dropped → Some block.kind ≡ block_type state (dropped ++ held)
dropped_type state block dropped held d = grind (arith, length-append, word_of, le-leb)
