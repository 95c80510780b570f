-- Which reassemblies are dropped.
use Rattle.std.proofs.Common.{◌≡◌, ◌∙◌, sym, ap, subst, refl, ℕ, zero, suc, ◌+◌, ◌-◌, ◌*◌, ◌^◌, ◌<◌, ◌≤◌, ◌==◌, arith}
use Rattle.std.proofs.Common.{Bool, true, false, List, [], ◌∷◌, ◌++◌, inl, inr}
use Rattle.std.specs.Prelude.{◌⊎◌, if◌then◌else◌}
use Rattle.std.specs.List.{AllByRecursion}
use Rattle.std.proofs.lemmas.Bool.{lt-ltb, ne_eqb}
use Rattle.captures.specs.Forgetting.{with_forget, forgets, Drops, come_to, ForgetKeeps, ForgetDrops}
use Rattle.captures.specs.Lines.{Packet, blank, has_passed, counted_by, noted, noted_all}
use Rattle.captures.specs.Numbers.{capped}
use Rattle.captures.specs.Spans.{Mark, have_passed, passed_spans}
use Rattle.captures.proofs.SpanLemmas.{has_or_not, spans_drop, spans_keep}
use Rattle.captures.specs.declared.extra.Extra.TheVariants.{Forget}
use Rattle.captures.specs.declared.text.ledger.Ledger.{Ledger}

-- the ledger after some lines, where spans are counted
abbrev pub at : ℕ → (lines begin line : ℕ) → Ledger
at seconds lines begin line =
    record { extra = Forget seconds; lines = lines; begin = begin; line = line }

abbrev span : ℕ → ℕ
span seconds = 1000000000 * seconds

-- ---- one packet: its span has passed, or not

module _ (seconds lines begin line time : ℕ) (some : 0 < lines) where
  abbrev Passed : Bool → Type 0
  Passed passed = has_passed seconds (at seconds lines begin line) time ≡ passed

  as_span : (b : Bool) → have_passed seconds begin time ≡ b → Passed b
  as_span b is = rw (lt-ltb 0 lines some, is) refl

  either_way : (Passed true × (begin + span seconds ≤ time))
      ⊎ (Passed false × (time < begin + span seconds))
  either_way = elim (has_or_not seconds begin time) [
    | inl passed ↦ inl (as_span true passed.0, passed.1)
    | inr more ↦ inr (as_span false more.0, more.1)
  ]

  not_none : (lines == 0) ≡ false
  not_none = ne_eqb lines 0 (λ e. absurd (omega arith))

  counted_passed : Passed true
      → counted_by (has_passed seconds (at seconds lines begin line) time)
      (at seconds lines begin line) time
      ≡ at seconds (capped (lines + 2)) time (capped (lines + 1))
  counted_passed is = rw (is, not_none) refl

  counted_more : Passed false
      → counted_by (has_passed seconds (at seconds lines begin line) time)
      (at seconds lines begin line) time
      ≡ at seconds (capped (lines + 1)) begin line
  counted_more is = rw (is, not_none) refl

module _ (seconds lines begin line : ℕ) (some : 0 < lines) (packet : Packet)
    (packets : List Packet) where
  forgets_passed : Passed seconds lines begin line packet.origin.time some true
      → forgets seconds (at seconds lines begin line) (packet ∷ packets)
      ≡ line ∷ forgets seconds
      (at seconds (capped (lines + 2)) packet.origin.time (capped (lines + 1))) packets
  forgets_passed is =
      ap (λ b. with_forget b line
      (forgets seconds (noted (at seconds lines begin line) packet) packets)) is
      ∙ ap (λ l. line ∷ forgets seconds l packets)
      (counted_passed seconds lines begin line packet.origin.time some is)

  forgets_more : Passed seconds lines begin line packet.origin.time some false
      → forgets seconds (at seconds lines begin line) (packet ∷ packets)
      ≡ forgets seconds (at seconds (capped (lines + 1)) begin line) packets
  forgets_more is =
      ap (λ b. with_forget b line
      (forgets seconds (noted (at seconds lines begin line) packet) packets)) is
      ∙ ap (λ l. forgets seconds l packets)
      (counted_more seconds lines begin line packet.origin.time some is)

-- ---- the ledger, packet by packet

-- after a packet of this time
record Step (seconds begin time : ℕ) (ledger : Ledger) : Type 0 where
  pub lines : ℕ
  pub begin' : ℕ
  pub line : ℕ
  pub is : ledger ≡ at seconds lines begin' line
  pub few : line ≤ lines
  pub fits : lines < 2 ^ 64
  pub some : 0 < lines
  pub from : (begin' ≡ begin) ⊎ (begin' ≡ time)
  pub near : 0 < seconds → time < begin' + span seconds

step : (seconds lines begin line time : ℕ) → line ≤ lines → lines < 2 ^ 64
    → Step seconds begin time (counted_by (has_passed seconds (at seconds lines begin line) time)
    (at seconds lines begin line) time)
step seconds zero begin line time few fits = record {
  lines = 1;
  begin' = time;
  line = 1;
  is = refl;
  few = omega arith;
  fits = omega arith;
  some = omega arith;
  from = inr refl;
  near = λ some. omega arith;
}
step seconds (suc lines) begin line time few fits =
    elim (either_way seconds (suc lines) begin line time (omega arith)) [
      | inl passed ↦
          record {
            lines = capped (suc lines + 2);
            begin' = time;
            line = capped (suc lines + 1);
            is = counted_passed seconds (suc lines) begin line time (omega arith) passed.0;
            few = omega arith;
            fits = omega arith;
            some = omega arith;
            from = inr refl;
            near = λ some. omega arith;
          }
      | inr more ↦
          (let before = more.1 in record {
            lines = capped (suc lines + 1);
            begin' = begin;
            line = line;
            is = counted_more seconds (suc lines) begin line time (omega arith) more.0;
            few = omega arith;
            fits = omega arith;
            some = omega arith;
            from = inl refl;
            near = λ some. before;
          })
    ]

record Reached (seconds : ℕ) (ledger : Ledger) : Type 0 where
  pub lines : ℕ
  pub begin : ℕ
  pub line : ℕ
  pub is : ledger ≡ at seconds lines begin line
  pub few : line ≤ lines
  pub fits : lines < 2 ^ 64

reached : (seconds lines begin line : ℕ) (packets : List Packet) → line ≤ lines → lines < 2 ^ 64
    → Reached seconds (noted_all (at seconds lines begin line) packets)
reached seconds lines begin line [] few fits = record {
  lines = lines;
  begin = begin;
  line = line;
  is = refl;
  few = few;
  fits = fits;
}
reached seconds lines begin line (packet ∷ packets) few fits =
    let s = step seconds lines begin line packet.origin.time few fits in
    subst (λ (l : Ledger). Reached seconds (noted_all l packets)) (sym s.is)
    (reached seconds s.lines s.begin' s.line packets s.few s.fits)

-- a span begins no later than the last packet
begin_most : (seconds most lines begin line : ℕ) (packets : List Packet) → line ≤ lines
    → lines < 2 ^ 64 → begin ≤ most → AllByRecursion (λ p. p.origin.time ≤ most) packets
    → (noted_all (at seconds lines begin line) packets).begin ≤ most
begin_most seconds most lines begin line [] few fits low all = low
begin_most seconds most lines begin line (packet ∷ packets) few fits low all =
    let s = step seconds lines begin line packet.origin.time few fits in
    let early = all.0 in
    let next : s.begin' ≤ most = elim s.from [
      | inl e ↦ omega arith
      | inr e ↦ omega arith
    ] in
    subst (λ (l : Ledger). (noted_all l packets).begin ≤ most) (sym s.is)
    (begin_most seconds most s.lines s.begin' s.line packets s.few s.fits next all.1)

-- ---- the packets as marks of spans

-- each with the number of the line with which a span begins where one begins with it
abbrev marks : ℕ → Ledger → List Packet → List Mark
marks seconds ledger [] = []
marks seconds ledger (packet ∷ packets) =
    record { time = packet.origin.time; number = capped (ledger.lines + 1) }
    ∷ marks seconds (noted ledger packet) packets

abbrev began : (begin line : ℕ) → Mark
began begin line = record { time = begin; number = line }

marks_passed : (seconds lines begin line : ℕ) (some : 0 < lines) (packet : Packet)
    (packets : List Packet) → Passed seconds lines begin line packet.origin.time some true
    → have_passed seconds begin packet.origin.time ≡ true
    → passed_spans seconds (began begin line) (marks seconds (at seconds lines begin line)
    (packet ∷ packets)) ≡ line ∷ passed_spans seconds
    (began packet.origin.time (capped (lines + 1))) (marks seconds
    (at seconds (capped (lines + 2)) packet.origin.time (capped (lines + 1))) packets)
marks_passed seconds lines begin line some packet packets passed is =
    ap (λ b. if b
    then line ∷ passed_spans seconds (began packet.origin.time (capped (lines + 1)))
    (marks seconds (noted (at seconds lines begin line) packet) packets)
    else passed_spans seconds (began begin line)
    (marks seconds (noted (at seconds lines begin line) packet) packets)) is
    ∙ ap (λ (l : Ledger). line ∷ passed_spans seconds
    (began packet.origin.time (capped (lines + 1))) (marks seconds l packets))
    (counted_passed seconds lines begin line packet.origin.time some passed)

marks_more : (seconds lines begin line : ℕ) (some : 0 < lines) (packet : Packet)
    (packets : List Packet) → Passed seconds lines begin line packet.origin.time some false
    → have_passed seconds begin packet.origin.time ≡ false
    → passed_spans seconds (began begin line) (marks seconds (at seconds lines begin line)
    (packet ∷ packets)) ≡ passed_spans seconds (began begin line) (marks seconds
    (at seconds (capped (lines + 1)) begin line) packets)
marks_more seconds lines begin line some packet packets more is =
    ap (λ b. if b
    then line ∷ passed_spans seconds (began packet.origin.time (capped (lines + 1)))
    (marks seconds (noted (at seconds lines begin line) packet) packets)
    else passed_spans seconds (began begin line)
    (marks seconds (noted (at seconds lines begin line) packet) packets)) is
    ∙ ap (λ (l : Ledger). passed_spans seconds (began begin line) (marks seconds l packets))
    (counted_more seconds lines begin line packet.origin.time some more)

-- the `forget` lines name the spans that pass
forgets_are : (seconds lines begin line : ℕ) (packets : List Packet) → 0 < lines
    → forgets seconds (at seconds lines begin line) packets
    ≡ passed_spans seconds (began begin line) (marks seconds (at seconds lines begin line) packets)
forgets_are seconds lines begin line [] some = refl
forgets_are seconds lines begin line (packet ∷ packets) some =
    elim (has_or_not seconds begin packet.origin.time) [
      | inl passed ↦
          let is : Passed seconds lines begin line packet.origin.time some true =
          as_span seconds lines begin line packet.origin.time some true passed.0 in
          forgets_passed seconds lines begin line some packet packets is
          ∙ ap (λ (ns : List ℕ). line ∷ ns) (forgets_are seconds (capped (lines + 2))
          packet.origin.time (capped (lines + 1)) packets (omega arith))
          ∙ sym (marks_passed seconds lines begin line some packet packets is passed.0)
      | inr more ↦
          let is : Passed seconds lines begin line packet.origin.time some false =
          as_span seconds lines begin line packet.origin.time some false more.0 in
          forgets_more seconds lines begin line some packet packets is
          ∙ forgets_are seconds (capped (lines + 1)) begin line packets (omega arith)
          ∙ sym (marks_more seconds lines begin line some packet packets is more.0)
    ]

marks_append : (seconds : ℕ) (ledger : Ledger) (packets others : List Packet)
    → marks seconds ledger (packets ++ others)
    ≡ marks seconds ledger packets ++ marks seconds (noted_all ledger packets) others
marks_append seconds ledger [] others = refl
marks_append seconds ledger (packet ∷ packets) others =
    ap (λ (ms : List Mark). record
    { time = packet.origin.time; number = capped (ledger.lines + 1) } ∷ ms)
    (marks_append seconds (noted ledger packet) packets others)

all_times : (seconds : ℕ) (P : ℕ → Type 0) (ledger : Ledger) (packets : List Packet)
    → AllByRecursion (λ p. P p.origin.time) packets
    → AllByRecursion (λ m. P m.time) (marks seconds ledger packets)
all_times seconds P ledger [] all = tt
all_times seconds P ledger (packet ∷ packets) all =
    (all.0, all_times seconds P (noted ledger packet) packets all.1)

-- later lines have no smaller number than a line that came,
lines_go_on : (seconds own lines begin line time : ℕ) → own < 2 ^ 64 → own ≤ lines → 0 < lines
    → own ≤ (counted_by (has_passed seconds (at seconds lines begin line) time)
    (at seconds lines begin line) time).lines
lines_go_on seconds own lines begin line time fits before some =
    elim (either_way seconds lines begin line time some) [
      | inl passed ↦ subst (λ (l : Ledger). own ≤ l.lines)
          (sym (counted_passed seconds lines begin line time some passed.0)) (omega arith)
      | inr more ↦ subst (λ (l : Ledger). own ≤ l.lines)
          (sym (counted_more seconds lines begin line time some more.0)) (omega arith)
    ]

-- and each packet after it has a greater number
all_beyond : (seconds own time lines begin line : ℕ) (packets : List Packet) → line ≤ lines
    → lines < 2 ^ 64 → 0 < lines → own < 2 ^ 64 - 1 → own ≤ lines
    → AllByRecursion (λ m. (own < m.number) ⊎ (m.time ≤ time))
    (marks seconds (at seconds lines begin line) packets)
    × (own ≤ (noted_all (at seconds lines begin line) packets).lines)
all_beyond seconds own time lines begin line [] few fits some small before = (tt, before)
all_beyond seconds own time lines begin line (packet ∷ packets) few fits some small before =
    let s = step seconds lines begin line packet.origin.time few fits in
    let on = lines_go_on seconds own lines begin line packet.origin.time (omega arith) before some in
    let next = subst (λ (l : Ledger). own ≤ l.lines) s.is on in
    let rest = all_beyond seconds own time s.lines s.begin' s.line packets s.few s.fits s.some small next in
    let all = subst (λ (l : Ledger). AllByRecursion (λ m. (own < m.number) ⊎ (m.time ≤ time))
    (marks seconds l packets) × (own ≤ (noted_all l packets).lines)) (sym s.is) rest in
    ((inl (omega arith), all.0), all.1)

come_to-step : (seconds : ℕ) (before : List Packet) (packet : Packet)
    → (begin : ℕ) × ((noted_all (blank (Forget seconds)) before).begin ≡ begin)
    × Step seconds begin packet.origin.time (come_to seconds before packet)
come_to-step seconds before packet =
    let r = reached seconds 0 0 0 before (omega arith) (omega arith) in (
      r.begin,
      ap (λ (l : Ledger). l.begin) r.is,
      subst (λ (l : Ledger). Step seconds r.begin packet.origin.time (noted l packet)) (sym r.is)
          (step seconds r.lines r.begin r.line packet.origin.time r.few r.fits),
    )

pub forget_keeps : ForgetKeeps
forget_keeps seconds before packet later some all drops =
    let s = (come_to-step seconds before packet).2 in
    let here = subst (λ (l : Ledger). Drops l.lines (forgets seconds l later)) s.is drops in
    spans_keep seconds packet.origin.time s.lines (began s.begin' s.line)
    (marks seconds (at seconds s.lines s.begin' s.line) later) s.few (s.near some)
    (all_times seconds (λ t. t < packet.origin.time + 1000000000 * seconds)
    (at seconds s.lines s.begin' s.line) later all)
    (subst (Drops s.lines) (forgets_are seconds s.lines s.begin' s.line later s.some) here)

pub forget_drops : ForgetDrops
forget_drops seconds before packet between next later last early long all few =
    let come = come_to-step seconds before packet in
    let s = come.2 in
    let low = begin_most seconds packet.origin.time 0 0 0 before (omega arith) (omega arith)
    (omega arith) early in
    let first = come.1 in
    let begins : s.begin' ≤ packet.origin.time = elim s.from [
      | inl e ↦ omega arith
      | inr e ↦ omega arith
    ] in
    let count : (come_to seconds before packet).lines ≡ s.lines =
    ap (λ (l : Ledger). l.lines) s.is in
    let small : s.lines < 2 ^ 64 - 1 = omega arith in
    let here = at seconds s.lines s.begin' s.line in
    let prefix = between ++ next ∷ [] in
    let after = noted_all here prefix in
    let beyond = all_beyond seconds s.lines packet.origin.time s.lines s.begin' s.line between s.few
    s.fits s.some small (omega arith) in
    let here_prefix = marks_append seconds here between (next ∷ []) in
    let there = subst (λ (ms : List Mark). Drops s.lines
    (passed_spans seconds (began s.begin' s.line) ms))
    (sym (marks_append seconds here prefix (later ++ last ∷ [])
    ∙ ap (λ (ms : List Mark). ms ++ marks seconds after (later ++ last ∷ [])) here_prefix
    ∙ ap (λ (ms : List Mark). (marks seconds here between
    ++ marks seconds (noted_all here between) (next ∷ [])) ++ ms)
    (marks_append seconds after later (last ∷ []))))
    (spans_drop seconds packet.origin.time s.lines (began s.begin' s.line)
    (marks seconds here between)
    (began next.origin.time (capped ((noted_all here between).lines + 1)))
    (marks seconds after later)
    (began last.origin.time (capped ((noted_all after later).lines + 1))) begins long
    (omega (arith, small, beyond.1)) beyond.0
    (subst (AllByRecursion (λ m. m.time + 1000000000 * seconds ≤ last.origin.time)) here_prefix
    (all_times seconds (λ t. t + 1000000000 * seconds ≤ last.origin.time) here prefix all))) in
    subst (λ (l : Ledger). Drops l.lines (forgets seconds l
    ((between ++ next ∷ []) ++ (later ++ last ∷ [])))) (sym s.is)
    (subst (Drops s.lines) (sym (forgets_are seconds s.lines s.begin' s.line
    ((between ++ next ∷ []) ++ (later ++ last ∷ [])) s.some)) there)
