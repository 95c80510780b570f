-- Which reassemblies a span that has passed drops.
use Rattle.etherparse.specs.PoolCalls.{after_frame, Lists, retained_from}
use Rattle.packets.specs.Courses.{class_of, forgotten, Course, begin_at, course_after, lists_at, lists_since}
use Rattle.packets.specs.Courses.{next_course, with_packet}
use Rattle.std.proofs.Common.{◌≡◌, ℕ, ◌+◌, ◌*◌, ◌<◌, ◌≤◌, Bool, true, false, List, ◌∷◌, [], ◌++◌, Option, Some, None}
use Rattle.std.proofs.Common.{refl, ap, sym, subst, ◌∙◌, arith, inl, inr, map, ◌⊎◌}
use Rattle.std.specs.List.{AllByRecursion}
use Rattle.std.specs.Prelude.{nat_lt, if◌then◌else◌}
use Rattle.std.proofs.lemmas.Bool.{cases_Bool, cases_lt}
use Rattle.std.proofs.lemmas.Bool.Decides.{nat_tests}
use Rattle.std.proofs.lemmas.List.{map-append}
use Rattle.captures.specs.Spans.{Drops, Mark, SpansDrop, have_passed, passed_spans, passed_with}
use Rattle.captures.specs.declared.packet.Packet.{Packet}
use Rattle.etherparse.specs.Outcome.{Held}
use Rattle.ep_packet.specs.Class.{FragmentName}
use Rattle.packets.specs.Forgetting.{ComeWithin, Fit, ForgetDrops, PassesBy}
use Rattle.packets.specs.ReassemblyMemory.{Order, is_same, lists_within, lists_without, taken}
use Rattle.packets.proofs.WithinLemmas.{nothing_dropped}

chosen : (b : Bool) (lists : Lists) (begin : ℕ) (name : FragmentName) (channel : ℕ)
    → lists_since (if b then Some begin else None) lists name channel
    ≡ (if b then retained_from begin (lists name channel) else lists name channel)
chosen b lists begin name channel = grind arith

-- a packet soon after the last fragment drops nothing
stays : (seconds begin time : ℕ) (lists : Lists) (name : FragmentName) (channel : ℕ) → 0 < seconds
    → time < (lists name channel).time + 1000000000 * seconds
    → lists_at (Some seconds) (Some begin) time lists name channel ≡ lists name channel
stays seconds begin time lists name channel some near = grind arith

stays-at : (seconds time : ℕ) (course : Course) (name : FragmentName) (channel : ℕ) → 0 < seconds
    → time < (course.lists name channel).time + 1000000000 * seconds
    → (forgotten (Some seconds) time course).lists name channel ≡ course.lists name channel
stays-at seconds time course name channel some near = elim course.begin as (λ begin.
    lists_at (Some seconds) begin time course.lists name channel ≡ course.lists name channel) [
      | None ↦ refl
      | Some begin ↦ stays seconds begin time course.lists name channel some near
    ]

-- one packet more, where nothing is dropped to save memory
abbrev free_next : Option ℕ → Course → Packet → Course
free_next seconds course packet = with_packet (forgotten seconds packet.time course) packet

abbrev free_after : Option ℕ → Course → List Packet → Course
free_after seconds course [] = course
free_after seconds course (packet ∷ packets) = free_after seconds (free_next seconds course packet) packets

fits_at : (seconds : Option ℕ) (course : Course) (packet : Packet) (name : FragmentName) (channel : ℕ)
    → taken (free_next seconds course packet).lists (free_next seconds course packet).order ≤ course.memory
    → (next_course seconds course packet).lists name channel
    ≡ (free_next seconds course packet).lists name channel
fits_at seconds course packet name channel fits =
    ap (λ (lists : Lists). lists name channel) (nothing_dropped course.memory (free_next seconds course packet).lists
    (free_next seconds course packet).order fits).0

-- two courses that agree on a reassembly still do after packets that come soon after its fragments
keeps : (seconds channel : ℕ) (name : FragmentName) (own other : Course) (packets : List Packet)
    → 0 < seconds → own.lists name channel ≡ other.lists name channel
    → Fit (Some seconds) own packets → Fit None other packets
    → ComeWithin seconds name channel other packets
    → (course_after (Some seconds) own packets).lists name channel
    ≡ (course_after None other packets).lists name channel
keeps seconds channel name own other [] some same fits fits' near = same
keeps seconds channel name own other (packet ∷ packets) some same fits fits' near =
    keeps seconds channel name (next_course (Some seconds) own packet)
    (next_course None other packet) packets some
    (fits_at (Some seconds) own packet name channel fits.0
    ∙ ap (λ (h : Held). after_frame name channel (class_of packet) packet.time packet.interface h)
    (stays-at seconds packet.time own name channel some
    (rw same near.0) ∙ same)
    ∙ sym (fits_at None other packet name channel fits'.0)) fits.1 fits'.1 near.1

pub forget_keeps : (seconds channel : ℕ) (name : FragmentName) (course : Course)
    (packets : List Packet) → 0 < seconds → Fit (Some seconds) course packets → Fit None course packets
    → ComeWithin seconds name channel course packets
    → (course_after (Some seconds) course packets).lists name channel
    ≡ (course_after None course packets).lists name channel
forget_keeps seconds channel name course packets some fits fits' near =
    keeps seconds channel name course course packets some refl fits fits' near

passes : (seconds begin time : ℕ) → begin + 1000000000 * seconds ≤ time
    → have_passed seconds begin time ≡ true
passes seconds begin time far = grind (arith, nat_tests)

is-earlier : (a b : ℕ) → nat_lt a b ≡ true → a < b
is-earlier a b t = grind (arith, nat_tests)

is-late : (a b : ℕ) → nat_lt a b ≡ false → b ≤ a
is-late a b t = grind (arith, nat_tests)

later-drops : (own begin : ℕ) (numbers : List ℕ) → begin ≤ own → Drops own (begin ∷ numbers)
    → Drops own numbers
later-drops own begin numbers late h = grind arith

earlier : (late begin : ℕ) → late < begin → nat_lt late begin ≡ true
earlier late begin lt = grind (arith, nat_tests)

no-earlier : (late begin : ℕ) → begin ≤ late → nat_lt late begin ≡ false
no-earlier late begin le = grind (arith, nat_tests)

gone : (begin : ℕ) (h : Held) → h.time < begin → (retained_from begin h).fragments ≡ []
gone begin h early = rw (earlier h.time begin early) refl

retained : (begin : ℕ) (h : Held) → begin ≤ h.time → retained_from begin h ≡ h
retained begin h late = rw (no-earlier h.time begin late) refl

pub span_drops : (seconds begin time channel : ℕ) (lists : Lists) (name : FragmentName)
    → (lists name channel).time < begin → begin + 1000000000 * seconds ≤ time
    → (lists_at (Some seconds) (Some begin) time lists name channel).fragments ≡ []
span_drops seconds begin time channel lists name early far = grind arith

module _ (seconds channel : ℕ) (name : FragmentName) where
  abbrev held : Course → Held
  held course = course.lists name channel

  abbrev after : Course → List Packet → Held
  after course packets = held (free_after (Some seconds) course packets)

  abbrev next : Course → Packet → Course
  next course packet = free_next (Some seconds) course packet

  abbrev AllPass : List Packet → Type 0
  AllPass packets = AllByRecursion (PassesBy name channel) packets

  -- ---- one packet that passes by: its span has passed, or not

  module _ (course : Course) (packet : Packet) (begin : ℕ) (by : PassesBy name channel packet)
      (started : course.begin ≡ Some begin) where
    held-passed : have_passed seconds begin packet.time ≡ true
        → held (next course packet) ≡ retained_from begin (held course)
    held-passed e = grind arith

    held-more : have_passed seconds begin packet.time ≡ false
        → held (next course packet) ≡ held course
    held-more e = grind arith

    begin-at : (next course packet).begin
        ≡ (if have_passed seconds begin packet.time then Some packet.time else Some begin)
    begin-at = ap (λ (o : Option ℕ). begin_at (Some seconds) o packet.time) started

    begin-passed : have_passed seconds begin packet.time ≡ true
        → (next course packet).begin ≡ Some packet.time
    begin-passed e = begin-at ∙ ap (λ (b : Bool). if b then Some packet.time else Some begin) e

    begin-more : have_passed seconds begin packet.time ≡ false
        → (next course packet).begin ≡ Some begin
    begin-more e = begin-at ∙ ap (λ (b : Bool). if b then Some packet.time else Some begin) e

  -- a reassembly that is dropped stays dropped
  stays-dropped : (course : Course) (packets : List Packet) → (held course).fragments ≡ []
      → AllPass packets → (after course packets).fragments ≡ []
  stays-dropped course [] none by = none
  stays-dropped course (packet ∷ packets) none by =
      grind (arith, stays-dropped (next course packet) packets)

  abbrev mark : Packet → Mark
  mark packet = record { time = packet.time; number = packet.time }

  abbrev began : ℕ → Mark
  began begin = record { time = begin; number = begin }

  abbrev DropsIf : ℕ → (begin : ℕ) → Packet → List Packet → Bool → Type 0
  DropsIf own begin packet packets b = Drops own (if b
      then begin ∷ passed_spans seconds (mark packet) (map mark packets)
      else passed_spans seconds (began begin) (map mark packets))

  -- what spans drop is dropped
  dropped : (course : Course) (begin : ℕ) (packets : List Packet) → course.begin ≡ Some begin
      → AllPass packets
      → Drops (held course).time (passed_spans seconds (began begin) (map mark packets))
      → (after course packets).fragments ≡ []
  dropped course begin [] started by drops = absurd drops
  dropped course begin (packet ∷ packets) started by drops =
      elim (cases_Bool (have_passed seconds begin packet.time)) [
        | inl t ↦
            let now = held-passed course packet begin by.0 started t in
            elim (cases_Bool (nat_lt (held course).time begin)) [
              | inl early ↦ stays-dropped (next course packet) packets
                  (ap (λ (h : Held). h.fragments) now
                  ∙ gone begin (held course) (is-earlier (held course).time begin early)) by.1
              | inr late ↦
                  let stays : held (next course packet) ≡ held course =
                  now ∙ retained begin (held course) (is-late (held course).time begin late) in
                  dropped (next course packet) packet.time packets
                  (begin-passed course packet begin by.0 started t) by.1
                  (subst (λ (h : Held). Drops h.time
                  (passed_spans seconds (mark packet) (map mark packets))) (sym stays)
                  (later-drops (held course).time begin
                  (passed_spans seconds (mark packet) (map mark packets))
                  (is-late (held course).time begin late) (subst (DropsIf (held course).time begin packet packets) t drops)))
            ]
        | inr t ↦ dropped (next course packet) begin packets
            (begin-more course packet begin by.0 started t) by.1
            (subst (λ (h : Held). Drops h.time (passed_spans seconds (began begin) (map mark packets)))
            (sym (held-more course packet begin by.0 started t)) (subst (DropsIf (held course).time begin packet packets) t drops))
      ]

  numbers : (time : ℕ) (packets : List Packet)
      → AllByRecursion (λ m. (time < m.number) ⊎ (m.time ≤ time)) (map mark packets)
  numbers time [] = tt
  numbers time (packet ∷ packets) = (cases_lt time packet.time, numbers time packets)

  times : (last : ℕ) (packets : List Packet)
      → AllByRecursion (λ p. p.time + 1000000000 * seconds ≤ last) packets
      → AllByRecursion (λ m. m.time + 1000000000 * seconds ≤ last) (map mark packets)
  times last [] all = tt
  times last (packet ∷ packets) all = (all.0, times last packets all.1)

  drops-in-time : SpansDrop → (course : Course) (begin : ℕ) (between : List Packet) (soon : Packet)
      (later : List Packet) (last : Packet) → 0 < seconds → course.begin ≡ Some begin
      → begin ≤ (held course).time → (held course).time + 1000000000 * seconds ≤ soon.time
      → AllByRecursion (λ p. p.time + 1000000000 * seconds ≤ last.time) (between ++ soon ∷ [])
      → AllPass ((between ++ soon ∷ []) ++ (later ++ last ∷ []))
      → (after course ((between ++ soon ∷ []) ++ (later ++ last ∷ []))).fragments ≡ []
  drops-in-time law course begin between soon later last some started late far all by =
      let time = (held course).time in
      let prefix : map mark (between ++ soon ∷ []) ≡ map mark between ++ mark soon ∷ [] =
      map-append mark between (soon ∷ []) in
      let back : map mark (later ++ last ∷ []) ≡ map mark later ++ mark last ∷ [] =
      map-append mark later (last ∷ []) in
      let whole = map-append mark (between ++ soon ∷ []) (later ++ last ∷ []) in
      dropped course begin ((between ++ soon ∷ []) ++ (later ++ last ∷ [])) started by
      (rw (whole, prefix, back)
      (law seconds time time (began begin) (map mark between) (mark soon) (map mark later)
      (mark last) late far (omega (arith, far, some)) (numbers time between)
      (rw prefix at (times last.time (between ++ soon ∷ []) all))))

  -- ---- what is dropped to save memory leaves no more

  since_same : (o : Option ℕ) (lists other : Lists) → lists name channel ≡ other name channel
      → lists_since o lists name channel ≡ lists_since o other name channel
  since_same None lists other same = same
  since_same (Some begin) lists other same = ap (retained_from begin) same

  since_none : (o : Option ℕ) (lists : Lists) → (lists name channel).fragments ≡ []
      → (lists_since o lists name channel).fragments ≡ []
  since_none None lists none = none
  since_none (Some begin) lists none = grind (arith, none)

  within_held : (limit : ℕ) (lists : Lists) (order : Order)
      → ((lists_within limit lists order name channel).fragments ≡ [])
      ⊎ (lists_within limit lists order name channel ≡ lists name channel)
  within_held limit lists [] = inr refl
  within_held limit lists (d ∷ ds) = elim (cases_Bool (nat_lt limit (taken lists (d ∷ ds)))) [
    | inl t ↦ rw t (within_dropped (within_held limit (lists_without d lists) ds))
    | inr t ↦ rw t (inr refl)
  ]
    where
      without_held : ((lists_without d lists name channel).fragments ≡ [])
          ⊎ (lists_without d lists name channel ≡ lists name channel)
      without_held = elim (cases_Bool (is_same d (name, channel))) [
        | inl t ↦ inl (rw t refl)
        | inr t ↦ inr (rw t refl)
      ]

      within_dropped : ((lists_within limit (lists_without d lists) ds name channel).fragments ≡ [])
          ⊎ (lists_within limit (lists_without d lists) ds name channel ≡ lists_without d lists name channel)
          → ((lists_within limit (lists_without d lists) ds name channel).fragments ≡ [])
          ⊎ (lists_within limit (lists_without d lists) ds name channel ≡ lists name channel)
      within_dropped (inl none) = inl none
      within_dropped (inr same) = elim without_held [
        | inl none ↦ inl (ap (λ (h : Held). h.fragments) same ∙ none)
        | inr stays ↦ inr (same ∙ stays)
      ]

  -- none of its fragments wait, or the same as if nothing were dropped
  abbrev NoMore : Held → Held → Type 0
  NoMore own other = (own.fragments ≡ []) ⊎ (own ≡ other)

  next_no_more : (own other : Course) (packet : Packet) → PassesBy name channel packet
      → own.begin ≡ other.begin → NoMore (held own) (held other)
      → NoMore (held (next_course (Some seconds) own packet)) (held (next other packet))
  next_no_more own other packet by begins no_more =
      elim (within_held own.memory (next own packet).lists (next own packet).order) [
        | inl none ↦ inl none
        | inr same ↦ elim no_more [
          | inl none ↦ inl (ap (λ (h : Held). h.fragments) (same ∙ by _)
              ∙ since_none (passed_with seconds own.begin packet.time) own.lists none)
          | inr stays ↦ inr (same
              ∙ ap (λ (h : Held). after_frame name channel (class_of packet) packet.time packet.interface h)
              (since_same (passed_with seconds own.begin packet.time) own.lists other.lists stays
              ∙ ap (λ (b : Option ℕ). lists_at (Some seconds) b packet.time other.lists name channel) begins))
        ]
      ]

  no_more_after : (own other : Course) (packets : List Packet) → AllPass packets
      → own.begin ≡ other.begin → NoMore (held own) (held other)
      → NoMore (held (course_after (Some seconds) own packets)) (after other packets)
  no_more_after own other [] all begins no_more = no_more
  no_more_after own other (packet ∷ packets) all begins no_more =
      no_more_after (next_course (Some seconds) own packet) (next other packet) packets all.1
      (ap (λ (b : Option ℕ). begin_at (Some seconds) b packet.time) begins)
      (next_no_more own other packet all.0 begins no_more)

  none_after : (course : Course) (packets : List Packet) → AllPass packets
      → (after course packets).fragments ≡ []
      → (held (course_after (Some seconds) course packets)).fragments ≡ []
  none_after course packets all none = elim (no_more_after course course packets all refl (inr refl)) [
    | inl gone ↦ gone
    | inr same ↦ ap (λ (h : Held). h.fragments) same ∙ none
  ]

pub forget_drops : SpansDrop → ForgetDrops
forget_drops law seconds channel name course begin between soon later last some started late far all by =
    none_after seconds channel name course ((between ++ soon ∷ []) ++ (later ++ last ∷ [])) by
    (drops-in-time seconds channel name law course begin between soon later last some started late far all
    by)
