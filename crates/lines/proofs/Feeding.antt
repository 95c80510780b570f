-- A chunk of the input, line by line.
use Rattle.std.proofs.Common.{◌≡◌, ◌∙◌, sym, ap, refl, subst, ℕ, zero, suc, ◌+◌, ◌-◌, ◌<◌, Bool, [], true, false, ◌==◌}
use Rattle.std.proofs.Common.{List, ◌∷◌, ◌++◌, length, take, drop, get_or, arith, append_assoc, append-nil}
use Rattle.std.proofs.Common.{length-append, take-append-drop}
use Rattle.std.proofs.lemmas.List.{take_rest, drop_more, take_all, drop-drop}
use Rattle.memchr.specs.Find.{NoneBefore, Nowhere, Passes, is_byte}
use Rattle.device_runs.specs.Calls.{Call}
use Rattle.device_runs.specs.Endings.{Ending, Done}
use Rattle.device_runs.specs.Writes.{Written, Stops, Delivers}
use Rattle.device_runs.proofs.WriteLemmas.{Written-append, Written-nil, Stops-after, Stops-more, Delivers-after}
use Rattle.lines.specs.declared.run_error.RunError.{RunError}
use Rattle.lines.specs.Endings.{cause}
use Rattle.lines.specs.Lines.{Split, split, HasNoNewline}
use Rattle.lines.specs.LineAnswers.{Started, Meaning, answers_to_later}
use Rattle.lines.specs.Writes.{Gathers, Serves}
use Rattle.lines.proofs.AnswersLemmas.{answers_to_later-append}
use Rattle.lines.proofs.SplitLemmas.{HasNoNewline-append, split-HasNoNewline, split-line, split_on}
use Rattle.lines.proofs.WriteLemmas.{Delivers-gathered, Gathers-fails, Serves-delivered, cause_fails}

-- the answers to these lines are gathered, and what follows goes on with a line of which `started` is
-- read
pub record Fed {D : Type 0} (transition : D → Call → D → Type 0) (m : Meaning) (old : D)
    (earlier : List (List ℕ)) (text rest waiting : List ℕ) (count : ℕ) (has_started : Bool)
    (shown : List (List ℕ) → List ℕ → Type 0) (new : D) : Type 0 where
  pub lines : List (List ℕ)
  pub started : List ℕ
  pub keeps : Started shown count has_started (earlier ++ lines) started
  pub same : split text ≡ split_on lines started rest
  pub prefix : List ℕ
  pub written : Written transition old prefix new
  pub gathered : answers_to_later m.answer earlier lines ≡ prefix ++ waiting

not_true : (b : Bool) → (b ≡ true → ⊥) → b ≡ false
not_true b h = grind arith

-- no byte before the first 0a is one
HasNoNewline-take : (bytes : List ℕ) (n : ℕ)
    → ((k : ℕ) → k < n → (get_or bytes k 0 == 10) ≡ true → ⊥) → HasNoNewline (take n bytes)
HasNoNewline-take bytes zero none = tt
HasNoNewline-take [] (suc n) none = tt
HasNoNewline-take (x ∷ bytes) (suc n) none = (
  not_true (x == 10) (none 0 (omega arith)),
  HasNoNewline-take bytes n
      (λ k lt. none (suc k) (omega arith)),
)

-- the line that 0a ends at n, and what follows
line_parts : (started rest : List ℕ) (n : ℕ) → n < length rest → get_or rest n 0 ≡ 10
    → started ++ rest ≡ (started ++ take n rest) ++ 10 ∷ drop (n + 1) rest
line_parts started rest n lt is = grind (arith, take-append-drop, drop_more, append_assoc)

split_on-line : (lines : List (List ℕ)) (started rest : List ℕ) (n : ℕ) → HasNoNewline started
    → n < length rest → get_or rest n 0 ≡ 10 → HasNoNewline (take n rest)
    → split_on lines started rest ≡ split_on (lines ++ (started ++ take n rest) ∷ [])
    [] (drop (n + 1) rest)
split_on-line lines started rest n whole lt is none =
    let line = started ++ take n rest in
    ap (λ (c : Split). let d : Split = record { ended = lines ++ c.ended; rest = c.rest } in d)
    (ap split (line_parts started rest n lt is)
    ∙ split-line line (drop (n + 1) rest)
    (HasNoNewline-append started (take n rest) whole none))
    ∙ ap (λ ls. let d : Split = record { ended = ls; rest = (split (drop (n + 1) rest)).rest } in d)
    (sym (append_assoc lines (line ∷ []) (split (drop (n + 1) rest)).ended))

-- the answers to one more line, after what was written and what waits
answers-more : (m : Meaning) (earlier lines : List (List ℕ))
    (line prefix waiting prefix' waiting' : List ℕ) → answers_to_later m.answer earlier lines ≡ prefix ++ waiting
    → waiting ++ m.answer (earlier ++ lines) line ≡ prefix' ++ waiting'
    → answers_to_later m.answer earlier (lines ++ line ∷ []) ≡ (prefix ++ prefix') ++ waiting'
answers-more m earlier lines line prefix waiting prefix' waiting' before here =
    grind (arith, answers_to_later-append, append-nil, append_assoc)

-- one more line is counted
counted-more : (earlier lines : List (List ℕ)) (line : List ℕ) (count count' : ℕ)
    → count ≡ length (earlier ++ lines) → count' ≡ count + 1
    → count' ≡ length (earlier ++ (lines ++ line ∷ []))
counted-more earlier lines line count count' before more =
    grind (arith, length-append, append_assoc)

module _ {D : Type 0} (transition : D → Call → D → Type 0) (m : Meaning) where
  pub fed_start : (old : D) (earlier : List (List ℕ)) (start chunk waiting : List ℕ)
      (count : ℕ) (has_started : Bool) (shown : List (List ℕ) → List ℕ → Type 0)
      → Started shown count has_started earlier start → waiting ≡ []
      → Fed transition m old earlier (start ++ chunk) chunk waiting count has_started shown old
  fed_start old earlier start chunk waiting count has_started shown keeps none = record {
    lines = [];
    started = start;
    keeps = grind (arith, append-nil);
    same = refl;
    prefix = [];
    written = Written-nil transition old;
    gathered = sym none;
  }

  -- a line alone, for which memory runs out or a write stops,
  pub serves_fails : (old new : D) (earlier : List (List ℕ)) (line waiting waiting' : List ℕ)
      → waiting ≡ [] → (e : RunError)
      → Gathers transition (m.takes_memory earlier line) old waiting (m.answer earlier line)
      (cause e) waiting' new → Serves transition m old earlier (line ∷ []) (cause e) new
  serves_fails old new earlier line waiting waiting' none e fails =
      let answer = m.answer earlier line in
      Gathers-fails transition (λ ending. Serves transition m old earlier (line ∷ []) ending new)
      old new (m.takes_memory earlier line) waiting answer waiting'
      (λ h. (
        [],
        record {
          before = [];
          line = line;
          later = [];
          parts = refl;
          takes = grind (arith, append-nil);
          same = refl;
        },
        subst (λ l. Written transition old l new) none h.1,
      ))
      (λ fault stops. subst (λ l. Stops transition fault old l new)
      (ap (λ w. w ++ answer) none ∙ sym (append-nil answer)) stops)
      (cause e) (cause_fails e) fails

  -- or that is answered
  pub serves_line : (old mid new : D) (earlier : List (List ℕ)) (line waiting waiting' : List ℕ)
      → waiting ≡ [] → (ending : Ending ⊥)
      → Gathers transition (m.takes_memory earlier line) old waiting
      (m.answer earlier line) Done waiting' mid → Delivers transition mid waiting' ending new
      → Serves transition m old earlier (line ∷ []) ending new
  serves_line old mid new earlier line waiting waiting' none ending gathers delivers =
      let answer = m.answer earlier line in
      Serves-delivered transition m old new earlier (line ∷ []) ending
      (subst (λ l. Delivers transition old l ending new)
      (ap (λ w. w ++ answer) none ∙ sym (append-nil answer))
      (Delivers-gathered transition (m.takes_memory earlier line) old mid new waiting answer waiting'
      ending gathers delivers))

  module _ (old mid new : D) (earlier : List (List ℕ)) (text rest waiting : List ℕ) (count : ℕ)
      (has_started : Bool) (shown : List (List ℕ) → List ℕ → Type 0) (n : ℕ)
      (f : Fed transition m old earlier text rest waiting count has_started shown mid)
      (lt : n < length rest) (is : get_or rest n 0 ≡ 10)
      (none : HasNoNewline (take n rest)) where
    -- one more line
    pub fed_line : (waiting' : List ℕ)
        → Gathers transition (m.takes_memory (earlier ++ f.lines) (f.started ++ take n rest)) mid
        waiting (m.answer (earlier ++ f.lines) (f.started ++ take n rest)) Done waiting' new
        → (count' : ℕ) → count' ≡ count + 1 → (shown' : List (List ℕ) → List ℕ → Type 0)
        → shown' ((earlier ++ f.lines) ++ (f.started ++ take n rest) ∷ []) []
        → (begins : Bool) → begins ≡ false
        → Fed transition m old earlier text (drop (n + 1) rest) waiting' count' begins shown' new
    fed_line waiting' more count' counts shown' shows begins none_started =
        let line = f.started ++ take n rest in
        record {
          lines = f.lines ++ line ∷ [];
          started = [];
          keeps = grind (arith, append_assoc, counted-more);
          same = grind (arith, split_on-line);
          prefix = f.prefix ++ more.0;
          written = Written-append transition old mid new f.prefix more.0 f.written more.1;
          gathered = grind (arith, answers-more);
        }

    -- a write stops at a line, or memory runs out for it
    pub fed_fails : (e : RunError) (waiting' : List ℕ)
        → Gathers transition (m.takes_memory (earlier ++ f.lines) (f.started ++ take n rest)) mid
        waiting (m.answer (earlier ++ f.lines) (f.started ++ take n rest)) (cause e) waiting' new
        → Serves transition m old earlier (split text).ended (cause e) new
    fed_fails e waiting' fails =
        let line = f.started ++ take n rest in
        let later = (split (drop (n + 1) rest)).ended in
        let answer = m.answer (earlier ++ f.lines) line in
        let answers = answers_to_later m.answer ((earlier ++ f.lines) ++ line ∷ []) later in
        let parts : (split text).ended ≡ f.lines ++ line ∷ later =
        ap (λ c. c.ended) (f.same ∙ split_on-line f.lines f.started rest n f.keeps.unended lt is none)
        ∙ append_assoc f.lines (line ∷ []) later in
        let all : answers_to_later m.answer earlier (split text).ended ≡ f.prefix
        ++ ((waiting ++ answer) ++ answers) =
        grind (arith, answers_to_later-append, append_assoc) in
        Gathers-fails transition
        (λ ending. Serves transition m old earlier (split text).ended ending new) mid new
        (m.takes_memory (earlier ++ f.lines) line) waiting answer waiting'
        (λ h. (
          answers_to_later m.answer earlier f.lines,
          record {
            before = f.lines;
            line = line;
            later = later;
            parts = parts;
            takes = h.0;
            same = refl;
          },
          subst (λ l. Written transition old l new) (sym f.gathered)
              (Written-append transition old mid new f.prefix waiting f.written h.1),
        ))
        (λ fault stops. subst (λ bytes. Stops transition fault old bytes new) (sym all)
        (Stops-after transition fault old mid new f.prefix ((waiting ++ answer) ++ answers) f.written
        (Stops-more transition fault mid new (waiting ++ answer) answers stops)))
        (cause e) (cause_fails e) fails

  module _ (old new : D) (earlier : List (List ℕ)) (text rest waiting : List ℕ) (count : ℕ)
      (has_started : Bool) (shown : List (List ℕ) → List ℕ → Type 0)
      (f : Fed transition m old earlier text rest waiting count has_started shown new)
      (none : HasNoNewline rest) where
    -- no line ends any more
    fed_split : split text ≡ (let d : Split =
        record { ended = f.lines; rest = f.started ++ rest } in d)
    fed_split =
        f.same ∙ ap (λ (c : Split). let d : Split =
        record { ended = f.lines ++ c.ended; rest = c.rest } in d)
        (split-HasNoNewline (f.started ++ rest)
        (HasNoNewline-append f.started rest f.keeps.unended none))
        ∙ ap (λ ls. let d : Split = record { ended = ls; rest = f.started ++ rest } in d)
        (append-nil f.lines)

    -- what waits is written
    pub fed_written : (later : D) (r : Ending ⊥) → Delivers transition new waiting r later
        → Serves transition m old earlier (split text).ended r later
    fed_written later r d =
        let all : answers_to_later m.answer earlier (split text).ended ≡ f.prefix ++ waiting =
        grind (arith, fed_split) in
        Serves-delivered transition m old later earlier (split text).ended r
        (subst (λ bytes. Delivers transition old bytes r later) (sym all)
        (Delivers-after transition old new later f.prefix waiting r f.written d))

    pub fed_started : (count' : ℕ) (begins : Bool) (shown' : List (List ℕ) → List ℕ → Type 0)
        → Started shown' count' begins (earlier ++ f.lines) (f.started ++ rest)
        → Started shown' count' begins (earlier ++ (split text).ended) (split text).rest
    fed_started count' begins shown' started =
        subst (λ (c : Split). Started shown' count' begins (earlier ++ c.ended) c.rest)
        (sym fed_split) started

-- what memchr returns for the first 0a
pub found_end : (rest : List ℕ) (n : ℕ) → NoneBefore (Passes (is_byte 10) rest) 0 (length rest) n
    → HasNoNewline (take n rest)
found_end rest n h = HasNoNewline-take rest n (λ k lt is. h.before k (omega arith) lt is)

pub found_none : (rest : List ℕ) → Nowhere (Passes (is_byte 10) rest) 0 (length rest)
    → HasNoNewline rest
found_none rest h = subst HasNoNewline (take_all (length rest) rest (omega arith))
    (HasNoNewline-take rest (length rest) (λ k lt is. h k (omega arith) lt is))

-- what follows a line, as the code takes it
pub after_line : (rest : List ℕ) (n : ℕ) → n < length rest
    → take (length (drop n rest) - 1) (drop 1 (drop n rest)) ≡ drop (n + 1) rest
after_line rest n lt = take_rest (drop n rest) 1 ∙ drop-drop 1 n rest
