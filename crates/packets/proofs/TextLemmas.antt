-- Texts of packets: one text more, and what is written of them.
use Rattle.std.proofs.Common.{◌≡◌, ◌∙◌, sym, ap, refl, subst, ℕ, true, List, [], ◌∷◌, ◌++◌, append-nil, append_assoc}
use Rattle.std.proofs.Common.{Option, Result, Ok, Err, MatchResult, if◌then◌else◌, is_ok}
use Rattle.std.specs.Io.KnownBytes.{Appends, Keeps}
use Rattle.std.proofs.KnownBytes.{Appends-kept, Appends-trans}
use Rattle.captures.specs.declared.translation.run_error.RunError.{RunError}
use Rattle.packets.specs.declared.run.omitted.Omitted.{Omitted}
use Rattle.packets.specs.PacketRuns.{BreaksBy, IsWritten, Unbroken}
use Rattle.packets.specs.Written.{AreTexts, Writes}
use Rattle.packets.specs.declared.dissection.Dissection.{Dissection}
use Rattle.packets.specs.declared.run.rules.Rules.{Rules}
use Rattle.packets.proofs.EndLemmas.{broken, either_way, weaker_break, weaker_match}

-- what a call appends where it succeeds
pub appended : {E : Type 0} (result : Result Unit E) (old new more : List ℕ)
    (P : List ℕ → Type 0) → new ≡ (if is_ok result then old ++ more else old) → P (old ++ more)
    → MatchResult result (λ _. P new) (λ _. new ≡ old)
appended (Ok done) old new more P is holds = subst P (sym is) holds
appended (Err e) old new more P is holds = is

prefix_of_nothing : (bytes prefix rest : List ℕ) → bytes ≡ prefix ++ rest → bytes ≡ [] → prefix ≡ []
prefix_of_nothing bytes [] rest whole none = refl
prefix_of_nothing bytes (x ∷ prefix) rest whole none = absurd (cc)

module _ (IsTextOf : Dissection → List ℕ → Type 0) where
  pub texts_more : (seen : List Dissection) (text : List ℕ) (packet : Dissection) (more : List ℕ)
      → AreTexts IsTextOf seen text → IsTextOf packet more
      → AreTexts IsTextOf (seen ++ packet ∷ []) (text ++ more)
  texts_more [] text packet more are made = (
    more,
    [],
    ap (λ (l : List ℕ). l ++ more) are ∙ sym (append-nil more),
    made,
    refl,
  )
  texts_more (first ∷ later) text packet more are made = (
    are.0,
    are.1 ++ more,
    ap (λ (l : List ℕ). l ++ more) are.2 ∙ append_assoc are.0 are.1 more,
    are.3,
    texts_more later are.1 packet more are.4 made,
  )

  -- these texts are written, and those that wait
  abbrev pub Wait : (first now : Option (List ℕ)) → List Dissection → (waiting : List ℕ) → Type 0
  Wait first now seen waiting = (written : List ℕ) × Appends first now written
      × AreTexts IsTextOf seen (written ++ waiting)

  -- a prefix of these texts is written
  abbrev pub Break : (first now : Option (List ℕ)) → List Dissection → Type 0
  Break first now seen = (written : List ℕ) × (rest : List ℕ) × Appends first now written
      × AreTexts IsTextOf seen (written ++ rest)

  -- what a write of a text does, with this result
  abbrev pub WriteResult : (old new : Option (List ℕ)) → List ℕ → Result Unit RunError → Type 0
  WriteResult old new text result = MatchResult result (λ _. Appends old new text)
      (λ error. BreaksBy true error ((prefix : List ℕ) × (rest : List ℕ) × Appends old new prefix
      × (text ≡ prefix ++ rest)))

  -- the texts that waited are written
  pub written_out : (result : Result Unit RunError) (first old new : Option (List ℕ))
      (seen : List Dissection) (out left : List ℕ) → left ≡ [] → Wait first old seen out
      → WriteResult old new out result
      → MatchResult result (λ _. Wait first new seen left)
      (λ error. BreaksBy true error (Break first new seen))
  written_out result first old new seen out left none waits = weaker_match result
      _ (Wait first new seen left) _ (λ error. BreaksBy true error (Break first new seen))
      (λ all. (
        waits.0 ++ out,
        Appends-trans first old new waits.0 out waits.1 all,
        subst (AreTexts IsTextOf seen) (sym (ap (λ (l : List ℕ). (waits.0 ++ out) ++ l) none
            ∙ append-nil (waits.0 ++ out))) waits.2,
      ))
      (λ error. weaker_break true error _ (Break first new seen) (λ part. (
        waits.0 ++ part.0,
        part.1,
        Appends-trans first old new waits.0 part.0 waits.1 part.2,
        subst (AreTexts IsTextOf seen) (ap (λ (l : List ℕ). waits.0 ++ l) part.3
            ∙ sym (append_assoc waits.0 part.0 part.1)) waits.2,
      )))

  -- what a run with this result wrote of the texts of these packets
  abbrev pub CallResult : (first now : Option (List ℕ)) → List Dissection → Result Unit RunError → Type 0
  CallResult first now seen result = (text : List ℕ) × AreTexts IsTextOf seen text
      × (written : List ℕ) × Appends first now written × IsWritten result text written

  -- a run ended, and what waited is written
  pub ended_whole : (result : Result Unit RunError) (first mid new : Option (List ℕ))
      (seen : List Dissection) (out : List ℕ)
      → Unbroken result (Wait first mid seen out) ((out ≡ []) × Break first mid seen)
      → Appends mid new out → CallResult first new seen result
  ended_whole result first mid new seen out held all =
      either_way result _ _ (CallResult first new seen result) held
      (λ waits here. (
        waits.0 ++ out,
        waits.2,
        waits.0 ++ out,
        Appends-trans first mid new waits.0 out waits.1 all,
        here _ _ refl,
      ))
      (λ part here. (
        part.1.0 ++ part.1.1,
        part.1.3,
        part.1.0 ++ out,
        Appends-trans first mid new part.1.0 out part.1.2 all,
        here _ _ (
          part.1.1,
          ap (λ (l : List ℕ). l ++ part.1.1)
              (sym (ap (λ (l : List ℕ). part.1.0 ++ l) part.0 ∙ append-nil part.1.0)),
        ),
      ))

  -- or that write failed
  pub ended_broken : (result : Result Unit RunError) (error : RunError)
      (first mid new : Option (List ℕ)) (seen : List Dissection) (out : List ℕ)
      → Unbroken result (Wait first mid seen out) ((out ≡ []) × Break first mid seen)
      → BreaksBy true error ((prefix : List ℕ) × (rest : List ℕ) × Appends mid new prefix
      × (out ≡ prefix ++ rest)) → CallResult first new seen (Err error)
  ended_broken result error first mid new seen out held by =
      let part = broken true error _ by in
      either_way result _ _ (CallResult first new seen (Err error)) held
      (λ waits here. (
        waits.0 ++ out,
        waits.2,
        waits.0 ++ part.0.0,
        Appends-trans first mid new waits.0 part.0.0 waits.1 part.0.2,
        part.1 _ _ (
          part.0.1,
          ap (λ (l : List ℕ). waits.0 ++ l) part.0.3
              ∙ sym (append_assoc waits.0 part.0.0 part.0.1),
        ),
      ))
      (λ before here. (
        before.1.0 ++ before.1.1,
        before.1.3,
        before.1.0 ++ part.0.0,
        Appends-trans first mid new before.1.0 part.0.0 before.1.2 part.0.2,
        part.1 _ _ (
          before.1.1,
          ap (λ (l : List ℕ). l ++ before.1.1)
              (sym (ap (λ (l : List ℕ). before.1.0 ++ l)
              (prefix_of_nothing out part.0.0 part.0.1 part.0.3 before.0) ∙ append-nil before.1.0)),
        ),
      ))

-- the same after a flush
pub flushed : (IsTextOf : List Dissection → List ℕ → Type 0) (rules : Rules) (omitted : Omitted)
    (source first mid now : Option (List ℕ)) (result : Result Unit RunError)
    → Writes IsTextOf rules omitted source first mid result → Keeps mid now
    → Writes IsTextOf rules omitted source first now result
flushed IsTextOf rules omitted source first mid now result writes keeps = (
  writes.0,
  writes.1,
  writes.2,
  writes.3,
  writes.4,
  writes.5,
  writes.6,
  writes.7,
  writes.8,
  writes.9,
  writes.10,
  Appends-kept first mid now writes.10 writes.11 keeps,
  writes.12,
)
