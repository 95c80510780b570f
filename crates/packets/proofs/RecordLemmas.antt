-- Captures of packets: the records of their texts, and a file header before them.
use Rattle.std.proofs.Common.{◌≡◌, ◌∙◌, sym, ap, refl, List, ◌∷◌, [], ◌++◌, ℕ, append_assoc, Option, Result, Err, true, inl}
use Rattle.std.specs.Io.KnownBytes.{Appends}
use Rattle.std.proofs.KnownBytes.{Appends-trans, Consumes-nil}
use Rattle.captures.specs.Encoding.{file_header}
use Rattle.captures.specs.Skipping.{none_skipped}
use Rattle.captures.specs.declared.time.time_unit.TimeUnit.TheVariants.{Nanoseconds}
use Rattle.captures.specs.declared.translation.run_error.RunError.{RunError}
use Rattle.packets.specs.PacketRuns.{BreaksBy, IsWritten}
use Rattle.packets.specs.Written.{AreTexts, Writes}
use Rattle.packets.specs.WrittenCaptures.{WritesCapture, WritesRecords, record_of, records_of}
use Rattle.packets.specs.declared.dissection.Dissection.{Dissection}
use Rattle.packets.specs.declared.run.omitted.Omitted.{Omitted}
use Rattle.packets.specs.declared.run.rules.Rules.{Rules}
use Rattle.packets.proofs.EndLemmas.{break_ends, broken, nothing_first, weaker_unbroken}
use Rattle.packets.proofs.LimitLemmas.{none_fewer}

texts_are : (packets : List Dissection) (text : List ℕ)
    → AreTexts (λ packet text. text ≡ record_of packet) packets text → text ≡ records_of packets
texts_are [] text are = are
texts_are (packet ∷ packets) text are = rw (are.2, are.3, texts_are packets are.1 are.4) refl

pub writes_records : (rules : Rules) (omitted : Omitted) (source first now : Option (List ℕ))
    (result : Result Unit RunError)
    → Writes (AreTexts (λ packet text. text ≡ record_of packet)) rules omitted source first now result
    → WritesRecords rules omitted source first now result
writes_records rules omitted source first now result writes = (
  writes.0,
  writes.1,
  writes.2,
  writes.3,
  writes.4,
  writes.5,
  writes.6,
  writes.7,
  writes.8,
  texts_are _ writes.8 writes.9,
  writes.10,
  writes.11,
  writes.12,
)

-- the same bytes before both
written_after : (result : Result Unit RunError) (head text written : List ℕ)
    → IsWritten result text written → IsWritten result (head ++ text) (head ++ written)
written_after result head text written is =
    weaker_unbroken result _ _ _ _ (λ all. ap (λ (l : List ℕ). head ++ l) all)
    (λ part. (part.0, ap (λ (l : List ℕ). head ++ l) part.1 ∙ sym (append_assoc head written part.0)))
    is

pub writes_capture : (rules : Rules) (omitted : Omitted) (source first mid now : Option (List ℕ))
    (result : Result Unit RunError) → Appends first mid (file_header Nanoseconds)
    → WritesRecords rules omitted source mid now result
    → WritesCapture rules omitted source first now result
writes_capture rules omitted source first mid now result header writes = (
  writes.0,
  writes.1,
  writes.2,
  writes.3,
  writes.4,
  writes.5,
  writes.6,
  writes.7,
  file_header Nanoseconds ++ writes.8,
  ap (λ (l : List ℕ). file_header Nanoseconds ++ l) writes.9,
  file_header Nanoseconds ++ writes.10,
  Appends-trans first mid now (file_header Nanoseconds) writes.10 header writes.11,
  written_after result (file_header Nanoseconds) writes.8 writes.10 writes.12,
)

-- the file header couldn't be written
pub no_header : (rules : Rules) (source first now : Option (List ℕ)) (error : RunError)
    → BreaksBy true error ((prefix : List ℕ) × (rest : List ℕ) × Appends first now prefix
    × (file_header Nanoseconds ≡ prefix ++ rest))
    → WritesCapture rules (record { skipped = none_skipped; dropped = 0 }) source first now (Err error)
no_header rules source first now error by =
    let part = broken true error _ by in (
      [],
      source,
      [],
      [],
      Consumes-nil source,
      (
        tt,
        inl (
          none_fewer rules.count,
          break_ends true rules.unfit none_skipped source [] [] error _ by
              (inl (nothing_first rules.unfit)),
        ),
      ),
      refl,
      refl,
      file_header Nanoseconds,
      refl,
      part.0.0,
      part.0.2,
      part.1 _ _ (part.0.1, part.0.3),
    )
