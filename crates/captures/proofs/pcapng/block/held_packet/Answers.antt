use Rattle.std.proofs.Common.{◌≡◌, ◌∙◌, sym, subst, ℕ, inl, inr, arith}
use Rattle.captures.specs.Numbers.{half, word}
use Rattle.captures.specs.Pcapng.{IsTimedPacket, simple_packet}
use Rattle.captures.proofs.BlockLemmas.{match_as, no_enhanced, no_obsolete, no_simple}
use Rattle.captures.proofs.pcapng.block.held_packet.Goals as goal

pub returns-in-6-clause-found : goal.returns-in-6-clause-found
returns-in-6-clause-found c =
    let section = c.args.section.now in
    let order = c.args.order in
    let block = c.args.block.now in
    let kind = sym c.word.ensures ∙ c.in-6.is in
    let number : c.word-in-6.result ≡ word order block 8 = c.word-in-6.ensures in
    match_as c.timed_packet.result _ _ _ _
    (λ none. no_enhanced section order block kind
    (λ origin link packet timed. none origin link packet
    (subst (λ (n : ℕ). IsTimedPacket n section order block origin link packet) (sym number) timed)))
    (λ h timed. inl (
      kind,
      subst (λ (n : ℕ). IsTimedPacket n section order block h.origin h.link h.packet.now) number timed,
    ))
    c.timed_packet.ensures.found

pub returns-in-2-clause-found : goal.returns-in-2-clause-found
returns-in-2-clause-found c =
    let section = c.args.section.now in
    let order = c.args.order in
    let block = c.args.block.now in
    let kind = sym c.word.ensures ∙ c.in-2.is in
    let number : c.from.result ≡ half order block 8 = c.from.ensures ∙ c.half.ensures in
    match_as c.timed_packet-in-2.result _ _ _ _
    (λ none. no_obsolete section order block kind
    (λ origin link packet timed. none origin link packet
    (subst (λ (n : ℕ). IsTimedPacket n section order block origin link packet) (sym number) timed)))
    (λ h timed. inr (inl (
      kind,
      subst (λ (n : ℕ). IsTimedPacket n section order block h.origin h.link h.packet.now) number timed,
    )))
    c.timed_packet-in-2.ensures.found

pub returns-in_default-clause-found : goal.returns-in_default-clause-found
returns-in_default-clause-found c =
    let section = c.args.section.now in
    let order = c.args.order in
    let block = c.args.block.now in
    let kind : word order block 0 ≡ simple_packet =
    elim c.requires.kind [
      | inl six ↦ (let kind = c.word.ensures ∙ six in absurd (omega arith))
      | inr (inl two) ↦ (let kind = c.word.ensures ∙ two in absurd (omega arith))
      | inr (inr three) ↦ three
    ] in
    match_as c.simple_packet.result _ _ _ _ (no_simple section order block kind)
    (λ h simple. inr (inr simple)) c.simple_packet.ensures.found
