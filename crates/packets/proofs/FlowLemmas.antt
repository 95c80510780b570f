-- What is counted of conversations, with one packet more.
use Rattle.std.proofs.Common.{◌≡◌, ◌∙◌, ◌+◌, ℕ, Bool, true, false, List, [], ◌∷◌, ◌++◌, Option, Some, None, unwrap_or, refl, ap, sym}
use Rattle.std.proofs.Common.{arith, length}
use Rattle.std.specs.Prelude.{◌||◌, not}
use Rattle.std.specs.List.{filter, list_any}
use Rattle.packets.specs.Flows.{conversation_counts, conversation_counts_of, direction_counts, joined_flags, outlines}
use Rattle.captures.specs.Numbers.{capped}
use Rattle.packets.specs.Outlines.{outline_of}
use Rattle.packets.specs.Period.{earliest_of, latest_of}
use Rattle.packets.specs.Transfers.{transfer_by, transfer_of}
use Rattle.packets.specs.declared.dissection.Dissection.{Dissection}
use Rattle.packets.specs.declared.flows.conversation.Conversation.{Conversation}
use Rattle.packets.specs.declared.outline.Outline.{Outline}
use Rattle.packets.specs.declared.flows.conversation_counts.ConversationCounts.{ConversationCounts}
use Rattle.packets.specs.declared.flows.conversation_counts.DirectionCounts.{DirectionCounts}
use Rattle.packets.specs.declared.flows.transfer.Flags.{Flags}
use Rattle.packets.specs.declared.flows.transfer.Transfer.{Transfer}
use Rattle.packets.specs.declared.summary.period.Period.{Period}
use Rattle.packets.proofs.TallyLemmas.{filter-more, filter-none, find-more, sum_by-end}

any-end : {X : Type 0} (p : X → Bool) (xs : List X) (x : X)
    → list_any p (xs ++ x ∷ []) ≡ (list_any p xs || p x)
any-end p [] x = one (p x)
  where
    one : (b : Bool) → ◌≡◌ {A = Bool} (b || false) b
    one true = refl
    one false = refl
any-end p (y ∷ xs) x = rest (p y) (list_any p xs) (p x) (any-end p xs x)
  where
    rest : (b a c : Bool) {d : Bool} → d ≡ (a || c) → ◌≡◌ {A = Bool} (b || d) ((b || a) || c)
    rest true a c e = refl
    rest false a c e = e

length-end : {X : Type 0} (xs : List X) (x : X)
    → capped (length (xs ++ x ∷ [])) ≡ capped (capped (length xs) + 1)
length-end [] x = refl
length-end (y ∷ xs) x = omega (arith, length-end xs x)

-- what goes one way, with one packet more
pub direction_counts-more : (packets : List Transfer) (packet : Transfer) (old : DirectionCounts) (n b : ℕ)
    (flags : Flags) → old ≡ direction_counts packets → n ≡ capped (old.packets + 1)
    → b ≡ capped (old.bytes + packet.outline.wire_len) → flags ≡ joined_flags old.flags packet.flags
    → record { packets = n; bytes = b; flags = flags } ≡ direction_counts (packets ++ packet ∷ [])
direction_counts-more packets packet old n b flags e en eb ef =
    grind (arith, length-end, sum_by-end, any-end)

-- what goes one way of packets of a kind
pub direction_counts-kind : (kind : Transfer → Bool) (packets : List Transfer) (packet : Transfer)
    (new : DirectionCounts) → kind packet ≡ true
    → new ≡ direction_counts (filter kind packets ++ packet ∷ [])
    → new ≡ direction_counts (filter kind (packets ++ packet ∷ []))
direction_counts-kind kind packets packet new h e =
    e ∙ ap direction_counts (sym (filter-more kind packets packet h))

pub direction_counts-other : (kind : Transfer → Bool) (packets : List Transfer) (packet : Transfer)
    (old : DirectionCounts) → kind packet ≡ false → old ≡ direction_counts (filter kind packets)
    → old ≡ direction_counts (filter kind (packets ++ packet ∷ []))
direction_counts-other kind packets packet old h e =
    e ∙ ap direction_counts (sym (filter-none kind packets packet h))

pub outlines-end : (packets : List Transfer) (packet : Transfer)
    → outlines (packets ++ packet ∷ []) ≡ outlines packets ++ packet.outline ∷ []
outlines-end [] packet = refl
outlines-end (p ∷ packets) packet = ap (λ ps. p.outline ∷ ps) (outlines-end packets packet)

pub conversation_counts_of-other : (kind : Transfer → Bool) (packets : List Transfer) (packet : Transfer)
    → kind packet ≡ false → conversation_counts_of kind packets ≡ conversation_counts_of kind (packets ++ packet ∷ [])
conversation_counts_of-other kind packets packet h = ap conversation_counts (sym (filter-none kind packets packet h))

pub conversation_counts_of-more : (kind : Transfer → Bool) (packets : List Transfer) (packet : Transfer)
    (new : ConversationCounts) → kind packet ≡ true → new ≡ conversation_counts (filter kind packets ++ packet ∷ [])
    → new ≡ conversation_counts_of kind (packets ++ packet ∷ [])
conversation_counts_of-more kind packets packet new h e =
    e ∙ ap conversation_counts (sym (filter-more kind packets packet h))

-- what is counted of a conversation, with one packet more
pub conversation_counts-more : (packets : List Transfer) (packet : Transfer) (old : ConversationCounts)
    (ascending descending : DirectionCounts) (period : Period) (begins : Bool) → old ≡ conversation_counts packets
    → ascending ≡ direction_counts (filter (λ p. p.ascends) (packets ++ packet ∷ []))
    → descending ≡ direction_counts (filter (λ p. not p.ascends) (packets ++ packet ∷ []))
    → period.earliest ≡ earliest_of (outlines packets ++ packet.outline ∷ [])
    → period.latest ≡ latest_of (outlines packets ++ packet.outline ∷ [])
    → begins ≡ unwrap_or old.begins_ascending packet.ascends
    → record {
      ascending = ascending;
      descending = descending;
      period = period;
      begins_ascending = Some begins;
    } ≡ conversation_counts (packets ++ packet ∷ [])
conversation_counts-more packets packet old ascending descending period begins e up down earliest latest first =
    let first' = first ∙ ap (λ (f : ConversationCounts). unwrap_or f.begins_ascending packet.ascends) e in
    let begin = ap Some first' ∙ sym (find-more (λ (p : Transfer). p.ascends) (λ (p : Transfer). true) packets packet refl) in
    let outline = sym (outlines-end packets packet) in
    let earliest' = earliest ∙ ap earliest_of outline in
    let latest' = latest ∙ ap latest_of outline in
    λ i. record {
      ascending = up i;
      descending = down i;
      period = record { earliest = earliest' i; latest = latest' i };
      begins_ascending = begin i;
    }

with_outline : (outline : Outline) (conversation : Option Conversation) (flags : Flags)
    → (transfer_by outline conversation flags).outline ≡ outline
with_outline outline None flags = refl
with_outline outline (Some conversation) flags = refl

-- conversations have the outline of a packet
pub outlined : (packet : Dissection) → (transfer_of packet).outline ≡ outline_of packet
outlined packet = with_outline (outline_of packet) _ _
