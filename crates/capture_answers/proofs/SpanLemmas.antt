-- The answers to the lines of a capture's packets, where lines drop datagrams when a span has
-- passed. By the lines a list has the number of its last fragment's line, by the packets that of its
-- packet: both are before the running span, or neither is.
use Rattle.std.proofs.Common.{◌≡◌, ◌∙◌, ap, ap₂, refl, subst, sym, ℕ, ◌+◌, ◌*◌, ◌^◌, ◌-◌, ◌<◌, ◌≤◌, ◌==◌, ◌&&◌, Bool}
use Rattle.std.proofs.Common.{true, false, List, [], ◌∷◌, ◌++◌, length, append_assoc, length-append}
use Rattle.std.proofs.Common.{arith}
use Rattle.std.specs.Prelude.{codes, if◌then◌else◌, nat_lt}
use Rattle.std.specs.List.{AllByRecursion}
use Rattle.std.proofs.lemmas.Bool.{le-ltb, lt-ltb, ne_eqb}
use Rattle.captures.specs.ComeBack.{HasLine}
use Rattle.captures.specs.Lines.{Packet, blank, counted_by, forget_text, has_passed, line_of, lines_from}
use Rattle.captures.specs.Numbers.{capped}
use Rattle.captures.specs.Texts.{with_line_ends}
use Rattle.captures.specs.declared.extra.Extra.TheVariants.{Forget}
use Rattle.line_grammar.specs.Commands.Command.{Forget as Forgets}
use Rattle.line_grammar.specs.Written.{written_forget}
use Rattle.line_grammar.proofs.WrittenLemmas.{written_forget-requests, written_forget-one_line}
use Rattle.etherparse.specs.IpFragId.{rule_over, same_name}
use Rattle.etherparse.specs.PoolCalls.{Lists, after_frame, no_lists, retained_from}
use Rattle.etherparse.specs.Fragments.{Fragment, fragment}
use Rattle.etherparse.specs.declared.defrag.overlap_rule.OverlapRule.{OverlapRule}
use Rattle.etherparse.specs.Outcome.{Held, Outcome, held_after, outcome}
use Rattle.etherparse.specs.Outcome.Outcome.{Clash, Completed, Refusal, Waiting}
use Rattle.etherparse.specs.packet.Class.{Class, FragmentName, class_of}
use Rattle.etherparse.specs.packet.Class.Class.{Whole, Cut, Other, Refused}
use Rattle.netlines.specs.Answers.{class_answer, frame_meaning, outcome_answer}
use Rattle.netlines.specs.Arrivals.{lists_after_lines}
use Rattle.netlines.proofs.AnswerLemmas.{lists_after_lines-nil}
use Rattle.lines.specs.Lines.{lines_of}
use Rattle.lines.specs.LineAnswers.{answers_to_later}
use Rattle.capture_answers.specs.PacketAnswers.{Ledger, lists_since, lists_with_packet, packet_answer, spanned_answers}
use Rattle.capture_answers.specs.PacketAnswers.{spanned_from, kept}
use Rattle.capture_answers.proofs.LineLemmas.{line_listed, line_answered}
use Rattle.capture_answers.proofs.PlainLemmas.{no_lines, packet_listed, packet_answered, text_of}
use Rattle.captures.proofs.ForgetLemmas.{at}

-- ---- what is held of one datagram

-- by the lines, of which there are `lines`, and by the packets, of which the next one has this
-- number
record Alike (line first lines number : ℕ) (h g : Held) : Type 0 where
  pub same : h.fragments ≡ g.fragments
  pub since : nat_lt h.time line ≡ nat_lt g.time first
  pub by_line : h.time ≤ lines
  pub by_packet : g.time < number

module _ (line first lines number : ℕ) (h g : Held) (a : Alike line first lines number h g) where
  -- a packet comes, whose line is the next one
  module _ (starts : line ≤ lines + 1) (begins : first ≤ number) where
    stays_alike : Alike line first (lines + 1) (number + 1) h g
    stays_alike = record {
      same = a.same;
      since = a.since;
      by_line = omega (arith, a.by_line);
      by_packet = omega (arith, a.by_packet);
    }

    outcome_alike : (o : Outcome)
        → Alike line first (lines + 1) (number + 1) (held_after h (lines + 1) o) (held_after g number o)
    outcome_alike (Refusal error) = stays_alike
    outcome_alike (Clash error) = record {
      same = refl;
      since = rw (le-ltb (lines + 1) line starts, le-ltb number first begins) refl;
      by_line = omega arith;
      by_packet = omega arith;
    }
    outcome_alike (Waiting fs) = record {
      same = refl;
      since = rw (le-ltb (lines + 1) line starts, le-ltb number first begins) refl;
      by_line = omega arith;
      by_packet = omega arith;
    }
    outcome_alike (Completed text) = record {
      same = refl;
      since = rw (le-ltb (lines + 1) line starts, le-ltb number first begins) refl;
      by_line = omega arith;
      by_packet = omega arith;
    }

    tested_alike : (rule : OverlapRule) (f : Fragment) (b : Bool)
        → Alike line first (lines + 1) (number + 1)
        (if b then held_after h (lines + 1) (outcome rule h.fragments f) else h)
        (if b then held_after g number (outcome rule g.fragments f) else g)
    tested_alike rule f true =
        subst (λ (fs : List Fragment). Alike line first (lines + 1) (number + 1)
        (held_after h (lines + 1) (outcome rule h.fragments f))
        (held_after g number (outcome rule fs f))) a.same
        (outcome_alike (outcome rule h.fragments f))
    tested_alike rule f false = stays_alike

    frame_alike : (name : FragmentName) (channel other : ℕ) (class : Class)
        → Alike line first (lines + 1) (number + 1)
        (after_frame name channel class (lines + 1) other h) (after_frame name channel class number other g)
    frame_alike name channel other (Cut own offset more bytes) =
        tested_alike (rule_over name.addresses) (fragment offset more bytes)
        (same_name own name && (other == channel))
    frame_alike name channel other (Whole addresses protocol bytes message) = stays_alike
    frame_alike name channel other Other = stays_alike
    frame_alike name channel other Refused = stays_alike

  -- a span has passed, and the next line and packet begin another
  dropped_alike : (b c : Bool) → b ≡ c
      → Alike (lines + 1) number (lines + 1) number
      (if b then record { fragments = []; time = h.time } else h)
      (if c then record { fragments = []; time = g.time } else g)
  dropped_alike true true is = record {
    same = refl;
    since = rw (
      lt-ltb h.time (lines + 1) (omega (arith, a.by_line)),
      lt-ltb g.time number a.by_packet,
    ) refl;
    by_line = omega (arith, a.by_line);
    by_packet = a.by_packet;
  }
  dropped_alike true false is = cc
  dropped_alike false true is = cc
  dropped_alike false false is = record {
    same = a.same;
    since = rw (
      lt-ltb h.time (lines + 1) (omega (arith, a.by_line)),
      lt-ltb g.time number a.by_packet,
    ) refl;
    by_line = omega (arith, a.by_line);
    by_packet = a.by_packet;
  }

  forget_alike : Alike (lines + 1) number (lines + 1) number (retained_from line h) (retained_from first g)
  forget_alike = dropped_alike (nat_lt h.time line) (nat_lt g.time first) a.since

-- ---- all datagrams

abbrev AreAlike : (line first lines number : ℕ) → Lists → Lists → Type 0
AreAlike line first lines number lists own = (name : FragmentName) (channel : ℕ)
    → Alike line first lines number (lists name channel) (own name channel)

class_alike : (lists own : Lists) (line first n number : ℕ) → AreAlike line first n number lists own
    → (class : Class) (channel : ℕ) → class_answer lists class channel ≡ class_answer own class channel
class_alike lists own line first n number all (Whole addresses protocol bytes message) channel = refl
class_alike lists own line first n number all (Cut name offset more bytes) channel =
    ap (λ (fs : List Fragment). outcome_answer name.addresses name.number
    (outcome (rule_over name.addresses) fs (fragment offset more bytes)))
    ((all name channel).same)
class_alike lists own line first n number all Other channel = refl
class_alike lists own line first n number all Refused channel = refl

-- ---- the ledger after some lines, where spans are counted

module _ (seconds lines begin line time : ℕ) (some : 0 < lines) (few : lines + 2 < 2 ^ 64) where
  none : (lines == 0) ≡ false
  none = ne_eqb lines 0 (λ e. absurd (omega arith))

  counted_passed : counted_by true (at seconds lines begin line) time
      ≡ at seconds (lines + 2) time (lines + 1)
  counted_passed =
      let two : capped (lines + 2) ≡ lines + 2 = omega arith in
      let one : capped (lines + 1) ≡ lines + 1 = omega arith in
      rw none (ap₂ (λ (n k : ℕ). at seconds n time k) two one)

  counted_more : counted_by false (at seconds lines begin line) time
      ≡ at seconds (lines + 1) begin line
  counted_more =
      let one : capped (lines + 1) ≡ lines + 1 = omega arith in
      rw none (ap (λ (n : ℕ). at seconds n begin line) one)

-- ---- packet by packet

-- after these lines, with the next packet's number and the lists by packets
record Come (left line first number : ℕ) (earlier : List (List ℕ)) (own : Lists) : Type 0 where
  pub some : 0 < length earlier
  pub named : line ≤ length earlier
  pub started : first ≤ number
  pub few : length earlier + 2 * left + 1 < 2 ^ 64
  pub alike : AreAlike line first (length earlier) number (lists_after_lines earlier) own

-- one packet's line
packet_come : (left line first number : ℕ) (earlier : List (List ℕ)) (own : Lists) (packet : Packet)
    → HasLine packet → line ≤ length earlier + 1 → first ≤ number
    → length earlier + 1 + 2 * left + 1 < 2 ^ 64
    → AreAlike line first (length earlier) number (lists_after_lines earlier) own
    → Come left line first (number + 1) (earlier ++ text_of packet ∷ [])
    (lists_with_packet own number packet)
packet_come left line first number earlier own packet fits named started few alike =
    let count : length earlier + 1 ≡ length (earlier ++ text_of packet ∷ []) =
    sym (length-append earlier (text_of packet ∷ [])) in
    record {
      some = omega (arith, count);
      named = omega (arith, count);
      started = omega arith;
      few = omega (arith, count);
      alike = λ name channel.
          subst (λ (n : ℕ). Alike line first n (number + 1)
          (lists_after_lines (earlier ++ text_of packet ∷ []) name channel)
          (lists_with_packet own number packet name channel)) count
          (subst (λ (l : Lists). Alike line first (length earlier + 1) (number + 1) (l name channel)
          (lists_with_packet own number packet name channel)) (sym (packet_listed earlier packet fits))
          (frame_alike line first (length earlier) number _ _ (alike name channel) named started
          name channel packet.origin.channel (class_of packet.frame)));
    }

module _ (seconds : ℕ) (packet : Packet) (packets : List Packet) (fits : HasLine packet)
    (begin line first number : ℕ) (earlier : List (List ℕ)) (own : Lists)
    (come : Come (length packets + 1) line first number earlier own)
    (next : (begin line first number : ℕ) (earlier : List (List ℕ)) (own : Lists)
    → Come (length packets) line first number earlier own
    → answers_to_later frame_meaning.answer earlier
    (lines_of (lines_from (at seconds (length earlier) begin line) packets))
    ≡ with_line_ends
    (spanned_from seconds (at seconds (length earlier) begin line) first own number packets)) where
  abbrev ledger : Ledger
  ledger = at seconds (length earlier) begin line

  abbrev counted : Bool → Ledger
  counted passed = counted_by passed ledger packet.origin.time

  -- the answers where a span has passed, or has not
  abbrev Answered : Bool → Type 0
  Answered passed =
      answers_to_later frame_meaning.answer earlier
      (lines_of ((forget_text passed ledger ++ line_of packet) ++ lines_from (counted passed) packets))
      ≡ with_line_ends ((if passed then codes "ok" ∷ [] else [])
      ++ packet_answer (kept passed first own) packet
      ∷ spanned_from seconds (counted passed) (if passed then number else first)
      (lists_with_packet (kept passed first own) number packet) (number + 1) packets)

  within : Answered false
  within =
      let mid = earlier ++ text_of packet ∷ [] in
      let count : length earlier + 1 ≡ length mid = sym (length-append earlier (text_of packet ∷ [])) in
      let goes : counted false ≡ at seconds (length mid) begin line =
      counted_more seconds (length earlier) begin line packet.origin.time come.some
      (omega (arith, come.few))
      ∙ ap (λ (n : ℕ). at seconds n begin line) count in
      ap (λ (l : Ledger). answers_to_later frame_meaning.answer earlier
      (lines_of (line_of packet ++ lines_from l packets))) goes
      ∙ packet_answered earlier packet fits
      (lines_from (at seconds (length mid) begin line) packets)
      ∙ ap₂ (λ (a later : List ℕ). a ++ 10 ∷ later)
      (class_alike (lists_after_lines earlier) own line first (length earlier) number come.alike
      (class_of packet.frame) packet.origin.channel)
      (next begin line first (number + 1) mid (lists_with_packet own number packet)
      (packet_come (length packets) line first number earlier own packet fits
      (omega (arith, come.named)) come.started (omega (arith, come.few)) come.alike))
      ∙ ap (λ (l : Ledger). packet_answer own packet
      ++ 10 ∷ with_line_ends (spanned_from seconds l first
      (lists_with_packet own number packet) (number + 1) packets)) (sym goes)

  passed : Answered true
  passed =
      let forgets = written_forget line in
      let fit : line < 2 ^ 64 = omega (arith, come.named, come.few) in
      let with_forget_line = earlier ++ forgets ∷ [] in
      let one : length earlier + 1 ≡ length with_forget_line = sym (length-append earlier (forgets ∷ [])) in
      let mid = with_forget_line ++ text_of packet ∷ [] in
      let count : length with_forget_line + 1 ≡ length mid = sym (length-append with_forget_line (text_of packet ∷ [])) in
      let left = lists_since first own in
      let is_one_line = written_forget-one_line line fit in
      let requests = written_forget-requests line fit in
      let goes : counted true ≡ at seconds (length mid) packet.origin.time (length with_forget_line) =
      counted_passed seconds (length earlier) begin line packet.origin.time come.some
      (omega (arith, come.few))
      ∙ ap₂ (λ (n k : ℕ). at seconds n packet.origin.time k) (omega (arith, one, count)) one in
      let rest = lines_from (at seconds (length mid) packet.origin.time (length with_forget_line)) packets in
      let alike : AreAlike (length with_forget_line) number (length with_forget_line) number (lists_after_lines with_forget_line) left =
      λ name channel.
      subst (λ (n : ℕ). Alike n number n number (lists_after_lines with_forget_line name channel)
      (left name channel)) one
      (subst (λ (l : Lists). Alike (length earlier + 1) number (length earlier + 1) number
      (l name channel) (left name channel))
      (sym (line_listed earlier forgets [] (Forgets line) is_one_line requests))
      (forget_alike line first (length earlier) number _ _ (come.alike name channel))) in
      ap (λ (l : Ledger). answers_to_later frame_meaning.answer earlier
      (lines_of ((forget_text true ledger ++ line_of packet) ++ lines_from l packets))) goes
      ∙ ap (λ (t : List ℕ). answers_to_later frame_meaning.answer earlier (lines_of t))
      (append_assoc (forgets ++ 10 ∷ []) (line_of packet) rest
      ∙ append_assoc forgets (10 ∷ []) (line_of packet ++ rest))
      ∙ line_answered earlier forgets (line_of packet ++ rest) (Forgets line) is_one_line requests
      ∙ ap (λ (t : List ℕ). codes "ok" ++ 10 ∷ t)
      (packet_answered with_forget_line packet fits rest
      ∙ ap₂ (λ (a later : List ℕ). a ++ 10 ∷ later)
      (class_alike (lists_after_lines with_forget_line) left (length with_forget_line) number (length with_forget_line) number alike
      (class_of packet.frame) packet.origin.channel)
      (next packet.origin.time (length with_forget_line) number (number + 1) mid
      (lists_with_packet left number packet)
      (packet_come (length packets) (length with_forget_line) number number with_forget_line left packet fits
      (omega arith) (omega arith) (omega (arith, one, come.few)) alike))
      ∙ ap (λ (l : Ledger). packet_answer left packet
      ++ 10 ∷ with_line_ends (spanned_from seconds l number
      (lists_with_packet left number packet) (number + 1) packets)) (sym goes))

  either_answered : (b : Bool) → Answered b
  either_answered true = passed
  either_answered false = within

spans_from : (seconds : ℕ) (packets : List Packet) → AllByRecursion HasLine packets
    → (begin line first number : ℕ) (earlier : List (List ℕ)) (own : Lists)
    → Come (length packets) line first number earlier own
    → answers_to_later frame_meaning.answer earlier
    (lines_of (lines_from (at seconds (length earlier) begin line) packets))
    ≡ with_line_ends
    (spanned_from seconds (at seconds (length earlier) begin line) first own number packets)
spans_from seconds [] all begin line first number earlier own come = no_lines earlier
spans_from seconds (packet ∷ packets) all begin line first number earlier own come =
    either_answered seconds packet packets all.0 begin line first number earlier own
    (record {
      some = come.some;
      named = come.named;
      started = come.started;
      few = omega (arith, come.few);
      alike = come.alike;
    })
    (spans_from seconds packets all.1)
    (has_passed seconds (at seconds (length earlier) begin line) packet.origin.time)

-- before the first line
none_alike : AreAlike 1 1 0 1 (lists_after_lines []) no_lists
none_alike name channel =
    subst (λ (l : Lists). Alike 1 1 0 1 (l name channel) (no_lists name channel))
    (sym lists_after_lines-nil)
    (record { same = refl; since = refl; by_line = omega arith; by_packet = omega arith })

pub spans_answered : (seconds : ℕ) (packets : List Packet) → AllByRecursion HasLine packets
    → length packets < 2 ^ 63
    → answers_to_later frame_meaning.answer [] (lines_of (lines_from (blank (Forget seconds)) packets))
    ≡ with_line_ends (spanned_answers seconds packets)
spans_answered seconds [] all few = no_lines []
spans_answered seconds (packet ∷ packets) all few =
    packet_answered [] packet all.0 (lines_from (at seconds 1 packet.origin.time 1) packets)
    ∙ ap₂ (λ (l : Lists) (later : List ℕ). packet_answer l packet ++ 10 ∷ later) lists_after_lines-nil
    (spans_from seconds packets all.1 packet.origin.time 1 1 2 (text_of packet ∷ [])
    (lists_with_packet no_lists 1 packet)
    (packet_come (length packets) 1 1 1 [] no_lists packet all.0 (omega arith) (omega arith)
    (omega (arith, few)) none_alike))
