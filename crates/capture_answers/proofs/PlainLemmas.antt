-- The answers to the lines of a capture's packets.
use Rattle.std.proofs.Common.{◌≡◌, ◌∙◌, ap, ap₂, refl, ℕ, ◌+◌, List, [], ◌∷◌, ◌++◌, append_assoc, length-append, arith}
use Rattle.std.specs.List.{AllByRecursion}
use Rattle.captures.specs.ComeBack.{HasLine}
use Rattle.captures.specs.Lines.{Packet, blank, line_of, lines_from}
use Rattle.captures.specs.Texts.{with_line_ends}
use Rattle.captures.specs.declared.extra.Extra.TheVariants.{Nothing}
use Rattle.line_grammar.specs.Commands.Command.{Frame}
use Rattle.line_grammar.specs.Written.{written_frame}
use Rattle.line_grammar.proofs.WrittenLemmas.{written_frame-requests, written_frame-one_line}
use Rattle.etherparse.specs.PoolCalls.{Lists}
use Rattle.netlines.specs.Answers.{frame_meaning}
use Rattle.netlines.specs.Arrivals.{lists_after_lines}
use Rattle.lines.specs.Lines.{lines_of, split}
use Rattle.lines.specs.LineAnswers.{number_after, answers_to_later}
use Rattle.capture_answers.specs.PacketAnswers.{answers_from, lists_with_packet, packet_answer}
use Rattle.capture_answers.proofs.LineLemmas.{line_listed, line_answered}

-- a packet's line without its end
abbrev pub text_of : Packet → List ℕ
text_of packet = written_frame packet.origin.channel packet.frame

pub no_lines : (earlier : List (List ℕ)) → answers_to_later frame_meaning.answer earlier (lines_of []) ≡ []
unfolding split
no_lines earlier = refl

module _ (earlier : List (List ℕ)) (packet : Packet) (fits : HasLine packet) where
  pub packet_answered : (rest : List ℕ)
      → answers_to_later frame_meaning.answer earlier (lines_of (line_of packet ++ rest))
      ≡ packet_answer (lists_after_lines earlier) packet
      ++ 10 ∷ answers_to_later frame_meaning.answer (earlier ++ text_of packet ∷ []) (lines_of rest)
  packet_answered rest =
      ap (λ (t : List ℕ). answers_to_later frame_meaning.answer earlier (lines_of t))
      (append_assoc (text_of packet) (10 ∷ []) rest)
      ∙ line_answered earlier (text_of packet) rest (Frame packet.origin.channel packet.frame)
      (written_frame-one_line packet.origin.channel packet.frame fits.number fits.bytes)
      (written_frame-requests packet.origin.channel packet.frame fits.number fits.bytes fits.some
      fits.short)

  pub packet_listed : lists_after_lines (earlier ++ text_of packet ∷ [])
      ≡ lists_with_packet (lists_after_lines earlier) (number_after earlier) packet
  packet_listed =
      line_listed earlier (text_of packet) [] (Frame packet.origin.channel packet.frame)
      (written_frame-one_line packet.origin.channel packet.frame fits.number fits.bytes)
      (written_frame-requests packet.origin.channel packet.frame fits.number fits.bytes fits.some
      fits.short)

pub plain_answered : (packets : List Packet) → AllByRecursion HasLine packets
    → (earlier : List (List ℕ)) (lists : Lists) (number : ℕ) → lists_after_lines earlier ≡ lists
    → number_after earlier ≡ number
    → answers_to_later frame_meaning.answer earlier (lines_of (lines_from (blank Nothing) packets))
    ≡ with_line_ends (answers_from lists number packets)
plain_answered [] all earlier lists number shown counted = no_lines earlier
plain_answered (packet ∷ packets) all earlier lists number shown counted =
    packet_answered earlier packet all.0 (lines_from (blank Nothing) packets)
    ∙ ap₂ (λ (l : Lists) (later : List ℕ). packet_answer l packet ++ 10 ∷ later) shown
    (plain_answered packets all.1 (earlier ++ text_of packet ∷ [])
    (lists_with_packet lists number packet) (number + 1)
    (packet_listed earlier packet all.0
    ∙ ap₂ (λ (l : Lists) (n : ℕ). lists_with_packet l n packet) shown counted)
    (omega (arith, length-append earlier (text_of packet ∷ []), counted)))
