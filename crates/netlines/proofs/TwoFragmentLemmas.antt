-- One message in two fragments: its frames are posted, and its lines have them.
use Rattle.std.proofs.Common.{◌≡◌, sym, refl, subst, ℕ, ◌<◌, lit<, lit≤, List, ◌∷◌, arith, []}
use Rattle.std.proofs.lemmas.List.Elements.{All-nil, All-contains_itself}
use Rattle.std.specs.Prelude.{Contains}
use Rattle.hex.specs.Hex.{decode_pairs}
use Rattle.etherparse.specs.base.Bytes.{IsBytes}
use Rattle.etherparse.specs.base.Sum.{fold, total}
use Rattle.etherparse.specs.packet.Tags.{tags_in}
use Rattle.line_grammar.specs.Commands.{Command, command_of}
use Rattle.line_grammar.specs.Commands.Command.{Frame}
use Rattle.netlines.specs.Arrivals.{HasFragment}
use Rattle.netlines.specs.Letter.{LetterFits}
use Rattle.netlines.specs.Posted.{posted_frames}
use Rattle.netlines.specs.PostedInput.{AreAllPosted, IsFirstCover, IsPostedOn}
use Rattle.netlines.specs.TwoFragments.{first_fragment, first_frame, first_line, second_fragment, second_frame}
use Rattle.netlines.specs.TwoFragments.{second_line, udp_letter, udp_message, udp_name}

-- ---- the fragments of the lines

first_command : command_of first_line ≡ Frame 0 first_frame
unfolding command_of decode_pairs
first_command = refl

second_command : command_of second_line ≡ Frame 0 second_frame
unfolding command_of decode_pairs
second_command = refl

pub first_has_fragment : HasFragment first_line udp_name 0 first_fragment
unfolding tags_in
first_has_fragment = record { bytes = first_frame; frame = first_command; as_fragment = refl }

pub second_has_fragment : HasFragment second_line udp_name 0 second_fragment
unfolding tags_in
second_has_fragment = record { bytes = second_frame; frame = second_command; as_fragment = refl }

-- ---- posted

letter_fits : LetterFits udp_letter
letter_fits = record {
  source = refl;
  destination = refl;
  ids = All-nil _;
  few = lit≤ tt;
  addresses = (refl, refl);
  identification = lit< tt;
}

frames_are : posted_frames udp_letter udp_message (8 ∷ []) ≡ first_frame ∷ second_frame ∷ []
unfolding fold total
frames_are = refl

posted_on : (frame : List ℕ) → Contains (posted_frames udp_letter udp_message (8 ∷ [])) frame
    → (channel : ℕ) → IsPostedOn (λ name other. udp_message) channel frame
posted_on frame among channel = record {
  letter = udp_letter;
  message = udp_message;
  cuts = 8 ∷ [];
  is_frame = record { fits = letter_fits; posted = refl; among = among };
  one = λ cut. refl;
}

pub first_posted : (channel : ℕ) → IsPostedOn (λ name other. udp_message) channel first_frame
first_posted =
    posted_on first_frame
    (subst (λ (frames : List (List ℕ)). Contains frames first_frame) (sym frames_are)
    (0, lit< tt, refl))

pub second_posted : (channel : ℕ) → IsPostedOn (λ name other. udp_message) channel second_frame
second_posted =
    posted_on second_frame
    (subst (λ (frames : List (List ℕ)). Contains frames second_frame) (sym frames_are)
    (1, lit< tt, refl))

abbrev frame_in : Command → List ℕ
frame_in (Frame channel frame) = frame
frame_in command = []

line_posted : (line frame : List ℕ) → command_of line ≡ Frame 0 frame
    → ((channel : ℕ) → IsPostedOn (λ name other. udp_message) channel frame)
    → (channel : ℕ) (other : List ℕ) → command_of line ≡ Frame channel other
    → IsPostedOn (λ name other. udp_message) channel other
line_posted line frame has posted channel other is = grind arith

pub lines_posted : AreAllPosted (λ name channel. udp_message) (first_line ∷ second_line ∷ [])
lines_posted =
    let is_posted : List ℕ → Type 0 = λ line. (channel : ℕ) (frame : List ℕ)
    → command_of line ≡ Frame channel frame
    → IsPostedOn (λ name other. udp_message) channel frame in
    grind (arith, line_posted, first_command, first_posted, second_command, second_posted)

not_come : Contains (first_frame ∷ []) second_frame → ⊥
not_come h = grind arith

pub cover : IsFirstCover (posted_frames udp_letter udp_message (8 ∷ [])) (first_frame ∷ [])
    second_frame
cover =
    let itself = All-contains_itself (first_frame ∷ second_frame ∷ []) in
    subst (λ (frames : List (List ℕ)). IsFirstCover frames (first_frame ∷ []) second_frame)
    (sym frames_are)
    (record { among = itself; all = itself; new = not_come })

-- ---- changed

pub two_bytes : (a b : ℕ) → a < 256 → b < 256 → IsBytes (a ∷ b ∷ [])
two_bytes a b small small' h = grind arith

pub one_byte : (a : ℕ) → a < 256 → IsBytes (a ∷ [])
one_byte a small h = grind arith
