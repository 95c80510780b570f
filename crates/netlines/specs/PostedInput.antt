-- Inputs whose frames are those that messages were posted as.
use Rattle.std.specs.Prelude.{◌≡◌, ◌⊎◌, ℕ, true, None, Ok, List, All, Contains, codes, [], ◌∷◌, ◌++◌}
use Rattle.std.specs.List.{AllZip}
use Rattle.etherparse.specs.packet.Class.{FragmentName}
use Rattle.etherparse.specs.packet.Readable.{ReadMessage, message_at}
use Rattle.line_grammar.specs.Commands.{command_of}
use Rattle.line_grammar.specs.Commands.Command.{Frame}
use Rattle.netlines.specs.Answers.{message_answer}
use Rattle.netlines.specs.Letter.{LetterFits, name_of}
use Rattle.netlines.specs.Posted.{is_fragmented, posted_frames}
use Rattle.netlines.specs.PostRefusal.{post_refusal}
use Rattle.netlines.specs.Sealed.{addresses_of}
use Rattle.checksum_verdicts.specs.Verdict.{verdict_of}
use Rattle.netlines.specs.declared.letter.Letter.{Letter}

-- the frame is one of those that this message is posted as with these cuts
pub record IsPostedFrame (letter : Letter) (message cuts frame : List ℕ) : Type 0 where
  pub fits : LetterFits letter
  pub posted : post_refusal letter message cuts ≡ None
  pub among : Contains (posted_frames letter message cuts) frame

-- the frame that came on this channel is one of some message; of one that is cut, it is the one
-- message that was sent under its name there
pub record IsPostedOn (sent : FragmentName → (channel : ℕ) → List ℕ) (channel : ℕ)
    (frame : List ℕ) : Type 0 where
  pub letter : Letter
  pub message : List ℕ
  pub cuts : List ℕ
  pub is_frame : IsPostedFrame letter message cuts frame
  pub one : is_fragmented cuts ≡ true → sent (name_of letter) channel ≡ message

-- all frames of these lines were posted, with no two different messages under one name
abbrev pub AreAllPosted : (sent : FragmentName → (channel : ℕ) → List ℕ)
    → (lines : List (List ℕ)) → Type 0
AreAllPosted sent lines = All (λ line. (channel : ℕ) (frame : List ℕ)
    → command_of line ≡ Frame channel frame → IsPostedOn sent channel frame) lines

-- the line has a posted frame, and the answer returns its message: with its number, its verdict and
-- all its bytes
pub record ReturnsPosted (sent : FragmentName → (channel : ℕ) → List ℕ)
    (line answer : List ℕ) : Type 0 where
  pub channel : ℕ
  pub frame : List ℕ
  pub has_frame : command_of line ≡ Frame channel frame
  pub posted : IsPostedOn sent channel frame
  pub read : ReadMessage
  pub readable : message_at posted.letter.number.0 posted.message ≡ Ok read
  pub same : answer ≡ message_answer posted.letter.number.0
      (verdict_of (addresses_of posted.letter.version_id) read) posted.message

-- a message that came in fragments and its uncut frame have the same answer, unless the message
-- can't be read
abbrev pub AnswersAgree : (cut uncut : List ℕ) → Type 0
AnswersAgree cut uncut =
    (cut ≡ uncut) ⊎ ((cut ≡ codes "refused message") × (uncut ≡ codes "refused frame"))

-- these lines have these frames on one channel, one each
abbrev pub HaveFrames : (channel : ℕ) → (lines frames : List (List ℕ)) → Type 0
HaveFrames channel lines frames =
    AllZip (λ line frame. command_of line ≡ Frame channel frame) lines frames

-- frames that came in any order, some more than once, up to the last one that is new: then each of
-- these has come
pub record IsFirstCover (frames came : List (List ℕ)) (last : List ℕ) : Type 0 where
  pub among : All (Contains frames) (came ++ last ∷ [])
  pub all : All (Contains (came ++ last ∷ [])) frames
  pub new : Contains came last → ⊥
