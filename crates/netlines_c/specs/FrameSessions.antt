-- A session as C holds it.
use Rattle.std.specs.Prelude.{◌≡◌, ℕ, Bool, true, List, Some}
use Rattle.line_grammar.specs.Reads.{Reads}
use Rattle.etherparse.specs.PoolCalls.{ShowsLists}
use Rattle.netlines.specs.Answers.{frame_meaning}
use Rattle.netlines.specs.Arrivals.{lists_after_lines}
use Rattle.netlines.specs.declared.frames.frame_answerer.FrameAnswerer.{FrameAnswerer}
use Rattle.lines.specs.Sessions.{IsWrittenOut, Took}
use Rattle.netlines_c.specs.declared.session.NetlinesSession.{NetlinesSession}
use Rattle.netlines_c.specs.declared.frame_session.FrameSession.{FrameSession}

-- what is known after these lines, where this prefix of the next one is read
abbrev pub shows_lines : {S H : Type 0} → FrameAnswerer S H → List (List ℕ) → List ℕ → Type 0
shows_lines answerer earlier prefix =
    ShowsLists answerer.pool (lists_after_lines earlier) × Reads prefix answerer.reader

-- one that is open holds a value, in which no answer waits before those that are written next
abbrev pub IsSession : NetlinesSession → Type 0
IsSession s = s.is_open ≡ true
    → (frame_session : FrameSession) × (s.held.value ≡ Some frame_session) × IsWrittenOut frame_session.session

-- an open session took this text, has written these bytes of the answers to it, and its text has
-- ended or not
pub record TookText (s : NetlinesSession) (has_ended : Bool) (text returned : List ℕ) : Type 0 where
  pub frame_session : FrameSession
  pub is_open : s.is_open ≡ true
  pub held : s.held.value ≡ Some frame_session
  pub ended : frame_session.session.has_ended ≡ has_ended
  pub took : Took frame_meaning shows_lines frame_session.session text returned
