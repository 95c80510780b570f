-- What is known of what a session holds when it is taken, and when it is put back.
use Rattle.std.proofs.Common.{◌≡◌, ◌∙◌, refl, sym, ap, subst, arith, length-append, ℕ, zero, suc, ◌≤◌, ◌<◌, ◌+◌, Bool}
use Rattle.std.proofs.Common.{List, ◌++◌, length, Option, Some, true}
use Rattle.std.proofs.lemmas.List.{length-take-le}
use Rattle.std.specs.Prelude.{take, unwrap_or}
use Rattle.netlines.specs.Answers.{frame_meaning}
use Rattle.lines.specs.Sessions.{IsWrittenOut, Took, answers}
use Rattle.netlines_c.specs.FrameSessions.{IsSession, TookText, shows_lines}
use Rattle.netlines_c.specs.declared.session.NetlinesSession.{NetlinesSession}
use Rattle.netlines_c.specs.declared.frame_session.FrameSession.{FrameSession}

same_session : (x y : FrameSession) (m : Option FrameSession) → m ≡ Some x → m ≡ Some y → x ≡ y
same_session x y m is this = ap (λ (n : Option FrameSession). unwrap_or n x) (sym is ∙ this)

-- what is taken out of the session took the text
pub taken_took : (s : NetlinesSession) (ended : Bool) (y : FrameSession) (text returned : List ℕ)
    → TookText s ended text returned → s.held.value ≡ Some y
    → Took frame_meaning shows_lines y.session text returned
taken_took s ended y text returned t held =
    subst (λ (x : FrameSession). Took frame_meaning shows_lines x.session text returned)
    (same_session t.frame_session y s.held.value t.held held) t.took

pub taken_written : (s : NetlinesSession) (y : FrameSession) → IsSession s → s.is_open ≡ true
    → s.held.value ≡ Some y → IsWrittenOut y.session
taken_written s y is_session is_open held =
    let old = is_session is_open in
    subst (λ (x : FrameSession). IsWrittenOut x.session)
    (same_session old.0 y s.held.value old.1 held) old.2

-- what is put back
pub put_took : (s : NetlinesSession) (new : _) (ended : Bool) (text returned : List ℕ)
    → s.held.value ≡ Some (record { session = new }) → s.is_open ≡ true
    → new.has_ended ≡ ended → Took frame_meaning shows_lines new text returned
    → TookText s ended text returned
put_took s new ended text returned held is_open is took = record {
  frame_session = record { session = new };
  is_open = is_open;
  held = held;
  ended = is;
  took = took;
}

-- of a value that is this one
pub took_of : (x y : FrameSession) (text returned : List ℕ) → x ≡ y
    → Took frame_meaning shows_lines y.session text returned
    → Took frame_meaning shows_lines x.session text returned
took_of x y text returned same took =
    subst (λ (z : FrameSession). Took frame_meaning shows_lines z.session text returned) (sym same) took

pub written_of : (x y : FrameSession) → x ≡ y → IsWrittenOut y.session → IsWrittenOut x.session
written_of x y same written = subst (λ (z : FrameSession). IsWrittenOut z.session) (sym same) written

pub ended_of : (x y : FrameSession) → x ≡ y → x.session.has_ended ≡ y.session.has_ended
ended_of x y same = ap (λ (z : FrameSession). z.session.has_ended) same

-- whether it has ended is known
pub ended_alike : (s : NetlinesSession) (a b : Bool) (text returned : List ℕ) → a ≡ b
    → TookText s a text returned → TookText s b text returned
ended_alike s a b text returned is took = subst (λ c. TookText s c text returned) is took

pub answers_ended : (a b : Bool) (text : List ℕ) → a ≡ b
    → answers frame_meaning a text ≡ answers frame_meaning b text
answers_ended a b text is = ap (λ c. answers frame_meaning c text) is

-- where all answers were written, none is left
pub nothing_left : (returned output answers : List ℕ) (result written : ℕ) → returned ≡ answers
    → (result ≡ 0 → (written ≤ length output) × (returned ++ take written output ≡ answers))
    → (result ≡ 1 → (length output < written) × (length returned + written ≡ length answers))
    → result ≤ 1 → (result ≡ 0) × (written ≡ 0)
nothing_left returned output answers zero written all zeros ones most =
    let out = zeros refl in (
      refl,
      omega (
        arith,
        ap length (out.1 ∙ sym all),
        length-append returned (take written output),
        length-take-le written output out.0,
      ),
    )
nothing_left returned output answers (suc zero) written all zeros ones most =
    let none = ones refl in absurd (omega (arith, none.0, none.1, ap length all))
nothing_left returned output answers (suc (suc n)) written all zeros ones most =
    absurd (omega (arith, most))
