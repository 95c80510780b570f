use Rattle.std.proofs.Common.{ap, arith, length, length-append, Option}
use Rattle.captures.specs.Framed.{FrameParts, frame_bytes, made_header}
use Rattle.captures.specs.declared.link.header.Header.{Header}
use Rattle.captures.proofs.link.frame.Frame.len.Goals as goal

pub returns-in-Some : goal.returns-in-Some
returns-in-Some c =
    let inside = c.self.inside in
    let whole = ap (λ (f : FrameParts). length (frame_bytes f)) c.self.view_is in
    let made = ap (λ (h : Option Header). length (made_header h)) c.in-Some.is in
    omega (arith, length-append (made_header inside.header) inside.rest.now)
