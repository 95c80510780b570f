use Rattle.std.proofs.Common.{sym, ap, ◌∙◌, ◌++◌, ◌==◌, length, List, ℕ, Option}
use Rattle.captures.specs.Framed.{frame_bytes, made_header}
use Rattle.captures.specs.declared.link.header.Header.{Header}
use Rattle.captures.proofs.FramedLemmas.{header_some}
use Rattle.captures.proofs.link.frame.Frame.is_empty.Goals as goal

pub returns-in-Some : goal.returns-in-Some
returns-in-Some c =
    let inside = c.self.inside in
    sym (ap (λ (l : List ℕ). length l == 0) (sym (ap frame_bytes c.self.view_is)
    ∙ ap (λ (h : Option Header). made_header h ++ inside.rest.now) c.in-Some.is)
    ∙ header_some _ inside.rest.now)
