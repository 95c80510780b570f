use Rattle.std.proofs.Common.{◌∙◌, refl, sym}
use Rattle.tcp_streams.proofs.sparse_bytes.SparseBytes.end_after.Goals as goal

pub returns-in-Some : goal.returns-in-Some
returns-in-Some c = let next = sym c.after.ensures ∙ c.in-Some.is in rw (← c.self.view_is, next) refl

pub returns-in-None : goal.returns-in-None
returns-in-None c =
    let none = sym c.after.ensures ∙ c.in-None.is in c.end.ensures ∙ rw (← c.self.view_is, none) refl
