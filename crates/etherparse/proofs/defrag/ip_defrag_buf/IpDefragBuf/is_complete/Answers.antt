use Rattle.std.proofs.Common.{Bool, true, List, ◌≡◌, ◌∙◌, ap, subst, sym, ◌↔◌}
use Rattle.std.proofs.lemmas.Bool.Decides.{same_from_decides}
use Rattle.std.specs.Prelude.{IsTrue}
use Rattle.etherparse.specs.Fragments.{Fragment, Complete, is_complete}
use Rattle.etherparse.specs.IpDefragBuf.{ShowsAccepted, is_whole}
use Rattle.etherparse.proofs.Complete.{whole_iff, complete_Decides}
use Rattle.etherparse.proofs.defrag.ip_defrag_buf.IpDefragBuf.is_complete.Goals as goal

test_is : (b : Bool) (fs : List Fragment) → (b ≡ true) ↔ Complete fs → b ≡ is_complete fs
test_is b fs h = same_from_decides b (is_complete fs) (h.0, h.1) (complete_Decides fs)

pub returns-clause-decided : goal.returns-clause-decided
returns-clause-decided g c fs shows =
    let test = rw c.deref.ensures.value at c.is_one_whole.ensures ∙ ap is_whole c.self.view_is in
    test ∙ test_is _ fs (whole_iff c.args.self.now fs shows)

pub returns-clause-complete : goal.returns-clause-complete
returns-clause-complete g c fs shows =
    let test = rw c.deref.ensures.value at c.is_one_whole.ensures ∙ ap is_whole c.self.view_is in
    subst (λ (b : Bool). IsTrue b ↔ Complete fs) (sym test) (whole_iff c.args.self.now fs shows)

pub returns-clause-shows_accepted : goal.returns-clause-shows_accepted
returns-clause-shows_accepted g c = subst ShowsAccepted c.self.view_is c.self.invariant.shows_accepted
