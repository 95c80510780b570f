use Rattle.std.proofs.Common.{ap, ◌∙◌, take, drop, List, ℕ}
use Rattle.std.proofs.lemmas.List.{take_rest}
use Rattle.ep_base.specs.Sum.{fold, total}
use Rattle.ep_tcpudp.proofs.TcpSums.{segment_around}
use Rattle.ep_tcpudp.proofs.transport.tcp_view.TcpView.sum_after.Goals as goal

pub returns : goal.returns
returns g c = λ prefix sums.
    let before = ap (λ (xs : List ℕ). take 16 xs) c.self.view_is in
    let after = take_rest c.self.inside.slice.now 18
    ∙ ap (λ (xs : List ℕ). drop 18 xs) c.self.view_is in
    rw (before, after) at (c.message_sum.ensures.around prefix sums)
    ∙ ap (λ (text : List ℕ). fold (total text)) (segment_around prefix c.args.self.now 0)
