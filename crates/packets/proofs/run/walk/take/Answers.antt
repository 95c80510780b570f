use Rattle.std.proofs.Common.{◌≡◌, ◌+◌, ◌∙◌, sym, ap, subst, ◌++◌, ◌∷◌, [], ℕ, Option, Some, append-nil, cond}
use Rattle.captures.specs.Numbers.{capped}
use Rattle.etherparse.specs.PoolCalls.{lists_with_frame}
use Rattle.ep_packet.specs.Class.{sliced_class}
use Rattle.packets.specs.Started.{ShowsStarted, ShowsFragments, started_with}
use Rattle.packets.specs.Expressions.{lets_through}
use Rattle.packets.specs.Courses.{begin_at, class_of, first_at, lists_at, order_at}
use Rattle.packets.specs.ReassemblyMemory.{ShowsOrder, dropped_within, lists_within, order_with, order_within}
use Rattle.packets.proofs.run.walk.take.Goals.{then-matches+in_default-visit, else-matches}
use Rattle.packets.proofs.run.walk.take.Goals as goal

pub returns : goal.returns
returns g c course start seen memory has goes =
    let packet = c.args.packet.now in
    let reported = c.in-Ok.dissection in
    let forget = c.args.rules.now.forget in
    let there = subst (λ b. ShowsFragments c.drop_idle.new.dissector.datagrams
    (lists_at forget b packet.time course.lists)) has.begin
    (c.drop_idle.ensures.datagrams course.lists has.lists) in
    let lists = lists_at forget course.begin packet.time course.lists in
    let answered = c.in-Ok.ensures.answered lists there in
    let started = c.in-Ok.ensures.started lists course.started there
    (c.drop_idle.ensures.started course.started has.started) in
    let order = order_at forget course.begin packet.time course.lists course.order in
    let in_order = subst (λ b. ShowsOrder c.drop_idle.new.dissector.datagrams
    (order_at forget b packet.time course.lists course.order)) has.begin
    (c.drop_idle.ensures.order course.lists course.order has.lists has.order_is) in
    let ordered = c.in-Ok.ensures.order lists order there in_order in
    let lists' = lists_with_frame lists (class_of packet) packet.time packet.interface in
    let order' = order_with lists lists' (class_of packet) packet.interface order in
    let end = c.keep_within.new.self in
    let shows' = subst (λ l. ShowsFragments c.dissect.new.self.datagrams
    (lists_with_frame lists (sliced_class l) packet.time packet.interface)) c.in-Ok.ensures.layers answered.1 in
    let has' = subst (λ l. ShowsOrder c.dissect.new.self.datagrams
    (order_with lists (lists_with_frame lists (sliced_class l) packet.time packet.interface) (sliced_class l)
    packet.interface order)) c.in-Ok.ensures.layers ordered in
    let kept = subst (λ (n : ℕ). ShowsFragments end.datagrams (lists_within n lists' order')
    × ShowsOrder end.datagrams (order_within n lists' order')
    × (end.dropped ≡ capped (c.dissect.new.self.dropped + dropped_within n lists' order'))) (sym memory)
    (c.keep_within.ensures.datagrams lists' order' shows' has') in
    let first = c.in-Ok.ensures.first_time.0
    ∙ ap (λ (f : Option ℕ). first_at f packet.time) (c.drop_idle.ensures.first_time ∙ has.first) in
    let previous = c.in-Ok.ensures.last_time.0
    ∙ ap (λ (l : Option ℕ). first_at l packet.time) (c.drop_idle.ensures.last_time ∙ has.last) in (
      reported,
      record {
        number = c.in-Ok.ensures.number;
        first_time = first;
        previous_time = previous;
        time = c.in-Ok.ensures.arrival.0;
        interface = c.in-Ok.ensures.arrival.1;
        link = c.in-Ok.ensures.arrival.2;
        header = c.in-Ok.ensures.arrival.3;
        bytes = c.in-Ok.ensures.arrival.4;
        len = c.in-Ok.ensures.arrival.5;
        captured_len = c.in-Ok.ensures.arrival.6;
        wire_len = c.in-Ok.ensures.arrival.7;
        layers = c.in-Ok.ensures.layers;
        answered = answered.0;
        started = started.0;
        verified = c.in-Ok.ensures.checksums;
        verdict = c.in-Ok.ensures.verdict;
      },
      elim c.if-matches.branch [
        | then-matches+in_default-visit w ↦
            subst (λ v. g.V.Visitor.goes start v (seen
            ++ cond (lets_through c.args.rules.now.filter reported) (reported ∷ []) [])) (sym w.visitor-is)
            (subst (λ b. g.V.Visitor.goes start w.visit.new.self (seen ++ cond b (reported ∷ []) []))
            w.if-matches.ensures (w.in_default-visit.ensures start seen goes))
        | else-matches w ↦
            subst (λ v. g.V.Visitor.goes start v (seen
            ++ cond (lets_through c.args.rules.now.filter reported) (reported ∷ []) [])) (sym w.visitor-is)
            (subst (λ b. g.V.Visitor.goes start c.args.visitor.now (seen
            ++ cond b (reported ∷ []) [])) w.if-matches.ensures
            (subst (λ l. g.V.Visitor.goes start c.args.visitor.now l) (sym (append-nil seen)) goes))
      ],
      record {
        first = c.keep_within.ensures.first_time ∙ c.in-Ok.ensures.first_time.1
            ∙ ap (λ (n : ℕ). Some n) first;
        last = c.keep_within.ensures.last_time ∙ c.in-Ok.ensures.last_time.1;
        lists = kept.0;
        started = c.keep_within.ensures.started lists' order' _ shows' has'
            (subst (λ (n : ℕ). ShowsStarted c.dissect.new.self.datagrams
            (started_with lists course.started (class_of packet) packet.interface n)) c.in-Ok.ensures.number
            (subst (λ l. ShowsStarted c.dissect.new.self.datagrams
            (started_with lists course.started (sliced_class l) packet.interface reported.number))
            c.in-Ok.ensures.layers started.1));
        begin = c.drop_idle.ensures.begin
            ∙ ap (λ (b : Option ℕ). begin_at forget b packet.time) has.begin;
        order_is = kept.1;
        dropped = kept.2
            ∙ ap (λ (n : ℕ). capped (n + dropped_within course.memory lists' order'))
            (c.in-Ok.ensures.dropped ∙ c.drop_idle.ensures.dropped ∙ has.dropped);
      },
    )
