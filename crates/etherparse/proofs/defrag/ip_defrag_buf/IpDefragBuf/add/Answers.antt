use Rattle.std.proofs.Common.{arith, ap, inl, subst}
use Rattle.etherparse.specs.Fragments.{fragment}
use Rattle.etherparse.specs.IpDefragBuf.{Contents, ShowsAccepted}
use Rattle.etherparse.proofs.Found.{accepted_again, at_index, looked, only_again, refused_at_clash, shows_repeat}
use Rattle.etherparse.proofs.defrag.ip_defrag_buf.IpDefragBuf.add.Goals as goal

pub returns-in-Repeat-clause-accepted : goal.returns-in-Repeat-clause-accepted
returns-in-Repeat-clause-accepted g c fs shows =
    let l = looked c.args.self.now
    (fragment c.args.offset c.args.more_fragments c.args.bytes.now) c.self.inside.end
    c.byte_offset.result c.in_ok-end.end _ c.find.result
    (ap (λ (b : Contents _). b.end) c.self.view_is) (omega (arith, c.byte_offset.ensures))
    c.in_ok-end.ensures c.find.ensures c.in-Repeat.is in
    shows_repeat _ fs _ shows l.none l.finds

pub returns-in-Repeat-clause-refused : goal.returns-in-Repeat-clause-refused
returns-in-Repeat-clause-refused g c fs shows =
    let l = looked c.args.self.now
    (fragment c.args.offset c.args.more_fragments c.args.bytes.now) c.self.inside.end
    c.byte_offset.result c.in_ok-end.end _ c.find.result
    (ap (λ (b : Contents _). b.end) c.self.view_is) (omega (arith, c.byte_offset.ensures))
    c.in_ok-end.ensures c.find.ensures c.in-Repeat.is in
    accepted_again _ fs _ shows l.none l.finds

pub returns-in-Clash-clause-refused : goal.returns-in-Clash-clause-refused
returns-in-Clash-clause-refused g c fs shows =
    let l = looked c.args.self.now
    (fragment c.args.offset c.args.more_fragments c.args.bytes.now) c.self.inside.end
    c.byte_offset.result c.in_ok-end.end _ c.find.result
    (ap (λ (b : Contents _). b.end) c.self.view_is) (omega (arith, c.byte_offset.ensures))
    c.in_ok-end.ensures c.find.ensures c.in-Clash.is in
    inl (refused_at_clash _ fs _ shows l.none l.finds)

pub returns-in-Clash-clause-repeat : goal.returns-in-Clash-clause-repeat
returns-in-Clash-clause-repeat g c fs shows rule at none =
    let l = looked c.args.self.now
    (fragment c.args.offset c.args.more_fragments c.args.bytes.now) c.self.inside.end
    c.byte_offset.result c.in_ok-end.end _ c.find.result
    (ap (λ (b : Contents _). b.end) c.self.view_is) (omega (arith, c.byte_offset.ensures))
    c.in_ok-end.ensures c.find.ensures c.in-Clash.is in
    only_again _ _ fs _ _ l shows rule at (λ is. cc)

pub returns-in-At-clause-refused : goal.returns-in-At-clause-refused
returns-in-At-clause-refused g c fs shows =
    let l = looked c.args.self.now
    (fragment c.args.offset c.args.more_fragments c.args.bytes.now) c.self.inside.end
    c.byte_offset.result c.in_ok-end.end _ c.find.result
    (ap (λ (b : Contents _). b.end) c.self.view_is) (omega (arith, c.byte_offset.ensures))
    c.in_ok-end.ensures c.find.ensures c.in-At.is in
    at_index c.args.self.now _ fs _ c.in_ok-end.end c.insert.result
    (subst ShowsAccepted c.self.view_is c.self.invariant.shows_accepted) l c.insert.ensures.memory shows

pub returns-in-At-clause-repeat : goal.returns-in-At-clause-repeat
returns-in-At-clause-repeat g c fs shows rule at none =
    let l = looked c.args.self.now
    (fragment c.args.offset c.args.more_fragments c.args.bytes.now) c.self.inside.end
    c.byte_offset.result c.in_ok-end.end _ c.find.result
    (ap (λ (b : Contents _). b.end) c.self.view_is) (omega (arith, c.byte_offset.ensures))
    c.in_ok-end.ensures c.find.ensures c.in-At.is in
    only_again _ _ fs _ _ l shows rule at (λ is. cc)
