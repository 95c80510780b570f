use Rattle.std.proofs.Common.{◌≡◌, ◌∙◌, sym, refl, subst, ◌++◌, ◌∷◌, List, [], Err, arith, length-append, inl}
use Rattle.std.proofs.Common.{inr, true, false}
use Rattle.std.proofs.KnownBytes.{Consumes-nil, Consumes-trans}
use Rattle.captures.specs.Readers.{HasRead, source_of}
use Rattle.captures.specs.declared.packet.Packet.{Packet}
use Rattle.packets.specs.Courses.{Course, HasCourse, course_after, no_course, shown}
use Rattle.packets.specs.Limits.{first_time, is_late}
use Rattle.packets.specs.declared.dissection.Dissection.{Dissection}
use Rattle.packets.proofs.EndLemmas.{left_by_memory, unless_out_of_memory}
use Rattle.packets.proofs.LimitLemmas.{all_taken, fewer_than, first_known, in_time_more, memory_kept}
use Rattle.packets.proofs.WalkLemmas.{course_more, dissected_more, first_but_last, first_given, same_packet, shown_more}
use Rattle.packets.proofs.run.walk.walk.Goals as goal

pub packets-init : goal.packets-init
packets-init g c = record {
  read = [];
  given = [];
  reported = [];
  has = c.requires.unread;
  consumed = Consumes-nil (g.R.Read.remaining (source_of c.args.packets.now));
  dissected = refl;
  course = record {
    first = c.requires.first_time;
    last = c.requires.last_time;
    lists = c.requires.datagrams;
    started = c.requires.started;
    begin = c.new-spans.ensures;
    order_is = c.requires.order;
    dropped = c.requires.dropped;
  };
  goes = c.requires.begins;
  in_time = tt;
  counted = refl;
  below = omega arith;
  limit = c.unwrap_or-limit.ensures;
}

pub returns-in-Ok-false : goal.returns-in-Ok-false
returns-in-Ok-false g c =
    let i = c.packets.invariant in
    let fewer = fewer_than c.args.rules.now.count _ _ _ i.given i.limit i.counted (omega arith) in
    let came = rw c.in-Ok-false.field-0-test at (c.in-Ok-false.ensures c.args.rules.now.unfit i.read
    i.given c.args.visitor.now (shown c.args.rules.now.filter i.reported) i.has i.goes) in (
      i.read ++ came.0,
      i.given,
      i.reported,
      Consumes-trans _ _ _ i.read came.0 i.consumed came.1,
      (i.in_time, inl (fewer, (came.2.0.1, came.2.0.2))),
      i.dissected,
      inl came.2.1,
      i.course.lists,
      i.course.dropped,
    )

pub returns-in-Err : goal.returns-in-Err
returns-in-Err g c =
    let i = c.packets.invariant in
    let fewer = fewer_than c.args.rules.now.count _ _ _ i.given i.limit i.counted (omega arith) in
    let came = c.in-Err.ensures c.args.rules.now.unfit i.read i.given c.args.visitor.now
    (shown c.args.rules.now.filter i.reported) i.has i.goes in (
      i.read ++ came.0,
      i.given,
      i.reported,
      Consumes-trans _ _ _ i.read came.0 i.consumed came.1,
      (i.in_time, inl (fewer, came.2.0)),
      i.dissected,
      inl came.2.1,
      unless_out_of_memory (Err c.in-Err.error) _ i.course.lists,
      i.course.dropped,
    )

pub returns-in_default : goal.returns-in_default
returns-in_default g c =
    let i = c.packets.invariant in
    let came = rw c.in-Ok-true.field-0-test at (c.in-Ok-true.ensures c.args.rules.now.unfit i.read
    i.given c.args.visitor.now (shown c.args.rules.now.filter i.reported) i.has i.goes) in
    absurd (c.in_default.not-Some came.2.0.0 (c.packet.ensures ∙ came.2.0.1))

pub returns-in-Err-take : goal.returns-in-Err-take
returns-in-Err-take g c =
    let i = c.packets.invariant in
    let fewer = fewer_than c.args.rules.now.count _ _ _ i.given i.limit i.counted (omega arith) in
    let came = rw c.in-Ok-true.field-0-test at (c.in-Ok-true.ensures c.args.rules.now.unfit i.read
    i.given c.args.visitor.now (shown c.args.rules.now.filter i.reported) i.has i.goes) in
    let stays = c.in-Err-take.ensures
    (course_after c.args.rules.now.forget (no_course c.args.rules.now.reassembly_memory) i.given) c.args.visitor.now
    (shown c.args.rules.now.filter i.reported)
    (memory_kept c.args.rules.now.forget (no_course c.args.rules.now.reassembly_memory) i.given)
    i.course came.2.1 in (
      i.read ++ came.0,
      i.given,
      i.reported,
      Consumes-trans _ _ _ i.read came.0 i.consumed came.1,
      (
        i.in_time,
        inl (
          fewer,
          first_but_last c.args.rules.now.unfit c.go_on.new.packets (i.read ++ came.0) i.given
              came.2.0.0 came.2.0.2,
        ),
      ),
      i.dissected,
      left_by_memory _ _ _ refl stays.0,
      tt,
      stays.1,
    )

-- the packet comes too late
pub returns-then-is_late : goal.returns-then-is_late
returns-then-is_late g c =
    let i = c.packets.invariant in
    let rules = c.args.rules.now in
    let fewer = fewer_than rules.count _ _ _ i.given i.limit i.counted (omega arith) in
    let came = rw c.in-Ok-true.field-0-test at (c.in-Ok-true.ensures rules.unfit i.read i.given
    c.args.visitor.now (shown rules.filter i.reported) i.has i.goes) in
    let same = same_packet came.2.0.0 c.in-Some.packet
    (sym came.2.0.1 ∙ sym c.packet.ensures ∙ c.in-Some.is) in
    let late : is_late rules.duration (first_time i.given) c.in-Some.packet.time ≡ true =
    sym (rw (i.course.first, first_known rules.forget rules.reassembly_memory i.given) at c.if-is_late.ensures) in (
      i.read ++ came.0,
      i.given,
      i.reported,
      Consumes-trans _ _ _ i.read came.0 i.consumed came.1,
      (
        i.in_time,
        inr (
          inr (
            c.in-Some.packet,
            first_given rules.unfit c.go_on.new.packets (i.read ++ came.0)
                (i.given ++ c.in-Some.packet ∷ [])
                (subst (λ (p : Packet). HasRead rules.unfit c.go_on.new.packets (i.read ++ came.0)
                (i.given ++ p ∷ [])) same came.2.0.2),
            late,
            fewer,
          ),
          tt,
        ),
      ),
      i.dissected,
      inl came.2.1,
      i.course.lists,
      i.course.dropped,
    )

pub packets-preserved : goal.packets-preserved
packets-preserved g c =
    let i = c.packets.invariant in
    let rules = c.args.rules.now in
    let given = i.given ++ c.in-Some.packet ∷ [] in
    let came = rw c.in-Ok-true.field-0-test at (c.in-Ok-true.ensures rules.unfit i.read i.given
    c.args.visitor.now (shown rules.filter i.reported) i.has i.goes) in
    let same = same_packet came.2.0.0 c.in-Some.packet
    (sym came.2.0.1 ∙ sym c.packet.ensures ∙ c.in-Some.is) in
    let taken = c.in-Ok.ensures
    (course_after rules.forget (no_course rules.reassembly_memory) i.given) c.args.visitor.now (shown rules.filter i.reported)
    (memory_kept rules.forget (no_course rules.reassembly_memory) i.given) i.course came.2.1 in
    let early : is_late rules.duration (first_time i.given) c.in-Some.packet.time ≡ false =
    sym (rw (i.course.first, first_known rules.forget rules.reassembly_memory i.given) at c.if-is_late.ensures) in
    record {
      read = i.read ++ came.0;
      given = given;
      reported = i.reported ++ taken.0 ∷ [];
      has = subst (λ (p : Packet). HasRead rules.unfit c.go_on.new.packets (i.read ++ came.0)
          (i.given ++ p ∷ [])) same came.2.0.2;
      consumed = Consumes-trans _ _ _ i.read came.0 i.consumed came.1;
      dissected = dissected_more rules.checksums rules.forget (no_course rules.reassembly_memory) i.given i.reported c.in-Some.packet taken.0
          i.dissected taken.1;
      course = subst (λ (course : Course). HasCourse course c.take.new.dissector c.take.new.spans)
          (sym (course_more rules.forget (no_course rules.reassembly_memory) i.given c.in-Some.packet)) taken.3;
      goes = subst (λ (l : List Dissection). g.V.Visitor.goes c.args.visitor.now
          c.take.new.visitor l) (sym (shown_more rules.filter i.reported taken.0)) taken.2;
      in_time = in_time_more rules.duration i.given c.in-Some.packet i.in_time early;
      counted = omega (arith, i.counted, length-append i.given (c.in-Some.packet ∷ []));
      below = omega arith;
      limit = i.limit;
    }

-- as many as the rules permit
pub returns-in-Some-count : goal.returns-in-Some-count
returns-in-Some-count g c =
    let i = c.packets.invariant in
    let rules = c.args.rules.now in (
      i.read,
      i.given,
      i.reported,
      i.consumed,
      (
        i.in_time,
        inr (
          inl (
            first_given rules.unfit c.packets.packets i.read i.given i.has,
            all_taken rules.count _ _ _ _ i.given i.limit i.counted (omega (arith, i.below))
                c.in-Some-count.is,
          ),
          tt,
        ),
      ),
      i.dissected,
      inl i.goes,
      i.course.lists,
      i.course.dropped,
    )

pub returns-in-None : goal.returns-in-None
returns-in-None g c =
    let i = c.packets.invariant in (
      i.read,
      i.given,
      i.reported,
      i.consumed,
      (
        i.in_time,
        inl (
          rw c.in-None.is tt,
          inr (
            first_given c.args.rules.now.unfit c.packets.packets i.read i.given i.has,
            omega (arith, i.counted, rw c.in-None.is at i.limit),
          ),
        ),
      ),
      i.dissected,
      inl i.goes,
      i.course.lists,
      i.course.dropped,
    )
