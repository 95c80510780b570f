use Rattle.std.proofs.Common.{◌∙◌, ◌++◌, sym, ap, subst, arith, append_assoc, length-append, length, List, [], ℕ, None}
use Rattle.std.proofs.Common.{Some}
use Rattle.captures.specs.Dropped.{last_of}
use Rattle.captures.specs.Units.{HasUnit}
use Rattle.captures.specs.declared.capture_error.CaptureError.TheVariants.{BadBlock}
use Rattle.captures.proofs.SkipLemmas.{dropped_size, leaves_after, leaves_more}
use Rattle.captures.proofs.translation.progress.take_after.Goals as goal

pub returns-in-Held-clause-takes : goal.returns-in-Held-clause-takes
returns-in-Held-clause-takes c dropped d =
    let comes = rw c.in-Held.is at c.following.ensures.comes c.args.state dropped d in
    rw c.last.ensures.last (leaves_more c.args.ledger c.args.state dropped c.args.bytes.now
    c.in-Held.started c.in-Held.left None comes.0 comes.1)

pub returns-in-Held-clause-passed : goal.returns-in-Held-clause-passed
returns-in-Held-clause-passed c dropped d =
    let comes = rw c.in-Held.is at c.following.ensures.comes c.args.state dropped d in
    let more = comes.0 in
    omega (
      arith,
      dropped_size c.args.state (Some c.in-Held.started) (dropped ++ more.prefix) more.is_dropped,
      length-append dropped more.prefix,
      ap length more.parts,
      length-append more.prefix (last_of c.in-Held.left c.args.bytes.now),
      ap length c.last.ensures.last,
    )

pub returns-in-Refused-clause-takes : goal.returns-in-Refused-clause-takes
returns-in-Refused-clause-takes c dropped d =
    let comes = rw c.in-Refused.is at c.following.ensures.comes c.args.state dropped d in
    rw c.last-in-Refused.ensures.last (leaves_more c.args.ledger c.args.state dropped
    c.args.bytes.now c.in-Refused.started c.in-Refused.left (Some BadBlock) comes.0 comes.1)

pub returns-in-Refused-clause-passed : goal.returns-in-Refused-clause-passed
returns-in-Refused-clause-passed c dropped d =
    let comes = rw c.in-Refused.is at c.following.ensures.comes c.args.state dropped d in
    let more = comes.0 in
    omega (
      arith,
      dropped_size c.args.state (Some c.in-Refused.started) (dropped ++ more.prefix) more.is_dropped,
      length-append dropped more.prefix,
      ap length more.parts,
      length-append more.prefix (last_of c.in-Refused.left c.args.bytes.now),
      ap length c.last-in-Refused.ensures.last,
    )

pub returns-in-Passed-clause-takes : goal.returns-in-Passed-clause-takes
returns-in-Passed-clause-takes c dropped d =
    let bytes = dropped ++ c.args.bytes.now in
    let state = c.args.state in
    let comes = rw c.in-Passed.is at c.following.ensures.comes state dropped d in
    leaves_after c.args.ledger _ state _ bytes c.last-in-Passed.result.now _ _ _ comes.0 _
    (subst (λ (l : List ℕ). HasUnit state bytes state comes.0 [] l)
    (sym c.last-in-Passed.ensures.last) comes.1) c.take_whole-taken.ensures.takes

pub returns-in-Passed-clause-passed : goal.returns-in-Passed-clause-passed
returns-in-Passed-clause-passed c dropped d =
    let comes = rw c.in-Passed.is at c.following.ensures.comes c.args.state dropped d in
    let size = comes.2 in
    omega arith

pub returns-in-Passed-clause-parts : goal.returns-in-Passed-clause-parts
returns-in-Passed-clause-parts c =
    let prefix = c.last-in-Passed.ensures.parts in
    let more = c.take_whole-taken.ensures.parts in (
      prefix.0 ++ more.0,
      prefix.1 ∙ ap (λ (l : List ℕ). prefix.0 ++ l) more.1
          ∙ sym (append_assoc prefix.0 more.0 _),
    )
