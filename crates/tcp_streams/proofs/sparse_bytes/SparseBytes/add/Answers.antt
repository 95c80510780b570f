use Rattle.std.proofs.Common.{◌≡◌, refl, arith}
use Rattle.tcp_streams.specs.SparseBytes.{Sparse, sparse, held_end}
use Rattle.tcp_streams.proofs.SparseLemmas.{adds_after, adds_sound, clashes_after}
use Rattle.tcp_streams.proofs.sparse_bytes.SparseBytes.add.Goals as goal

abbrev old_of : goal.After-none → Sparse
old_of c = sparse c.self.inside.taken c.self.inside.bytes c.self.inside.gaps

at_end : (c : goal.After-none) → c.args.position ≡ held_end (old_of c)
at_end c =
    let after = rw (← c.self.view_is) at c.requires.after in
    omega (arith, after, c.if-start-len.true, c.len.ensures)

pub invariant_of-self-then-start-len : goal.invariant_of-self-then-start-len
invariant_of-self-then-start-len c =
    let at = at_end c in
    rw c.in_ok-extend_from_slice.ensures.ok
    (adds_sound (old_of c) _ c.args.bytes.now c.self.invariant refl (omega (arith, at, c.requires.short)))

pub returns-then-start-len-clause-adds : goal.returns-then-start-len-clause-adds
returns-then-start-len-clause-adds c =
    rw (at_end c, ← c.self.view_is)
    (adds_after (old_of c) _ c.args.bytes.now c.self.invariant refl c.in_ok-extend_from_slice.ensures.ok refl)

pub returns-then-start-len-clause-conflicts : goal.returns-then-start-len-clause-conflicts
returns-then-start-len-clause-conflicts c =
    let at = at_end c in
    rw (← c.self.view_is, clashes_after (old_of c) c.args.position c.args.bytes.now c.self.invariant (omega (arith, at)))
    c.none.ensures

pub returns-then-start-len-clause-sound : goal.returns-then-start-len-clause-sound
returns-then-start-len-clause-sound c =
    let at = at_end c in
    rw c.in_ok-extend_from_slice.ensures.ok
    (adds_sound (old_of c) _ c.args.bytes.now c.self.invariant refl (omega (arith, at, c.requires.short)))

pub returns-then-start-len-2-clause-conflicts : goal.returns-then-start-len-2-clause-conflicts
returns-then-start-len-2-clause-conflicts c =
    let old = sparse c.self.inside.taken c.self.inside.bytes c.self.inside.gaps in
    let after = rw (← c.self.view_is) at c.requires.after in
    rw (
      ← c.self.view_is,
      clashes_after old c.args.position c.args.bytes.now c.self.invariant
          (omega (arith, after, c.if-start-len-2.true, c.len-2.ensures)),
    )
    c.none-then-start-len-2.ensures
