use Rattle.std.proofs.Common.{◌≡◌, ◌+◌, ◌-◌, length, arith, ◌∙◌, ap}
use Rattle.tcp_streams.specs.SparseBytes.{counted}
use Rattle.tcp_streams.proofs.SparseLemmas.{adds_merge, conflicts_merge}
use Rattle.tcp_streams.proofs.sparse_bytes.merge.Goals as goal

pub returns-clause-adds : goal.returns-clause-adds
returns-clause-adds c =
    let start = c.args.position - c.args.taken in
    let size : start + length c.args.bytes.now - start ≡ length c.args.bytes.now = omega arith in
    adds_merge c.args.taken c.args.position (start + length c.args.bytes.now - start) c.args.held.now
    c.args.bytes.now c.fill.new.held c.args.gaps.now c.requires.after c.requires.within size c.fill.ensures.fills

pub returns-clause-conflicts : goal.returns-clause-conflicts
returns-clause-conflicts c =
    let start = c.args.position - c.args.taken in
    let size : start + length c.args.bytes.now - start ≡ length c.args.bytes.now = omega arith in
    c.fill.ensures.conflicts ∙ ap counted (conflicts_merge c.args.taken c.args.position
    (start + length c.args.bytes.now - start) c.args.held.now
    c.args.bytes.now c.fill.new.held c.args.gaps.now c.requires.after c.requires.within size c.fill.ensures.fills)
