use Rattle.std.proofs.Common.{◌∙◌, sym, List, ℕ, Option}
use Rattle.std.specs.Io.KnownBytes.{Consumes}
use Rattle.ep_ext.specs.Value.{Piece, bytes_of}
use Rattle.ep_ext.proofs.ReadWalk.{given_none, given_more, given_fewer, consumes_more}
use Rattle.ep_ext.proofs.net.ipv6_extensions.Ipv6Extensions.fill_from.Goals as goal
use Rattle.ep_base.proofs.KnownReads.{consumes_none}

abbrev Kept : Option (List ℕ) → Option (List ℕ) → List Piece → Type 0
Kept old new pieces = Consumes old new (bytes_of pieces)

pub pieces-init : goal.pieces-init
pieces-init g c =
    given_none (Kept (g.R.Read.remaining c.args.reader.now) (g.R.Read.remaining c.args.reader.now))
    c.args.first.0 c.args.self.now c.nothing-passed.result c.nothing-passed.ensures c.requires
    (consumes_none (g.R.Read.remaining c.args.reader.now))

pub pieces-smaller : goal.pieces-smaller
pieces-smaller g c =
    rw c.with-passed.ensures
    (given_fewer (Kept (g.R.Read.remaining c.args.reader.now) (g.R.Read.remaining c.pieces.reader))
    c.args.first.0 c.pieces.self c.pieces.passed c.pieces.number.0 c.in-Some.slot
    c.pieces.invariant (sym c.slot_of.ensures ∙ c.in-Some.is))

pub pieces-preserved : goal.pieces-preserved
pieces-preserved g c =
    let old = g.R.Read.remaining c.args.reader.now in
    let between = g.R.Read.remaining c.pieces.reader in
    let new = g.R.Read.remaining c.read_at.new.reader in
    let found = c.in-Ok.ensures.found in
    rw c.with-passed.ensures
    (given_more (Kept old between) (Kept old new) c.args.first.0 c.pieces.self c.pieces.passed
    c.pieces.number.0 c.in-Some.slot found.0 c.in-Ok.next.0 c.read_at.new.self
    c.pieces.invariant (sym c.slot_of.ensures ∙ c.in-Some.is) found.1 found.3 found.4
    (consumes_more old between new c.in-Some.slot found.0 found.2))
