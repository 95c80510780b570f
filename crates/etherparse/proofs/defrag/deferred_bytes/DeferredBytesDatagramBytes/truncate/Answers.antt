use Rattle.std.proofs.Common.{arith, ap, sym, ◌∙◌, take, true, List, ℕ, Option}
use Rattle.std.specs.Global.{Box}
use Rattle.etherparse.specs.DeferredBytes.{BytesInRoom, Late, bytes_with, late_in}
use Rattle.etherparse.proofs.LateWrites.{all_below, cut_with, with_none}
use Rattle.etherparse.proofs.defrag.deferred_bytes.DeferredBytesDatagramBytes.truncate.Goals as goal

pub returns-in-None-clause-items : goal.returns-in-None-clause-items
returns-in-None-clause-items c =
    sym (with_none c.self.inside.late c.truncate.new.self.items c.in-None.is) ∙ c.truncate.ensures.items
    ∙ ap (λ (xs : List ℕ). take c.args.len xs)
    (with_none c.self.inside.late c.self.inside.written.items c.in-None.is ∙ ap (λ (b : BytesInRoom). b.bytes) c.self.view_is)

pub returns-then-len-deref-clause-items : goal.returns-then-len-deref-clause-items
returns-then-len-deref-clause-items c =
    let there = c.self.inside.written.items in
    let sees =
    sym (ap (λ (late : Option (Box Late)). bytes_with (late_in late there) there) c.in-Some.is)
    ∙ ap (λ (b : BytesInRoom). b.bytes) c.self.view_is in
    let was = c.behind-late.view_is ∙ c.deref.ensures in
    let before = c.behind-late-then-len-deref.view_is ∙ c.deref_mut.ensures.value in
    let after = c.behind-late-then-len-deref-2.view_is ∙ c.deref_mut-then-len-deref.ensures.value in
    cut_with c.in-Some.late.value record {
      writes = c.behind-late-then-len-deref-2.inside.writes.items;
      len = c.behind-late-then-len-deref-2.inside.len;
      cut = true;
    }
    c.args.self.now.bytes there c.truncate-then-len-deref.new.self.items c.args.len sees
    (omega (arith, c.if-len-deref.true, ap (λ (l : Late). l.len) was)) c.truncate-then-len-deref.ensures.items
    (ap (λ (l : Late). l.writes) after ∙ ap (λ (l : Late). l.writes) before) (ap (λ (l : Late). l.len) after)

pub returns-else-len-deref-clause-items : goal.returns-else-len-deref-clause-items
returns-else-len-deref-clause-items c =
    let there = c.self.inside.written.items in
    all_below c.in-Some.late.value c.args.self.now.bytes there c.args.len
    (sym (ap (λ (late : Option (Box Late)). bytes_with (late_in late there) there) c.in-Some.is)
    ∙ ap (λ (b : BytesInRoom). b.bytes) c.self.view_is)
    (omega (arith, c.if-len-deref.false, ap (λ (l : Late). l.len) (c.behind-late.view_is ∙ c.deref.ensures)))
