use Rattle.std.proofs.Common.{arith, ap, List, ℕ, Option, subst, sym, ◌∙◌, ◌+◌, ◌≤◌, length}
use Rattle.std.specs.Global.{Box}
use Rattle.etherparse.specs.DeferredBytes.{BytesInRoom, Late, bytes_with, late_in}
use Rattle.etherparse.specs.StoredFragment.{HasBytes}
use Rattle.etherparse.proofs.LateWrites.{compared, just_so, not_longer, with_none}
use Rattle.etherparse.proofs.defrag.deferred_bytes.DeferredBytesDatagramBytes.has_bytes.Goals as goal

pub returns-in-None : goal.returns-in-None
returns-in-None c =
    rw (c.deref.ensures.value ∙ with_none c.self.inside.late c.self.inside.written.items c.in-None.is
    ∙ ap (λ (b : BytesInRoom). b.bytes) c.self.view_is) at c.has_bytes.ensures

pub returns-then-saturating_add-deref : goal.returns-then-saturating_add-deref
returns-then-saturating_add-deref c =
    let there = c.self.inside.written.items in
    let late = c.in-Some.late.value in
    let is = sym (ap (λ (o : Option (Box Late)). bytes_with (late_in o there) there) c.in-Some.is)
    ∙ ap (λ (b : BytesInRoom). b.bytes) c.self.view_is in
    let means = compared late.writes there c.args.bytes.now late.len c.args.start in
    let writes = c.deref-then-saturating_add-deref-2.ensures.value
    ∙ ap (λ (l : Late). l.writes) (c.behind-late-then-saturating_add-deref.view_is ∙ c.deref-then-saturating_add-deref.ensures) in
    let fits : c.args.start + length c.args.bytes.now ≤ late.len = omega (
      arith,
      c.if-saturating_add-deref.true,
      c.saturating_add.ensures,
      c.self.invariant.short,
      ap (λ (o : Option (Box Late)). (late_in o there).len) c.in-Some.is,
      ap (λ (l : Late). l.len) (c.behind-late.view_is ∙ c.deref-in-Some.ensures),
    ) in
    just_so c.has_bytes_after.result
    (rw (writes, c.deref-then-saturating_add-deref-3.ensures.value) at c.has_bytes_after.ensures)
    (λ h. subst (λ (xs : List ℕ). HasBytes xs c.args.start c.args.bytes.now) is (means.1 (fits, h)))
    (λ h. (means.0 (subst (λ (xs : List ℕ). HasBytes xs c.args.start c.args.bytes.now) (sym is) h)).1)

pub returns-else-saturating_add-deref : goal.returns-else-saturating_add-deref
returns-else-saturating_add-deref c =
    let there = c.self.inside.written.items in
    let late = c.in-Some.late.value in
    let is = sym (ap (λ (o : Option (Box Late)). bytes_with (late_in o there) there) c.in-Some.is)
    ∙ ap (λ (b : BytesInRoom). b.bytes) c.self.view_is in
    let means = compared late.writes there c.args.bytes.now late.len c.args.start in
    not_longer c.saturating_add.result c.behind-late.inside.len c.if-saturating_add-deref.false
    (λ h. omega (
      arith,
      (means.0 (subst (λ (xs : List ℕ). HasBytes xs c.args.start c.args.bytes.now) (sym is) h)).0,
      c.saturating_add.ensures,
      ap (λ (l : Late). l.len) (c.behind-late.view_is ∙ c.deref-in-Some.ensures),
    ))
