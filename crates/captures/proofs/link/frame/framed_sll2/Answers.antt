use Rattle.std.proofs.Common.{◌≡◌, ◌∙◌, ap, ap₂, arith, drop, length, le-ltb, List, ℕ, Option}
use Rattle.std.proofs.lemmas.List.{take_rest}
use Rattle.std.specs.Prelude.{slice_index}
use Rattle.captures.specs.Framed.{address_at, cooked_type, framed_after}
use Rattle.captures.specs.Numbers.{half}
use Rattle.captures.specs.declared.byte_order.ByteOrder.TheVariants.{Big}
use Rattle.captures.proofs.link.frame.framed_sll2.Goals as goal

pub returns : goal.returns
returns c =
    let packet = c.args.packet.now in
    let source : c.address_at-source.result ≡ address_at (slice_index packet 11) packet 12 =
    c.address_at-source.ensures ∙ ap (λ (n : ℕ). address_at n packet 12) c.from.ensures in
    let named : c.cooked_type-ether_type.result
    ≡ cooked_type (half Big packet 8) (half Big packet 0) =
    c.cooked_type-ether_type.ensures ∙ ap₂ cooked_type c.half-hardware.ensures c.half.ensures in
    rw (le-ltb (length packet) 20 (omega arith))
    (c.framed_after.ensures
    ∙ ap (λ (l : List ℕ). framed_after c.address_at-source.result
    c.cooked_type-ether_type.result l) (take_rest packet 20)
    ∙ ap₂ (λ (s : List ℕ) (t : Option ℕ). framed_after s t (drop 20 packet)) source named)
