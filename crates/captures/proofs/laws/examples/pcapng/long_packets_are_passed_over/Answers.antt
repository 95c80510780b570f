use Rattle.std.proofs.Common.{◌≡◌, ◌≤◌, ◌∙◌, sym, ap, subst, refl, arith, inl, inr, ℕ, List, [], length}
use Rattle.std.specs.Prelude.{Result, Err}
use Rattle.captures.specs.Framed.{frame_by, refused_type, reported_frame, reported_of, taken_limit}
use Rattle.captures.specs.Pcapng.{Becomes}
use Rattle.captures.specs.Pcapng.Content.{Holds}
use Rattle.captures.specs.Skipping.{counted, passing_from, passing_with}
use Rattle.captures.specs.declared.byte_order.ByteOrder.{ByteOrder}
use Rattle.captures.specs.declared.link.kind.Link.TheVariants.{Ethernet}
use Rattle.captures.specs.declared.origin.Origin.{Origin}
use Rattle.captures.specs.declared.pcapng.section.Section.{Section}
use Rattle.captures.specs.declared.skipped.Passing.{Passing}
use Rattle.captures.specs.declared.skipped.Reason.{Reason}
use Rattle.captures.specs.declared.skipped.Reason.TheVariants.{TooLong}
use Rattle.captures.specs.declared.unfit.Unfit.TheVariants.{Skip}
use Rattle.captures.proofs.laws.examples.pcapng.long_packets_are_passed_over.Goals as goal

abbrev one : Passing
one = record {
  unfit = Skip;
  skipped = record { of_other_links = 0; too_long = 1; without_frame = 0 };
  seen = 1;
}

passed_over : (section : Section) (order : ByteOrder) (origin : Origin) (packet : List ℕ)
    → section.passing ≡ passing_from Skip → reported_of Ethernet packet ≡ Err TooLong
    → length packet ≤ 262128
    → Becomes section order (Holds origin Ethernet packet) (record section { passing = one }) origin []
passed_over section order origin packet is reported few =
    let counts : counted section.passing Ethernet packet ≡ one =
    ap (λ (p : Passing). counted p Ethernet packet) is
    ∙ ap (λ (r : Result (List ℕ) Reason). passing_with (passing_from Skip) r) reported in (
      ap (λ (p : Passing). record section { passing = p }) (sym counts),
      refl,
      ap (λ (p : Passing). reported_frame p.unfit Ethernet packet) is
          ∙ ap (λ (r : Result (List ℕ) Reason). frame_by Skip r) reported,
      subst (λ (p : Passing). length packet ≤ taken_limit p.unfit Ethernet) (sym is)
          (omega arith),
      ap (λ (p : Passing). refused_type p.unfit Ethernet) is,
    )

pub returns : goal.returns
returns c section order origin packet is (inl size) =
    passed_over section order origin packet is (rw size refl) (omega arith)
returns c section order origin packet is (inr size) =
    passed_over section order origin packet is (rw size refl) (omega arith)
