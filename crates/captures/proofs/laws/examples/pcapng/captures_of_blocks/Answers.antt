use Rattle.std.proofs.Common.{arith, drop, inl, inr, refl, take, List, [], ◌∷◌, ℕ, ◌+◌, ◌≡◌}
use Rattle.std.specs.Prelude.{replicate, slice_set}
use Rattle.captures.specs.Examples.{cooked_packet, cut_simple_block, described_section, enhanced_block, interface_block}
use Rattle.captures.specs.Examples.{longer_packet, origin_at, packet_at, section_block}
use Rattle.captures.specs.Examples.{simple_block}
use Rattle.captures.specs.Lines.{Packet}
use Rattle.captures.specs.Pcapng.Content.{Opens, Describes, Holds}
use Rattle.captures.specs.Skipping.{passing_from}
use Rattle.captures.specs.Times.{usual_clock}
use Rattle.captures.specs.Units.{IsBlockUnit, no_section}
use Rattle.captures.specs.declared.byte_order.ByteOrder.TheVariants.{Little}
use Rattle.captures.specs.declared.link.kind.Link.TheVariants.{Ethernet, Sll2}
use Rattle.captures.specs.declared.origin.Origin.{Origin}
use Rattle.captures.specs.declared.pcapng.section.Section.{Section}
use Rattle.captures.specs.declared.state.State.TheVariants.{Pcapng}
use Rattle.captures.specs.declared.unfit.Unfit.TheVariants.{Refuse}
use Rattle.captures.proofs.ExampleBlocks.{cut_simple, enhanced, section_after, simple}
use Rattle.captures.proofs.laws.examples.pcapng.captures_of_blocks.Goals as goal

abbrev opened : Section
opened = record {
  order = Little;
  first = 0;
  interfaces = 0;
  snap_len = 0;
  links = replicate 32 Ethernet;
  clocks = replicate 33 usual_clock;
  passing = passing_from Refuse;
}

abbrev nowhere : Origin
nowhere = origin_at 0 0

opens : IsBlockUnit (no_section Refuse) section_block (Pcapng opened) nowhere []
opens = record {
  order = Little;
  has_order = inr (refl, refl);
  block = record { size = omega arith; words = refl; prefix = refl; back = refl };
  fits = inl (omega arith);
  next = opened;
  reads = record {
    content = Opens 0;
    says = (refl, omega arith, refl, refl, omega arith);
    becomes = (refl, refl);
  };
  becomes = refl;
}

describes : IsBlockUnit opened interface_block (Pcapng described_section) nowhere []
describes = record {
  order = Little;
  has_order = inl (λ e. let same : 0x01000000 ≡ 0x0a0d0d0a = e in absurd (omega arith), refl);
  block = record { size = omega arith; words = refl; prefix = refl; back = refl };
  fits = inl (omega arith);
  next = described_section;
  reads = record {
    content = Describes 276 22 usual_clock;
    says = (refl, omega arith, refl, refl, refl, omega arith);
    becomes = (slice_set (replicate 32 Ethernet) 0 Sll2, refl, refl, refl);
  };
  becomes = refl;
}

-- the packet in a block, after so many others
abbrev Reports : Packet → (before : ℕ) → List ℕ → Type 0
Reports reported before block = IsBlockUnit (section_after before) block
    (Pcapng (section_after (before + 1))) reported.origin reported.frame

holds_simple : Reports (packet_at 0 15) 0 simple_block
holds_simple = record {
  order = Little;
  has_order = inl (λ e. let same : 0x03000000 ≡ 0x0a0d0d0a = e in absurd (omega arith), refl);
  block = record { size = omega arith; words = refl; prefix = refl; back = refl };
  fits = inl (omega arith);
  next = section_after 1;
  reads = record {
    content = Holds (origin_at 0 15) Sll2 cooked_packet;
    says = inr (inr (simple 0));
    becomes = (refl, refl, refl, omega arith, refl);
  };
  becomes = refl;
}

holds_cut : Reports longer_packet 1 cut_simple_block
holds_cut = record {
  order = Little;
  has_order = inl (λ e. let same : 0x03000000 ≡ 0x0a0d0d0a = e in absurd (omega arith), refl);
  block = record { size = omega arith; words = refl; prefix = refl; back = refl };
  fits = inl (omega arith);
  next = section_after 2;
  reads = record {
    content = Holds (origin_at 0 1494) Sll2 (take 22 (drop 12 cut_simple_block));
    says = inr (inr (cut_simple 1));
    becomes = (refl, refl, refl, omega arith, refl);
  };
  becomes = refl;
}

holds_enhanced : Reports (packet_at 1700000000250000000 1494) 2 enhanced_block
holds_enhanced = record {
  order = Little;
  has_order = inl (λ e. let same : 0x06000000 ≡ 0x0a0d0d0a = e in absurd (omega arith), refl);
  block = record { size = omega arith; words = refl; prefix = refl; back = refl };
  fits = inl (omega arith);
  next = section_after 3;
  reads = record {
    content = Holds (origin_at 1700000000250000000 1494) Sll2 cooked_packet;
    says = inl (refl, enhanced 2);
    becomes = (refl, refl, refl, omega arith, refl);
  };
  becomes = refl;
}

pub returns : goal.returns
returns c =
    let first = packet_at 0 15 in
    let last = packet_at 1700000000250000000 1494 in
    record {
      state = Pcapng (section_after 3);
      passes = record {
        units = section_block ∷ interface_block ∷ simple_block ∷ cut_simple_block
            ∷ enhanced_block ∷ [];
        row = (
          Pcapng opened,
          nowhere,
          [],
          first ∷ longer_packet ∷ last ∷ [],
          inr (refl, opens),
          (
            Pcapng described_section,
            nowhere,
            [],
            first ∷ longer_packet ∷ last ∷ [],
            describes,
            (
              Pcapng (section_after 1),
              first.origin,
              first.frame,
              longer_packet ∷ last ∷ [],
              holds_simple,
              (
                Pcapng (section_after 2),
                longer_packet.origin,
                longer_packet.frame,
                last ∷ [],
                holds_cut,
                (Pcapng (section_after 3), last.origin, last.frame, [], holds_enhanced, (refl, refl), refl),
                refl,
              ),
              refl,
            ),
            refl,
          ),
          refl,
        );
        parts = refl;
      };
      known = λ e. cc e;
      counts = refl;
    }
