-- The packets in the blocks of the example capture.
use Rattle.std.proofs.Common.{arith, drop, refl, take, List, ℕ}
use Rattle.captures.specs.Examples.{cooked_packet, cut_simple_block, described_section, enhanced_block, obsolete_block}
use Rattle.captures.specs.Examples.{origin_at, simple_block}
use Rattle.captures.specs.Pcapng.{IsSimplePacket, IsTimedPacket}
use Rattle.captures.specs.Skipping.{passing_from}
use Rattle.captures.specs.declared.byte_order.ByteOrder.TheVariants.{Little}
use Rattle.captures.specs.declared.link.kind.Link.TheVariants.{Sll2}
use Rattle.captures.specs.declared.pcapng.section.Section.{Section}
use Rattle.captures.specs.declared.unfit.Unfit.TheVariants.{Refuse}

-- the section of the example after so many packets
abbrev pub section_after : (packets : ℕ) → Section
section_after packets =
    record described_section { passing = record (passing_from Refuse) { seen = packets } }

pub simple : (before : ℕ) → IsSimplePacket (section_after before) Little simple_block (origin_at 0 15)
    Sll2 cooked_packet
simple before = record {
  kind = refl;
  size = omega arith;
  interface = omega arith;
  number = refl;
  time = refl;
  over = refl;
  wire = refl;
  captured = refl;
  bytes = refl;
}

pub cut_simple : (before : ℕ) → IsSimplePacket (section_after before) Little cut_simple_block
    (origin_at 0 1494) Sll2 (take 22 (drop 12 cut_simple_block))
cut_simple before = record {
  kind = refl;
  size = omega arith;
  interface = omega arith;
  number = refl;
  time = refl;
  over = refl;
  wire = refl;
  captured = refl;
  bytes = refl;
}

abbrev pub HasTimed : List ℕ → Type 0
HasTimed block = (before : ℕ) → IsTimedPacket 0 (section_after before) Little block
    (origin_at 1700000000250000000 1494) Sll2 cooked_packet

pub enhanced : HasTimed enhanced_block
enhanced before = record {
  size = omega arith;
  described = omega arith;
  number = refl;
  fits = omega arith;
  time = refl;
  over = refl;
  wire = refl;
  captured = refl;
  bytes = refl;
}

pub obsolete : HasTimed obsolete_block
obsolete before = record {
  size = omega arith;
  described = omega arith;
  number = refl;
  fits = omega arith;
  time = refl;
  over = refl;
  wire = refl;
  captured = refl;
  bytes = refl;
}
