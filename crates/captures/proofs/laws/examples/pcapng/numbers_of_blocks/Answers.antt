use Rattle.std.proofs.Common.{◌≡◌, arith, inl, inr, refl, List, [], ◌∷◌, ℕ, ◌+◌, ◌^◌, ◌<◌, ◌≤◌}
use Rattle.std.specs.Prelude.{drop, length, replicate, slice_set, take, ◌≢◌}
use Rattle.captures.specs.Examples.{cooked_packet, empty_block, enhanced_block, interface_block, origin_at, other_block}
use Rattle.captures.specs.Examples.{other_interface, packet_at, section_block}
use Rattle.captures.specs.Framed.{wire_len_on}
use Rattle.captures.specs.Pcapng.{HasOrder, IsBlock, IsTaken, IsTimedPacket, Reads, clock_at, link_at}
use Rattle.captures.specs.Pcapng.Content.{Opens, Describes, Holds}
use Rattle.captures.specs.Numbers.{word}
use Rattle.captures.specs.Times.{clock_time, usual_clock}
use Rattle.captures.specs.Units.{IsBlockUnit, no_section}
use Rattle.captures.specs.declared.byte_order.ByteOrder.TheVariants.{Little}
use Rattle.captures.specs.declared.link.kind.Link.{Link}
use Rattle.captures.specs.declared.link.kind.Link.TheVariants.{Ethernet, Other, Sll2}
use Rattle.captures.specs.declared.origin.Origin.{Origin}
use Rattle.captures.specs.declared.pcapng.section.Section.{Section}
use Rattle.captures.specs.declared.state.State.TheVariants.{Pcapng}
use Rattle.captures.specs.declared.unfit.Unfit.TheVariants.{Skip}
use Rattle.captures.proofs.UnitLemmas.{passes_start}
use Rattle.captures.proofs.laws.examples.pcapng.numbers_of_blocks.Goals as goal

-- so many interfaces are described, with these links, and so many packets came
abbrev section_of : (interfaces snap_len : ℕ) → List Link → (others packets : ℕ) → Section
section_of interfaces snap_len links others packets = record {
  order = Little;
  first = 0;
  interfaces = interfaces;
  snap_len = snap_len;
  links = links;
  clocks = replicate 33 usual_clock;
  passing = record {
    unfit = Skip;
    skipped = record { of_other_links = others; too_long = 0; without_frame = 0 };
    seen = packets;
  };
}

abbrev first_link : List Link
first_link = slice_set (replicate 32 Ethernet) 0 Sll2

abbrev both_links : List Link
both_links = slice_set first_link 1 (Other 105)

abbrev nowhere : Origin
nowhere = origin_at 0 0

abbrev moment : Origin
moment = record { channel = 0; time = 1700000000250000000; wire_len = 1494 }

-- of the packet without captured bytes
abbrev empty_moment : Origin
empty_moment = record { channel = 0; time = 1700000000250000000; wire_len = 1500 }

abbrev other_moment : Origin
other_moment = record { channel = 1; time = 1700000000250000000; wire_len = 18 }

opens : IsBlockUnit (no_section Skip) section_block
    (Pcapng (section_of 0 0 (replicate 32 Ethernet) 0 0)) nowhere []
opens = record {
  order = Little;
  has_order = inr (refl, refl);
  block = record { size = omega arith; words = refl; prefix = refl; back = refl };
  fits = inl (omega arith);
  next = section_of 0 0 (replicate 32 Ethernet) 0 0;
  reads = record {
    content = Opens 0;
    says = (refl, omega arith, refl, refl, omega arith);
    becomes = (refl, refl);
  };
  becomes = refl;
}

other_kind : (kind : ℕ) → kind < 0x0a0d0d0a → kind ≢ 0x0a0d0d0a
other_kind kind less other = omega arith

-- a block that isn't a section's
in_section : (section after : Section) (block : List ℕ) (origin : Origin) (frame : List ℕ)
    → HasOrder section.order block Little → IsBlock Little block → IsTaken Little block (length block)
    → Reads section Little block after origin frame
    → IsBlockUnit section block (Pcapng after) origin frame
in_section section after block origin frame has_order is_block fits reads = record {
  order = Little;
  has_order = has_order;
  block = is_block;
  fits = fits;
  next = after;
  reads = reads;
  becomes = refl;
}

-- a packet with a time, after the numbers and the bytes that it is of
in_block : (interface : ℕ) (section : Section) (block : List ℕ) (origin : Origin) (link : Link)
    (packet : List ℕ) → 32 + length packet ≤ length block → interface < section.interfaces
    → section.first + interface ≡ origin.channel → origin.channel < 2 ^ 32
    → clock_time (clock_at section interface) (word Little block 12) (word Little block 16) ≡ origin.time
    → link_at section interface ≡ link
    → wire_len_on link (length packet) (word Little block 24) ≡ origin.wire_len
    → (word Little block 20 ≡ length packet) × (packet ≡ take (length packet) (drop 28 block))
    → IsTimedPacket interface section Little block origin link packet
in_block interface section block origin link packet size described number fits time over wire bytes = record {
  size = size;
  described = described;
  number = number;
  fits = fits;
  time = time;
  over = over;
  wire = wire;
  captured = bytes.0;
  bytes = bytes.1;
}

describes : IsBlockUnit (section_of 0 0 (replicate 32 Ethernet) 0 0) interface_block
    (Pcapng (section_of 1 22 first_link 0 0)) nowhere []
describes = in_section (section_of 0 0 (replicate 32 Ethernet) 0 0) (section_of 1 22 first_link 0 0)
    interface_block nowhere [] (inl (other_kind 0x01000000 (omega arith), refl))
    (record { size = omega arith; words = refl; prefix = refl; back = refl }) (inl (omega arith))
    (record {
      content = Describes 276 22 usual_clock;
      says = (refl, omega arith, refl, refl, refl, omega arith);
      becomes = (first_link, refl, refl, refl);
    })

describes_other : IsBlockUnit (section_of 1 22 first_link 0 0) other_interface
    (Pcapng (section_of 2 22 both_links 0 0)) nowhere []
describes_other = in_section (section_of 1 22 first_link 0 0) (section_of 2 22 both_links 0 0)
    other_interface nowhere [] (inl (other_kind 0x01000000 (omega arith), refl))
    (record { size = omega arith; words = refl; prefix = refl; back = refl }) (inl (omega arith))
    (record {
      content = Describes 105 0 usual_clock;
      says = (refl, omega arith, refl, refl, refl, omega arith);
      becomes = (both_links, refl, refl, refl);
    })

passes_over : IsBlockUnit (section_of 2 22 both_links 0 0) other_block
    (Pcapng (section_of 2 22 both_links 1 1)) other_moment []
passes_over = in_section (section_of 2 22 both_links 0 0) (section_of 2 22 both_links 1 1) other_block
    other_moment [] (inl (other_kind 0x06000000 (omega arith), refl))
    (record { size = omega arith; words = refl; prefix = refl; back = refl }) (inl (omega arith))
    (record {
      content = Holds other_moment (Other 105) (8 ∷ 0 ∷ 0 ∷ 0 ∷ []);
      says = inl (
        refl,
        in_block 1 (section_of 2 22 both_links 0 0) other_block other_moment (Other 105)
            (8 ∷ 0 ∷ 0 ∷ 0 ∷ []) (omega arith) (omega arith) refl (omega arith) refl refl refl (refl, refl),
      );
      becomes = (refl, refl, refl, omega arith, refl);
    })

holds_nothing : IsBlockUnit (section_of 2 22 both_links 1 1) empty_block
    (Pcapng (section_of 2 22 both_links 1 2)) empty_moment []
holds_nothing = in_section (section_of 2 22 both_links 1 1) (section_of 2 22 both_links 1 2) empty_block
    empty_moment [] (inl (other_kind 0x06000000 (omega arith), refl))
    (record { size = omega arith; words = refl; prefix = refl; back = refl }) (inl (omega arith))
    (record {
      content = Holds empty_moment Sll2 [];
      says = inl (
        refl,
        in_block 0 (section_of 2 22 both_links 1 1) empty_block empty_moment Sll2 []
            (omega arith) (omega arith) refl (omega arith) refl refl refl (refl, refl),
      );
      becomes = (refl, refl, refl, omega arith, refl);
    })

says_packet : IsTimedPacket 0 (section_of 2 22 both_links 1 2) Little enhanced_block moment Sll2
    cooked_packet
says_packet = in_block 0 (section_of 2 22 both_links 1 2) enhanced_block moment Sll2 cooked_packet
    (omega arith) (omega arith) refl (omega arith) refl refl refl (refl, refl)

holds_packet : IsBlockUnit (section_of 2 22 both_links 1 2) enhanced_block
    (Pcapng (section_of 2 22 both_links 1 3)) moment (packet_at 1700000000250000000 1494).frame
holds_packet = in_section (section_of 2 22 both_links 1 2) (section_of 2 22 both_links 1 3)
    enhanced_block moment (packet_at 1700000000250000000 1494).frame
    (inl (other_kind 0x06000000 (omega arith), refl))
    (record { size = omega arith; words = refl; prefix = refl; back = refl }) (inl (omega arith))
    (record {
      content = Holds moment Sll2 cooked_packet;
      says = inl (refl, says_packet);
      becomes = (refl, refl, refl, omega arith, refl);
    })

pub returns : goal.returns
returns c = (
  Pcapng (section_of 2 22 both_links 1 3),
  (
    Pcapng (section_of 2 22 both_links 1 3),
    [],
    record {
      mid = Pcapng (section_of 2 22 both_links 1 2);
      between = enhanced_block;
      passes = record {
        units = section_block ∷ interface_block ∷ other_interface ∷ other_block ∷ empty_block ∷ [];
        row = (
          Pcapng (section_of 0 0 (replicate 32 Ethernet) 0 0),
          nowhere,
          [],
          [],
          inr (refl, opens),
          (
            Pcapng (section_of 1 22 first_link 0 0),
            nowhere,
            [],
            [],
            describes,
            (
              Pcapng (section_of 2 22 both_links 0 0),
              nowhere,
              [],
              [],
              describes_other,
              (
                Pcapng (section_of 2 22 both_links 1 1),
                other_moment,
                [],
                [],
                passes_over,
                (
                  Pcapng (section_of 2 22 both_links 1 2),
                  empty_moment,
                  [],
                  [],
                  holds_nothing,
                  (refl, refl),
                  refl,
                ),
                refl,
              ),
              refl,
            ),
            refl,
          ),
          refl,
        );
        parts = refl;
      };
      has = record {
        has_unit = record { unit = enhanced_block; parts = refl; is_unit = holds_packet };
        is_on = λ some. (
          Little,
          inl (other_kind 0x06000000 (omega arith), refl),
          record {
            packet = cooked_packet;
            says = inl (refl, says_packet);
            wire = refl;
            parts = refl;
          },
        );
      };
      some = omega arith;
      number = refl;
    },
    passes_start (Pcapng (section_of 2 22 both_links 1 3)) [],
  ),
  refl,
)
