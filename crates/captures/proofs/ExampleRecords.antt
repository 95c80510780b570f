-- The packet in the example of a classic capture.
use Rattle.std.proofs.Common.{arith, refl, take, List, [], ◌∷◌, ◌++◌, ℕ, ◌+◌}
use Rattle.captures.specs.Examples.{cooked_packet, file_after, file_header, origin_at, packet_at, packet_record}
use Rattle.captures.specs.Numbers.{capped}
use Rattle.captures.specs.Pcap.{IsPacketRecord}
use Rattle.captures.specs.Skipping.{passing_from}
use Rattle.captures.specs.Units.{IsRecordUnit, IsUnit, Passes}
use Rattle.captures.specs.declared.byte_order.ByteOrder.TheVariants.{Big}
use Rattle.captures.specs.declared.link.kind.Link.TheVariants.{Sll2}
use Rattle.captures.specs.declared.state.State.TheVariants.{Start}
use Rattle.captures.specs.declared.time.time_unit.TimeUnit.TheVariants.{Nanoseconds}
use Rattle.captures.specs.declared.unfit.Unfit.TheVariants.{Refuse}

pub opens_file : IsUnit (Start Refuse) file_header (file_after 0) (origin_at 0 0) []
opens_file = grind arith

pub holds_packet : IsPacketRecord Big packet_record cooked_packet
holds_packet =
    record { head = take 16 packet_record; parts = refl; size = refl; captured = refl }

-- after so many packets
pub is_record : (before : ℕ) → IsRecordUnit Big Nanoseconds Sll2
    (record (passing_from Refuse) { seen = before }) packet_record
    (file_after (capped (before + 1))) (packet_at 1700000000250000000 1494).frame
is_record before = record {
  packet = cooked_packet;
  is_record = holds_packet;
  read = refl;
  fits = omega arith;
  is_reported = refl;
  next = refl;
}

-- whatever follows it
pub passes_record : (rest : List ℕ) → Passes (Start Refuse) (file_header ++ packet_record ++ rest)
    (packet_at 1700000000250000000 1494 ∷ []) (file_after 1) rest
passes_record rest =
    let reported = packet_at 1700000000250000000 1494 in
    record {
      units = file_header ∷ packet_record ∷ [];
      row = (
        file_after 0,
        origin_at 0 0,
        [],
        reported ∷ [],
        opens_file,
        (
          file_after 1,
          reported.origin,
          reported.frame,
          [],
          (is_record 0, refl),
          (refl, refl),
          refl,
        ),
        refl,
      );
      parts = refl;
    }
