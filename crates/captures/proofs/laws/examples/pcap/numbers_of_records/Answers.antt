use Rattle.std.proofs.Common.{arith, refl, [], ◌∷◌}
use Rattle.captures.specs.Examples.{cooked_packet, empty_record, file_after, file_header, origin_at, packet_record}
use Rattle.captures.specs.Units.{record_origin}
use Rattle.captures.specs.declared.byte_order.ByteOrder.TheVariants.{Big}
use Rattle.captures.specs.declared.link.kind.Link.TheVariants.{Sll2}
use Rattle.captures.specs.declared.time.time_unit.TimeUnit.TheVariants.{Nanoseconds}
use Rattle.captures.proofs.ExampleRecords.{holds_packet, is_record, opens_file}
use Rattle.captures.proofs.UnitLemmas.{passes_start}
use Rattle.captures.proofs.laws.examples.pcap.numbers_of_records.Goals as goal

pub returns : goal.returns
returns c = (
  file_after 2,
  [],
  record {
    mid = file_after 1;
    between = packet_record;
    passes = record {
      units = file_header ∷ empty_record ∷ [];
      row = (
        file_after 0,
        origin_at 0 0,
        [],
        [],
        opens_file,
        (
          file_after 1,
          record_origin Big Nanoseconds Sll2 empty_record,
          [],
          [],
          (
            record {
              packet = [];
              is_record = record { head = empty_record; parts = refl; size = refl; captured = refl };
              read = refl;
              fits = omega arith;
              is_reported = refl;
              next = refl;
            },
            refl,
          ),
          (refl, refl),
          refl,
        ),
        refl,
      );
      parts = refl;
    };
    has = record {
      has_unit = record { unit = packet_record; parts = refl; is_unit = (is_record 1, refl) };
      is_on = λ some. (
        refl,
        record { packet = cooked_packet; is_record = holds_packet; wire = refl; parts = refl },
      );
    };
    some = omega arith;
    number = refl;
  },
  passes_start (file_after 2) [],
)
