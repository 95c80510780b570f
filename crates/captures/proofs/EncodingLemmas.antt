-- What is written is read again.
use Rattle.std.proofs.Common.{◌≡◌, refl, ℕ, ◌+◌, ◌*◌, ◌/◌, ◌%◌, ◌^◌, ◌<◌, ◌≤◌, arith, Bool, List, [], ◌∷◌, length, inl}
use Rattle.std.proofs.Common.{append-nil, None, Some, Ok}
use Rattle.std.specs.Prelude.{if◌then◌else◌}
use Rattle.std.specs.List.{AllByRecursion, flat_map}
use Rattle.std.specs.Option.{option_map}
use Rattle.captures.specs.Framed.{frame_bytes, own_frame, refused_type, reported_by, reported_of, taken_limit}
use Rattle.captures.specs.Numbers.{capped}
use Rattle.captures.specs.Skipping.{none_skipped, passing_from}
use Rattle.captures.specs.declared.skipped.Passing.{Passing}
use Rattle.captures.specs.declared.skipped.Reason.TheVariants.{NoFrame}
use Rattle.captures.specs.declared.state.State.{State}
use Rattle.captures.specs.declared.unfit.Unfit.{Unfit}
use Rattle.captures.specs.Pcap.{IsPacketRecord}
use Rattle.captures.specs.CaptureRuns.{IsCapture}
use Rattle.captures.specs.Encoding.{file_header, record_head, record_of, capture_of, packets_in, parts_in, origin_of}
use Rattle.captures.specs.Encoding.{IsWritable}
use Rattle.captures.specs.CapturedFrames.{CapturedFrame}
use Rattle.captures.specs.declared.time.time_unit.TimeUnit.TheVariants.{Microseconds, Nanoseconds}
use Rattle.captures.specs.Units.{Row, in_a_row, IsRecordUnit, OpensFile, record_origin}
use Rattle.captures.specs.declared.byte_order.ByteOrder.TheVariants.{Little}
use Rattle.line_grammar.specs.declared.frame_limits.TheConstants.{FRAME_LIMIT}
use Rattle.captures.specs.declared.link.kind.Link.TheVariants.{Ethernet}
use Rattle.captures.specs.declared.state.State.TheVariants.{Classic}
use Rattle.captures.specs.declared.time.time_unit.TimeUnit.{TimeUnit}
use Rattle.captures.specs.declared.origin.Origin.{Origin}

abbrev nowhere : Origin
nowhere = record { channel = 0; time = 0; wire_len = 0 }

-- the bytes of a number encode it
encoded : (n : ℕ) → n < 2 ^ 32
    → n % 256 + 256 * (n / 256 % 256 + 256 * (n / 65536 % 256 + 256 * (n / 16777216 % 256))) ≡ n
encoded n fits = omega arith

record_is : (time_unit : TimeUnit) (given : CapturedFrame) → length given.frame ≤ FRAME_LIMIT
    → IsPacketRecord Little (record_of time_unit given) given.frame
record_is time_unit given fits = record {
  head = record_head given.seconds (parts_in time_unit given.nanoseconds) (length given.frame)
      given.wire_len;
  parts = refl;
  size = refl;
  captured = encoded (length given.frame) (omega arith);
}

-- an Ethernet packet is its frame, if it has bytes or none
either_way : (none : Bool) (frame : List ℕ)
    → reported_by NoFrame (option_map frame_bytes
    (if none then Some (own_frame frame) else Some (own_frame frame))) ≡ Ok frame
either_way none frame = grind arith

own_reported : (frame : List ℕ) → length frame ≤ FRAME_LIMIT → reported_of Ethernet frame ≡ Ok frame
own_reported frame short = grind arith

own_read : (unfit : Unfit) → refused_type unfit Ethernet ≡ None
own_read unfit = grind arith

own_fits : (unfit : Unfit) (frame : List ℕ) → length frame ≤ FRAME_LIMIT
    → length frame ≤ taken_limit unfit Ethernet
own_fits unfit frame short = grind arith

abbrev at_frames : TimeUnit → Passing → State
at_frames time_unit passing = Classic Little time_unit Ethernet passing

-- after one more packet
abbrev one_more : Passing → Passing
one_more passing = record passing { seen = capped (passing.seen + 1) }

after_frames : Passing → List CapturedFrame → Passing
after_frames passing [] = passing
after_frames passing (given ∷ frames) = after_frames (one_more passing) frames

none_more : (passing : Passing) (frames : List CapturedFrame)
    → (after_frames passing frames).skipped ≡ passing.skipped
unfolding after_frames
none_more passing [] = refl
none_more passing (given ∷ frames) = none_more (one_more passing) frames

is_unit : (time_unit : TimeUnit) (passing : Passing) (given : CapturedFrame) → length given.frame ≤ FRAME_LIMIT
    → IsRecordUnit Little time_unit Ethernet passing (record_of time_unit given)
    (at_frames time_unit (one_more passing)) given.frame
is_unit time_unit passing given fits = grind (arith, record_is, own_read, own_fits, own_reported)

units_of : TimeUnit → List CapturedFrame → List (List ℕ)
units_of time_unit [] = []
units_of time_unit (given ∷ frames) = record_of time_unit given ∷ units_of time_unit frames

in_a_row-units_of : (time_unit : TimeUnit) (frames : List CapturedFrame)
    → in_a_row (units_of time_unit frames) ≡ flat_map (record_of time_unit) frames
unfolding units_of
in_a_row-units_of time_unit [] = refl
in_a_row-units_of time_unit (given ∷ frames) = grind (arith, in_a_row-units_of time_unit frames)

its_origin : (time_unit : TimeUnit) (given : CapturedFrame) → IsWritable given
    → origin_of time_unit given ≡ record_origin Little time_unit Ethernet (record_of time_unit given)
its_origin time_unit given fits = grind arith

row_of : (time_unit : TimeUnit) (passing : Passing) (frames : List CapturedFrame)
    → AllByRecursion IsWritable frames
    → Row (at_frames time_unit passing) (units_of time_unit frames) (packets_in time_unit frames)
    (at_frames time_unit (after_frames passing frames))
unfolding units_of after_frames
row_of time_unit passing [] all = (refl, refl)
row_of time_unit passing (given ∷ frames) all = (
  at_frames time_unit (one_more passing),
  origin_of time_unit given,
  given.frame,
  packets_in time_unit frames,
  (is_unit time_unit passing given all.0.short, its_origin time_unit given all.0),
  row_of time_unit (one_more passing) frames all.1,
  refl,
)

header_is : (unfit : Unfit) (time_unit : TimeUnit)
    → OpensFile unfit (file_header time_unit) (at_frames time_unit (passing_from unfit))
header_is unfit Microseconds = record {
  order = Little;
  header = record { size = refl; magic = refl; major = refl; minor = refl };
  next = refl;
}
header_is unfit Nanoseconds = record {
  order = Little;
  header = record { size = refl; magic = refl; major = refl; minor = refl };
  next = refl;
}

pub capture_is : (unfit : Unfit) (time_unit : TimeUnit) (frames : List CapturedFrame)
    → AllByRecursion IsWritable frames
    → IsCapture unfit (capture_of time_unit frames) (packets_in time_unit frames) none_skipped
capture_is unfit time_unit frames all = record {
  state = at_frames time_unit (after_frames (passing_from unfit) frames);
  passes = record {
    units = file_header time_unit ∷ units_of time_unit frames;
    row = (
      at_frames time_unit (passing_from unfit),
      nowhere,
      [],
      packets_in time_unit frames,
      inl (header_is unfit time_unit, refl),
      row_of time_unit (passing_from unfit) frames all,
      refl,
    );
    parts = grind (arith, in_a_row-units_of, append-nil, units_of);
  };
  known = λ e. cc e;
  counts = none_more (passing_from unfit) frames;
}
