-- The record of a multicast group in a report, as fields and numbers.
use Rattle.std.specs.Prelude.{ℕ, ◌+◌, ◌-◌, ◌==◌, Bool, if◌then◌else◌, List, [], ◌∷◌, ◌++◌, length, replicate, slice_range}
use Rattle.std.specs.Prelude.{drop, take, Option, Some, None, Result, Ok, Err}
use Rattle.etherparse.specs.base.Bytes.{num}
use Rattle.etherparse.specs.icmp.Multicast.{records_of, size_at, sources_end, sources_of}
use Rattle.etherparse.specs.icmp.declared.transport.multicast.multicast_error.GroupRecordError.{GroupRecordError}
use Rattle.etherparse_structs.specs.Part.{no_part, part_after, part_at, part_bytes}
use Rattle.etherparse_structs.specs.declared.group_record.EpGroupRecord.{EpGroupRecord}
use Rattle.etherparse_structs.specs.declared.group_record.EpGroupRecords.{EpGroupRecords}

-- how many bytes an address has
abbrev pub address_len : (is_ipv6 : Bool) → ℕ
address_len is_ipv6 = if is_ipv6 then 16 else 4

-- an address of IPv4, filled up to 16 bytes
abbrev pub padded : List ℕ → List ℕ
padded address = address ++ replicate 12 0

-- the address at this offset
abbrev pub group_at : (is_ipv6 : Bool) → ℕ → List ℕ → List ℕ
group_at is_ipv6 at bytes = if is_ipv6 then slice_range bytes at (at + 16)
    else padded (slice_range bytes at (at + 4))

abbrev pub no_group_record : EpGroupRecord
no_group_record = record {
  bytes = no_part;
  sources = no_part;
  auxiliary_data = no_part;
  needed = 0;
  there = 0;
  kind = 0;
  record_type = 0;
  group = replicate 16 0;
}

-- the record that these bytes are, from this offset on: type, group, sources, and what follows them
abbrev pub record_struct : (place : ℕ) → (is_ipv6 : Bool) → List ℕ → EpGroupRecord
record_struct place is_ipv6 bytes = record no_group_record {
  bytes = part_at place bytes;
  sources = part_at (place + (4 + address_len is_ipv6)) (sources_of (address_len is_ipv6) bytes);
  auxiliary_data = part_at (place + sources_end (address_len is_ipv6) bytes)
      (drop (sources_end (address_len is_ipv6) bytes) bytes);
  kind = 1;
  record_type = num bytes 0 1;
  group = group_at is_ipv6 4 bytes;
}

-- one that is cut off
abbrev pub cut_struct : (place : ℕ) → GroupRecordError → EpGroupRecord
cut_struct place e = record no_group_record {
  bytes = record { offset = place; len = 0 };
  needed = e.needed_len;
  there = e.actual_len;
  kind = 2;
}

abbrev pub group_struct : (place : ℕ) → (is_ipv6 : Bool) → Result (List ℕ) GroupRecordError → EpGroupRecord
group_struct place is_ipv6 (Ok bytes) = record_struct place is_ipv6 bytes
group_struct place is_ipv6 (Err e) = cut_struct place e

-- records in a row, from this offset on
abbrev pub record_len : Result (List ℕ) GroupRecordError → ℕ
record_len (Ok bytes) = length bytes
record_len (Err e) = 0

abbrev pub group_structs : (place : ℕ) → (is_ipv6 : Bool) → List (Result (List ℕ) GroupRecordError)
    → List EpGroupRecord
group_structs place is_ipv6 [] = []
group_structs place is_ipv6 (item ∷ items) =
    group_struct place is_ipv6 item ∷ group_structs (place + record_len item) is_ipv6 items

-- all records that are left, in their order; one that is cut off is the last
abbrev pub group_records_left : List ℕ → EpGroupRecords → List EpGroupRecord
group_records_left bytes left = group_structs left.left.offset left.is_ipv6
    (records_of (address_len left.is_ipv6) (record {
      rest = part_bytes bytes left.left;
      end = length (part_bytes bytes left.left);
      count = left.count;
    }))

-- the size of the first of them, or its fault
abbrev pub first_size : List ℕ → EpGroupRecords → Result ℕ GroupRecordError
first_size bytes left = size_at (address_len left.is_ipv6) 0 (part_bytes bytes left.left)

-- the record of this size at the start of the bytes
abbrev pub record_of_size : List ℕ → Result ℕ GroupRecordError → Result (List ℕ) GroupRecordError
record_of_size bytes (Ok size) = Ok (take size bytes)
record_of_size bytes (Err e) = Err e

-- the first of them, where one is left
abbrev pub first_record : List ℕ → EpGroupRecords → Option (Result (List ℕ) GroupRecordError)
first_record bytes left = if left.count == 0 then None
    else Some (record_of_size (part_bytes bytes left.left) (first_size bytes left))

abbrev pub struct_of_first : List ℕ → EpGroupRecords → EpGroupRecord
struct_of_first bytes left = if left.count == 0 then no_group_record
    else group_struct left.left.offset left.is_ipv6
    (record_of_size (part_bytes bytes left.left) (first_size bytes left))

-- what is left after it: nothing after one that is cut off
abbrev pub after_size : List ℕ → EpGroupRecords → Result ℕ GroupRecordError → EpGroupRecords
after_size bytes left (Ok size) =
    record left { left = part_after size left.left; count = left.count - 1 }
after_size bytes left (Err e) =
    record left { left = part_after (length (part_bytes bytes left.left)) left.left; count = 0 }

abbrev pub records_after : List ℕ → EpGroupRecords → EpGroupRecords
records_after bytes left = if left.count == 0 then left else after_size bytes left (first_size bytes left)

-- a struct of kind 0 is none
abbrev pub some_group_record : EpGroupRecord → Option EpGroupRecord
some_group_record r = if r.kind == 0 then None else Some r
