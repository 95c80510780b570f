-- Records of multicast groups, with addresses of n bytes: 4 over IPv4 (RFC 3376, section 4.2), 16
-- over IPv6 (RFC 3810, section 5.2).
use Rattle.std.specs.Prelude.{◌≡◌, ◌⊎◌, map, ℕ, zero, suc, ◌+◌, ◌-◌, ◌*◌, ◌<◌, ◌≤◌, ◌==◌, nat_lt, if◌then◌else◌, List, [], ◌∷◌, ◌++◌, length}
use Rattle.std.specs.Prelude.{slice_range, drop, take, Option, Some, None, Result, Ok, Err}
use Rattle.std.specs.List.{All, concat}
use Rattle.ep_base.specs.Bytes.{num}
use Rattle.ep_base.specs.Refusals.{unless_refused}
use Rattle.ep_icmp.specs.declared.transport.multicast.multicast_error.GroupRecordError.{GroupRecordError}
use Rattle.ep_icmp.specs.declared.transport.multicast.multicast_error.MulticastError.{MulticastError}

-- a message of a kind that needs more bytes
abbrev pub too_few : {A : Type 0} → ℕ → List ℕ → Result A MulticastError
too_few needed bytes = Err (record { needed_len = needed; actual_len = length bytes })

-- a message where so many bytes are there
abbrev pub needs : {A : Type 0} → ℕ → List ℕ → A → Result A MulticastError
needs needed bytes message = if nat_lt (length bytes) needed then too_few needed bytes else Ok message

-- what follows the sources of a record begins here: byte 2 and 3 count the sources
abbrev pub sources_end : ℕ → List ℕ → ℕ
sources_end n bytes = 4 + n + n * num bytes 2 2

-- the length of a record: byte 1 counts the words of 4 bytes after its sources
abbrev pub record_len : ℕ → List ℕ → ℕ
record_len n bytes = sources_end n bytes + 4 * num bytes 1 1

-- the bytes are a record, and no more
pub record IsRecord (n : ℕ) (bytes : List ℕ) : Type 0 where
  pub prefix : 4 + n ≤ length bytes
  pub whole : length bytes ≡ record_len n bytes

abbrev pub sources_of : ℕ → List ℕ → List ℕ
sources_of n bytes = slice_range bytes (4 + n) (sources_end n bytes)

-- the record at this offset needs so many bytes, and fewer are left
abbrev pub cut_off : ℕ → ℕ → List ℕ → GroupRecordError
cut_off offset needed bytes =
    record { offset = offset; needed_len = needed; actual_len = length bytes }

-- the size of the record at this offset, at the start of the bytes, or its fault
abbrev pub size_at : ℕ → ℕ → List ℕ → Result ℕ GroupRecordError
size_at n offset bytes = unless_refused (
    (nat_lt (length bytes) (4 + n), cut_off offset (4 + n) bytes)
    ∷ (nat_lt (length bytes) (record_len n bytes), cut_off offset (record_len n bytes) bytes) ∷ [])
    (record_len n bytes)

-- what an iterator has left: bytes, how many there were at first, and how many records
pub record RecordsLeft : Type 0 where
  pub rest : List ℕ
  pub end : ℕ
  pub count : ℕ

-- what is left after a step: nothing after a fault
abbrev pub left_after_record : Result ℕ GroupRecordError → RecordsLeft → RecordsLeft
left_after_record (Ok size) left =
    record left { rest = drop size left.rest; count = left.count - 1 }
left_after_record (Err f) left = record left { rest = []; count = 0 }

abbrev pub left_after : ℕ → RecordsLeft → RecordsLeft
left_after n left = if left.count == 0 then left else
    left_after_record (size_at n (left.end - length left.rest) left.rest) left

-- a record and those after it, or a fault, which is the last item
abbrev pub record_and : Result ℕ GroupRecordError → List ℕ
    → (List ℕ → List (Result (List ℕ) GroupRecordError))
    → List (Result (List ℕ) GroupRecordError)
record_and (Ok size) bytes later = Ok (take size bytes) ∷ later (drop size bytes)
record_and (Err f) bytes later = Err f ∷ []

-- all items: so many records, or those before the first that is cut off, and its fault
unfoldable pub records_within : ℕ → ℕ → ℕ → List ℕ → List (Result (List ℕ) GroupRecordError)
records_within n end zero bytes = []
records_within n end (suc count) bytes =
    record_and (size_at n (end - length bytes) bytes) bytes (records_within n end count)

abbrev pub records_of : ℕ → RecordsLeft → List (Result (List ℕ) GroupRecordError)
records_of n left = records_within n left.end left.count left.rest

-- the record at this offset, at the start of the bytes, is cut off: it needs so many bytes
abbrev pub IsCutOff : ℕ → ℕ → List ℕ → GroupRecordError → Type 0
IsCutOff n offset bytes f = (f ≡ cut_off offset f.needed_len bytes) × (length bytes < f.needed_len)
    × ((f.needed_len ≡ 4 + n) ⊎ (4 + n ≤ length bytes) × (f.needed_len ≡ record_len n bytes))

-- why records end before these bytes at this offset: none is left, or the one there is cut off
abbrev pub EndsAs : ℕ → ℕ → ℕ → Option GroupRecordError → List ℕ → Type 0
EndsAs n offset more None rest = more ≡ 0
EndsAs n offset more (Some f) rest = (0 < more) × IsCutOff n offset rest f

-- the records, and after them the fault if there is one
abbrev pub items_and : List (List ℕ) → Option GroupRecordError
    → List (Result (List ℕ) GroupRecordError)
items_and records None = map (λ x. Ok x) records
items_and records (Some f) = map (λ x. Ok x) records ++ Err f ∷ []

-- these items are the records that are left: one after the other, each as long as it names
pub record AreRecords (n : ℕ) (left : RecordsLeft)
    (items : List (Result (List ℕ) GroupRecordError)) : Type 0 where
  pub records : List (List ℕ)
  pub fault : Option GroupRecordError
  pub rest : List ℕ
  pub more : ℕ
  pub each : All (IsRecord n) records
  pub encoded : left.rest ≡ concat records ++ rest
  pub counted : left.count ≡ length records + more
  pub ends : EndsAs n (left.end - length rest) more fault rest
  pub all : items ≡ items_and records fault

-- what is left is read as these records
abbrev pub RecordsAreEncoded : Type 0
RecordsAreEncoded = (n : ℕ) (left : RecordsLeft) → AreRecords n left (records_of n left)

-- and as no others
abbrev pub NoOtherRecords : Type 0
NoOtherRecords = (n : ℕ) (left : RecordsLeft) (items : List (Result (List ℕ) GroupRecordError))
    → AreRecords n left items → items ≡ records_of n left
