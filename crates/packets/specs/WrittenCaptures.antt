-- The captures that are written of packets: classic captures of Ethernet II frames, with times in
-- nanoseconds (draft-ietf-opsawg-pcap, sections 4 and 5).
use Rattle.std.specs.Prelude.{◌≡◌, ℕ, ◌-◌, ◌/◌, ◌%◌, ◌^◌, min, List, ◌++◌, length, Option, Result}
use Rattle.std.specs.List.{flat_map}
use Rattle.captures.specs.Encoding.{file_header, record_head}
use Rattle.captures.specs.Framed.{frame_wire_len, made_header}
use Rattle.captures.specs.declared.time.time_unit.TimeUnit.TheVariants.{Nanoseconds}
use Rattle.captures.specs.declared.translation.run_error.RunError.{RunError}
use Rattle.packets.specs.Written.{Writes}
use Rattle.packets.specs.declared.dissection.Dissection.{Dissection}
use Rattle.packets.specs.declared.run.omitted.Omitted.{Omitted}
use Rattle.packets.specs.declared.run.rules.Rules.{Rules}

-- a number in a record: one that 32 bits don't hold is written as the greatest that they do
abbrev pub in_32_bits : ℕ → ℕ
in_32_bits n = min n (2 ^ 32 - 1)

-- the Ethernet II frame of a packet, with the header that was made for it if one was
abbrev pub frame_of : Dissection → List ℕ
frame_of packet = made_header packet.header ++ packet.bytes

abbrev pub head_of : Dissection → List ℕ
head_of packet = record_head (in_32_bits (packet.time / 1000000000)) (packet.time % 1000000000)
    (in_32_bits (length (frame_of packet)))
    (frame_wire_len (length (frame_of packet)) packet.captured_len packet.wire_len)

abbrev pub record_of : Dissection → List ℕ
record_of packet = head_of packet ++ frame_of packet

-- the records of some packets, each once and in their order
abbrev pub records_of : List Dissection → List ℕ
records_of packets = flat_map record_of packets

abbrev pub capture_of : List Dissection → List ℕ
capture_of packets = file_header Nanoseconds ++ records_of packets

-- a run with this result read from the source, left this out, and wrote after the first bytes the
-- records of those packets that its rules let through
abbrev pub WritesRecords : Rules → Omitted → (source first now : Option (List ℕ))
    → Result Unit RunError → Type 0
WritesRecords rules omitted source first now result =
    Writes (λ packets text. text ≡ records_of packets) rules omitted source first now result

-- the same of the capture of those packets, with its file header
abbrev pub WritesCapture : Rules → Omitted → (source first now : Option (List ℕ))
    → Result Unit RunError → Type 0
WritesCapture rules omitted source first now result =
    Writes (λ packets text. text ≡ capture_of packets) rules omitted source first now result
