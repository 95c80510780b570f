-- What is found in a capture, in the structs of C.
use Rattle.std.specs.Prelude.{ℕ, List, [], ◌∷◌, Option, Some, None, Result, Ok, Err, unwrap_or}
use Rattle.captures.specs.Framed.{ethernet_header}
use Rattle.captures.specs.declared.capture_error.CaptureError.{CaptureError}
use Rattle.captures.specs.declared.capture_error.CaptureError.TheVariants as error
use Rattle.captures.specs.declared.link.header.Header.{Header}
use Rattle.captures.specs.declared.link.kind.Link.{Link}
use Rattle.captures.specs.declared.link.kind.Link.TheVariants as link
use Rattle.captures.specs.declared.reading.parsed.ParsedPacket.{ParsedPacket}
use Rattle.captures.specs.declared.reading.parsed.Parsed.{Parsed}
use Rattle.captures.specs.declared.reading.refused_at.RefusedAt.{RefusedAt}
use Rattle.etherparse_structs.specs.Part.{no_part}
use Rattle.etherparse_structs.specs.declared.captured.EpCaptureEnding.{EpCaptureEnding}
use Rattle.etherparse_structs.specs.declared.captured.EpCaptureError.{EpCaptureError}
use Rattle.etherparse_structs.specs.declared.captured.EpCaptured.{EpCaptured}
use Rattle.etherparse_structs.specs.declared.captured.EpCapturedPacket.{EpCapturedPacket}

abbrev pub link_number : Link → ℕ
link_number link.Ethernet = 1
link_number link.Ip = 2
link_number link.Null = 3
link_number link.Loop = 4
link_number link.Sll = 5
link_number link.Sll2 = 6
link_number (link.Other number) = 7

-- the number of an error, and the two numbers in it
abbrev pub error_kind : CaptureError → ℕ
error_kind error.NotCapture = 1
error_kind (error.LinkType number) = 2
error_kind (error.InterfaceLimit number) = 3
error_kind (error.FrameTooLong captured) = 4
error_kind error.NoFrame = 5
error_kind error.CutOff = 6
error_kind (error.BlockTooLong len) = 7
error_kind (error.Version major minor) = 8
error_kind error.BadBlock = 9

abbrev pub error_value : CaptureError → ℕ
error_value error.NotCapture = 0
error_value (error.LinkType number) = number
error_value (error.InterfaceLimit number) = number
error_value (error.FrameTooLong captured) = captured
error_value error.NoFrame = 0
error_value error.CutOff = 0
error_value (error.BlockTooLong len) = len
error_value (error.Version major minor) = major
error_value error.BadBlock = 0

abbrev pub error_minor : CaptureError → ℕ
error_minor error.NotCapture = 0
error_minor (error.LinkType number) = 0
error_minor (error.InterfaceLimit number) = 0
error_minor (error.FrameTooLong captured) = 0
error_minor error.NoFrame = 0
error_minor error.CutOff = 0
error_minor (error.BlockTooLong len) = 0
error_minor (error.Version major minor) = minor
error_minor error.BadBlock = 0

abbrev pub no_capture_error : EpCaptureError
no_capture_error = record { kind = 0; value = 0; minor = 0; block_type = 0; packet = 0; offset = 0 }

abbrev pub error_struct : RefusedAt → EpCaptureError
error_struct refused = record {
  kind = error_kind refused.error;
  value = error_value refused.error;
  minor = error_minor refused.error;
  block_type = unwrap_or refused.position.block 0;
  packet = refused.position.packet;
  offset = refused.position.offset;
}

-- the header that replaces the link's own, and its length
abbrev pub no_header_bytes : List ℕ
no_header_bytes = 0 ∷ 0 ∷ 0 ∷ 0 ∷ 0 ∷ 0 ∷ 0 ∷ 0 ∷ 0 ∷ 0 ∷ 0 ∷ 0 ∷ 0 ∷ 0 ∷ []

abbrev pub header_bytes : Option Header → List ℕ
header_bytes None = no_header_bytes
header_bytes (Some header) = ethernet_header header.source header.ether_type

abbrev pub header_len : Option Header → ℕ
header_len None = 0
header_len (Some header) = 14

abbrev pub no_captured_packet : EpCapturedPacket
no_captured_packet = record {
  number = 0;
  time = 0;
  interface_number = 0;
  wire_len = 0;
  link = 0;
  header_len = 0;
  header = no_header_bytes;
  bytes = no_part;
}

abbrev pub captured_packet : ParsedPacket → EpCapturedPacket
captured_packet packet = record {
  number = packet.number;
  time = packet.time;
  interface_number = packet.interface;
  wire_len = packet.wire_len;
  link = link_number packet.link;
  header_len = header_len packet.header;
  header = header_bytes packet.header;
  bytes = record { offset = packet.offset; len = packet.len };
}

abbrev pub captured_status : ℕ → EpCaptured
captured_status status = record {
  status = status;
  done = 0;
  packet = no_captured_packet;
  error = no_capture_error;
}

-- a packet, or none yet
abbrev pub found_struct : (done : ℕ) → Option ParsedPacket → EpCaptured
found_struct done None = record (captured_status 7) { done = done }
found_struct done (Some packet) = record (captured_status 0) { done = done; packet = captured_packet packet }

abbrev pub captured_struct : Result Parsed RefusedAt → EpCaptured
captured_struct (Ok parsed) = found_struct parsed.done parsed.packet
captured_struct (Err refused) = record (captured_status 3) { error = error_struct refused }

-- how a capture ends
abbrev pub end_status : ℕ → EpCaptureEnding
end_status status = record { status = status; error = no_capture_error }

abbrev pub end_struct : Result Unit RefusedAt → EpCaptureEnding
end_struct (Ok done) = end_status 0
end_struct (Err refused) = record (end_status 3) { error = error_struct refused }
