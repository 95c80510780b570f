-- What is known of a capture when its parser is taken, and when it is put back.
use Rattle.std.proofs.Common.{◌≡◌, ℕ, ◌+◌, ◌≤◌, arith, subst, true, Option, Some, None, Result, Ok, Err, IfOk, IfSome}
use Rattle.captures.specs.declared.reading.packet_parser.PacketParser.{PacketParser}
use Rattle.captures.specs.declared.reading.parsed.ParsedPacket.{ParsedPacket}
use Rattle.captures.specs.declared.reading.parsed.Parsed.{Parsed}
use Rattle.captures.specs.declared.reading.refused_at.RefusedAt.{RefusedAt}
use Rattle.etherparse_structs.specs.Capture.{Holds}
use Rattle.etherparse_structs.specs.Captured.{captured_struct, found_struct}
use Rattle.etherparse_structs.specs.declared.capture.EpCapture.{EpCapture}
use Rattle.etherparse_structs.specs.declared.capture_box.CaptureBox.{CaptureBox}

-- the parser that is taken
pub taken_parser : (p : EpCapture) (x y : CaptureBox) (fact : PacketParser → Type 0) → Holds p fact
    → p.held.value ≡ Some y → x ≡ y → fact x.parser
taken_parser p x y fact h held same =
    let is : h.box ≡ x = cc (h.held, held, same) in
    subst (λ (b : CaptureBox). fact b.parser) is h.holds

-- and that is put back
pub put_parser : (p : EpCapture) (x : CaptureBox) (fact : PacketParser → Type 0)
    → p.held.value ≡ Some x → p.is_open ≡ true → fact x.parser → Holds p fact
put_parser p x fact held is_open h = record { box = x; is_open = is_open; held = held; holds = h }

-- what is found is within the bytes
found_struct_done : (done n : ℕ) (packet : Option ParsedPacket) → done ≤ n → (found_struct done packet).done ≤ n
found_struct_done done n None h = h
found_struct_done done n (Some packet) h = h

pub found_done : (r : Result Parsed RefusedAt) (n : ℕ) → IfOk r (λ parsed. parsed.done ≤ n)
    → (captured_struct r).done ≤ n
found_done (Ok parsed) n h = found_struct_done parsed.done n parsed.packet h
found_done (Err refused) n h = omega arith

found_struct_within : (done n : ℕ) (packet : Option ParsedPacket)
    → IfSome packet (λ p. p.offset + p.len ≤ n)
    → (found_struct done packet).packet.bytes.offset + (found_struct done packet).packet.bytes.len ≤ n
found_struct_within done n None h = omega arith
found_struct_within done n (Some packet) h = h

pub found_within : (r : Result Parsed RefusedAt) (n : ℕ)
    → IfOk r (λ parsed. IfSome parsed.packet (λ p. p.offset + p.len ≤ n))
    → (captured_struct r).packet.bytes.offset + (captured_struct r).packet.bytes.len ≤ n
found_within (Ok parsed) n h = found_struct_within parsed.done n parsed.packet h
found_within (Err refused) n h = omega arith
