-- The bytes of a frame, and those of its packet that were captured.
use Rattle.std.proofs.Common.{◌≡◌, ap, ℕ, ◌<◌, arith, List, [], ◌∷◌, length, length-drop, Option, Some, None}
use Rattle.std.specs.Option.{option_map}
use Rattle.captures.specs.Framed.{FrameParts, captured_len, frame_bytes, frame_len, frame_parts, framed_after}
use Rattle.captures.proofs.FramedLemmas.{framed_len}
use Rattle.captures.specs.declared.link.kind.Link.{Link}
use Rattle.captures.specs.declared.link.kind.Link.TheVariants.{Ethernet, Ip, Null, Loop, Sll, Sll2, Other}

after_header : (source : List ℕ) (ether_type : Option ℕ) (rest : List ℕ) (frame : FrameParts)
    → framed_after source ether_type rest ≡ Some frame → frame.bytes ≡ rest
after_header source None rest frame is = grind arith
after_header source (Some ether_type) rest frame is = grind arith

pub captured_is : (link : Link) (packet : List ℕ) (frame : FrameParts) → 0 < length packet
    → frame_parts link packet ≡ Some frame → captured_len link frame ≡ length packet
captured_is Ethernet packet frame some is = grind arith
captured_is Ip packet frame some is = grind (arith, after_header)
captured_is Null packet frame some is = grind (arith, after_header, length-drop)
captured_is Loop packet frame some is = grind (arith, after_header, length-drop)
captured_is Sll packet frame some is = grind (arith, after_header, length-drop)
captured_is Sll2 packet frame some is = grind (arith, after_header, length-drop)
captured_is (Other number) packet frame some is = grind arith

-- the same of a frame that has bytes
empty_frame : (link : Link) (frame : FrameParts) → frame_parts link [] ≡ Some frame
    → length (frame_bytes frame) ≡ 0
empty_frame link frame is = grind arith

pub captured_of : (link : Link) (packet : List ℕ) (frame : FrameParts) → 0 < length (frame_bytes frame)
    → frame_parts link packet ≡ Some frame → captured_len link frame ≡ length packet
captured_of link [] frame some is = absurd (omega (arith, empty_frame link frame is))
captured_of link (byte ∷ packet) frame some is = captured_is link (byte ∷ packet) frame (omega arith) is

pub frame_len_is : (link : Link) (packet : List ℕ) (frame : FrameParts) → 0 < length (frame_bytes frame)
    → frame_parts link packet ≡ Some frame → length (frame_bytes frame) ≡ frame_len link (length packet)
frame_len_is link packet frame some is =
    framed_len link packet (frame_bytes frame) (ap (option_map frame_bytes) is) some
