-- Where the bytes of a packet are.
use Rattle.std.proofs.Common.{◌≡◌, sym, ap, ℕ, ◌+◌, ◌-◌, ◌≤◌, ◌<◌, arith, List, [], ◌++◌, length, take, drop}
use Rattle.std.proofs.Common.{append_assoc, length-append}
use Rattle.std.proofs.lemmas.List.{take-append-drop, length-take-le}
use Rattle.captures.specs.Framed.{FrameParts, IsBack, frame_bytes, own_frame}
use Rattle.captures.specs.Units.{StandsAt}

pub back_len : (bytes part : List ℕ) → IsBack bytes part → length part ≤ length bytes
back_len bytes part b = omega (arith, ap length b.parts, length-append b.prefix part)

pub stands_inside : (bytes part : List ℕ) (at : ℕ) → StandsAt bytes at part
    → at + length part ≤ length bytes
stands_inside bytes part at s = grind (arith, length-append)

-- the end of the bytes there
pub stands_back : (bytes whole part : List ℕ) (n at : ℕ) → StandsAt bytes n whole
    → IsBack whole part → at ≡ n + (length whole - length part) → StandsAt bytes at part
stands_back bytes whole part n at s b is = record {
  before = s.before ++ b.prefix;
  following = s.following;
  parts =
      grind (arith, append_assoc);
  position =
      grind (arith, length-append);
}

pub stands_range : (bytes part : List ℕ) (n m : ℕ) → n + m ≤ length bytes
    → part ≡ take m (drop n bytes) → StandsAt bytes n part
stands_range bytes part n m fits is = record {
  before = take n bytes;
  following = drop m (drop n bytes);
  parts =
      grind (arith, take-append-drop);
  position = length-take-le n bytes (omega arith);
}

-- more bytes after them
pub stands_prefix : (bytes block rest part : List ℕ) (at : ℕ) → bytes ≡ block ++ rest
    → StandsAt block at part → StandsAt bytes at part
stands_prefix bytes block rest part at parts s = grind (arith, append_assoc)

pub stands_empty : (bytes : List ℕ) (at : ℕ) (frame : FrameParts) → at ≡ 0
    → frame ≡ own_frame [] → StandsAt bytes at frame.bytes
stands_empty bytes at frame none is = record {
  before = [];
  following = bytes;
  parts = cc is;
  position = sym none;
}

-- of a frame of no bytes nothing is required
pub none_of : (frame : FrameParts) → frame ≡ own_frame [] → 0 < length (frame_bytes frame)
    → (P : Type 0) → P
none_of frame is some P =
    let none = ap (λ (f : FrameParts). length (frame_bytes f)) is in absurd (omega arith)
