-- Blocks that are too short for what they say.
use Rattle.std.proofs.Common.{◌≡◌, ◌≢◌, ℕ, ◌+◌, ◌<◌, arith, true, false, List, length}
use Rattle.std.specs.Prelude.{◌⊎◌}
use Rattle.captures.specs.Numbers.{word}
use Rattle.captures.specs.Pcapng.{Content, RefusesBlock, Says, is_read_version, section_header, interface_description}
use Rattle.captures.specs.Pcapng.{enhanced_packet, obsolete_packet}
use Rattle.captures.specs.declared.byte_order.ByteOrder.{ByteOrder}
use Rattle.captures.specs.declared.capture_error.CaptureError.TheVariants.{BadBlock, FrameTooLong, InterfaceLimit}
use Rattle.captures.specs.declared.capture_error.CaptureError.TheVariants.{LinkType}
use Rattle.captures.specs.declared.pcapng.section.Section.{Section}

pub read_version : (major minor : ℕ) → major ≡ 1 → (minor ≡ 0) ⊎ (minor ≡ 2)
    → is_read_version major minor ≡ true
read_version major minor one h = grind arith

pub other_version : (major minor : ℕ) → (major ≢ 1) ⊎ ((minor ≢ 0) × (minor ≢ 2))
    → is_read_version major minor ≡ false
other_version major minor h = grind arith

module _ (section : Section) (order : ByteOrder) (block : List ℕ) where
  pub short_header : (content : Content) → word order block 0 ≡ section_header
      → length block < 28 → Says section order block content → ⊥
  short_header content kind short says = grind arith

  pub description_is_short : word order block 0 ≡ interface_description → length block < 20
      → RefusesBlock section order block BadBlock
      × ((number : ℕ) → RefusesBlock section order block (InterfaceLimit number) → ⊥)
  description_is_short kind short = grind arith

  pub packet_is_short : (word order block 0 ≡ enhanced_packet)
      ⊎ (word order block 0 ≡ obsolete_packet)
      → length block < 32 + word order block 20
      → RefusesBlock section order block BadBlock
      × ((captured : ℕ) → RefusesBlock section order block (FrameTooLong captured) → ⊥)
      × ((number : ℕ) → RefusesBlock section order block (LinkType number) → ⊥)
  packet_is_short kind short = grind arith
