-- Which bytes of a packet are shown below its line, and how.
use Rattle.std.specs.Prelude.{ℕ, List, [], drop, Option, Some, None}
use Rattle.captures.specs.declared.link.header.Header.{Header}
use Rattle.header_descriptions.specs.ByteLines.{byte_lines}
use Rattle.packets.specs.declared.dissection.Dissection.{Dissection}
use Rattle.packets.specs.declared.show.shown_bytes.ShownBytes.{ShownBytes}
use Rattle.packets.specs.declared.show.shown_bytes.ShownBytes.TheVariants as shown

-- without the 14 bytes of the Ethernet II header; where a header was made, the bytes come after that of
-- another link
abbrev pub bytes_after_link : Option Header → List ℕ → List ℕ
bytes_after_link None bytes = drop 14 bytes
bytes_after_link (Some header) bytes = bytes

-- the lines below that of a packet
abbrev pub details_of : ShownBytes → Dissection → List ℕ
details_of shown.Nothing packet = []
details_of shown.AfterLink packet = byte_lines (bytes_after_link packet.header packet.bytes)
details_of shown.Frame packet = byte_lines packet.bytes
