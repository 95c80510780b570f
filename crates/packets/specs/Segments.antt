-- What sequence numbers and acknowledgment numbers of TCP segments are counted from.
use Rattle.std.specs.Prelude.{◌≡◌, ℕ, ◌+◌, ◌-◌, ◌%◌, ◌^◌, ◌==◌, ◌||◌, not, if◌then◌else◌, Bool, true, false, List, [], ◌∷◌, Option, Some, None}
use Rattle.std.specs.Prelude.{is_none}
use Rattle.std.specs.Option.{IsSome}
use Rattle.std.specs.Map.{lookup}
use Rattle.lru.specs.LruCache.{LruCache, lru_cache, promoted, put_entries}
use Rattle.header_descriptions.specs.declared.show.tcp.InitialNumbers.{InitialNumbers}
use Rattle.packets.specs.LaxLayers.{lax_layers_of}
use Rattle.packets.specs.MessageHeaders.{message_header}
use Rattle.packets.specs.Transfers.{transfer_of}
use Rattle.packets.specs.declared.dissection.Dissection.{Dissection}
use Rattle.packets.specs.declared.flows.conversation.Conversation.{Conversation}
use Rattle.packets.specs.declared.message_header.MessageHeader.{MessageHeader}
use Rattle.packets.specs.declared.show.segment.Segment.{Segment}
use Rattle.packets.specs.declared.show.segment.Starts.{Starts}

-- the protocol number of TCP is 6
abbrev pub segment_in : Option Conversation → (ascends : Bool) → Option MessageHeader → Option Segment
segment_in None ascends header = None
segment_in (Some conversation) ascends None = None
segment_in (Some conversation) ascends (Some header) = if conversation.protocol.0 == 6 then Some (record {
  conversation = conversation;
  ascends = ascends;
  syn = header.syn;
  ack = header.ack;
  sequence_number = header.sequence_number;
  acknowledgment_number = header.acknowledgment_number;
}) else None

-- the segment of a packet, or of the message that it completes, if it is in a conversation
abbrev pub segment_of : Dissection → Option Segment
segment_of packet = segment_in (transfer_of packet).conversation (transfer_of packet).ascends
    (message_header packet.layers (lax_layers_of packet.header packet.bytes) packet.fragment)

-- what is counted in one direction and in the other, for the two of a conversation
abbrev pub either_way : (ascends : Bool) → (own other : ℕ) → Starts
either_way true own other = record { ascending = own; descending = other }
either_way false own other = record { ascending = other; descending = own }

-- the numbers from which those of a connection are counted, by a segment that begins it: its own number,
-- and in the other direction the number before the one that it acknowledges
abbrev pub starts_from : Segment → Starts
starts_from segment = either_way segment.ascends segment.sequence_number
    ((segment.acknowledgment_number + (2 ^ 32 - 1)) % 2 ^ 32)

abbrev pub initial_numbers_by : Starts → (ascends : Bool) → InitialNumbers
initial_numbers_by starts true = record { sequence = starts.ascending; acknowledgment = starts.descending }
initial_numbers_by starts false = record { sequence = starts.descending; acknowledgment = starts.ascending }

abbrev pub no_initial_numbers : InitialNumbers
no_initial_numbers = record { sequence = 0; acknowledgment = 0 }

-- a segment begins a connection that isn't known, and by SYN one that is
abbrev pub begins : Segment → Option Starts → Bool
begins segment known = segment.syn || is_none known

-- of a segment, with what is known of its connection: one that begins it, and one that acknowledges
-- nothing, have their own numbers
abbrev pub initial_numbers_of : Segment → Option Starts → InitialNumbers
initial_numbers_of segment None = no_initial_numbers
initial_numbers_of segment (Some starts) = if not segment.ack || segment.syn then no_initial_numbers
    else initial_numbers_by starts segment.ascends

-- what is known after a segment: what it begins comes first, and pushes out the connection of which no
-- segment came for the longest time where all places are taken
abbrev pub known_after : (Conversation → Conversation → Bool) → LruCache Conversation Starts → Segment
    → LruCache Conversation Starts
known_after same known segment = if not segment.ack then known
    else (if begins segment (lookup (same segment.conversation) known.entries)
    then lru_cache (put_entries same known segment.conversation (starts_from segment)) known.cap
    else lru_cache (promoted (same segment.conversation) known.entries) known.cap)

-- what is known after some segments, one after the other
abbrev pub known_after_all : (Conversation → Conversation → Bool) → LruCache Conversation Starts
    → List Segment → LruCache Conversation Starts
known_after_all same known [] = known
known_after_all same known (segment ∷ segments) =
    known_after_all same (known_after same known segment) segments

-- a connection is known after each of some segments, and none of them begins it anew
abbrev pub GoesOn : (Conversation → Conversation → Bool) → Conversation → LruCache Conversation Starts
    → List Segment → Type 0
GoesOn same connection known [] = Unit {0}
GoesOn same connection known (segment ∷ segments) =
    (same connection segment.conversation ≡ true → segment.ack ≡ true → segment.syn ≡ false)
    × IsSome (lookup (same connection) (known_after same known segment).entries)
    × GoesOn same connection (known_after same known segment) segments
