-- What is counted of the bytes that go over the connections of TCP conversations.
use Rattle.std.specs.Prelude.{◌≡◌, ◌⊎◌, ℕ, ◌<◌, ◌≤◌, ◌+◌, ◌-◌, ◌==◌, if◌then◌else◌, nat_le, not, Bool, true, false}
use Rattle.std.specs.Prelude.{Option, Some, None, Result, Err, List, [], ◌∷◌, ◌++◌, is_some, sum_by}
use Rattle.std.specs.HashMap.{HashMap, get, hash_map_len}
use Rattle.std.specs.List.{cons_option, filter_map}
use Rattle.std.specs.Option.{option_map, option_map_or}
use Rattle.captures.specs.declared.translation.run_error.RunError.{RunError}
use Rattle.captures.specs.declared.translation.run_error.RunError.TheVariants.{Memory}
use Rattle.ep_tcpudp.specs.Tcp as tcp
use Rattle.tcp_streams.specs.ConnectionStates.{Signal, control_in, state_after, state_of}
use Rattle.tcp_streams.specs.Counting.{Arrival, Counts, arrival, counts_in, size_in}
use Rattle.tcp_streams.specs.declared.connection_state.Control.{Control}
use Rattle.tcp_streams.specs.declared.direction.Direction.{Direction}
use Rattle.tcp_streams.specs.declared.direction.Direction.TheVariants.{FromLower, FromHigher}
use Rattle.tcp_streams.specs.declared.segment_flags.SegmentFlags.{SegmentFlags}
use Rattle.tcp_streams.specs.declared.stream_counter.StreamCounter.{StreamCounter}
use Rattle.tcp_streams.specs.declared.stream_counter.StreamCounts.{StreamCounts}
use Rattle.packets.specs.Conversations.{ascends, from_lower}
use Rattle.packets.specs.Flows.{tcp_column_of}
use Rattle.packets.specs.Followed.{whole_segment}
use Rattle.packets.specs.LaxLayers.{lax_layers_of}
use Rattle.packets.specs.MessageHeaders.{message_header}
use Rattle.packets.specs.Table.{is_key}
use Rattle.packets.specs.Transfers.{transfer_of}
use Rattle.packets.specs.declared.dissection.Dissection.{Dissection}
use Rattle.packets.specs.declared.flows.conversation.Conversation.{Conversation}
use Rattle.packets.specs.declared.flows.row.Row.{Row}
use Rattle.packets.specs.declared.flows.stream.Stream.{Stream}
use Rattle.packets.specs.declared.flows.stream.TheConstants.{STREAM_WINDOW}
use Rattle.packets.specs.declared.flows.stream_row.StreamRow.{StreamRow}
use Rattle.packets.specs.declared.flows.streams.Streams.{Streams}
use Rattle.packets.specs.declared.flows.streams.TheConstants.{HELD_SIZE, STREAM_COUNT}
use Rattle.packets.specs.declared.flows.tcp_packet.TcpPacket.{TcpPacket}
use Rattle.packets.specs.declared.flows.transfer.Transfer.{Transfer}
use Rattle.packets.specs.declared.message_header.MessageHeader.{MessageHeader}

-- ---- a packet of TCP

abbrev pub direction_by : (ascends : Bool) → Direction
direction_by true = FromLower
direction_by false = FromHigher

abbrev pub control_by : MessageHeader → Control
control_by header = control_in header.syn header.ack header.fin header.rst

abbrev pub tcp_packet_in : (ascends : Bool) → Option Conversation → Option MessageHeader → Option TcpPacket
tcp_packet_in ascends None header = None
tcp_packet_in ascends (Some conversation) None = None
tcp_packet_in ascends (Some conversation) (Some header) = if conversation.protocol.0 == 6
    then Some (record { conversation = conversation; direction = direction_by ascends; control = control_by header }) else None

-- the conversation of a packet with a TCP header, its direction and what its flags do; the protocol number of TCP is 6
abbrev pub tcp_packet : Transfer → Option MessageHeader → Option TcpPacket
tcp_packet transfer header = tcp_packet_in transfer.ascends transfer.conversation header

abbrev pub tcp_packet_of : Dissection → Option TcpPacket
tcp_packet_of packet = tcp_packet (transfer_of packet)
    (message_header packet.layers (lax_layers_of packet.header packet.bytes) packet.fragment)

-- ---- the segment that is followed

abbrev pub flags_in : List ℕ → SegmentFlags
flags_in segment = record { syn = tcp.syn_of segment; fin = tcp.fin_of segment; rst = tcp.rst_of segment }

abbrev pub acknowledgment_in : List ℕ → Option ℕ
acknowledgment_in segment = if tcp.ack_of segment then Some (tcp.acknowledgment_number_of segment) else None

-- as it is followed
abbrev pub arrival_in : Direction → (segment : List ℕ) → Arrival
arrival_in direction segment = arrival direction (tcp.sequence_number_of segment) (acknowledgment_in segment) (flags_in segment)
    (tcp.payload_of segment)

-- ---- those of a conversation

abbrev pub signal_by : Option TcpPacket → Option Signal
signal_by None = None
signal_by (Some packet) = Some (packet.direction, packet.control)

abbrev pub arrival_by : Option TcpPacket → Dissection → Option Arrival
arrival_by None packet = None
arrival_by (Some tcp_packet) packet = option_map (arrival_in tcp_packet.direction) (whole_segment packet)

-- a packet with a TCP header is one of a conversation
abbrev pub is_of : (Conversation → Conversation → Bool) → Conversation → Dissection → Bool
is_of same conversation packet = is_key same conversation (option_map (λ p. p.conversation) (tcp_packet_of packet))

abbrev pub signals_in : (Conversation → Conversation → Bool) → Conversation → List Dissection → List Signal
signals_in same conversation packets =
    filter_map (λ p. if is_of same conversation p then signal_by (tcp_packet_of p) else None) packets

abbrev pub arrivals_in : (Conversation → Conversation → Bool) → Conversation → List Dissection → List Arrival
arrivals_in same conversation packets =
    filter_map (λ p. if is_of same conversation p then arrival_by (tcp_packet_of p) p else None) packets

-- ---- what is counted

-- the state after these, and what is counted of these segments
pub record CountsStream (stream : Stream) (signals : List Signal) (arrivals : List Arrival) : Type 0 where
  pub state : stream.state ≡ state_of signals
  pub counts : Counts STREAM_WINDOW stream.counter arrivals

-- of no packet, and followed
pub record IsFresh (stream : Stream) : Type 0 where
  pub counts : CountsStream stream [] []
  pub followed : is_some stream.counter.follower ≡ true

-- ---- a stream with a packet more

abbrev pub arrivals_of : Direction → (segment : Option (List ℕ)) → List Arrival
arrivals_of direction segment = cons_option (option_map (arrival_in direction) segment) []

-- a counter counts this segment after others, if there is one; whether it follows them stays, and all of one that doesn't
pub record CountsSegment (was : StreamCounter) (direction : Direction) (segment : Option (List ℕ)) (now : StreamCounter)
    : Type 0 where
  pub counts : (kept : ℕ) (arrivals : List Arrival) → Counts kept was arrivals
      → Counts kept now (arrivals ++ arrivals_of direction segment)
  pub followed : is_some now.follower ≡ is_some was.follower
  pub stopped : was.follower ≡ None → now ≡ was

abbrev pub stopped : StreamCounter → StreamCounter
stopped counter = record counter { follower = None }

abbrev pub stopped_stream : Stream → Stream
stopped_stream stream = record stream { counter = stopped stream.counter }

-- a counter is stopped where more would be held than may be, with what is held of other streams
abbrev pub counter_within : (others : ℕ) → StreamCounter → StreamCounter
counter_within others counter =
    if nat_le (others + size_in counter.follower) HELD_SIZE then counter else stopped counter

-- a stream takes a packet while so much is held of others
pub record StreamTakes (others : ℕ) (was : Stream) (tcp_packet : TcpPacket) (packet : Dissection) (now : Stream)
    : Type 0 where
  pub state : now.state ≡ state_after was.state tcp_packet.direction tcp_packet.control
  pub reached : StreamCounter
  pub counts : CountsSegment was.counter tcp_packet.direction (whole_segment packet) reached
  pub within : now.counter ≡ counter_within others reached

-- how much is held of a stream
abbrev pub stream_size : Stream → ℕ
stream_size stream = size_in stream.counter.follower

-- how much is held of all
abbrev pub held_in : {S : Type 0} → HashMap Conversation Stream S → ℕ
held_in streams = sum_by (λ e. stream_size e.1) streams.entries

module _ {S H : Type 0} (same : Conversation → Conversation → Bool) where
  -- the stream of the packet's conversation takes it: it was this one, beside which so much was held
  pub record StreamsTake (was : Streams S H) (packet : Dissection) (now : Streams S H) (tcp_packet : TcpPacket)
      (stream : Stream) (others : ℕ) : Type 0 where
    pub stream_now : Stream
    pub takes : StreamTakes others stream tcp_packet packet stream_now
    pub held : now.held ≡ others + stream_size stream_now
    pub len : hash_map_len now.streams
        ≡ hash_map_len was.streams + (if is_some (get same was.streams tcp_packet.conversation) then 0 else 1)
    pub written : (conversation : Conversation) → get same now.streams conversation
        ≡ (if same tcp_packet.conversation conversation then Some stream_now else get same was.streams conversation)

  -- nothing changes
  pub record AreSame (was now : Streams S H) : Type 0 where
    pub held : now.held ≡ was.held
    pub len : hash_map_len now.streams ≡ hash_map_len was.streams
    pub streams : (conversation : Conversation) → get same now.streams conversation ≡ get same was.streams conversation

  -- a conversation begins with a stream of no packet, if there are fewer streams than there may be
  abbrev pub TakeFirst : (was : Streams S H) (packet : Dissection) (now : Streams S H) → TcpPacket → Type 0
  TakeFirst was packet now tcp_packet =
      (hash_map_len was.streams < STREAM_COUNT → (stream : Stream) × IsFresh stream
      × StreamsTake was packet now tcp_packet stream was.held)
      × (STREAM_COUNT ≤ hash_map_len was.streams → AreSame was now)

  abbrev pub TakeIn : (was : Streams S H) (packet : Dissection) (now : Streams S H) → TcpPacket → Option Stream → Type 0
  TakeIn was packet now tcp_packet None = TakeFirst was packet now tcp_packet
  TakeIn was packet now tcp_packet (Some stream) =
      StreamsTake was packet now tcp_packet stream (was.held - stream_size stream)

  abbrev pub TakeBy : (was : Streams S H) (packet : Dissection) (now : Streams S H) → Option TcpPacket → Type 0
  TakeBy was packet now None = AreSame was now
  TakeBy was packet now (Some tcp_packet) =
      TakeIn was packet now tcp_packet (get same was.streams tcp_packet.conversation)

  -- no memory is left for what the stream of a conversation would hold: it is stopped, and the others stay
  pub record StopsOne (was : Streams S H) (conversation : Conversation) (now : Streams S H) : Type 0 where
    pub streams : (other : Conversation) → get same now.streams other
        ≡ (if same conversation other then option_map stopped_stream (get same was.streams other)
        else get same was.streams other)
    pub held : now.held ≡ was.held - option_map_or stream_size (get same was.streams conversation) 0
    pub len : hash_map_len now.streams ≡ hash_map_len was.streams

  abbrev pub StopBy : (was now : Streams S H) → Option TcpPacket → Type 0
  StopBy was now None = ⊥
  StopBy was now (Some tcp_packet) = StopsOne was tcp_packet.conversation now

  -- streams after a packet
  abbrev pub TakePacket : (was : Streams S H) (packet : Dissection) (now : Streams S H) → Type 0
  TakePacket was packet now = TakeBy was packet now (tcp_packet_of packet)

  -- where there is no memory for a packet
  abbrev pub MissPacket : (was : Streams S H) (packet : Dissection) (now : Streams S H) → Type 0
  MissPacket was packet now = AreSame was now ⊎ StopBy was now (tcp_packet_of packet)

  -- streams after packets, one after the other
  abbrev pub TakePackets : (was : Streams S H) (packets : List Dissection) (now : Streams S H) → Type 0
  TakePackets was [] now = AreSame was now
  TakePackets was (packet ∷ packets) now =
      (next : Streams S H) × TakePacket was packet next × TakePackets next packets now

  -- and then there was no memory left for what the stream of a conversation would hold
  abbrev pub TakeAndStop : (was : Streams S H) (packets : List Dissection) (now : Streams S H) → Type 0
  TakeAndStop was packets now = (reached : Streams S H) × TakePackets was packets reached
      × (conversation : Conversation) × StopsOne reached conversation now

  -- streams after a run over packets with this result
  abbrev pub LeavesStreams : (was : Streams S H) (packets : List Dissection) → Result Unit RunError
      → (now : Streams S H) → Type 0
  LeavesStreams was packets result now = TakePackets was packets now
      ⊎ ((result ≡ Err Memory) × TakeAndStop was packets now)

-- ---- what they show of packets

-- as long as there are fewer streams than there may be, each conversation has one of which a packet came
abbrev pub IsStreamOf : (count : ℕ) → Option Stream → List Signal → List Arrival → Type 0
IsStreamOf count None signals arrivals = count < STREAM_COUNT → (signals ≡ []) × (arrivals ≡ [])
IsStreamOf count (Some stream) signals arrivals = CountsStream stream signals arrivals

-- the streams of the conversations of these packets, and how much is held of all
pub record FollowsStreams {S H : Type 0} (same : Conversation → Conversation → Bool) (streams : Streams S H)
    (packets : List Dissection) : Type 0 where
  pub each : (conversation : Conversation) → IsStreamOf (hash_map_len streams.streams)
      (get same streams.streams conversation) (signals_in same conversation packets)
      (arrivals_in same conversation packets)
  pub held : streams.held ≡ held_in streams.streams
  pub bounded : streams.held ≤ HELD_SIZE

-- ---- what is reported of them

abbrev pub no_counts : StreamCounts
no_counts = record { repeated = 0; gaps = 0; missing = 0; conflicts = 0 }

-- of the stream of a conversation, if there is one; the conversation is given in the direction of its first packet
abbrev pub stream_row : Conversation → Option Stream → StreamRow
stream_row conversation None =
    record { state = None; forward = no_counts; backward = no_counts; is_followed = false }
stream_row conversation (Some stream) = record {
  state = Some stream.state;
  forward = counts_in (direction_by (ascends conversation)) stream.counter;
  backward = counts_in (direction_by (not (ascends conversation))) stream.counter;
  is_followed = is_some stream.counter.follower;
}

-- of a row of TCP whose ports are known; streams are those of conversations from the lower end
abbrev pub stream_row_of : (of : Conversation → Option Stream) → Row → Option StreamRow
stream_row_of of row =
    if is_some (tcp_column_of row) then Some (stream_row row.conversation (of (from_lower row.conversation))) else None
