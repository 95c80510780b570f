-- Streams after packets, one after the other.
use Rattle.std.proofs.Common.{refl, ◌++◌, ◌∷◌, [], Bool, List, Option, Some, None, inl, inr}
use Rattle.std.specs.Prelude.{◌⊎◌}
use Rattle.packets.specs.Streams.{AreSame, MissPacket, StopBy, StopsOne, TakeAndStop, TakePacket, TakePackets, tcp_packet_of}
use Rattle.packets.specs.declared.dissection.Dissection.{Dissection}
use Rattle.packets.specs.declared.flows.conversation.Conversation.{Conversation}
use Rattle.packets.specs.declared.flows.streams.Streams.{Streams}
use Rattle.packets.specs.declared.flows.tcp_packet.TcpPacket.{TcpPacket}
use Rattle.packets.proofs.StreamLemmas.{same_after, takes_moved}

module _ {S H : Type 0} (same : Conversation → Conversation → Bool) where
  pub unchanged : (streams : Streams S H) → AreSame same streams streams
  unchanged streams = record { held = refl; len = refl; streams = λ q. refl }

  -- a packet more
  pub taken_more : (start was now : Streams S H) (seen : List Dissection) (packet : Dissection)
      → TakePackets same start seen was → TakePacket same was packet now
      → TakePackets same start (seen ++ packet ∷ []) now
  taken_more start was now [] packet taken takes = (now, takes_moved same start was now packet taken takes, unchanged now)
  taken_more start was now (p ∷ seen) packet taken takes =
      (taken.0, taken.1, taken_more taken.0 was now seen packet taken.2 takes)

  taken_same : (start was now : Streams S H) (seen : List Dissection) → TakePackets same start seen was
      → AreSame same was now → TakePackets same start seen now
  taken_same start was now [] taken are = same_after same start was now taken are
  taken_same start was now (p ∷ seen) taken are = (taken.0, taken.1, taken_same taken.0 was now seen taken.2 are)

  stopped_by : (was now : Streams S H) (o : Option TcpPacket) → StopBy same was now o
      → (conversation : Conversation) × StopsOne same was conversation now
  stopped_by was now None stops = absurd stops
  stopped_by was now (Some tcp_packet) stops = (tcp_packet.conversation, stops)

  -- no memory for the next one
  pub taken_or_stopped : (start was now : Streams S H) (seen : List Dissection) (packet : Dissection)
      → TakePackets same start seen was → MissPacket same was packet now
      → TakePackets same start seen now ⊎ TakeAndStop same start seen now
  taken_or_stopped start was now seen packet taken (inl are) = inl (taken_same start was now seen taken are)
  taken_or_stopped start was now seen packet taken (inr stops) =
      let one = stopped_by was now (tcp_packet_of packet) stops in inr (was, taken, one.0, one.1)
