-- The value of a transport header and of the borrowed payload after it.
use Rattle.std.specs.Prelude.{Option, Some, None, Result, Ok, Err}
use Rattle.ep_packet.specs.HeaderLayers.{MessageParts}
use Rattle.ep_packet.specs.Payload.{payload_parsed}
use Rattle.ep_packet.specs.declared.err.packet.slice_error.SliceError.{SliceError}
use Rattle.ep_packet.specs.declared.payload_slice.PayloadSlice.{PayloadSlice}
use Rattle.ep_packet.specs.declared.transport.transport_header.TransportHeader.{TransportHeader}

abbrev pub maybe_parsed : Option (TransportHeader × PayloadSlice) → MessageParts
maybe_parsed None = None
maybe_parsed (Some m) = Some (m.0, payload_parsed m.1)

abbrev pub parts_parsed : Result (Option (TransportHeader × PayloadSlice)) SliceError
    → Result MessageParts SliceError
parts_parsed (Ok m) = Ok (maybe_parsed m)
parts_parsed (Err e) = Err e
