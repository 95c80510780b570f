-- The header of a message and the payload after it agree with its slice.
use Rattle.std.proofs.lemmas.Bool.Decides.{nat_tests}
use Rattle.std.proofs.Common.{◌≡◌, ◌∙◌, ◌⊎◌, ℕ, ◌<◌, ◌==◌, ◌&&◌, not, Bool, true, false, if◌then◌else◌, List, length}
use Rattle.std.proofs.Common.{take, get_or, Option, Some, None, Result, Ok, Err, sym, ap, subst, arith}
use Rattle.std.specs.Option.{option_map}
use Rattle.std.proofs.lemmas.List.{get_or-take, take_all}
use Rattle.std.specs.Result.{result_map_both}
use Rattle.ep_base.specs.declared.err.len_error.LenError.{LenError}
use Rattle.ep_base.specs.declared.len_source.LenSource.{LenSource}
use Rattle.ep_base.proofs.Prefixes.{err_ok, ok_same}
use Rattle.ep_icmp.specs.Icmpv4Fault as icmpv4_fault
use Rattle.ep_icmp.specs.Icmpv6Fault as icmpv6_fault
use Rattle.ep_ipslice.specs.Packet.{IpPayload}
use Rattle.ep_packet.specs.HeaderLayers.{MessageParts, icmpv4_parts, icmpv6_parts, message_in, message_parts, tcp_parts}
use Rattle.ep_packet.specs.HeaderLayers.{udp_parts}
use Rattle.ep_packet.specs.Payload.{Payload}
use Rattle.ep_packet.specs.Readable.{ReadMessage, message_at, tcp_fault}
use Rattle.ep_packet.specs.Readable.ReadMessage.{Icmpv4, Icmpv6, Raw, Tcp, Udp}
use Rattle.ep_packet.specs.Readable as number
use Rattle.ep_packet.specs.SameHeaders.{after_message, transport_fields}
use Rattle.ep_packet.specs.SliceFault.{within}
use Rattle.ep_packet.specs.Sliced.{result_within, read_transport, transport_in, transport_of}
use Rattle.ep_packet.specs.declared.err.packet.slice_error.SliceError.{SliceError}
use Rattle.ep_packet.specs.declared.err.packet.slice_error.SliceError.TheVariants.{Len}
use Rattle.ep_packet.specs.declared.transport.transport_header.TransportHeader.{TransportHeader}
use Rattle.ep_packet.specs.declared.transport.transport_slice.TransportSlice.{TransportSlice}
use Rattle.ep_packet.specs.declared.transport.transport_slice.TransportSlice.TheVariants as slice
use Rattle.ep_tcpudp.specs.TcpFault.{segment_at}
use Rattle.ep_tcpudp.specs.Udp.{udp_header_of, length_of}
use Rattle.ep_tcpudp.specs.UdpFault.{header_at, udp_at}

-- the header and the payload of a message's slice
abbrev pub parts_of : TransportSlice → TransportHeader × Payload
parts_of m = (transport_fields m, after_message m)

-- a datagram whose length field is 0 or counts all of these bytes
abbrev pub Counts : List ℕ → Type 0
Counts bytes = (length_of bytes ≡ 0) ⊎ (length_of bytes ≡ length bytes)

byte_is : (bytes : List ℕ) (i : ℕ) → i < 8 → get_or (take 8 bytes) i 0 ≡ get_or bytes i 0
byte_is bytes i lt = get_or-take 8 bytes i 0 lt

-- the fields of a datagram's header are those of its first 8 bytes
fields_are : (bytes : List ℕ) → udp_header_of (take 8 bytes) ≡ udp_header_of bytes
fields_are bytes = grind arith

not_zero : (n : ℕ) → n ≡ 0 → (n == 0) ≡ false → ⊥
not_zero n is other = grind arith

-- what is read of a datagram that counts all
udp_cases : (short beyond nothing small : Bool) (e f g : LenError) (bytes m : List ℕ) →
    (if short then Err e else (
    if beyond then Err f else (
    if not nothing && small then Err g else
    Ok (if nothing then bytes else take (length_of bytes) bytes)))) ≡ Ok m → Counts bytes → (length_of bytes == 0) ≡ nothing
    → (short ≡ false) × (m ≡ bytes)
udp_cases short beyond nothing small e f g bytes m is counts zero_is =
    grind (arith, ok_same, not_zero, take_all)

udp_same : (bytes m : List ℕ) → udp_at bytes ≡ Ok m → Counts bytes
    → udp_parts bytes (header_at bytes) ≡ Ok (Some (parts_of (slice.Udp m)))
udp_same bytes m is counts = grind (arith, nat_tests, udp_cases, fields_are)

-- what a protocol's reader returns for its message
read_alike : {E : Type 0} (message : List ℕ → ReadMessage) (fault : E → SliceError)
    (parts : Result (List ℕ) E → Result MessageParts SliceError) →
    ((x : List ℕ) → parts (Ok x) ≡ Ok (option_map parts_of (transport_of (message x))))
    → (r : Result (List ℕ) E) (m : ReadMessage) → result_map_both message fault r ≡ Ok m →
    parts r ≡ Ok (option_map parts_of (transport_of m))
read_alike message fault parts each (Ok x) m is =
    each x ∙ ap (λ (w : ReadMessage). Ok (option_map parts_of (transport_of w)))
    (ok_same {E = SliceError} (message x) m is)
read_alike message fault parts each (Err e) m is = absurd (err_ok (fault e) m is)

-- a datagram counts all of its bytes
abbrev CountsAll : List ℕ → Option TransportSlice → Type 0
CountsAll bytes o = (datagram : List ℕ) → o ≡ Some (slice.Udp datagram) → Counts bytes

datagram_same : (bytes : List ℕ) (r : Result (List ℕ) LenError) (m : ReadMessage) → udp_at bytes ≡ r
    → result_map_both (λ x. Udp x) (λ e. Len e) r ≡ Ok m → CountsAll bytes (transport_of m) →
    udp_parts bytes (header_at bytes) ≡ Ok (option_map parts_of (transport_of m))
datagram_same bytes r m found is counts = grind (arith, ok_same, udp_same, err_ok)

message_cases : (a b c d : Bool) (bytes : List ℕ) (m : ReadMessage) →
    (if a then result_map_both (λ x. Icmpv4 x) (λ e. Len e) (icmpv4_fault.message_at bytes)
    else (if b then result_map_both (λ x. Tcp x) tcp_fault (segment_at bytes)
    else (if c then result_map_both (λ x. Udp x) (λ e. Len e) (udp_at bytes)
    else (if d then result_map_both (λ x. Icmpv6 x) (λ e. Len e) (icmpv6_fault.message_at bytes)
    else Ok (Raw bytes))))) ≡ Ok m → CountsAll bytes (transport_of m) →
    (if a then icmpv4_parts (icmpv4_fault.message_at bytes)
    else (if b then tcp_parts (segment_at bytes)
    else (if c then udp_parts bytes (header_at bytes)
    else (if d then icmpv6_parts (icmpv6_fault.message_at bytes) else Ok None))))
    ≡ Ok (option_map parts_of (transport_of m))
message_cases true b c d bytes m is counts = grind arith
message_cases false true c d bytes m is counts = grind arith
message_cases false false true d bytes m is counts = grind (arith, datagram_same)
message_cases false false false true bytes m is counts = grind arith
message_cases false false false false bytes m is counts = grind arith

message_same : (n : ℕ) (bytes : List ℕ) (m : ReadMessage) → message_at n bytes ≡ Ok m
    → CountsAll bytes (transport_of m)
    → message_parts n bytes ≡ Ok (option_map parts_of (transport_of m))
message_same n bytes m is counts = message_cases (n == number.icmpv4) (n == number.tcp)
    (n == number.udp) (n == number.icmpv6) bytes m is counts

read_same : (outer : LenSource) (n : ℕ) (bytes : List ℕ) (r : Result ReadMessage SliceError)
    (o : Option TransportSlice) → message_at n bytes ≡ r
    → result_within outer (read_transport r) ≡ Ok o → CountsAll bytes o →
    message_parts n bytes ≡ Ok (option_map parts_of o)
read_same outer n bytes (Ok m) o found is counts =
    let returned : transport_of m ≡ o = ok_same {E = SliceError} (transport_of m) o is in
    cc (message_same n bytes m found (subst (CountsAll bytes) (sym returned) counts), returned)
read_same outer n bytes (Err e) o found is counts = absurd (err_ok (within outer e) o is)

fragmented_cases : (fragment : Bool) (outer : LenSource) (n : ℕ) (bytes : List ℕ) (o : Option TransportSlice)
    → (if fragment then Ok None else result_within outer (read_transport (message_at n bytes))) ≡ Ok o
    → CountsAll bytes o →
    (if fragment then Ok None else message_parts n bytes) ≡ Ok (option_map parts_of o)
fragmented_cases true outer n bytes o is counts = grind arith
fragmented_cases false outer n bytes o is counts = grind (arith, nat_tests, read_same)

-- header and payload of the message in an IP payload are those of its slice
pub parts_in : (p : IpPayload) (o : Option TransportSlice) → transport_in p ≡ Ok o
    → ((datagram : List ℕ) → o ≡ Some (slice.Udp datagram) → Counts p.payload)
    → message_in p ≡ Ok (option_map parts_of o)
parts_in p o is counts = fragmented_cases p.fragmented p.len_source p.ip_number.0 p.payload o is counts
