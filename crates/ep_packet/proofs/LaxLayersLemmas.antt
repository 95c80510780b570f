-- The offsets of faults in layers, as far as these are there, lie within the bytes.
use Rattle.std.proofs.Common.{◌≡◌, sym, subst, refl, ℕ, ◌+◌, ◌≤◌, ◌<◌, ◌^◌, List}
use Rattle.std.proofs.Common.{length, Option, Some, None, Result, Ok, Err, IfErr, IfSome, arith}
use Rattle.std.specs.Option.{option_map}
use Rattle.ep_base.specs.SliceError.{CanMove}
use Rattle.ep_base.specs.declared.err.slice_error.SliceError.{SliceError as HeaderSliceError}
use Rattle.ep_ext.specs.Chain.{Fault}
use Rattle.ep_ext.specs.Ipv4Exts.{auth_bytes}
use Rattle.ep_ext.specs.declared.err.ip_auth.header_error.HeaderError.{HeaderError as AuthFault}
use Rattle.ep_ip.specs.declared.err.ipv4.header_error.HeaderError.{HeaderError as Ipv4HeaderFault}
use Rattle.ep_ip.specs.declared.err.ipv6.header_error.HeaderError.{HeaderError as Ipv6HeaderFault}
use Rattle.ep_ipslice.specs.LaxPackets.{StoppedIpv4, StoppedIpv6, lax_ipv4_packet_at, lax_ipv6_packet_at}
use Rattle.ep_ipslice.specs.Packet.{IpPayload}
use Rattle.ep_packet.specs.LaxFits.{Moves, TagsFit}
use Rattle.ep_packet.specs.LaxSliced.{LaxLayers, auth_stop, ipv6_exts_stop, lax_ipv4_layers, lax_ipv6_layers}
use Rattle.ep_packet.specs.LaxSliced.{lax_layers_in, lax_message_at, lax_message_in, lax_transport_in}
use Rattle.ep_packet.specs.LaxSliced.{of_auth, of_ipv4_header, of_ipv6_exts, of_ipv6_header}
use Rattle.ep_packet.specs.LaxTags.{LaxTagged, Stop}
use Rattle.ep_packet.specs.SliceFault.{fault_offset}
use Rattle.ep_tag.specs.Ether.{LaxEtherPayload}
use Rattle.ep_tag.specs.declared.link.lax_link_ext_slice.LaxLinkExtSlice.{LaxLinkExtSlice}

-- tags of these parts
abbrev pub tagged_of : List LaxLinkExtSlice → ℕ → Option LaxEtherPayload → Option Stop → LaxTagged
tagged_of tags len last stop = record { tags = tags; len = len; last = last; stop = stop }

pub message_at_start : (number : ℕ) (bytes : List ℕ)
    → IfErr (lax_message_at number bytes) (λ e. fault_offset e ≡ 0)
message_at_start number bytes = grind arith

message_in_at_start : (p : IpPayload) → IfErr (lax_message_in p) (λ e. fault_offset e ≡ 0)
message_in_at_start p = grind (arith, message_at_start)

-- the laws of packets of each version, as they are called
pub record Ipv4Moves : Type 0 where
  pub headers : (bytes : List ℕ) (s : StoppedIpv4) → lax_ipv4_packet_at bytes ≡ Ok s
      → length s.0.header + length (auth_bytes s.0.auth) ≤ length bytes
  pub stop : (bytes : List ℕ) (s : StoppedIpv4) → lax_ipv4_packet_at bytes ≡ Ok s
      → (n : ℕ) → length bytes + n < 2 ^ 64 → IfSome s.1 (λ e. CanMove e n)
  pub header : (bytes : List ℕ) (e : HeaderSliceError Ipv4HeaderFault)
      → lax_ipv4_packet_at bytes ≡ Err e → (n : ℕ) → length bytes + n < 2 ^ 64 → CanMove e n

pub record Ipv6Moves : Type 0 where
  pub headers : (bytes : List ℕ) (s : StoppedIpv6) → lax_ipv6_packet_at bytes ≡ Ok s
      → length s.0.header + length s.0.exts.slice ≤ length bytes
  pub stop : (bytes : List ℕ) (s : StoppedIpv6) → lax_ipv6_packet_at bytes ≡ Ok s
      → (n : ℕ) → length bytes + n < 2 ^ 64 → IfSome s.1 (λ f. CanMove f.0 n)
  pub header : (bytes : List ℕ) (e : HeaderSliceError Ipv6HeaderFault)
      → lax_ipv6_packet_at bytes ≡ Err e → (n : ℕ) → length bytes + n < 2 ^ 64 → CanMove e n

-- what stops, so many bytes of headers before a message
pub transport_moves : (size n : ℕ) (p : IpPayload) (stop : Option Stop) → n ≤ size
    → IfSome stop (Moves size) → IfSome (lax_transport_in n p stop).1 (Moves size)
transport_moves size n p (Some stop) fits moves = moves
transport_moves size n p None fits moves = grind (arith, message_in_at_start)

auth_move : (size : ℕ) (e : HeaderSliceError AuthFault) (n : ℕ) → size + n < 2 ^ 64 → CanMove e n
    → fault_offset (of_auth e) + n < 2 ^ 64
auth_move size e n fits moves = grind arith

exts_move : (size : ℕ) (f : Fault) (n : ℕ) → size + n < 2 ^ 64 → CanMove f.0 n
    → fault_offset (of_ipv6_exts f.0) + n < 2 ^ 64
exts_move size f n fits moves = grind arith

ipv4_move : (size : ℕ) (e : HeaderSliceError Ipv4HeaderFault) (n : ℕ) → size + n < 2 ^ 64 → CanMove e n
    → fault_offset (of_ipv4_header e) + n < 2 ^ 64
ipv4_move size e n fits moves = grind arith

pub ipv6_move : (size : ℕ) (e : HeaderSliceError Ipv6HeaderFault) (n : ℕ) → size + n < 2 ^ 64 → CanMove e n
    → fault_offset (of_ipv6_header e) + n < 2 ^ 64
ipv6_move size e n fits moves = grind arith

auth_moves : (size : ℕ) (stop : Option (HeaderSliceError AuthFault))
    → ((n : ℕ) → size + n < 2 ^ 64 → IfSome stop (λ e. CanMove e n))
    → IfSome (option_map auth_stop stop) (Moves size)
auth_moves size None moves = tt
auth_moves size (Some e) moves = λ n fits. auth_move size e n fits (moves n fits)

pub exts_moves : (size : ℕ) (stop : Option Fault)
    → ((n : ℕ) → size + n < 2 ^ 64 → IfSome stop (λ f. CanMove f.0 n))
    → IfSome (option_map ipv6_exts_stop stop) (Moves size)
exts_moves size None moves = tt
exts_moves size (Some f) moves = λ n fits. exts_move size f n fits (moves n fits)

pub ipv4_moves : Ipv4Moves → (bytes : List ℕ) (r : Result StoppedIpv4 (HeaderSliceError Ipv4HeaderFault))
    → lax_ipv4_packet_at bytes ≡ r → IfSome (lax_ipv4_layers r).stop (Moves (length bytes))
ipv4_moves law bytes (Ok s) at = transport_moves (length bytes) _ s.0.payload _ (law.headers bytes s at)
    (auth_moves (length bytes) s.1 (law.stop bytes s at))
ipv4_moves law bytes (Err e) at = λ n fits. ipv4_move (length bytes) e n fits (law.header bytes e at n fits)

ipv6_moves : Ipv6Moves → (bytes : List ℕ) (r : Result StoppedIpv6 (HeaderSliceError Ipv6HeaderFault))
    → lax_ipv6_packet_at bytes ≡ r → IfSome (lax_ipv6_layers r).stop (Moves (length bytes))
ipv6_moves law bytes (Ok s) at = transport_moves (length bytes) _ s.0.payload _ (law.headers bytes s at)
    (exts_moves (length bytes) s.1 (law.stop bytes s at))
ipv6_moves law bytes (Err e) at = λ n fits. ipv6_move (length bytes) e n fits (law.header bytes e at n fits)

-- as the code names what it has
pub named_moves : (named : Option LaxEtherPayload) (p : LaxEtherPayload) (bytes : List ℕ) (stop : Option Stop)
    → IfSome stop (Moves (length bytes)) → named ≡ Some p → bytes ≡ p.payload
    → IfSome named (λ q. IfSome stop (Moves (length q.payload)))
named_moves named p bytes stop moves is same =
    subst (λ (o : Option LaxEtherPayload). IfSome o (λ q. IfSome stop (Moves (length q.payload)))) (sym is)
    (subst (λ (xs : List ℕ). IfSome stop (Moves (length xs))) same moves)

stop_of : (size : ℕ) (l whole : LaxLayers) → l ≡ whole → IfSome whole.stop (Moves size)
    → IfSome l.stop (Moves size)
stop_of size l whole is = subst (λ (x : LaxLayers). IfSome x.stop (Moves size)) (sym is)

pub ipv4_stop_moves : Ipv4Moves → (named : Option LaxEtherPayload) (p : LaxEtherPayload)
    (bytes : List ℕ) (l : LaxLayers) → named ≡ Some p → bytes ≡ p.payload
    → l ≡ lax_ipv4_layers (lax_ipv4_packet_at bytes)
    → IfSome named (λ q. IfSome l.stop (Moves (length q.payload)))
ipv4_stop_moves law named p bytes l is same layers = named_moves named p bytes l.stop
    (stop_of (length bytes) l _ layers (ipv4_moves law bytes (lax_ipv4_packet_at bytes) refl)) is same

pub ipv6_stop_moves : Ipv6Moves → (named : Option LaxEtherPayload) (p : LaxEtherPayload)
    (bytes : List ℕ) (l : LaxLayers) → named ≡ Some p → bytes ≡ p.payload
    → l ≡ lax_ipv6_layers (lax_ipv6_packet_at bytes)
    → IfSome named (λ q. IfSome l.stop (Moves (length q.payload)))
ipv6_stop_moves law named p bytes l is same layers = named_moves named p bytes l.stop
    (stop_of (length bytes) l _ layers (ipv6_moves law bytes (lax_ipv6_packet_at bytes) refl)) is same

pub some_later : (size link_len len : ℕ) (stop : Option Stop) (n : ℕ) → IfSome stop (Moves n) → len + n ≤ size
    → link_len + size < 2 ^ 64 → IfSome stop (λ s. fault_offset s.0 + (link_len + len) < 2 ^ 64)
some_later size link_len len None n moves fits most = tt
some_later size link_len len (Some s) n moves fits most = moves (link_len + len) (omega (arith, fits, most))

layers_case : (size link_len len : ℕ) (last : Option LaxEtherPayload) (l : LaxLayers)
    → IfSome last (λ p. len + length p.payload ≤ size) → l ≡ lax_layers_in last
    → IfSome last (λ p. IfSome l.stop (Moves (length p.payload))) → link_len + size < 2 ^ 64
    → IfSome l.stop (λ s. fault_offset s.0 + (link_len + len) < 2 ^ 64)
layers_case size link_len len None l fits is moves most =
    subst (λ (x : LaxLayers). IfSome x.stop (λ s. fault_offset s.0 + (link_len + len) < 2 ^ 64)) (sym is) tt
layers_case size link_len len (Some p) l fits is moves most =
    some_later size link_len len l.stop (length p.payload) moves fits most

-- the offset of a fault after the tags can be counted from the start of the frame
pub layers_later : (size link_len : ℕ) (t : LaxTagged) (l : LaxLayers) → TagsFit size t
    → l ≡ lax_layers_in t.last → IfSome t.last (λ p. IfSome l.stop (Moves (length p.payload)))
    → link_len + size < 2 ^ 64 → IfSome l.stop (λ s. fault_offset s.0 + (link_len + t.len) < 2 ^ 64)
layers_later size link_len t l fits is moves most =
    layers_case size link_len t.len t.last l fits.last is moves most
