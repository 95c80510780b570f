-- The fault of a message stops the reading as far as the bytes are there.
use Rattle.std.proofs.Common.{◌≡◌, ◌∙◌, sym, ap, refl, subst, ℕ, ◌==◌, ◌&&◌, ◌||◌, not, Bool, true, false, List, length}
use Rattle.std.proofs.Common.{Option, Some, None, Result, Ok, Err}
use Rattle.std.specs.Prelude.{if◌then◌else◌, nat_lt}
use Rattle.std.proofs.lemmas.Bool.{eqb-true}
use Rattle.std.specs.Result.{result_map_both}
use Rattle.ep_base.proofs.Prefixes.{err_same}
use Rattle.ep_base.specs.LenError.{too_few_bytes}
use Rattle.ep_base.specs.declared.err.layer.Layer.TheVariants.{UdpHeader, UdpPayload}
use Rattle.ep_base.specs.declared.err.len_error.LenError.{LenError}
use Rattle.ep_base.specs.declared.len_source.LenSource.{LenSource}
use Rattle.ep_base.specs.declared.len_source.LenSource.TheVariants as source
use Rattle.ep_ipslice.specs.Packet.{IpPayload}
use Rattle.ep_packet.specs.LaxSliced.{lax_message_at, lax_message_in, lax_transport_in, message_layer}
use Rattle.ep_packet.specs.LayersAhead.{counts_payload, is_passed_over, is_udp_length}
use Rattle.ep_packet.specs.Readable.{ReadMessage, message_at, udp}
use Rattle.ep_packet.specs.Readable.ReadMessage.{Udp}
use Rattle.ep_packet.specs.SliceFault.{bounded_by, offset_by, within}
use Rattle.ep_packet.specs.Sliced.{Layers, read_transport, result_within, transport_in, with_transport}
use Rattle.ep_packet.specs.declared.err.packet.slice_error.SliceError.{SliceError}
use Rattle.ep_packet.specs.declared.err.packet.slice_error.SliceError.TheVariants.{Len}
use Rattle.ep_packet.specs.declared.net.net_slice.NetSlice.{NetSlice}
use Rattle.ep_packet.specs.declared.transport.transport_slice.TransportSlice.{TransportSlice}
use Rattle.ep_tcpudp.specs.Udp.{lax_summed_udp, length_of, summed_udp}
use Rattle.ep_tcpudp.specs.UdpFault.{lax_udp_at, udp_at}

-- where a fault is counted from doesn't matter, nor what bounds it from outside
pub passed_moved : (n : ℕ) (e : SliceError) → is_passed_over (offset_by n e) ≡ is_passed_over e
passed_moved n (Len e) = refl
passed_moved n e = refl

-- so that a fault which isn't passed over isn't one where it is counted from a later byte
pub earlier : (n : ℕ) (e f : SliceError) → e ≡ offset_by n f → is_passed_over e ≡ false
    → is_passed_over f ≡ false
earlier n e f error over = sym (passed_moved n f) ∙ ap is_passed_over (sym error) ∙ over

source_within : (b : Bool) (outer own : LenSource) → (b || is_udp_length (bounded_by outer own)) ≡ false
    → (b || is_udp_length own) ≡ false
source_within true outer source.Slice over = cc
source_within false outer source.Slice over = refl
source_within b outer own over = over

inside : (outer : LenSource) (e : SliceError) → is_passed_over (within outer e) ≡ false
    → is_passed_over e ≡ false
inside outer (Len e) over = source_within (counts_payload e.layer) outer e.len_source over
inside outer e over = over

-- a refusal that is passed over isn't this one
pub not_passed : (f e : SliceError) → is_passed_over f ≡ true → f ≡ e → is_passed_over e ≡ false → ⊥
not_passed f e passed same over = cc (ap is_passed_over same, passed, over)

-- of UDP the lengths are passed over
udp_tests : (short cut small : Bool) (x y z : LenError) (m k : List ℕ) (e : SliceError)
    → is_passed_over (Len y) ≡ true → is_passed_over (Len z) ≡ true →
    result_map_both (λ b. Udp b) (λ e. Len e)
    (if short then Err x else (if cut then Err y else (if small then Err z else Ok m))) ≡ Err e
    → is_passed_over e ≡ false
    → result_map_both (λ b. Udp b) (λ e. Len e) (if short then Err x else Ok k) ≡ Err e
udp_tests true cut small x y z m k e long low is over = is
udp_tests false true small x y z m k e long low is over =
    absurd (not_passed (Len y) e long (err_same {A = ReadMessage} _ _ is) over)
udp_tests false false true x y z m k e long low is over =
    absurd (not_passed (Len z) e low (err_same {A = ReadMessage} _ _ is) over)
udp_tests false false false x y z m k e long low is over = cc

udp_stops : (bytes : List ℕ) (e : SliceError)
    → result_map_both (λ b. Udp b) (λ e. Len e) (udp_at bytes) ≡ Err e → is_passed_over e ≡ false
    → result_map_both (λ b. Udp b) (λ e. Len e) (lax_udp_at bytes) ≡ Err e
udp_stops bytes e is over = udp_tests (nat_lt (length bytes) 8) (nat_lt (length bytes) (length_of bytes))
    (not (length_of bytes == 0) && nat_lt (length_of bytes) 8) (too_few_bytes UdpHeader 8 (length bytes))
    (too_few_bytes UdpPayload (length_of bytes) (length bytes))
    (record (too_few_bytes UdpHeader 8 (length_of bytes)) { len_source = source.UdpHeaderLen })
    (summed_udp bytes) (lax_summed_udp bytes) e refl refl is over

message_by : (b : Bool) (number : ℕ) (bytes : List ℕ) (e : SliceError) → (number == udp) ≡ b
    → message_at number bytes ≡ Err e → is_passed_over e ≡ false → lax_message_at number bytes ≡ Err e
message_by false number bytes e not is over = ap (λ (b : Bool). if b
    then result_map_both (λ b. Udp b) (λ e. Len e) (lax_udp_at bytes) else message_at number bytes) not ∙ is
message_by true number bytes e here is over =
    subst (λ (n : ℕ). message_at n bytes ≡ Err e → lax_message_at n bytes ≡ Err e)
    (sym (eqb-true number udp here)) (λ at. udp_stops bytes e at over) is

message_stops : (number : ℕ) (bytes : List ℕ) (e : SliceError) → message_at number bytes ≡ Err e
    → is_passed_over e ≡ false → lax_message_at number bytes ≡ Err e
message_stops number bytes e is over = message_by (number == udp) number bytes e refl is over

-- the message in a payload that this length bounds
in_payload : (cut : Bool) (outer : LenSource) (r lax : Result ReadMessage SliceError) (e : SliceError)
    → ((f : SliceError) → r ≡ Err f → is_passed_over f ≡ false → lax ≡ Err f)
    → (if cut then Ok None else result_within outer (read_transport r)) ≡ Err e
    → is_passed_over e ≡ false
    → (if cut then Ok None else result_within outer (read_transport lax)) ≡ Err e
in_payload true outer r lax e alike is over = cc
in_payload false outer (Ok m) lax e alike is over = cc
in_payload false outer (Err f) lax e alike is over =
    let same : within outer f ≡ e = err_same {A = Option TransportSlice} _ _ is in
    rw (alike f refl (inside outer f (ap is_passed_over same ∙ over))) is

transport_stops : (p : IpPayload) (e : SliceError) → transport_in p ≡ Err e → is_passed_over e ≡ false
    → lax_message_in p ≡ Err e
transport_stops p e is over = in_payload p.fragmented p.len_source (message_at p.ip_number.0 p.payload)
    (lax_message_at p.ip_number.0 p.payload) e (message_stops p.ip_number.0 p.payload) is over

after_headers : (packet : NetSlice) (n : ℕ) (p : IpPayload) (r : Result (Option TransportSlice) SliceError)
    (e : SliceError) → transport_in p ≡ r → with_transport packet n r ≡ Err e
    → is_passed_over e ≡ false
    → lax_transport_in n p None ≡ (None, Some (e, message_layer p.ip_number.0))
after_headers packet n p (Ok m) e at is over = cc
after_headers packet n p (Err f) e at is over =
    let same : offset_by n f ≡ e = err_same {A = Layers} _ _ is in
    rw (transport_stops p f at (earlier n e f (sym same) over), same) refl

-- the fault of the message after a packet's headers stops, in the layer that its number names
pub message_stop : (packet : NetSlice) (n : ℕ) (p : IpPayload) (e : SliceError)
    → with_transport packet n (transport_in p) ≡ Err e → is_passed_over e ≡ false
    → lax_transport_in n p None ≡ (None, Some (e, message_layer p.ip_number.0))
message_stop packet n p e is over = after_headers packet n p (transport_in p) e refl is over
