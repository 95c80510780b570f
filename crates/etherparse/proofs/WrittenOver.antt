-- A packet over IP headers, from the parts that were appended.
use Rattle.std.proofs.Common.{arith, ◌≡◌, ◌∙◌, ap, ℕ, List, ◌++◌, length, append_assoc, Option}
use Rattle.std.specs.Option.{option_map}
use Rattle.ep_packet.specs.IpHeaders.{ether_type_of}
use Rattle.ep_packet.specs.Transport.{transport_encoding}
use Rattle.ep_packet.specs.declared.net.ip_headers.IpHeaders.{IpHeaders}
use Rattle.ep_packet.specs.declared.transport.transport_header.TransportHeader.{TransportHeader}
use Rattle.etherparse.specs.Built.{bytes_if, ip_bytes, ip_packet, link_bytes, message_len, vlan_bytes, with_last_number}
use Rattle.etherparse.specs.Built.{with_lengths, with_message_checksum}
use Rattle.etherparse.specs.PacketState.{packet_over}
use Rattle.etherparse.specs.declared.packet_builder.prefix.Prefix.{Prefix}

same_type : (h : IpHeaders) (n : ℕ) → ether_type_of (with_lengths h n) ≡ ether_type_of h
same_type h n = grind arith

sealed_bytes : (h : IpHeaders) (n : ℕ) (payload : List ℕ) (transport : Option TransportHeader)
    → bytes_if transport_encoding
    (option_map (with_message_checksum (with_lengths h n) payload) transport)
    ≡ bytes_if (λ t. transport_encoding (with_message_checksum h payload t)) transport
sealed_bytes h n payload transport = grind arith

-- six parts one after another
in_a_row : (old link vlan ip transport payload a b c d e f : List ℕ)
    → a ≡ old → b ≡ a ++ link → c ≡ b ++ vlan → d ≡ c ++ ip → e ≡ d ++ transport
    → f ≡ e ++ payload
    → f ≡ old ++ (link ++ (vlan ++ (ip ++ (transport ++ payload))))
in_a_row old link vlan ip transport payload a b c d e f one two three four five six =
    grind (arith, append_assoc)

pub written_over : (prefix : Prefix) (h measured : IpHeaders)
    (transport sealed : Option TransportHeader) (number ether_type : ℕ)
    (payload old a b c d e f : List ℕ)
    → measured ≡ with_lengths h (message_len transport (length payload))
    → sealed ≡ option_map (with_message_checksum measured payload) transport
    → ether_type ≡ ether_type_of measured
    → a ≡ old → b ≡ a ++ link_bytes prefix.link_header prefix.vlan_header ether_type
    → c ≡ b ++ vlan_bytes prefix.vlan_header ether_type
    → d ≡ c ++ ip_bytes (with_last_number measured number)
    → e ≡ d ++ bytes_if transport_encoding sealed
    → f ≡ e ++ payload
    → f ≡ old ++ ip_packet (packet_over prefix transport h) number payload h
written_over prefix h measured transport sealed number ether_type payload old a b c d e f
    lengths seal type one two three four five six =
    let n = message_len transport (length payload) in
    let of_h = type ∙ ap ether_type_of lengths ∙ same_type h n in
    let bytes = ap (bytes_if transport_encoding) (seal
    ∙ ap (λ (m : IpHeaders). option_map (with_message_checksum m payload) transport) lengths)
    ∙ sealed_bytes h n payload transport in
    grind (arith, in_a_row)
