-- What an IP packet that was built is sliced to with no link header, and after the header of a
-- cooked capture.
use Rattle.std.proofs.lemmas.Bool.Decides.{nat_tests}
use Rattle.std.proofs.Common.{◌≡◌, ◌∙◌, sym, ap, refl, ℕ, ◌+◌, ◌/◌, ◌%◌, ◌≤◌, ◌==◌, Bool, true, false, List, [], ◌∷◌}
use Rattle.std.proofs.Common.{◌++◌, length, drop, Option, Some, None, Result, Ok, Err, arith, append_assoc}
use Rattle.std.proofs.Common.{length-append, if◌then◌else◌}
use Rattle.std.specs.Int.{w16, to_be_bytes}
use Rattle.std.proofs.lemmas.List.{drop_at, get_or_at, get_or-append_right, drop-drop}
use Rattle.std.proofs.lemmas.Bool.{eq-eqb, le-leb, le-ltb, ne_eqb}
use Rattle.ep_base.specs.Bytes.{num}
use Rattle.ep_ip.specs.Ipv4 as ipv4
use Rattle.ep_ipslice.specs.IpSlice.{ip_packet_at, with_ipv4, with_ipv6}
use Rattle.ep_ipslice.specs.Ipv4Packet.{ipv4_packet_at}
use Rattle.ep_ipslice.specs.Ipv6Packet.{ipv6_packet_at}
use Rattle.ep_ipslice.specs.Packet.{Ipv4Packet, Ipv6Packet}
use Rattle.ep_ipslice.specs.declared.err.ipv4.slice_error.SliceError.{SliceError as Ipv4Fault}
use Rattle.ep_ipslice.specs.declared.err.ipv6.slice_error.SliceError.{SliceError as Ipv6Fault}
use Rattle.ep_link.specs.Ethernet.{Fits}
use Rattle.ep_link.specs.Sll.{protocol_number}
use Rattle.ep_link.specs.SllFault.{whole_at}
use Rattle.ep_link.specs.SllPayload.{named_payload, payload_of}
use Rattle.ep_link.specs.declared.link.link_slice.LinkSlice.{LinkSlice}
use Rattle.ep_link.specs.declared.link.linux_sll_protocol_type.LinuxSllProtocolType.TheVariants.{EtherType}
use Rattle.ep_link.specs.declared.link.linux_sll_protocol_type.LinuxSllProtocolType.TheVariants.{LinuxNonstandardEtherType}
use Rattle.ep_packet.proofs.ClassLemmas.{ipv4_class_at, ipv6_agrees, ipv6_class_at, layers_class, tagged_agrees}
use Rattle.ep_packet.proofs.ClassLemmas.{tagged_class}
use Rattle.ep_packet.specs.Class.{Class, class_of, sliced_class, payload_class}
use Rattle.ep_packet.specs.IpHeaders.{ether_type_of}
use Rattle.ep_packet.specs.Sliced.{Layers, in_ipv6, ip_layers, packet_with, sliced_ip, sliced_linux_sll}
use Rattle.ep_packet.specs.Tags.{tags_in, vlan_ids_of}
use Rattle.ep_packet.specs.declared.err.packet.slice_error.SliceError.{SliceError}
use Rattle.ep_packet.specs.declared.net.ip_headers.IpHeaders.{IpHeaders}
use Rattle.ep_packet.specs.declared.net.ip_headers.IpHeaders.TheVariants.{Ipv4, Ipv6}
use Rattle.ep_tag.specs.declared.link.link_ext_slice.LinkExtSlice.{LinkExtSlice}
use Rattle.ep_tag.specs.declared.link.vlan_header.VlanHeader.{VlanHeader}
use Rattle.etherparse.proofs.FrameTags.{NamesNoTag, class_after, class_framed, named, short_first, two_bytes}
use Rattle.etherparse.specs.Built.{packet_with_number, first_type, ip_bytes, link_bytes, with_last_number, with_lengths}
use Rattle.etherparse.specs.Built.{message_len, vlan_bytes}
use Rattle.etherparse.specs.BuiltFrameExamples.{link_at_literals}
use Rattle.etherparse.specs.BuiltFrames.{CookedPackets, Frames, IpFits, Packets, TagsFit, after_cooked, ethernet_packet}
use Rattle.etherparse.specs.BuiltFrames.{ids_in, without_link}
use Rattle.etherparse.specs.BuiltSteps.{cooked_link_header}

-- IP headers and payload, with nothing before them
abbrev packet_bytes : IpHeaders → ℕ → List ℕ → List ℕ
packet_bytes ip number payload =
    ip_bytes (with_last_number (with_lengths ip (message_len None (length payload))) number)
    ++ payload

names_no_tag : (ip : IpHeaders) → NamesNoTag (ether_type_of ip)
names_no_tag (Ipv4 h e) = record { vlan = refl; macsec = refl; short = omega arith }
names_no_tag (Ipv6 h e) = record { vlan = refl; macsec = refl; short = omega arith }

-- what follows a link header is read as it is after one of literal fields
literal_fits : Fits link_at_literals
literal_fits = record { source = refl; destination = refl; ether_type = omega arith }

pub after_literal : (vlan : Option VlanHeader) (ip : IpHeaders) (number len : ℕ) → TagsFit vlan
    → Packets ip number len → Frames link_at_literals vlan ip number len
after_literal vlan ip number len tags packet = record {
  link_fits = literal_fits;
  tags_fit = tags;
  ip_fits = packet.ip_fits;
  names_none = packet.names_none;
  written = packet.written;
}

payload_is : (vlan : Option VlanHeader) (ip : IpHeaders) (number : ℕ) (payload : List ℕ)
    (class : Class) → TagsFit vlan
    → class_of (packet_with_number (ethernet_packet link_at_literals vlan ip) number payload) ≡ class
    → payload_class (ids_in vlan) (named (ether_type_of ip) (packet_bytes ip number payload))
    ≡ class
payload_is vlan ip number payload class tags is =
    sym (class_framed link_at_literals vlan (ether_type_of ip)
    (packet_bytes ip number payload) literal_fits tags (names_no_tag ip)) ∙ is

-- ---- with no link header

layers_are_stated : (header : Option LinkSlice) (tags : List LinkExtSlice)
    (r : Result Layers SliceError) → sliced_class (packet_with header tags r)
    ≡ layers_class (vlan_ids_of tags) r
layers_are_stated header tags r = grind arith

with_ipv4_stated : (r : Result Ipv4Packet Ipv4Fault)
    → sliced_class (packet_with None [] (ip_layers (with_ipv4 r))) ≡ ipv4_class_at [] r
with_ipv4_stated r = grind (arith, nat_tests)

with_ipv6_stated : (r : Result Ipv6Packet Ipv6Fault)
    → sliced_class (packet_with None [] (ip_layers (with_ipv6 r))) ≡ ipv6_class_at [] r
with_ipv6_stated (Ok packet) = layers_are_stated None [] (in_ipv6 packet) ∙ ipv6_agrees [] (Ok packet)
with_ipv6_stated (Err e) = refl

ipv4_alone : (bytes : List ℕ) → (length bytes == 0) ≡ false → (ipv4.version_of bytes == 4) ≡ true
    → ip_packet_at bytes ≡ with_ipv4 (ipv4_packet_at bytes)
ipv4_alone bytes some four = rw (some, four) refl

ipv6_alone : (bytes : List ℕ) → (length bytes == 0) ≡ false → (ipv4.version_of bytes == 4) ≡ false
    → (ipv4.version_of bytes == 6) ≡ true → ip_packet_at bytes ≡ with_ipv6 (ipv6_packet_at bytes)
ipv6_alone bytes some other six = rw (some, other, six) refl

alone_stated : (ip : IpHeaders) (number : ℕ) (payload : List ℕ) → IpFits ip number
    → sliced_class (sliced_ip (packet_bytes ip number payload))
    ≡ payload_class [] (named (ether_type_of ip) (packet_bytes ip number payload))
alone_stated ip number payload fits =
    grind (arith, ipv4_alone, ne_eqb, eq-eqb, with_ipv4_stated, ipv6_alone, with_ipv6_stated)

pub alone_is : (ip : IpHeaders) (number : ℕ) (payload : List ℕ) (class : Class)
    → Packets ip number (length payload)
    → class_of (packet_with_number (ethernet_packet link_at_literals None ip) number payload) ≡ class
    → sliced_class (sliced_ip (packet_with_number (without_link ip) number payload)) ≡ class
alone_is ip number payload class packet is =
    alone_stated ip number payload packet.ip_fits ∙ payload_is None ip number payload class tt is

-- ---- after the header of a cooked capture

number_again : (b : Bool) (n : ℕ)
    → protocol_number (if b then EtherType (record { 0 = n }) else LinuxNonstandardEtherType n) ≡ n
number_again b n = grind arith

module _ (packet_type address_len : ℕ) (address : List ℕ) (small : packet_type ≤ 4)
    (eight : length address ≡ 8) where
  abbrev prefix : List ℕ
  prefix = to_be_bytes w16 packet_type ++ to_be_bytes w16 1 ++ to_be_bytes w16 address_len ++ address

  prefix_len : length prefix ≡ 14
  prefix_len = omega (arith, eight)

  module _ (ether_type : ℕ) (great : 1536 ≤ ether_type)
      (short : ether_type ≤ 65535) (rest : List ℕ) where
    abbrev high : ℕ
    high = ether_type / 256 % 256

    abbrev low : ℕ
    low = ether_type % 256

    abbrev bytes : List ℕ
    bytes = prefix ++ high ∷ low ∷ rest

    size : length bytes ≡ 16 + length rest
    size = omega (arith, length-append prefix (high ∷ low ∷ rest), prefix_len)

    type_is : num bytes 14 2 ≡ ether_type
    type_is = grind (arith, get_or_at, prefix_len, get_or-append_right, two_bytes)

    following_is : drop 16 bytes ≡ rest
    following_is = sym (drop-drop 2 14 bytes) ∙ ap (drop 2)
        (drop_at prefix (high ∷ low ∷ rest) 14 prefix_len)

    whole : whole_at bytes ≡ Ok bytes
    whole = grind (arith, le-ltb, size)

    named_is : named_payload (payload_of bytes) ≡ Some (named ether_type rest)
    named_is = grind (arith, type_is, following_is, le-leb)

    headed_stated : sliced_class (sliced_linux_sll bytes)
        ≡ tagged_class (tags_in 3 (named ether_type rest))
    headed_stated = grind (arith, whole, named_is, tagged_agrees, named)

  great_first : (v : Option VlanHeader) (ether_type : ℕ) → 1536 ≤ ether_type
      → 1536 ≤ first_type v ether_type
  great_first v ether_type great = grind arith

  cooked_stated : (v : Option VlanHeader) (ether_type : ℕ) (packet : List ℕ) → 1536 ≤ ether_type
      → TagsFit v → NamesNoTag ether_type
      → sliced_class
      (sliced_linux_sll (link_bytes (Some (cooked_link_header packet_type address_len address)) v
      ether_type
      ++ (vlan_bytes v ether_type ++ packet)))
      ≡ payload_class (ids_in v) (named ether_type packet)
  cooked_stated v ether_type packet great tags plain =
      grind (
        arith,
        number_again,
        append_assoc,
        headed_stated,
        great_first,
        short_first,
        class_after,
      )

great_type : (ip : IpHeaders) → 1536 ≤ ether_type_of ip
great_type ip = grind arith

pub cooked_is : (packet_type address_len : ℕ) (address : List ℕ) (vlan : Option VlanHeader)
    (ip : IpHeaders) (number : ℕ) (payload : List ℕ) (class : Class)
    → CookedPackets packet_type address vlan ip number (length payload)
    → class_of (packet_with_number (ethernet_packet link_at_literals vlan ip) number payload) ≡ class
    → sliced_class
    (sliced_linux_sll
    (packet_with_number (after_cooked packet_type address_len address vlan ip) number payload))
    ≡ class
cooked_is packet_type address_len address vlan ip number payload class packet is =
    grind (arith, cooked_stated, great_type, names_no_tag, payload_is)
