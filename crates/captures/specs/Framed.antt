-- Captured packets as Ethernet II frames, by the link that they were captured on (the registry of
-- link types, tcpdump.org/linktypes.html, and the layouts that it gives).
use Rattle.std.specs.Prelude.{ℕ, ◌+◌, ◌-◌, ◌/◌, ◌==◌, ◌||◌, min, nat_lt, Bool, if◌then◌else◌, List, [], ◌∷◌, ◌++◌}
use Rattle.std.specs.Prelude.{length, drop, slice_index, Option, Some, None, Result, Ok, Err, ◌≡◌}
use Rattle.std.specs.Option.{option_map}
use Rattle.std.specs.Int.{to_be_bytes, w16}
use Rattle.captures.specs.Numbers.{half, word}
use Rattle.captures.specs.declared.byte_order.ByteOrder.TheVariants.{Big, Little}
use Rattle.captures.specs.declared.limits.TheConstants.{SKIPPED_LIMIT}
use Rattle.line_grammar.specs.declared.frame_limits.TheConstants.{FRAME_LIMIT}
use Rattle.captures.specs.declared.link.header.Header.{Header}
use Rattle.captures.specs.declared.link.kind.Link.{Link}
use Rattle.captures.specs.declared.link.kind.Link.TheVariants.{Ethernet, Ip, Null, Loop, Sll, Sll2, Other}
use Rattle.captures.specs.declared.skipped.Reason.{Reason}
use Rattle.captures.specs.declared.skipped.Reason.TheVariants.{OtherLink, TooLong, NoFrame}
use Rattle.captures.specs.declared.unfit.Unfit.{Unfit}
use Rattle.captures.specs.declared.unfit.Unfit.TheVariants.{Refuse, Skip}

-- the kinds of links, by their numbers. Read are packets of Ethernet; IP packets of either version
-- or of one; BSD loopback, OpenBSD loopback; Linux cooked captures of both versions
abbrev pub link_of : ℕ → Link
link_of number =
    if number == 1 then Ethernet
    else if (number == 12) || (number == 14) || (number == 101) || (number == 228)
    || (number == 229) then Ip
    else if number == 0 then Null
    else if number == 108 then Loop
    else if number == 113 then Sll
    else if number == 276 then Sll2
    else Other number

-- how many bytes a packet's own header has, which an Ethernet II header of 14 bytes replaces in its
-- frame
abbrev pub head_len : Link → ℕ
head_len Ethernet = 14
head_len Ip = 0
head_len Null = 4
head_len Loop = 4
head_len Sll = 16
head_len Sll2 = 20
head_len (Other number) = 0

-- how many bytes the frame of a packet has of which so many were captured, if it has a frame
abbrev pub frame_len : Link → (captured : ℕ) → ℕ
frame_len link captured = 14 + captured - head_len link

-- how many bytes a frame of such a length had on the wire, of whose packet so many bytes were
-- captured, and which had so many on the wire by its record: those that the frame has, and those of
-- the packet that weren't captured. Where the record states fewer than were captured, no others are
-- missing. The greatest number of 32 bits stands for all greater ones
abbrev pub frame_wire_len : (len captured wire_len : ℕ) → ℕ
frame_wire_len len captured wire_len = min (len + (wire_len - captured)) 4294967295

-- the same of the frame of a packet that was captured on such a link
abbrev pub wire_len_on : Link → (captured wire_len : ℕ) → ℕ
wire_len_on link captured wire_len = frame_wire_len (frame_len link captured) captured wire_len

-- the captured bytes of a packet at most, so that a line can hold its frame
abbrev pub captured_limit : Link → ℕ
captured_limit link = FRAME_LIMIT - 14 + head_len link

abbrev pub ipv4 : ℕ
ipv4 = 0x0800

abbrev pub ipv6 : ℕ
ipv6 = 0x86dd

-- the ether type of an IP packet, by the version in its first four bits
abbrev pub ip_type : List ℕ → Option ℕ
ip_type packet =
    if slice_index packet 0 / 16 == 4 then Some ipv4
    else if slice_index packet 0 / 16 == 6 then Some ipv6
    else None

-- the ether type of an address family: 2 is IPv4, and IPv6 has other numbers on NetBSD and OpenBSD,
-- FreeBSD, macOS and Linux
abbrev pub family_type : ℕ → Option ℕ
family_type family =
    if family == 2 then Some ipv4
    else if (family == 24) || (family == 28) || (family == 30) || (family == 10) then Some ipv6
    else None

-- an address family in the byte order of the host that captured it, which the file may not have:
-- each has less than 16 bits, so only one order makes one of it
abbrev pub null_family : List ℕ → ℕ
null_family packet =
    if nat_lt (word Little packet 0) 65536 then word Little packet 0 else word Big packet 0

-- the ether type that a cooked capture names: numbers below 1536 are lengths or other protocols of
-- Linux, and frame relay (770), radiotap (803) and netlink (824) name none
abbrev pub cooked_type : (hardware : ℕ) → (protocol : ℕ) → Option ℕ
cooked_type hardware protocol =
    if nat_lt protocol 1536 || (hardware == 770) || (hardware == 803) || (hardware == 824)
    then None else Some protocol

abbrev pub no_address : List ℕ
no_address = 0 ∷ 0 ∷ 0 ∷ 0 ∷ 0 ∷ 0 ∷ []

-- the address at an offset, if it has six bytes
abbrev pub address_at : (len : ℕ) → List ℕ → ℕ → List ℕ
address_at len bytes p =
    if len == 6
    then slice_index bytes p ∷ slice_index bytes (p + 1) ∷ slice_index bytes (p + 2)
    ∷ slice_index bytes (p + 3) ∷ slice_index bytes (p + 4) ∷ slice_index bytes (p + 5) ∷ []
    else no_address

-- to no address, from this one
abbrev pub ethernet_header : List ℕ → ℕ → List ℕ
ethernet_header source ether_type = no_address ++ (source ++ to_be_bytes w16 ether_type)

-- the header that is put before a packet, if one is
abbrev pub made_header : Option Header → List ℕ
made_header None = []
made_header (Some header) = ethernet_header header.source header.ether_type

-- a frame in its two parts: the header that was made, if one was, and the bytes after it
pub record FrameParts : Type 0 where
  pub header : Option Header
  pub bytes : List ℕ

-- the bytes of the whole frame
abbrev pub frame_bytes : FrameParts → List ℕ
frame_bytes frame = made_header frame.header ++ frame.bytes

-- how many bytes were captured of a packet of such a link, of which this is the frame: those of the
-- link's own header, if another replaces it, and what follows it
abbrev pub captured_len : Link → FrameParts → ℕ
captured_len Ethernet frame = length frame.bytes
captured_len link frame = head_len link + length frame.bytes

-- bytes end with these
pub record IsBack (bytes back : List ℕ) : Type 0 where
  pub prefix : List ℕ
  pub parts : bytes ≡ prefix ++ back

-- no header is made before these bytes
abbrev pub own_frame : List ℕ → FrameParts
own_frame bytes = record { header = None; bytes = bytes }

-- such a header before these bytes, if there is an ether type
abbrev pub framed_after : List ℕ → Option ℕ → List ℕ → Option FrameParts
framed_after source None rest = None
framed_after source (Some ether_type) rest = Some (record {
  header = Some (record { source = source; ether_type = ether_type });
  bytes = rest;
})

-- a packet of some bytes
abbrev pub framed_packet : Link → List ℕ → Option FrameParts
framed_packet Ethernet packet = Some (own_frame packet)
framed_packet Ip packet = framed_after no_address (ip_type packet) packet
framed_packet Null packet =
    if nat_lt (length packet) 4 then None
    else framed_after no_address (family_type (null_family packet)) (drop 4 packet)
framed_packet Loop packet =
    if nat_lt (length packet) 4 then None
    else framed_after no_address (family_type (word Big packet 0)) (drop 4 packet)
framed_packet Sll packet =
    if nat_lt (length packet) 16 then None
    else framed_after (address_at (half Big packet 4) packet 6)
    (cooked_type (half Big packet 2) (half Big packet 14)) (drop 16 packet)
framed_packet Sll2 packet =
    if nat_lt (length packet) 20 then None
    else framed_after (address_at (slice_index packet 11) packet 12)
    (cooked_type (half Big packet 8) (half Big packet 0)) (drop 20 packet)
framed_packet (Other number) packet = None

-- the Ethernet II frame of a packet, if it has one: its own where it was captured as one, else the
-- destination is zeros, and so is the source, where its link gives no sender's address of six
-- bytes. Of a packet without captured bytes nothing is reported
abbrev pub frame_parts : Link → List ℕ → Option FrameParts
frame_parts link packet =
    if length packet == 0 then Some (own_frame packet) else framed_packet link packet

abbrev pub framed : Link → List ℕ → Option (List ℕ)
framed link packet = option_map frame_bytes (frame_parts link packet)

-- why a packet on such a link can't be reported, where this is the reason on a link that is read
abbrev pub reason_on : Link → Reason → Reason
reason_on Ethernet reason = reason
reason_on Ip reason = reason
reason_on Null reason = reason
reason_on Loop reason = reason
reason_on Sll reason = reason
reason_on Sll2 reason = reason
reason_on (Other number) reason = OtherLink

-- a frame, or why there is none
abbrev pub reported_by : Reason → Option (List ℕ) → Result (List ℕ) Reason
reported_by reason None = Err reason
reported_by reason (Some frame) = Ok frame

-- what is reported of a packet: its frame, or why it has none that a line can hold
abbrev pub reported_of : Link → List ℕ → Result (List ℕ) Reason
reported_of link packet =
    if nat_lt (captured_limit link) (length packet) then Err (reason_on link TooLong)
    else reported_by (reason_on link NoFrame) (framed link packet)

-- ---- packets that can't be reported: they are refused, or passed over

abbrev pub unfit_by : Bool → Unfit
unfit_by skips = if skips then Skip else Refuse

-- the number of a link whose packets aren't read
abbrev pub other_type : Link → Option ℕ
other_type Ethernet = None
other_type Ip = None
other_type Null = None
other_type Loop = None
other_type Sll = None
other_type Sll2 = None
other_type (Other number) = Some number

-- the number of a link whose packets are refused
abbrev pub refused_type : Unfit → Link → Option ℕ
refused_type Refuse link = other_type link
refused_type Skip link = None

-- the captured bytes at most of a packet that is reported or passed over
abbrev pub taken_limit : Unfit → Link → ℕ
taken_limit Refuse link = captured_limit link
taken_limit Skip link = SKIPPED_LIMIT

-- of a packet that is passed over no bytes are reported
abbrev pub unfit_frame : Unfit → Option (List ℕ)
unfit_frame Refuse = None
unfit_frame Skip = Some []

abbrev pub frame_by : Unfit → Result (List ℕ) Reason → Option (List ℕ)
frame_by unfit (Ok frame) = Some frame
frame_by unfit (Err reason) = unfit_frame unfit

-- the bytes that are reported of a packet, if it isn't refused
abbrev pub reported_frame : Unfit → Link → List ℕ → Option (List ℕ)
reported_frame unfit link packet = frame_by unfit (reported_of link packet)
