-- What a summary counts.
use Rattle.std.specs.Prelude.{◌≡◌, Bool, true, false, List, Option, Some, None, is_some}
use Rattle.ep_packet.specs.declared.addresses.Addresses.{Addresses}
use Rattle.ep_packet.specs.declared.addresses.Addresses.TheVariants.{V4, V6}
use Rattle.header_descriptions.specs.declared.protocol.Protocol.{Protocol}
use Rattle.header_descriptions.specs.declared.protocol.Protocol.TheVariants.{Ethernet, Vlan, Macsec, Arp, Ipv4, Ipv6}
use Rattle.packets.specs.declared.reason.Reason.{Reason}
use Rattle.packets.specs.Flows.{CountsFlows, outlines}
use Rattle.packets.specs.Headers.{has_header, net_addresses}
use Rattle.packets.specs.Lengths.{CountsLengths}
use Rattle.packets.specs.Numbers.{CountsNumbers}
use Rattle.packets.specs.Period.{CountsPeriod}
use Rattle.packets.specs.Rate.{CountsSpans}
use Rattle.packets.specs.Sizes.{CountsSizes}
use Rattle.packets.specs.Table.{CountsKeys}
use Rattle.packets.specs.Tally.{tally_of}
use Rattle.packets.specs.declared.flows.conversation.Conversation.{Conversation}
use Rattle.packets.specs.declared.flows.transfer.Transfer.{Transfer}
use Rattle.packets.specs.declared.outline.Outline.{Outline}
use Rattle.packets.specs.declared.outline.FragmentState.{FragmentState}
use Rattle.packets.specs.declared.outline.FragmentState.TheVariants as state
use Rattle.checksum_verdicts.specs.declared.verdict.Verdict.{Verdict}
use Rattle.checksum_verdicts.specs.declared.verdict.Verdict.TheVariants as verdict
use Rattle.packets.specs.declared.summary.summary.ChecksumTallies.{ChecksumTallies}
use Rattle.packets.specs.declared.summary.summary.FragmentTallies.{FragmentTallies}
use Rattle.packets.specs.declared.summary.summary.ProtocolTallies.{ProtocolTallies}
use Rattle.packets.specs.declared.summary.summary.Summary.{Summary}
use Rattle.packets.specs.declared.summary.verified.Verified.{Verified}
use Rattle.packets.specs.declared.summary.verified.Verified.TheVariants as verified

abbrev pub has : Protocol → Outline → Bool
has protocol packet = has_header packet.headers protocol

-- the packets with a header of each protocol
pub record CountsProtocols (tallies : ProtocolTallies) (packets : List Outline) : Type 0 where
  pub ethernet : tallies.ethernet ≡ tally_of (has Ethernet) packets
  pub vlan : tallies.vlan ≡ tally_of (has Vlan) packets
  pub macsec : tallies.macsec ≡ tally_of (has Macsec) packets
  pub arp : tallies.arp ≡ tally_of (has Arp) packets
  pub ipv4 : tallies.ipv4 ≡ tally_of (has Ipv4) packets
  pub ipv6 : tallies.ipv6 ≡ tally_of (has Ipv6) packets
  pub over_ip : CountsNumbers tallies.over_ip packets

abbrev pub is_good : Option Verdict → Bool
is_good None = false
is_good (Some verdict.Good) = true
is_good (Some verdict.Bad) = false
is_good (Some verdict.None) = false

abbrev pub is_bad : Option Verdict → Bool
is_bad None = false
is_bad (Some verdict.Good) = false
is_bad (Some verdict.Bad) = true
is_bad (Some verdict.None) = false

abbrev pub is_unchecked : Option Verdict → Bool
is_unchecked None = false
is_unchecked (Some verdict.Good) = false
is_unchecked (Some verdict.Bad) = false
is_unchecked (Some verdict.None) = true

-- the sender of a packet with these addresses, and whether its checksum is bad
abbrev pub sent_by : Option Addresses → Bool → Option Verified
sent_by None is_bad = None
sent_by (Some (V4 source destination)) is_bad = Some (verified.V4 source is_bad)
sent_by (Some (V6 source destination)) is_bad = Some (verified.V6 source is_bad)

abbrev pub verified_by : Option Verdict → Option Addresses → Option Verified
verified_by None addresses = None
verified_by (Some verdict.Good) addresses = sent_by addresses false
verified_by (Some verdict.Bad) addresses = sent_by addresses true
verified_by (Some verdict.None) addresses = None

-- of a packet, if its checksum is good or bad
abbrev pub verified_of : Outline → Option Verified
verified_of packet = verified_by packet.verdict (net_addresses packet.headers.net)

-- the packets of which a message was read, by the verdict on its checksum
pub record CountsChecksums (tallies : ChecksumTallies) (packets : List Outline) : Type 0 where
  pub good : tallies.good ≡ tally_of (λ packet. is_good packet.verdict) packets
  pub bad : tallies.bad ≡ tally_of (λ packet. is_bad packet.verdict) packets
  pub none : tallies.none ≡ tally_of (λ packet. is_unchecked packet.verdict) packets

abbrev pub is_completing : Option FragmentState → Bool
is_completing None = false
is_completing (Some state.Waits) = false
is_completing (Some state.Completes) = true
is_completing (Some state.Refused) = false

abbrev pub is_refused_fragment : Option FragmentState → Bool
is_refused_fragment None = false
is_refused_fragment (Some state.Waits) = false
is_refused_fragment (Some state.Completes) = false
is_refused_fragment (Some state.Refused) = true

-- the fragments, by what became of them
pub record CountsFragments (tallies : FragmentTallies) (packets : List Outline) : Type 0 where
  pub all : tallies.all ≡ tally_of (λ packet. is_some packet.fragment) packets
  pub completing : tallies.completing ≡ tally_of (λ packet. is_completing packet.fragment) packets
  pub refused : tallies.refused ≡ tally_of (λ packet. is_refused_fragment packet.fragment) packets

-- the summary is of these packets, but for their conversations: each tally of those that are of its kind
pub record Counts {S H : Type 0} (same_reason : Reason → Reason → Bool)
    (same_verified : Verified → Verified → Bool) (summary : Summary S H) (packets : List Outline)
    : Type 0 where
  pub all : summary.all ≡ tally_of (λ packet. true) packets
  pub refused : summary.refused ≡ tally_of (λ packet. is_some packet.refusal) packets
  pub protocols : CountsProtocols summary.protocols packets
  pub checksums : CountsChecksums summary.checksums packets
  pub parts : CountsFragments summary.parts packets
  pub sizes : CountsSizes summary.sizes packets
  pub rate : CountsSpans (λ packet. 1) summary.rate packets
  pub period : CountsPeriod summary.period packets
  pub lengths : CountsLengths summary.lengths packets
  pub reasons : CountsKeys same_reason (λ packet. packet.refusal) summary.reasons packets
  pub senders : CountsKeys same_verified verified_of summary.senders packets

-- the same, with their conversations
pub record CountsAll {S H : Type 0} (same_reason : Reason → Reason → Bool)
    (same : Conversation → Conversation → Bool) (same_verified : Verified → Verified → Bool)
    (summary : Summary S H) (packets : List Transfer) : Type 0 where
  pub outlines : Counts same_reason same_verified summary (outlines packets)
  pub flows : CountsFlows same summary.flows packets
