-- What a receiver tests of a message of neighbor discovery before it believes it (RFC 4861, sections
-- 6.1.1, 6.1.2, 7.1.1, 7.1.2 and 8.1), as far as the message and its IPv6 header say.
use Rattle.std.specs.Prelude.{ℕ, ◌/◌, ◌==◌, ◌&&◌, not, Bool, false, nat_eq, ◌^◌, List, [], ◌∷◌, ◌++◌, length, take, replicate}
use Rattle.std.specs.Prelude.{if◌then◌else◌, Option, Some, None, Result, Ok, Err, ⊤}
use Rattle.std.specs.Cmp.Lexicographic.{pointwise}
use Rattle.ep_base.specs.Bytes.{num}
use Rattle.ep_base.specs.Refusals.{first_refusal}
use Rattle.ep_base.specs.Sum.{all_ones}
use Rattle.ep_icmp.specs.Icmpv6.{pseudo}
use Rattle.ep_icmp.specs.Ndp.{message_of, options_bytes_of}
use Rattle.ep_icmp.specs.NdpOptions.{items_of}
use Rattle.ep_icmp.specs.declared.transport.icmpv6.ndp.ndp_invalid.NdpInvalid.{NdpInvalid}
use Rattle.ep_icmp.specs.declared.transport.icmpv6.ndp.ndp_invalid.NdpInvalid.TheVariants as invalid
use Rattle.ep_icmp.specs.declared.transport.icmpv6.ndp.ndp_message.NdpMessage.{NdpMessage}
use Rattle.ep_icmp.specs.declared.transport.icmpv6.ndp.ndp_message.NdpMessage.TheVariants.{RouterSolicitation}
use Rattle.ep_icmp.specs.declared.transport.icmpv6.ndp.ndp_message.NdpMessage.TheVariants.{RouterAdvertisement}
use Rattle.ep_icmp.specs.declared.transport.icmpv6.ndp.ndp_message.NdpMessage.TheVariants.{NeighborSolicitation}
use Rattle.ep_icmp.specs.declared.transport.icmpv6.ndp.ndp_message.NdpMessage.TheVariants.{NeighborAdvertisement}
use Rattle.ep_icmp.specs.declared.transport.icmpv6.ndp.ndp_message.NdpMessage.TheVariants.{Redirect}
use Rattle.ep_icmp.specs.declared.transport.icmpv6.ndp.ndp_option.NdpOption.{NdpOption}
use Rattle.ep_icmp.specs.declared.transport.icmpv6.ndp.ndp_option.NdpOption.TheVariants as option
use Rattle.ep_icmp.specs.declared.transport.icmpv6.ndp.ndp_option_error.NdpOptionError.{NdpOptionError}

-- kinds of addresses (RFC 4291, sections 2.5.2, 2.5.6, 2.7 and 2.7.1)
abbrev pub is_same : List ℕ → List ℕ → Bool
is_same a b = pointwise nat_eq a b

abbrev pub is_unspecified : List ℕ → Bool
is_unspecified address = is_same address (replicate 16 0)

-- fe80::/10
abbrev pub is_link_local : List ℕ → Bool
is_link_local address = num address 0 1 == 254 && (num address 1 1 / 2 ^ 6 == 2)

-- ff00::/8
abbrev pub is_multicast : List ℕ → Bool
is_multicast address = num address 0 1 == 255

-- ff02:0:0:0:0:1:ff00::/104
abbrev pub is_solicited_node : List ℕ → Bool
is_solicited_node address =
    is_same (take 13 address) (255 ∷ 2 ∷ replicate 9 0 ++ 1 ∷ 255 ∷ [])

-- what makes a message of each kind invalid, apart from its options
abbrev pub message_refusals : List ℕ → List ℕ → NdpMessage → List (Bool × NdpInvalid)
message_refusals source destination RouterSolicitation = []
message_refusals source destination
    (RouterAdvertisement hop managed other lifetime reachable retrans) =
    (not (is_link_local source), invalid.SourceNotLinkLocal) ∷ []
message_refusals source destination (NeighborSolicitation target) =
    (is_multicast target, invalid.TargetMulticast)
    ∷ (
      is_unspecified source && not (is_solicited_node destination),
      invalid.DestinationNotSolicitedNode,
    ) ∷ []
message_refusals source destination (NeighborAdvertisement router solicited overrides target) =
    (is_multicast target, invalid.TargetMulticast)
    ∷ (solicited && is_multicast destination, invalid.SolicitedToMulticast) ∷ []
message_refusals source destination (Redirect target redirected) =
    (not (is_link_local source), invalid.SourceNotLinkLocal)
    ∷ (is_multicast redirected, invalid.RedirectedMulticast)
    ∷ (
      not (is_link_local target) && not (is_same target redirected),
      invalid.TargetNotRouterNorDestination,
    ) ∷ []

-- what makes each message invalid: the hop limit, the checksum, the code, and the above
abbrev pub refusals : ℕ → List ℕ → List ℕ → List ℕ → List (Bool × NdpInvalid)
refusals hop_limit source destination bytes =
    (not (hop_limit == 255), invalid.HopLimit hop_limit)
    ∷ (not (all_ones (pseudo source destination (length bytes) ++ bytes)), invalid.Checksum)
    ∷ (not (num bytes 1 1 == 0), invalid.Code (num bytes 1 1))
    ∷ message_refusals source destination (message_of bytes)

-- an unspecified source has no link-layer address to give: in solicitations such an option is
-- refused
abbrev pub refuses_source_option : List ℕ → NdpMessage → Bool
refuses_source_option source RouterSolicitation = is_unspecified source
refuses_source_option source (NeighborSolicitation target) = is_unspecified source
refuses_source_option source _ = false

-- what is wrong with an item of the options
abbrev pub item_refusal : Bool → Result NdpOption NdpOptionError → Option NdpInvalid
item_refusal unspecified (Err f) = Some (invalid.Options f)
item_refusal unspecified (Ok (option.SourceLinkLayerAddress address)) =
    if unspecified then Some invalid.SourceLinkLayerAddressWithoutSource else None
item_refusal unspecified (Ok _) = None

-- this refusal, or else the next
abbrev pub or_next : Option NdpInvalid → Option NdpInvalid → Option NdpInvalid
or_next None next = next
or_next (Some refusal) next = Some refusal

-- the first refusal among the items
abbrev pub items_refusal : Bool → List (Result NdpOption NdpOptionError) → Option NdpInvalid
items_refusal unspecified [] = None
items_refusal unspecified (item ∷ items) =
    or_next (item_refusal unspecified item) (items_refusal unspecified items)

-- why the message is invalid, if it is
abbrev pub invalidity : ℕ → List ℕ → List ℕ → List ℕ → Option NdpInvalid
invalidity hop_limit source destination bytes =
    or_next (first_refusal (refusals hop_limit source destination bytes))
    (items_refusal (refuses_source_option source (message_of bytes))
    (items_of (record { rest = options_bytes_of bytes; end = length (options_bytes_of bytes) })))

abbrev pub unless_invalid : Option NdpInvalid → Result ⊤ NdpInvalid
unless_invalid None = Ok tt
unless_invalid (Some refusal) = Err refusal
