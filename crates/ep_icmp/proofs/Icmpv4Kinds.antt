-- The kind that the table of ICMPv4 kinds gives a type and a code.
use Rattle.std.proofs.Common.{◌≡◌, ℕ, ◌≤◌, Bool, false, arith, not, ◌||◌, ◌==◌, if◌then◌else◌, List, slice_range}
use Rattle.std.proofs.Common.{refl, sym}
use Rattle.std.proofs.lemmas.Bool.Decides.{nat_tests}
use Rattle.ep_icmp.proofs.FieldsEncodedThenParsed.{none_passes}
use Rattle.ep_base.specs.Bytes.{num}
use Rattle.ep_icmp.specs.Fields.{echo_in, timestamp_in}
use Rattle.ep_icmp.specs.Icmpv4.{HasNextHopMtu, HasPointer, has_numbers, header_len, is_listed, is_timestamp, kind_at}
use Rattle.ep_icmp.specs.Icmpv4.{is_timestamp_reply, is_timestamp_request, kinds, layout_of, type_of, problem_code}
use Rattle.ep_icmp.specs.Icmpv4.{redirect_code, time_exceeded_code, unreachable_code}
use Rattle.ep_icmp.specs.declared.transport.icmpv4.dest_unreachable_header.DestUnreachableHeader.{DestUnreachableHeader}
use Rattle.ep_icmp.specs.declared.transport.icmpv4.parameter_problem_header.ParameterProblemHeader.{ParameterProblemHeader}
use Rattle.ep_icmp.specs.declared.transport.icmpv4.redirect_code.RedirectCode.{RedirectCode}
use Rattle.ep_icmp.specs.declared.transport.icmpv4.time_exceeded_code.TimeExceededCode.{TimeExceededCode}
use Rattle.ep_icmp.specs.declared.transport.icmpv4.timestamp_message.TimestampMessage.{TimestampMessage}
use Rattle.ep_icmp.specs.declared.transport.icmpv4_type.Icmpv4Type.{Icmpv4Type}
use Rattle.ep_icmp.specs.declared.transport.icmpv4_type.Icmpv4Type.TheVariants.{Unknown, EchoReply}
use Rattle.ep_icmp.specs.declared.transport.icmpv4_type.Icmpv4Type.TheVariants.{DestinationUnreachable, Redirect}
use Rattle.ep_icmp.specs.declared.transport.icmpv4_type.Icmpv4Type.TheVariants.{EchoRequest, TimeExceeded}
use Rattle.ep_icmp.specs.declared.transport.icmpv4_type.Icmpv4Type.TheVariants.{ParameterProblem, TimestampRequest}
use Rattle.ep_icmp.specs.declared.transport.icmpv4_type.Icmpv4Type.TheVariants.{TimestampReply}

-- the kinds of the types that have several codes
unreachable_at : (m : List ℕ) (h : DestUnreachableHeader) → HasNextHopMtu h (num m 6 2)
    → DestinationUnreachable h ≡ kind_at 3 (unreachable_code h) m
unfolding kind_at
unreachable_at m h e = grind arith

redirect_at : (m : List ℕ) (code : RedirectCode)
    → Redirect (record { code = code; gateway_internet_address = slice_range m 4 8 })
    ≡ kind_at 5 (redirect_code code) m
unfolding kind_at
redirect_at m code = grind arith

time_exceeded_at : (m : List ℕ) (code : TimeExceededCode)
    → TimeExceeded code ≡ kind_at 11 (time_exceeded_code code) m
unfolding kind_at
time_exceeded_at m code = grind arith

problem_at : (m : List ℕ) (h : ParameterProblemHeader) → HasPointer h (num m 4 1)
    → ParameterProblem h ≡ kind_at 12 (problem_code h) m
unfolding kind_at
problem_at m h e = grind arith

-- the bytes hold the fields of a kind, and an `Unknown` isn't listed
abbrev pub StandsIn : List ℕ → Icmpv4Type → Type 0
StandsIn m (EchoReply echo) = echo ≡ echo_in m 4
StandsIn m (DestinationUnreachable header) = HasNextHopMtu header (num m 6 2)
StandsIn m (Redirect header) = header.gateway_internet_address ≡ slice_range m 4 8
StandsIn m (EchoRequest echo) = echo ≡ echo_in m 4
StandsIn m (ParameterProblem header) = HasPointer header (num m 4 1)
StandsIn m (TimestampRequest message) = message ≡ timestamp_in m 4
StandsIn m (TimestampReply message) = message ≡ timestamp_in m 4
StandsIn m (Unknown t c bytes5to8) = (is_listed t c ≡ false) × (bytes5to8 ≡ slice_range m 4 8)
StandsIn m _ = Unit {0}

-- a type and code that the table doesn't name
pub unknown_at : (m : List ℕ) (t c : ℕ) → is_listed t c ≡ false
    → Unknown t c (slice_range m 4 8) ≡ kind_at t c m
unfolding kind_at is_listed
unknown_at m t c none = rw (none_passes (has_numbers t c) (kinds m) none) refl

numbers_at : (m : List ℕ) (kind : Icmpv4Type) → StandsIn m kind
    → kind ≡ kind_at (layout_of kind).type_u8 (layout_of kind).code_u8 m
unfolding kind_at
numbers_at m kind e =
    grind (arith, unreachable_at, redirect_at, time_exceeded_at, problem_at, unknown_at)

-- the kind with this type and code, whose fields the bytes hold
pub kind_is : (m : List ℕ) (t c : ℕ) (kind : Icmpv4Type) → (layout_of kind).type_u8 ≡ t
    → (layout_of kind).code_u8 ≡ c
    → StandsIn m kind → kind ≡ kind_at t c m
kind_is m t c kind p q e = rw (← p, ← q) (numbers_at m kind e)

-- codes above the last of a type that has several
pub no_unreachable : (t c : ℕ) → t ≡ 3 → 16 ≤ c → is_listed t c ≡ false
unfolding is_listed
no_unreachable t c p h = grind (arith, nat_tests)

pub no_redirect : (t c : ℕ) → t ≡ 5 → 4 ≤ c → is_listed t c ≡ false
unfolding is_listed
no_redirect t c p h = grind (arith, nat_tests)

pub no_time_exceeded : (t c : ℕ) → t ≡ 11 → 2 ≤ c → is_listed t c ≡ false
unfolding is_listed
no_time_exceeded t c p h = grind (arith, nat_tests)

pub no_problem : (t c : ℕ) → t ≡ 12 → 3 ≤ c → is_listed t c ≡ false
unfolding is_listed
no_problem t c p h = grind (arith, nat_tests)

-- a kind has a header of 8 bytes, or doesn't pass a test
abbrev fits : (Icmpv4Type → Bool) → Icmpv4Type → Bool
fits p kind = (header_len kind == 8) || not (p kind)

-- the kinds of 20 bytes are the timestamp messages
len_at : (m : List ℕ) (t c : ℕ) (request reply : Bool)
    → has_numbers t c (TimestampRequest (timestamp_in m 4)) ≡ request
    → has_numbers t c (TimestampReply (timestamp_in m 4)) ≡ reply
    → header_len (kind_at t c m) ≡ (if request || reply then 20 else 8)
unfolding kind_at
len_at m t c request reply p q = grind (arith, nat_tests)

-- the table gives timestamp messages their types and code
pub timestamps_listed : (m : List ℕ) (message : TimestampMessage)
    → (is_timestamp_request m ≡ has_numbers (num m 0 1) (num m 1 1) (TimestampRequest message))
    × (is_timestamp_reply m ≡ has_numbers (num m 0 1) (num m 1 1) (TimestampReply message))
timestamps_listed m message = (grind (arith, nat_tests), grind (arith, nat_tests))

pub header_len_at : (m : List ℕ) → header_len (type_of m) ≡ (if is_timestamp m then 20 else 8)
header_len_at m =
    let listed = timestamps_listed m (timestamp_in m 4) in
    len_at m (num m 0 1) (num m 1 1) _ _ (sym listed.0) (sym listed.1)
