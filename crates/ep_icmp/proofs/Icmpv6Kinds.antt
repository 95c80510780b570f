-- The kind that the table of ICMPv6 kinds gives a type and a code.
use Rattle.std.proofs.Common.{◌≡◌, ℕ, ◌≤◌, List, false, arith, slice_range, refl}
use Rattle.std.proofs.lemmas.Bool.Decides.{nat_tests}
use Rattle.ep_base.specs.Bytes.{num}
use Rattle.ep_icmp.specs.Fields.{echo_in}
use Rattle.ep_icmp.specs.Icmpv6.{has_numbers, is_listed, kind_at, kinds, layout_of, problem_code, time_exceeded_code}
use Rattle.ep_icmp.specs.Icmpv6.{unreachable_code}
use Rattle.ep_icmp.proofs.FieldsEncodedThenParsed.{none_passes}
use Rattle.ep_icmp.specs.declared.transport.icmpv6.dest_unreachable_code.DestUnreachableCode.{DestUnreachableCode}
use Rattle.ep_icmp.specs.declared.transport.icmpv6.parameter_problem_code.ParameterProblemCode.{ParameterProblemCode}
use Rattle.ep_icmp.specs.declared.transport.icmpv6.time_exceeded_code.TimeExceededCode.{TimeExceededCode}
use Rattle.ep_icmp.specs.declared.transport.icmpv6_type.Icmpv6Type.{Icmpv6Type}
use Rattle.ep_icmp.specs.declared.transport.icmpv6_type.Icmpv6Type.TheVariants.{Unknown, DestinationUnreachable}
use Rattle.ep_icmp.specs.declared.transport.icmpv6_type.Icmpv6Type.TheVariants.{PacketTooBig, TimeExceeded}
use Rattle.ep_icmp.specs.declared.transport.icmpv6_type.Icmpv6Type.TheVariants.{ParameterProblem, EchoRequest}
use Rattle.ep_icmp.specs.declared.transport.icmpv6_type.Icmpv6Type.TheVariants.{EchoReply}

-- the kinds of the types that have several codes
unreachable_at : (m : List ℕ) (code : DestUnreachableCode)
    → DestinationUnreachable code ≡ kind_at 1 (unreachable_code code) m
unfolding kind_at
unreachable_at m code = grind arith

time_exceeded_at : (m : List ℕ) (code : TimeExceededCode)
    → TimeExceeded code ≡ kind_at 3 (time_exceeded_code code) m
unfolding kind_at
time_exceeded_at m code = grind arith

problem_at : (m : List ℕ) (code : ParameterProblemCode)
    → ParameterProblem (record { code = code; pointer = num m 4 4 })
    ≡ kind_at 4 (problem_code code) m
unfolding kind_at
problem_at m code = grind arith

-- the bytes hold the fields of a kind, and an `Unknown` isn't listed
abbrev pub StandsIn : List ℕ → Icmpv6Type → Type 0
StandsIn m (PacketTooBig mtu) = mtu ≡ num m 4 4
StandsIn m (ParameterProblem header) = header.pointer ≡ num m 4 4
StandsIn m (EchoRequest echo) = echo ≡ echo_in m 4
StandsIn m (EchoReply echo) = echo ≡ echo_in m 4
StandsIn m (Unknown t c bytes5to8) = (is_listed t c ≡ false) × (bytes5to8 ≡ slice_range m 4 8)
StandsIn m _ = Unit {0}

-- a type and code that the table doesn't name
pub unknown_at : (m : List ℕ) (t c : ℕ) → is_listed t c ≡ false
    → Unknown t c (slice_range m 4 8) ≡ kind_at t c m
unfolding kind_at is_listed
unknown_at m t c none = rw (none_passes (has_numbers t c) (kinds m) none) refl

numbers_at : (m : List ℕ) (kind : Icmpv6Type) → StandsIn m kind
    → kind ≡ kind_at (layout_of kind).type_u8 (layout_of kind).code_u8 m
unfolding kind_at
numbers_at m kind e = grind (arith, unreachable_at, time_exceeded_at, problem_at, unknown_at)

-- the kind with this type and code, whose fields the bytes hold
pub kind_is : (m : List ℕ) (t c : ℕ) (kind : Icmpv6Type) → (layout_of kind).type_u8 ≡ t
    → (layout_of kind).code_u8 ≡ c
    → StandsIn m kind → kind ≡ kind_at t c m
kind_is m t c kind p q e = rw (← p, ← q) (numbers_at m kind e)

-- codes above the last of a type that has several
pub no_unreachable : (t c : ℕ) → t ≡ 1 → 7 ≤ c → is_listed t c ≡ false
unfolding is_listed
no_unreachable t c p h = grind (arith, nat_tests)

pub no_time_exceeded : (t c : ℕ) → t ≡ 3 → 2 ≤ c → is_listed t c ≡ false
unfolding is_listed
no_time_exceeded t c p h = grind (arith, nat_tests)

pub no_problem : (t c : ℕ) → t ≡ 4 → 11 ≤ c → is_listed t c ≡ false
unfolding is_listed
no_problem t c p h = grind (arith, nat_tests)
