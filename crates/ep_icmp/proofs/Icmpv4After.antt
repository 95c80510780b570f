-- What follows the first 8 bytes of an ICMPv4 header.
use Rattle.std.proofs.Common.{◌≡◌, ℕ, List, length, drop, ap, ◌∙◌, arith, Some, None, []}
use Rattle.std.proofs.lemmas.List.{drop_all}
use Rattle.ep_icmp.proofs.Layouts.{bytes_of_fields-used_bytes}
use Rattle.ep_icmp.specs.Fields.{timestamp_bytes}
use Rattle.ep_icmp.specs.Icmpv4.{FieldsFit, layout_of, timestamp_of, unreachable_fields, problem_fields}
use Rattle.ep_icmp.specs.Layout.{used_bytes, bytes_of_fields}
use Rattle.ep_icmp.specs.declared.transport.icmpv4.timestamp_message.TimestampMessage.{TimestampMessage}
use Rattle.ep_icmp.specs.declared.transport.icmpv4.dest_unreachable_header.DestUnreachableHeader.{DestUnreachableHeader}
use Rattle.ep_icmp.specs.declared.transport.icmpv4.parameter_problem_header.ParameterProblemHeader.{ParameterProblemHeader}
use Rattle.ep_icmp.specs.declared.transport.icmpv4_type.Icmpv4Type.{Icmpv4Type}

after_unreachable : (h : DestUnreachableHeader) → drop 4 (bytes_of_fields (unreachable_fields h))
    ≡ []
after_unreachable h = grind arith

after_problem : (h : ParameterProblemHeader) → drop 4 (bytes_of_fields (problem_fields h)) ≡ []
after_problem h = grind arith

after_all : (bytes : List ℕ) → length bytes ≡ 4 → drop 4 (bytes_of_fields (used_bytes bytes)) ≡ []
after_all bytes four = ap (drop 4) (bytes_of_fields-used_bytes bytes) ∙ drop_all 4 bytes (omega
    (arith, four))

-- nothing but the times of a timestamp message
pub after_none : (kind : Icmpv4Type) → FieldsFit kind → timestamp_of kind ≡ None
    → drop 4 (bytes_of_fields (layout_of kind).fields) ≡ []
after_none kind fits e = grind (arith, after_unreachable, after_all, after_problem)

pub after_some : (kind : Icmpv4Type) (message : TimestampMessage)
    → timestamp_of kind ≡ Some message → bytes_of_fields (layout_of kind).fields ≡ timestamp_bytes
    message
after_some kind message e = grind arith
