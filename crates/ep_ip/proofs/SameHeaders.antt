-- IPv4 headers that a test of equality finds equal.
use Rattle.std.proofs.Common.{rules}
use Rattle.std.proofs.lemmas.Bool.Decides.{Decides-eqb}
use Rattle.std.specs.Cmp.{booleans_Decides}
use Rattle.std.specs.Cmp.Lexicographic.{bytes_decides}
use Rattle.ep_base.specs.Traits.{EqualIsSame}
use Rattle.ep_base.proofs.Same.{field, last_field, record_same}
use Rattle.ep_base.specs.contracts.net.ip_ecn.IpEcnPartialEq.TheImpl as ecns
use Rattle.ep_ip.specs.contracts.net.ipv4_header.Ipv4HeaderPartialEq.TheImpl as headers

ecns_same : EqualIsSame ecns.ghosts.eq
ecns_same a b = search rules

pub same_headers : EqualIsSame headers.ghosts.eq
same_headers a b = record_same
    (field Decides-eqb (λ h. h.dscp)
    (field ecns_same (λ h. h.ecn)
    (field Decides-eqb (λ h. h.total_len)
    (field Decides-eqb (λ h. h.identification)
    (field booleans_Decides (λ h. h.dont_fragment)
    (field booleans_Decides (λ h. h.more_fragments)
    (field Decides-eqb (λ h. h.fragment_offset)
    (field Decides-eqb (λ h. h.time_to_live)
    (field Decides-eqb (λ h. h.protocol.0)
    (field Decides-eqb (λ h. h.header_checksum)
    (field bytes_decides (λ h. h.source)
    (field bytes_decides (λ h. h.destination)
    (last_field bytes_decides (λ h. h.options))))))))))))))
    (λ dscp ecn total_len identification dont_fragment more_fragments fragment_offset time_to_live
    protocol header_checksum source destination options i. record {
      dscp = dscp i;
      ecn = ecn i;
      total_len = total_len i;
      identification = identification i;
      dont_fragment = dont_fragment i;
      more_fragments = more_fragments i;
      fragment_offset = fragment_offset i;
      time_to_live = time_to_live i;
      protocol = record { 0 = protocol i };
      header_checksum = header_checksum i;
      source = source i;
      destination = destination i;
      options = options i;
    })
