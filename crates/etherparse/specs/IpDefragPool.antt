-- What a pool makes of a fragment, and what it returns.
use Rattle.std.specs.Prelude.{ℕ, Bool, ◌&&◌, ◌==◌, nat_eq, Option, Result, List, IfOk, option_map}
use Rattle.std.specs.Cmp.Lexicographic.{pointwise}
use Rattle.ep_base.specs.declared.len_source.LenSource.{LenSource}
use Rattle.ep_base.specs.declared.net.ip_number.IpNumber.{IpNumber}
use Rattle.etherparse.specs.contracts.defrag.ip_frag_version_spec_id.IpFragVersionSpecIdPartialEq.TheImpl as versions
use Rattle.etherparse.specs.declared.defrag.ip_defrag_error.IpDefragError.{IpDefragError}
use Rattle.etherparse.specs.declared.defrag.ip_defrag_payload_vec.IpDefragPayloadVec.{IpDefragPayloadVec}
use Rattle.etherparse.specs.declared.defrag.ip_frag_id.IpFragId.{IpFragId}
use Rattle.etherparse.specs.declared.defrag.overlap_rule.OverlapRule.{OverlapRule}
use Rattle.etherparse.specs.Fragments.{Fragment}
use Rattle.etherparse.specs.IpFragId.{len_source_of, overlap_rule_of}
use Rattle.etherparse.specs.Outcome.{outcome}
use Rattle.etherparse.specs.ReassemblyTable.{Becomes, Pool, RefusesBy, ShowsReassembly, reassembly_at}

-- a datagram that was reassembled: its protocol, what the lengths of its fragments came from, and
-- its bytes
pub record Payload : Type 0 where
  pub ip_number : IpNumber
  pub len_source : LenSource
  pub bytes : List ℕ

abbrev pub payload_parsed : IpDefragPayloadVec → Payload
payload_parsed whole =
    record {
      ip_number = whole.ip_number;
      len_source = whole.len_source;
      bytes = whole.payload.items;
    }

-- names are the same where tags, version, addresses, identification and protocol are, and the
-- identifiers by which the caller distinguishes channels: the equality of the code
abbrev pub same_id : {C : Type 0} → (C → C → Bool) → IpFragId C → IpFragId C → Bool
same_id same_channel a b =
    pointwise nat_eq a.vlan_ids.items b.vlan_ids.items
    && (versions.ghosts.eq a.ip b.ip
    && ((a.payload_ip_number.0 == b.payload_ip_number.0)
    && same_channel a.channel_id b.channel_id))

-- the datagram of this name that has these bytes
abbrev pub payload_of : {C : Type 0} → IpFragId C → List ℕ → Payload
payload_of id bytes =
    record { ip_number = id.payload_ip_number; len_source = len_source_of id.ip; bytes = bytes }

-- a fragment of this name, whose fragments overlap by this rule, is added where it is accepted to
-- those that its reassembly shows, at this time, and a datagram that is complete with it is
-- returned
abbrev pub AcceptsBy : {C T : Type 0} → OverlapRule → (IpFragId C → IpFragId C → Bool)
    → (old new : Pool (IpFragId C) T) → IpFragId C → Fragment → T
    → Result (Option IpDefragPayloadVec) IpDefragError → Type 0
AcceptsBy rule same old new id f time result = (fs : List Fragment)
    → ShowsReassembly rule (reassembly_at same old id) fs
    → IfOk result (λ payload. Becomes rule (payload_of id) (outcome rule fs f) time
    (reassembly_at same new id) (option_map payload_parsed payload))

-- the same by the rule of the name's version
abbrev pub Accepts : {C T : Type 0} → (IpFragId C → IpFragId C → Bool)
    → (old new : Pool (IpFragId C) T) → IpFragId C → Fragment → T
    → Result (Option IpDefragPayloadVec) IpDefragError → Type 0
Accepts same old new id f time result =
    AcceptsBy (overlap_rule_of id.ip) same old new id f time result

-- a fragment of this name is refused by those that its reassembly shows, or else may be out of
-- memory
abbrev pub Refuses : {C T X : Type 0} → (IpFragId C → IpFragId C → Bool) → Pool (IpFragId C) T
    → IpFragId C → Fragment → Result X IpDefragError → Type 0
Refuses same old id f result = RefusesBy (overlap_rule_of id.ip) same old id f result
