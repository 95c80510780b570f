use Rattle.std.proofs.Common.{◌≡◌, ℕ, ◌-◌, ◌==◌, ◌&&◌, Bool, true, false, not, if◌then◌else◌, Some, None, arith}
use Rattle.std.proofs.Common.{ap, refl}
use Rattle.ep_base.specs.declared.link.ether_type.EtherType.{EtherType}
use Rattle.ep_tag.specs.declared.link.macsec_p_type.MacsecPType.{MacsecPType}
use Rattle.ep_tag.specs.declared.link.macsec_p_type.MacsecPType.TheVariants as ptype
use Rattle.ep_tag.specs.Macsec.{ether_type_of, is_encrypted, is_changed, payload_len_in, short_len_of}
use Rattle.ep_tag.proofs.laws.macsec.payload_lengths_agree.Goals as goal

-- the kind of payload, by the two bits
abbrev kind : Bool → Bool → EtherType → MacsecPType
kind e c t = if e then (if c then ptype.Encrypted else ptype.EncryptedUnmodified)
    else (if c then ptype.Modified else ptype.Unmodified t)

with_room : (e c : Bool) (n : ℕ) (t : EtherType) → ((not e && not c) && (n == 1)) ≡ false
    → payload_len_in (kind e c t) n ≡ Some (n - (if not e && not c then 2 else 0))
with_room true true n t h = ap Some (omega arith)
with_room true false n t h = ap Some (omega arith)
with_room false true n t h = ap Some (omega arith)
with_room false false n t h = rw h refl

without_room : (e c : Bool) (n : ℕ) (t : EtherType) → ((not e && not c) && (n == 1)) ≡ true
    → payload_len_in (kind e c t) n ≡ None
without_room true true n t h = cc
without_room true false n t h = cc
without_room false true n t h = cc
without_room false false n t h = rw h refl

pub returns-clause-room : goal.returns-clause-room
returns-clause-room c = λ header. with_room (is_encrypted header) (is_changed header)
    (short_len_of header) (ether_type_of header)

pub returns-clause-no_room : goal.returns-clause-no_room
returns-clause-no_room c = λ header. without_room (is_encrypted header) (is_changed header)
    (short_len_of header) (ether_type_of header)
