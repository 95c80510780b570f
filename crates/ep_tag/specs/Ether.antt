-- What an ether type names: the bytes after it, and what bounds them.
use Rattle.std.specs.Prelude.{ℕ, Bool, false, List}
use Rattle.ep_base.specs.Bytes.{num}
use Rattle.ep_base.specs.declared.len_source.LenSource.{LenSource}
use Rattle.ep_base.specs.declared.link.ether_type.EtherType.{EtherType}

-- the ether type, what bounds the bytes after it, and those bytes
pub record EtherPayload : Type 0 where
  pub ether_type : EtherType
  pub len_source : LenSource
  pub payload : List ℕ

-- the same of bytes that may have been cut off, and whether some of them are missing
pub record LaxEtherPayload : Type 0 where
  pub incomplete : Bool
  pub ether_type : EtherType
  pub len_source : LenSource
  pub payload : List ℕ

-- bytes of which none are missing
abbrev pub complete_ether : EtherPayload → LaxEtherPayload
complete_ether p = record {
  incomplete = false;
  ether_type = p.ether_type;
  len_source = p.len_source;
  payload = p.payload;
}

-- the bytes that are there, without whether some are missing
abbrev pub present_ether : LaxEtherPayload → EtherPayload
present_ether p = record {
  ether_type = p.ether_type;
  len_source = p.len_source;
  payload = p.payload;
}

-- the ether type at offset p
abbrev pub ether_type_at : List ℕ → ℕ → EtherType
ether_type_at bytes p = record { 0 = num bytes p 2 }
