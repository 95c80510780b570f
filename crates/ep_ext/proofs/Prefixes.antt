-- The header at the start of some bytes.
use Rattle.std.proofs.Common.{◌≡◌, ℕ, ◌<◌, ◌≤◌, ◌^◌, List, ◌++◌, length, drop, get_or, Ok, Err, arith, refl, sym, ap}
use Rattle.std.proofs.Common.{◌∙◌}
use Rattle.std.proofs.lemmas.Bool.{le-ltb, ne_eqb}
use Rattle.std.proofs.lemmas.List.{take_at, drop_at, get_or_append_left, length-append}
use Rattle.ep_base.proofs.Prefixes.{ok_same}
use Rattle.ep_base.specs.declared.err.layer.Layer.{Layer}
use Rattle.ep_ext.specs.Prefix.{prefix_at}
use Rattle.ep_ext.specs.Raw.{IsRawExt, raw_at}
use Rattle.ep_ext.specs.Fragment.{IsFragment, fragment_at}
use Rattle.ep_ext.specs.Auth.{IsAuth, auth_at}
use Rattle.ep_base.specs.SliceError.{CanMove}
use Rattle.ep_ext.specs.Chain.{IsPiece, prefix_of}
use Rattle.ep_base.specs.declared.err.slice_error.SliceError.{SliceError}
use Rattle.ep_ext.specs.declared.err.ipv6_exts.header_error.HeaderError.{HeaderError}
use Rattle.ep_ext.specs.declared.net.ipv6_ext_slot.Ipv6ExtSlot.{Ipv6ExtSlot}

prefix_at_again : (layer : Layer) (least size : ℕ) (header rest : List ℕ) → least ≤ length header
    → size ≡ length header → prefix_at layer least size (header ++ rest) ≡ Ok header
prefix_at_again layer least size header rest enough whole =
    grind (arith, length-append, le-ltb, take_at)

second : (header rest : List ℕ) → 2 ≤ length header
    → get_or (header ++ rest) 1 0 ≡ get_or header 1 0
second header rest enough = get_or_append_left header rest 0 1 (omega arith)

pub raw_again : (header rest : List ℕ) → IsRawExt header → raw_at (header ++ rest) ≡ Ok header
raw_again header rest raw = grind (arith, second, prefix_at_again)

pub fragment_again : (header rest : List ℕ) → IsFragment header
    → fragment_at (header ++ rest) ≡ Ok header
fragment_again header rest fragment =
    prefix_at_again _ 8 8 header rest (omega (arith, fragment.whole)) (sym fragment.whole)

pub auth_again : (header rest : List ℕ) → IsAuth header → auth_at (header ++ rest) ≡ Ok header
auth_again header rest auth = grind (arith, length-append, ne_eqb, second, le-ltb, take_at)

-- a header is taken, whatever follows it
pub prefix_again : (slot : Ipv6ExtSlot) (header rest : List ℕ) → IsPiece slot header
    → prefix_of slot (header ++ rest) ≡ Ok header
prefix_again slot header rest piece = grind (arith, raw_again, fragment_again, auth_again)

pub eight : (slot : Ipv6ExtSlot) (header : List ℕ) → IsPiece slot header → 8 ≤ length header
eight slot header piece = grind arith

-- the prefix is one header alone
pub same_prefix : (slot : Ipv6ExtSlot) (a b r s : List ℕ) → IsPiece slot a → IsPiece slot b
    → a ++ r ≡ b ++ s → a ≡ b
same_prefix slot a b r s piece other e =
    ok_same a b (sym (prefix_again slot a r piece) ∙ ap (prefix_of slot) e
    ∙ prefix_again slot b s other)

pub same_rest : (a b r s : List ℕ) → a ≡ b → a ++ r ≡ b ++ s → r ≡ s
same_rest a b r s same e =
    sym (drop_at a r (length a) refl) ∙ ap (drop (length a)) e
    ∙ drop_at b s (length a) (sym (ap length same))

-- a fault of a prefix names the offset 0, and can be moved
pub fault_moves : (slot : Ipv6ExtSlot) (bytes : List ℕ) (e : SliceError HeaderError) (n : ℕ)
    → prefix_of slot bytes ≡ Err e → n < 2 ^ 64 → CanMove e n
fault_moves slot bytes e n is fits = grind arith
