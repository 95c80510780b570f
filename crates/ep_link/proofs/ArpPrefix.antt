-- The ARP packet at the start of bytes.
use Rattle.std.proofs.Common.{◌≡◌, ℕ, ◌≤◌, List, ◌++◌, length, take, drop, Result, Ok, arith, subst}
use Rattle.std.proofs.lemmas.Bool.{ltb-false}
use Rattle.std.proofs.lemmas.List.{get_or-take, get_or_append_left, length-take-le, length-append, take-append-drop}
use Rattle.std.proofs.lemmas.List.{take_at}
use Rattle.ep_base.specs.declared.err.len_error.LenError.{LenError}
use Rattle.ep_link.specs.Arp.{IsArpPacket, packet_at, packet_len_of}
use Rattle.ep_base.specs.Prefixes.{TakesPrefix}
use Rattle.ep_base.proofs.Prefixes.{guard_ok, ok_same, takes}

-- the first bytes of a packet say what the packet says
pub prefix_is : (bytes : List ℕ) → 8 ≤ length bytes → packet_len_of bytes ≤ length bytes
    → IsArpPacket (take (packet_len_of bytes) bytes)
prefix_is bytes least whole = grind (arith, get_or-take, length-take-le)

packet_found : (bytes packet : List ℕ) → packet_at bytes ≡ Ok packet
    → IsArpPacket packet × ((rest : List ℕ) × (bytes ≡ packet ++ rest))
packet_found bytes packet e =
    let least = guard_ok _ _ _ _ e in
    let whole = guard_ok _ _ _ _ least.1 in
    let eight : 8 ≤ length bytes = ltb-false (length bytes) 8 least.0 in
    let fits : packet_len_of bytes ≤ length bytes =
    ltb-false (length bytes) (packet_len_of bytes) whole.0 in
    let same : take (packet_len_of bytes) bytes ≡ packet = ok_same _ _ whole.1 in (
      subst IsArpPacket same (prefix_is bytes eight fits),
      (
        drop (packet_len_of bytes) bytes,
        grind (arith, take-append-drop),
      ),
    )

packet_at-ok : (bytes : List ℕ) → 8 ≤ length bytes → packet_len_of bytes ≤ length bytes
    → packet_at bytes ≡ Ok (take (packet_len_of bytes) bytes)
packet_at-ok bytes least whole = grind arith

-- a packet is taken, whatever follows it
packet_again : (packet rest : List ℕ) → IsArpPacket packet → packet_at (packet ++ rest) ≡ Ok packet
packet_again packet rest is =
    grind (arith, get_or_append_left, length-append, packet_at-ok, take_at)

pub takes_packet : (bytes : List ℕ) (taken : Result (List ℕ) LenError) → taken ≡ packet_at bytes
    → TakesPrefix IsArpPacket bytes taken
takes_packet = takes IsArpPacket packet_at packet_found packet_again

-- the same with the length as it was computed
pub prefix_at : (bytes : List ℕ) (n : ℕ) → 8 ≤ length bytes → n ≡ packet_len_of bytes
    → n ≤ length bytes → IsArpPacket (take n bytes)
prefix_at bytes n least counted whole = rw counted (prefix_is bytes least (rw counted at whole))
