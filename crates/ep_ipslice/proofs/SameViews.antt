-- Views that are compared as the same are the same.
use Rattle.std.proofs.Common.{◌≡◌, ℕ, zero, suc, Bool, true, false, ◌&&◌, List, ◌∷◌, [], Option, Some, None, IsTrue}
use Rattle.std.proofs.Common.{◌↔◌, nat_eq, sym, ap, ◌∙◌, arith}
use Rattle.std.specs.Cmp.Lexicographic.{pointwise, bytes_decides}
use Rattle.std.specs.Cmp.Derive.{both_true}
use Rattle.ep_base.specs.declared.net.ip_number.IpNumber.{IpNumber}
use Rattle.ep_ipslice.specs.Compared.{auth_code, compared_as, lax_ordered_as, left_as, number_index, ordered_as}
use Rattle.ep_ipslice.specs.Ipv6Exts.{Ipv6Exts}
use Rattle.ep_ipslice.specs.Ipv6Walk.{HeadersLeft}
use Rattle.ep_ipslice.specs.LaxPackets.{LaxIpv4Packet, LaxIpv6Packet}
use Rattle.ep_ipslice.specs.Packet.{IpPayload, Ipv4Packet, Ipv6Packet}
use Rattle.ep_ipslice.proofs.SamePayloads.{bool_again, bool_at, lax_payload_same, payload_same}

number_at : ℕ → Option IpNumber
number_at zero = None
number_at (suc n) = Some (record { 0 = n })

number_again : (number : Option IpNumber) → number_at (number_index number) ≡ number
unfolding number_at
number_again number = grind arith

no_exts : Ipv6Exts
no_exts = record { first_header = None; fragmented = false; slice = [] }

exts_at : List ℕ → Ipv6Exts
exts_at [] = no_exts
exts_at (number ∷ []) = no_exts
exts_at (number ∷ (fragment_flag ∷ bytes)) =
    record { first_header = number_at number; fragmented = bool_at fragment_flag; slice = bytes }

exts_again : (exts : Ipv6Exts) → exts_at (compared_as exts) ≡ exts
unfolding exts_at
exts_again exts = grind (arith, number_again, bool_again)

pub exts_same : (a b : Ipv6Exts) → IsTrue (pointwise nat_eq (compared_as a) (compared_as b))
    ↔ (a ≡ b)
exts_same a b = (
  (λ h. sym (exts_again a) ∙ ap exts_at ((bytes_decides (compared_as a) (compared_as b)).0 h)
      ∙ exts_again b),
  (λ e. (bytes_decides (compared_as a) (compared_as b)).1 (ap compared_as e)),
)

left_at : List ℕ → HeadersLeft
left_at [] = record { next_header = 0; rest = [] }
left_at (number ∷ bytes) = record { next_header = number; rest = bytes }

pub left_same : (a b : HeadersLeft) → IsTrue (pointwise nat_eq (left_as a) (left_as b)) ↔ (a ≡ b)
unfolding left_at
left_same a b = (
  (λ h. ap left_at ((bytes_decides (left_as a) (left_as b)).0 h)),
  (λ e. (bytes_decides (left_as a) (left_as b)).1 (ap left_as e)),
)

auth_at : List ℕ → Option (List ℕ)
auth_at [] = None
auth_at (n ∷ auth) = Some auth

auth_again : (auth : Option (List ℕ)) → auth_at (auth_code auth) ≡ auth
unfolding auth_at
auth_again auth = grind arith

auth_same : (a b : Option (List ℕ)) → auth_code a ≡ auth_code b → a ≡ b
auth_same a b e = sym (auth_again a) ∙ ap auth_at e ∙ auth_again b

-- all three tests of a comparison
three : (x y z : Bool) → (x && y && z) ≡ true → (x ≡ true) × (y ≡ true) × (z ≡ true)
three x y z h = grind arith

pub ipv4_same : (a b : Ipv4Packet)
    → IsTrue (pointwise nat_eq a.header b.header
    && pointwise nat_eq (auth_code a.auth) (auth_code b.auth)
    && pointwise nat_eq a.payload b.payload) ↔ (a ≡ b)
ipv4_same a b = (
  (λ h.
      let all = three _ _ _ h in
      let header : a.header ≡ b.header = (bytes_decides a.header b.header).0 all.0 in
      let auth : a.auth ≡ b.auth = auth_same a.auth b.auth
      ((bytes_decides (auth_code a.auth) (auth_code b.auth)).0 all.1) in
      let payload : a.payload ≡ b.payload = (bytes_decides a.payload b.payload).0 all.2 in
      λ i. record { header = header i; auth = auth i; payload = payload i }),
  (λ e. both_true
      (both_true ((bytes_decides a.header b.header).1 (ap (λ (p : Ipv4Packet). p.header) e))
      ((bytes_decides (auth_code a.auth) (auth_code b.auth)).1
      (ap (λ (p : Ipv4Packet). auth_code p.auth) e)))
      ((bytes_decides a.payload b.payload).1 (ap (λ (p : Ipv4Packet). p.payload) e))),
)

pub ipv6_same : (a b : Ipv6Packet)
    → IsTrue (pointwise nat_eq a.header b.header
    && pointwise nat_eq (compared_as a.exts) (compared_as b.exts)
    && pointwise nat_eq (ordered_as a.payload) (ordered_as b.payload)) ↔ (a ≡ b)
ipv6_same a b = (
  (λ h.
      let all = three _ _ _ h in
      let header : a.header ≡ b.header = (bytes_decides a.header b.header).0 all.0 in
      let exts : a.exts ≡ b.exts = (exts_same a.exts b.exts).0 all.1 in
      let payload : a.payload ≡ b.payload = (payload_same a.payload b.payload).0 all.2 in
      λ i. record { header = header i; exts = exts i; payload = payload i }),
  (λ e. both_true
      (both_true ((bytes_decides a.header b.header).1 (ap (λ (p : Ipv6Packet). p.header) e))
      ((exts_same a.exts b.exts).1 (ap (λ (p : Ipv6Packet). p.exts) e)))
      ((payload_same a.payload b.payload).1 (ap (λ (p : Ipv6Packet). p.payload) e))),
)

lax4_payload : LaxIpv4Packet → Bool × IpPayload
lax4_payload p = (p.incomplete, p.payload)

lax6_payload : LaxIpv6Packet → Bool × IpPayload
lax6_payload p = (p.incomplete, p.payload)

pub lax_ipv4_same : (a b : LaxIpv4Packet)
    → IsTrue (pointwise nat_eq a.header b.header
    && pointwise nat_eq (auth_code a.auth) (auth_code b.auth)
    && pointwise nat_eq (lax_ordered_as (a.incomplete, a.payload))
    (lax_ordered_as (b.incomplete, b.payload))) ↔ (a ≡ b)
unfolding lax4_payload
lax_ipv4_same a b = (
  (λ h.
      let all = three _ _ _ h in
      let header : a.header ≡ b.header = (bytes_decides a.header b.header).0 all.0 in
      let auth : a.auth ≡ b.auth = auth_same a.auth b.auth
      ((bytes_decides (auth_code a.auth) (auth_code b.auth)).0 all.1) in
      let payload : lax4_payload a ≡ lax4_payload b =
      (lax_payload_same (lax4_payload a) (lax4_payload b)).0 all.2 in
      λ i. record {
        header = header i;
        auth = auth i;
        incomplete = (payload i).0;
        payload = (payload i).1;
      }),
  (λ e. both_true
      (both_true ((bytes_decides a.header b.header).1 (ap (λ (p : LaxIpv4Packet). p.header) e))
      ((bytes_decides (auth_code a.auth) (auth_code b.auth)).1
      (ap (λ (p : LaxIpv4Packet). auth_code p.auth) e)))
      ((lax_payload_same (lax4_payload a) (lax4_payload b)).1 (ap lax4_payload e))),
)

pub lax_ipv6_same : (a b : LaxIpv6Packet)
    → IsTrue (pointwise nat_eq a.header b.header
    && pointwise nat_eq (compared_as a.exts) (compared_as b.exts)
    && pointwise nat_eq (lax_ordered_as (a.incomplete, a.payload))
    (lax_ordered_as (b.incomplete, b.payload))) ↔ (a ≡ b)
unfolding lax6_payload
lax_ipv6_same a b = (
  (λ h.
      let all = three _ _ _ h in
      let header : a.header ≡ b.header = (bytes_decides a.header b.header).0 all.0 in
      let exts : a.exts ≡ b.exts = (exts_same a.exts b.exts).0 all.1 in
      let payload : lax6_payload a ≡ lax6_payload b =
      (lax_payload_same (lax6_payload a) (lax6_payload b)).0 all.2 in
      λ i. record {
        header = header i;
        exts = exts i;
        incomplete = (payload i).0;
        payload = (payload i).1;
      }),
  (λ e. both_true
      (both_true ((bytes_decides a.header b.header).1 (ap (λ (p : LaxIpv6Packet). p.header) e))
      ((exts_same a.exts b.exts).1 (ap (λ (p : LaxIpv6Packet). p.exts) e)))
      ((lax_payload_same (lax6_payload a) (lax6_payload b)).1 (ap lax6_payload e))),
)
