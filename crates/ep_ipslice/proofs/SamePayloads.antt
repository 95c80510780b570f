-- Payloads that are compared as the same list are the same.
use Rattle.std.proofs.Common.{[], arith, ◌≡◌, ℕ, zero, suc, Bool, true, false, List, ◌∷◌, IsTrue, ◌↔◌, nat_eq, sym, ap}
use Rattle.std.proofs.Common.{◌∙◌}
use Rattle.std.specs.Cmp.Lexicographic.{pointwise, bytes_decides}
use Rattle.ep_base.specs.declared.len_source.LenSource.{LenSource}
use Rattle.ep_base.specs.declared.len_source.LenSource.TheVariants.{Slice, MacsecShortLength, Ipv4HeaderTotalLen}
use Rattle.ep_base.specs.declared.len_source.LenSource.TheVariants.{Ipv6HeaderPayloadLen, UdpHeaderLen, TcpHeaderLen}
use Rattle.ep_base.specs.declared.len_source.LenSource.TheVariants.{ArpAddrLengths}
use Rattle.ep_base.specs.LenSource.{source_index}
use Rattle.ep_ipslice.specs.Compared.{bool_index, lax_ordered_as, ordered_as}
use Rattle.ep_ipslice.specs.Packet.{IpPayload}

source_at : ℕ → LenSource
source_at zero = Slice
source_at (suc zero) = MacsecShortLength
source_at (suc (suc zero)) = Ipv4HeaderTotalLen
source_at (suc (suc (suc zero))) = Ipv6HeaderPayloadLen
source_at (suc (suc (suc (suc zero)))) = UdpHeaderLen
source_at (suc (suc (suc (suc (suc zero))))) = TcpHeaderLen
source_at (suc (suc (suc (suc (suc (suc n)))))) = ArpAddrLengths

source_again : (source : LenSource) → source_at (source_index source) ≡ source
unfolding source_at
source_again source = grind arith

pub bool_at : ℕ → Bool
bool_at zero = false
bool_at (suc n) = true

pub bool_again : (b : Bool) → bool_at (bool_index b) ≡ b
unfolding bool_at
bool_again b = grind arith

blank : IpPayload
blank = record
    { ip_number = record { 0 = 0 }; fragmented = false; len_source = Slice; payload = [] }

payload_at : List ℕ → IpPayload
payload_at [] = blank
payload_at (n ∷ []) = blank
payload_at (n ∷ (fragment_flag ∷ [])) = blank
payload_at (n ∷ (fragment_flag ∷ (source ∷ bytes))) =
    record {
      ip_number = record { 0 = n };
      fragmented = bool_at fragment_flag;
      len_source = source_at source;
      payload = bytes;
    }

payload_again : (p : IpPayload) → payload_at (ordered_as p) ≡ p
unfolding payload_at
payload_again p = grind (arith, bool_again, source_again)

pub payload_same : (a b : IpPayload) → IsTrue (pointwise nat_eq (ordered_as a) (ordered_as b))
    ↔ (a ≡ b)
payload_same a b = (
  (λ h. sym (payload_again a) ∙ ap payload_at ((bytes_decides (ordered_as a) (ordered_as b)).0 h)
      ∙ payload_again b),
  (λ e. (bytes_decides (ordered_as a) (ordered_as b)).1 (ap ordered_as e)),
)

lax_at : List ℕ → Bool × IpPayload
lax_at [] = (false, blank)
lax_at (missing ∷ numbers) = (bool_at missing, payload_at numbers)

lax_again : (p : Bool × IpPayload) → lax_at (lax_ordered_as p) ≡ p
unfolding lax_at
lax_again p = λ i. (bool_again p.0 i, payload_again p.1 i)

-- the same of payloads that may have been cut off
pub lax_payload_same : (a b : Bool × IpPayload)
    → IsTrue (pointwise nat_eq (lax_ordered_as a) (lax_ordered_as b)) ↔ (a ≡ b)
lax_payload_same a b = (
  (λ h. sym (lax_again a) ∙ ap lax_at ((bytes_decides (lax_ordered_as a) (lax_ordered_as b)).0 h)
      ∙ lax_again b),
  (λ e. (bytes_decides (lax_ordered_as a) (lax_ordered_as b)).1 (ap lax_ordered_as e)),
)
