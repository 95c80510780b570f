use Rattle.std.proofs.Common.{◌≡◌, Option, Some, None, refl, ap, rules}
use Rattle.ep_base.proofs.Same.{field, last_field, options_same, record_same}
use Rattle.ep_ext.specs.contracts.net.ipv6_extensions.Ipv6ExtensionsClone.TheImpl as clone
use Rattle.ep_ext.proofs.laws.traits.chains_are_plain_data.Goals as goal

-- a copy of a header that may be there, where copies of the header are the header
option_copy : {A : Type 0} (R : Option A → Option A → Type 0)
    → ((x y : A) → R (Some x) (Some y) → y ≡ x) → ((x : A) → R (Some x) None → ⊥)
    → ((y : A) → R None (Some y) → ⊥) →
    (a b : Option A) → R a b → b ≡ a
option_copy R same lost made None None is = refl
option_copy R same lost made None (Some y) is = absurd (made y is)
option_copy R same lost made (Some x) None is = absurd (lost x is)
option_copy R same lost made (Some x) (Some y) is = ap Some (same x y is)

pub returns : goal.returns
returns c = record {
  copies = λ value copy is.
      let types = c.types_are_plain_data.ensures in
      let hop : copy.hop_by_hop_options ≡ value.hop_by_hop_options =
      option_copy (λ a b. clone.ghosts.is_clone (record value { hop_by_hop_options = a })
      (record copy { hop_by_hop_options = b }))
      (λ x y h. types.ipv6_raw_ext_header.copies x y h.0) (λ x h. h.0)
      (λ y h. h.0) value.hop_by_hop_options copy.hop_by_hop_options is in
      let destination : copy.destination_options ≡ value.destination_options =
      option_copy (λ a b. clone.ghosts.is_clone (record value { destination_options = a })
      (record copy { destination_options = b }))
      (λ x y h. types.ipv6_raw_ext_header.copies x y h.1.0) (λ x h. h.1.0)
      (λ y h. h.1.0) value.destination_options copy.destination_options is in
      let route : copy.routing ≡ value.routing =
      option_copy (λ a b. clone.ghosts.is_clone (record value { routing = a })
      (record copy { routing = b }))
      (λ x y h. types.ipv6_routing_extensions.copies x y h.1.1.0) (λ x h. h.1.1.0)
      (λ y h. h.1.1.0) value.routing copy.routing is in
      let same_fragment : copy.fragment ≡ value.fragment =
      option_copy (λ a b. clone.ghosts.is_clone (record value { fragment = a })
      (record copy { fragment = b }))
      (λ x y h. types.ipv6_fragment_header.copies x y h.1.1.1.0) (λ x h. h.1.1.1.0)
      (λ y h. h.1.1.1.0) value.fragment copy.fragment is in
      let last : copy.auth ≡ value.auth =
      option_copy (λ a b. clone.ghosts.is_clone (record value { auth = a })
      (record copy { auth = b }))
      (λ x y h. types.ip_auth_header.copies x y h.1.1.1.1) (λ x h. h.1.1.1.1)
      (λ y h. h.1.1.1.1) value.auth copy.auth is in
      λ i. record {
        hop_by_hop_options = hop i;
        destination_options = destination i;
        routing = route i;
        fragment = same_fragment i;
        auth = last i;
      };
  never_fails = search rules;
  equals = λ a b.
      let types = c.types_are_plain_data.ensures in
      record_same
      (field (options_same types.ipv6_raw_ext_header.equals) (λ x. x.hop_by_hop_options)
      (field (options_same types.ipv6_raw_ext_header.equals) (λ x. x.destination_options)
      (field (options_same types.ipv6_routing_extensions.equals) (λ x. x.routing)
      (field (options_same types.ipv6_fragment_header.equals) (λ x. x.fragment)
      (last_field (options_same types.ip_auth_header.equals) (λ x. x.auth))))))
      (λ hop destination route same_fragment last i. record {
        hop_by_hop_options = hop i;
        destination_options = destination i;
        routing = route i;
        fragment = same_fragment i;
        auth = last i;
      });
}
