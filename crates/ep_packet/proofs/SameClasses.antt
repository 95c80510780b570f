-- Classes of frames that a test of equality finds equal.
use Rattle.std.proofs.Common.{arith, ◌≡◌}
use Rattle.std.specs.Bool.{Decides}
use Rattle.std.proofs.lemmas.Bool.Decides.{Decides-eqb}
use Rattle.std.specs.Cmp.{booleans_Decides}
use Rattle.std.specs.Cmp.Lexicographic.{bytes_decides, pointwise_decides}
use Rattle.ep_base.specs.Traits.{EqualIsSame}
use Rattle.ep_base.specs.contracts.net.ip_frag_offset.IpFragOffsetPartialEq.TheImpl as offsets
use Rattle.ep_base.specs.contracts.net.ip_number.IpNumberPartialEq.TheImpl as numbers
use Rattle.ep_base.proofs.Same.{two_parts}
use Rattle.ep_packet.specs.Class.{FragmentName, as_class, fragment_values}
use Rattle.ep_packet.specs.Class.Class.{Whole, Cut}
use Rattle.ep_packet.specs.Readable.{as_read}
use Rattle.ep_packet.specs.contracts.addresses.AddressesPartialEq.TheImpl as addresses
use Rattle.ep_packet.specs.contracts.class.ClassPartialEq.TheImpl as classes
use Rattle.ep_packet.specs.contracts.class.IpFragmentPartialEq.TheImpl as cuts
use Rattle.ep_packet.specs.contracts.class.WholeMessagePartialEq.TheImpl as wholes
use Rattle.ep_packet.specs.contracts.message.MessagePartialEq.TheImpl as messages
use Rattle.ep_packet.specs.contracts.sliced_fragment.SlicedFragmentPartialEq.TheImpl as parts
use Rattle.ep_packet.specs.declared.class.Class.{Class as ReturnedClass}
use Rattle.ep_packet.specs.declared.class.Class.TheVariants as returned
use Rattle.ep_packet.specs.declared.class.IpFragment.{IpFragment}
use Rattle.ep_packet.specs.declared.class.WholeMessage.{WholeMessage}
use Rattle.ep_packet.specs.declared.message.Message.{Message}
use Rattle.ep_packet.specs.declared.sliced_fragment.SlicedFragment.{SlicedFragment}
use Rattle.ep_tag.specs.contracts.link.vlan_id.VlanIdPartialEq.TheImpl as ids

pub parts_same : EqualIsSame offsets.ghosts.eq
    → (a b : SlicedFragment) → Decides (parts.ghosts.eq a b) (fragment_values a ≡ fragment_values b)
parts_same offset a b =
    let last = two_parts (booleans_Decides a.more_fragments b.more_fragments)
    (bytes_decides a.bytes.now b.bytes.now) (λ x y. (x, y)) (λ both. both) in
    two_parts (offset a.offset b.offset) last (λ x y i. (x i, y.0 i, y.1 i))
    (λ e. (λ i. (e i).0, (λ i. (e i).1, λ i. (e i).2)))

abbrev name_in : IpFragment → FragmentName
name_in m = record {
  vlan_ids = m.vlan_ids.items;
  addresses = m.addresses;
  identification = m.identification;
  number = m.ip_number.0;
}

pub cuts_same : EqualIsSame ids.ghosts.eq → EqualIsSame addresses.ghosts.eq
    → EqualIsSame numbers.ghosts.eq
    → ((x y : SlicedFragment) → Decides (parts.ghosts.eq x y) (fragment_values x ≡ fragment_values y))
    → (a b : IpFragment)
    → Decides (cuts.ghosts.eq a b) (as_class (returned.Cut a) ≡ as_class (returned.Cut b))
cuts_same id address number fragment a b =
    let last = two_parts (number a.ip_number b.ip_number) (fragment a.fragment b.fragment)
    (λ x y. (x, y)) (λ both. both) in
    let numbered = two_parts (Decides-eqb a.identification b.identification) last (λ x y. (x, y))
    (λ both. both) in
    let following = two_parts (address a.addresses b.addresses) numbered (λ x y. (x, y))
    (λ both. both) in
    two_parts (pointwise_decides id a.vlan_ids.items b.vlan_ids.items) following
    (λ x y i. Cut (record {
      vlan_ids = x i;
      addresses = y.0 i;
      identification = y.1.0 i;
      number = (y.1.1.0 i).0;
    }) (y.1.1.1 i).0 (y.1.1.1 i).1 (y.1.1.1 i).2)
    (λ e.
    let name : name_in a ≡ name_in b = cc in
    let offset : a.fragment.offset ≡ b.fragment.offset = cc in
    let more : a.fragment.more_fragments ≡ b.fragment.more_fragments = cc in
    let bytes : a.fragment.bytes.now ≡ b.fragment.bytes.now = cc in (
      λ i. (name i).vlan_ids,
      (
        λ i. (name i).addresses,
        (
          λ i. (name i).identification,
          (λ i. record { 0 = (name i).number }, λ i. (offset i, more i, bytes i)),
        ),
      ),
    ))

pub wholes_same : EqualIsSame numbers.ghosts.eq → EqualIsSame addresses.ghosts.eq
    → ((x y : Message) → Decides (messages.ghosts.eq x y) (as_read x ≡ as_read y))
    → (a b : WholeMessage)
    → Decides (wholes.ghosts.eq a b) (as_class (returned.Whole a) ≡ as_class (returned.Whole b))
wholes_same number address message a b =
    let last = two_parts (bytes_decides a.bytes.now b.bytes.now)
    (message a.message b.message) (λ x y. (x, y)) (λ both. both) in
    let following = two_parts (number a.ip_number b.ip_number) last (λ x y. (x, y)) (λ both. both) in
    grind arith

pub classes_same : ((a b : IpFragment)
    → Decides (cuts.ghosts.eq a b) (as_class (returned.Cut a) ≡ as_class (returned.Cut b)))
    → ((a b : WholeMessage)
    → Decides (wholes.ghosts.eq a b) (as_class (returned.Whole a) ≡ as_class (returned.Whole b)))
    → (a b : ReturnedClass) → Decides (classes.ghosts.eq a b) (as_class a ≡ as_class b)
classes_same cut whole a b = grind arith
