use Rattle.std.proofs.Common.{refl}
use Rattle.ep_tag.proofs.VlanEncoding.{or-tag_control}
use Rattle.ep_tag.proofs.link.single_vlan_header.SingleVlanHeader.encoded.Goals as goal

pub returns-clause-bytes : goal.returns-clause-bytes
returns-clause-bytes c =
    let h = c.args.self.now in
    let small = rw c.value.ensures.value at c.value.ensures.small in
    let id_small = rw c.value-2.ensures.value at c.value-2.ensures.small in
    let word = or-tag_control h.pcp h.vlan_id h.drop_eligible_indicator small id_small in
    rw (
      c.to_be_bytes-tag_control.ensures,
      c.to_be_bytes-ether_type.ensures,
      c.from-priority.ensures,
      c.value.ensures.value,
      c.drop_eligible_bit.ensures,
      c.value-2.ensures.value,
      word,
    ) refl
