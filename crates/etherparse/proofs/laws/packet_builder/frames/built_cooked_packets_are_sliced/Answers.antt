use Rattle.std.proofs.Common.{◌∙◌, ap}
use Rattle.ep_packet.proofs.ClassLemmas.{err_is_refused}
use Rattle.ep_packet.specs.Class.{sliced_class}
use Rattle.ep_packet.specs.Sliced.{sliced_linux_sll}
use Rattle.etherparse.proofs.BuiltPackets.{after_literal, cooked_is}
use Rattle.etherparse.specs.BuiltFrameExamples.{link_at_literals}
use Rattle.etherparse.proofs.laws.packet_builder.frames.built_cooked_packets_are_sliced.Goals as goal

pub returns-clause-whole : goal.returns-clause-whole
returns-clause-whole c =
    λ packet_type address_len address vlan ip number payload packets is read uncut message.
    ap sliced_class (c.from_linux_sll.ensures.exact ∙ ap sliced_linux_sll is)
    ∙ cooked_is packet_type address_len address vlan ip number payload _ packets
    (c.built_frames_are_read.ensures.whole link_at_literals vlan ip number payload
    (after_literal vlan ip number _ packets.tags_fit packets.packet) read uncut message)

pub returns-clause-refused : goal.returns-clause-refused
returns-clause-refused c =
    λ packet_type address_len address vlan ip number payload packets is e uncut message.
    (err_is_refused c.from_linux_sll.result).1
    (ap sliced_class (c.from_linux_sll.ensures.exact ∙ ap sliced_linux_sll is)
    ∙ cooked_is packet_type address_len address vlan ip number payload _ packets
    (c.built_frames_are_read.ensures.refused link_at_literals vlan ip number payload
    (after_literal vlan ip number _ packets.tags_fit packets.packet) e uncut message))

pub returns-clause-as_fragment : goal.returns-clause-as_fragment
returns-clause-as_fragment c =
    λ packet_type address_len address vlan ip number payload packets is stated cut fields.
    ap sliced_class (c.from_linux_sll.ensures.exact ∙ ap sliced_linux_sll is)
    ∙ cooked_is packet_type address_len address vlan ip number payload _ packets
    (c.built_frames_are_read.ensures.as_fragment link_at_literals vlan ip number payload
    (after_literal vlan ip number _ packets.tags_fit packets.packet) stated cut fields)
