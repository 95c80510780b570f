use Rattle.std.proofs.Common.{◌∙◌, ap, None}
use Rattle.ep_packet.proofs.ClassLemmas.{err_is_refused}
use Rattle.ep_packet.specs.Class.{sliced_class}
use Rattle.ep_packet.specs.Sliced.{sliced_ip}
use Rattle.etherparse.proofs.BuiltPackets.{alone_is, after_literal}
use Rattle.etherparse.specs.BuiltFrameExamples.{link_at_literals}
use Rattle.etherparse.proofs.laws.packet_builder.frames.built_packets_are_sliced.Goals as goal

pub returns-clause-whole : goal.returns-clause-whole
returns-clause-whole c = λ ip number payload packets is read uncut message.
    ap sliced_class (c.from_ip.ensures.exact ∙ ap sliced_ip is)
    ∙ alone_is ip number payload _ packets
    (c.built_frames_are_read.ensures.whole link_at_literals None ip number payload
    (after_literal None ip number _ tt packets) read uncut message)

pub returns-clause-refused : goal.returns-clause-refused
returns-clause-refused c = λ ip number payload packets is e uncut message.
    (err_is_refused c.from_ip.result).1 (ap sliced_class (c.from_ip.ensures.exact ∙ ap sliced_ip is)
    ∙ alone_is ip number payload _ packets
    (c.built_frames_are_read.ensures.refused link_at_literals None ip number payload
    (after_literal None ip number _ tt packets) e uncut message))

pub returns-clause-as_fragment : goal.returns-clause-as_fragment
returns-clause-as_fragment c = λ ip number payload packets is stated cut fields.
    ap sliced_class (c.from_ip.ensures.exact ∙ ap sliced_ip is)
    ∙ alone_is ip number payload _ packets
    (c.built_frames_are_read.ensures.as_fragment link_at_literals None ip number payload
    (after_literal None ip number _ tt packets) stated cut fields)
