use Rattle.std.proofs.Common.{◌∙◌, ap}
use Rattle.ep_packet.proofs.ClassLemmas.{refusal_agrees}
use Rattle.ep_packet.specs.Class.{class_of}
use Rattle.etherparse.proofs.laws.packet_builder.frames.built_frames_are_sliced.Goals as goal

pub returns-clause-whole : goal.returns-clause-whole
returns-clause-whole c = λ link vlan ip number payload frames is read uncut message.
    c.from_ethernet.ensures.class ∙ ap class_of is
    ∙ c.built_frames_are_read.ensures.whole link vlan ip number payload
    frames read uncut message

pub returns-clause-refused : goal.returns-clause-refused
returns-clause-refused c = λ link vlan ip number payload frames is e uncut message.
    (refusal_agrees c.args.frame.now c.from_ethernet.result c.from_ethernet.ensures.exact).1
    (ap class_of is ∙ c.built_frames_are_read.ensures.refused link vlan ip number payload
    frames e uncut message)

pub returns-clause-as_fragment : goal.returns-clause-as_fragment
returns-clause-as_fragment c = λ link vlan ip number payload frames is stated cut fields.
    c.from_ethernet.ensures.class ∙ ap class_of is
    ∙ c.built_frames_are_read.ensures.as_fragment link vlan ip number payload frames stated cut fields
