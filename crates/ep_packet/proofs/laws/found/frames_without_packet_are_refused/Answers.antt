use Rattle.std.proofs.Common.{refl}
use Rattle.ep_packet.specs.Sliced.{sliced_ethernet}
use Rattle.ep_packet.proofs.ClassLemmas.{refusal_agrees}
use Rattle.ep_packet.proofs.laws.found.frames_without_packet_are_refused.Goals as goal

pub returns : goal.returns
returns c = λ frame. refusal_agrees frame (sliced_ethernet frame) refl
