use Rattle.std.proofs.Common.{refl}
use Rattle.hex.specs.Hex.{encode_with}
use Rattle.etherparse.specs.base.Sum.{fold, total}
use Rattle.netlines.proofs.laws.examples.messages_have_packets.Goals as goal

pub returns-clause-v4 : goal.returns-clause-v4
unfolding encode_with fold total
returns-clause-v4 c = refl

pub returns-clause-v4_fragments : goal.returns-clause-v4_fragments
unfolding encode_with fold total
returns-clause-v4_fragments c = refl

pub returns-clause-v6 : goal.returns-clause-v6
unfolding encode_with
returns-clause-v6 c = refl

pub returns-clause-v6_fragments : goal.returns-clause-v6_fragments
unfolding encode_with
returns-clause-v6_fragments c = refl

pub returns-clause-v6_middle : goal.returns-clause-v6_middle
unfolding encode_with
returns-clause-v6_middle c = refl

pub returns-clause-no_tag : goal.returns-clause-no_tag
unfolding encode_with
returns-clause-no_tag c = refl

pub returns-clause-one_tag : goal.returns-clause-one_tag
unfolding encode_with
returns-clause-one_tag c = refl

pub returns-clause-two_tags : goal.returns-clause-two_tags
unfolding encode_with
returns-clause-two_tags c = refl
