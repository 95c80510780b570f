use Rattle.std.proofs.Common.{refl}
use Rattle.hex.specs.Hex.{decode_pairs}
use Rattle.etherparse.specs.packet.Tags.{tags_in}
use Rattle.line_grammar.specs.Commands.{command_of}
use Rattle.netlines.specs.Arrivals.{lists_after_lines}
use Rattle.netlines.specs.TwoFragments.{second_fragment}
use Rattle.netlines.proofs.TwoFragmentLemmas.{first_has_fragment, second_has_fragment}
use Rattle.netlines.proofs.laws.two_fragments.lines_have_fragments.Goals as goal

pub returns-clause-first : goal.returns-clause-first
returns-clause-first c = first_has_fragment

pub returns-clause-second : goal.returns-clause-second
returns-clause-second c = second_has_fragment

pub returns-clause-completes : goal.returns-clause-completes
unfolding lists_after_lines command_of decode_pairs tags_in
returns-clause-completes c =
    record { fragment = second_fragment; has_fragment = second_has_fragment; becomes = refl }
