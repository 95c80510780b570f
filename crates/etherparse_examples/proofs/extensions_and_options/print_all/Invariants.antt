-- Each turn takes one of the options that are left.
use Rattle.std.proofs.Common.{length}
use Rattle.etherparse.specs.tcpudp.Options.{items_of}
use Rattle.etherparse_examples.proofs.extensions_and_options.print_all.Given as goal

abbrev pub decreases-loop-option : goal.decreases-loop-option
decreases-loop-option g l = length (items_of l.option-iterator)
