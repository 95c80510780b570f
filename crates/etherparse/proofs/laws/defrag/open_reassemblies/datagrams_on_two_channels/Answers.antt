use Rattle.std.proofs.Common.{arith, refl}
use Rattle.etherparse.proofs.OpenAtLiterals.{first, open_on_two, some}
use Rattle.etherparse.proofs.laws.defrag.open_reassemblies.datagrams_on_two_channels.Goals as goal

pub returns-clause-two : goal.returns-clause-two
returns-clause-two c name = open_on_two _ name (some first) (some first)

pub returns-clause-one : goal.returns-clause-one
returns-clause-one c name are = are.differ 0 1 (name, 3) (omega arith) (omega arith) refl

pub returns-clause-none : goal.returns-clause-none
returns-clause-none c name are = are.each 0 (name, 3) (omega arith) refl
