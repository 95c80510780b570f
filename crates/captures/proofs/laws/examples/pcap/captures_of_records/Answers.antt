use Rattle.std.proofs.Common.{[], refl}
use Rattle.captures.specs.Examples.{file_after}
use Rattle.captures.proofs.ExampleRecords.{passes_record}
use Rattle.captures.proofs.laws.examples.pcap.captures_of_records.Goals as goal

pub returns : goal.returns
returns c =
    record { state = file_after 1; passes = passes_record []; known = λ e. cc e; counts = refl }
