use Rattle.netlines.proofs.ExtensionNumbers.{extension_is_refused, v4_names, v6_names}
use Rattle.netlines.proofs.laws.posted.extension_numbers.Goals as goal

pub returns-clause-v4 : goal.returns-clause-v4
returns-clause-v4 c letter message cuts source destination identification is good short =
    let reported = extension_is_refused letter message cuts good short in
    let names = v4_names letter.version_id letter.number.0 source destination identification is in
    (λ e. names.0 (reported.0 e), λ n. reported.1 (names.1 n))

pub returns-clause-v6 : goal.returns-clause-v6
returns-clause-v6 c letter message cuts source destination identification is good short =
    let reported = extension_is_refused letter message cuts good short in
    let names = v6_names letter.version_id letter.number.0 source destination identification is in
    (λ e. names.0 (reported.0 e), λ n. reported.1 (names.1 n))
