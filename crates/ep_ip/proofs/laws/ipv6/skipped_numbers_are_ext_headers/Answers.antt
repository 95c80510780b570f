use Rattle.std.specs.Prelude.{◌==◌}
use Rattle.ep_ip.proofs.SkipNumbers.{three_last}
use Rattle.ep_ip.proofs.laws.ipv6.skipped_numbers_are_ext_headers.Goals as goal

pub returns : goal.returns
returns c = λ n. three_last (n == 0) (n == 43) (n == 44) (n == 50) (n == 51) (n == 60) (n == 135)
    (n == 139) (n == 140) (n == 253) (n == 254)
