-- The error of a refused fragment, and whether its reassembly ends by it or stays.
use Rattle.std.specs.Prelude.{if◌then◌else◌}
use Rattle.etherparse.specs.declared.defrag.ip_defrag_error.IpDefragError.{IpDefragError}
use Rattle.etherparse.specs.declared.defrag.reassembly.Refused.{Refused}
use Rattle.etherparse.specs.declared.defrag.reassembly.Refused.TheVariants.{Ends, Stays}
use Rattle.etherparse.specs.IpDefragError.{is_overlap}

-- the error of a refusal
abbrev pub error_in : Refused → IpDefragError
error_in (Stays error) = error
error_in (Ends error) = error

-- an overlap ends the reassembly
abbrev pub refused_by : IpDefragError → Refused
refused_by error = if is_overlap error then Ends error else Stays error
