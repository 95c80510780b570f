-- The result of building a packet.
use Rattle.std.specs.Prelude.{ℕ, if◌then◌else◌}
use Rattle.etherparse.specs.BuildWriteError.{is_memory}
use Rattle.etherparse.specs.declared.err.packet.build_write_error.BuildWriteError.{BuildWriteError}
use Rattle.etherparse_structs.specs.Plan.{field_number, field_of}
use Rattle.etherparse_structs.specs.declared.build.BuildError.{BuildError}
use Rattle.etherparse_structs.specs.declared.build.BuildError.TheVariants.{Field, Memory}
use Rattle.etherparse_structs.specs.declared.build.EpBuilt.{EpBuilt}
use Rattle.etherparse_structs.specs.declared.plan.PlanField.{PlanField}

-- it is built, and has so many bytes
abbrev pub built : (len : ℕ) → EpBuilt
built len = record { status = 0; field = 0; len = len }

-- the output is shorter than the packet, which has so many bytes
abbrev pub has_no_room : (len : ℕ) → EpBuilt
has_no_room len = record { status = 1; field = 0; len = len }

-- why it isn't built
abbrev pub not_built : (status field : ℕ) → EpBuilt
not_built status field = record { status = status; field = field; len = 0 }

-- a field is at fault
abbrev pub refused : PlanField → EpBuilt
refused f = not_built 3 (field_number f)

-- the reported error by an error of the builder
abbrev pub error_of : BuildWriteError → BuildError
error_of e = if is_memory e then Memory else Field (field_of e)
