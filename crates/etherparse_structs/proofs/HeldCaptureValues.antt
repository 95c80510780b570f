-- A capture's handle.
use Rattle.std.proofs.Common.{refl}
use Rattle.c_handles.proofs.HandleValues.{Handle}
use Rattle.etherparse_structs.specs.contracts.capture_box.CaptureBox.{the_row}
use Rattle.etherparse_structs.specs.contracts.held_capture.HeldCapture.{the_type}

abbrev pub handle : Handle
handle = record {
  held = the_row;
  declared = the_type;
  at = λ h. h.at;
  value = λ h. h.value;
  make = λ at value. record { at = at; value = value };
  made = λ at value. (refl, refl);
}
