-- An error of a slice, seen from a slice that begins earlier.
use Rattle.std.specs.Prelude.{ℕ, ⊤}
use Rattle.ep_base.specs.LenError as len_error
use Rattle.ep_base.specs.declared.err.slice_error.SliceError.{SliceError}
use Rattle.ep_base.specs.declared.err.slice_error.SliceError.TheVariants.{Len, Content}

-- the offset of the layer that has too few bytes; an error in the content has no offset
abbrev pub content_offset : {C : Type 0} → SliceError C → ℕ
content_offset (Len e) = e.layer_start_offset
content_offset (Content e) = 0

-- the offset n bytes further on fits a `usize`
abbrev pub CanMove : {C : Type 0} → SliceError C → ℕ → Type 0
CanMove (Len e) n = len_error.CanMove e n
CanMove (Content e) n = ⊤

-- an error of too few bytes is n bytes further on, and an error in the content stays as it is
abbrev pub offset_by : {C : Type 0} → SliceError C → ℕ → SliceError C
offset_by (Len e) n = Len (len_error.offset_by e n)
offset_by (Content e) n = Content e
