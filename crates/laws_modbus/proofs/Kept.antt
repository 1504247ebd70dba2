-- A frame changes bytes 0 to 8,191 at most: the calibration and the recorder buffer stay, and so does the memory's length.
use mathlib.Core.Path.{◌≡◌, ap, ◌∙◌}
use mathlib.Core.List.{List}
use Prim.Native.Nat.{ℕ}
use borrow.Author.Tests.{eqb-true}
use lib.Dec.{eqb}
use lib.ListN.{length, drop}
use lib.Seq.{length-sets}
use Rattle.document.specs.Bytes.{AllBytes}
use Rattle.document.specs.Numbers.{done}
use Rattle.document.specs.Areas.{variables_end}
use Rattle.document.specs.Frames.{is_silenced}
use Rattle.document.specs.Modbus.{function_in, exception_to, modbus_memory}
use Rattle.document.proofs.Bytes.{all_sets}
use Rattle.document.proofs.Cases.{split}
use Rattle.memory_ranges.proofs.Stored.{drop_sets}
use Rattle.laws_modbus.proofs.Carried.{Stored, nothing_stored, carried_stored}

module _ (station : ℕ) (frame memory : List ℕ) where
  pub frame_stores : Stored frame memory (modbus_memory station frame memory)
  unfolding modbus_memory
  frame_stores =
      let x : ℕ = exception_to (function_in frame) frame memory in
      split (is_silenced station frame) (λ quiet. rw quiet (nothing_stored frame memory))
      (λ loud.
      split (eqb x done) (λ none. rw (loud, none) (carried_stored frame memory (function_in frame) (eqb-true x done none)))
      (λ some. rw (loud, some) (nothing_stored frame memory)))

  pub frame_keeps_rest : drop variables_end (modbus_memory station frame memory) ≡ drop variables_end memory
  frame_keeps_rest =
      let s = frame_stores in
      ap (drop variables_end) s.stores ∙ drop_sets s.values memory s.at variables_end s.below

  pub frame_keeps_length : length (modbus_memory station frame memory) ≡ length memory
  frame_keeps_length = let s = frame_stores in ap length s.stores ∙ length-sets memory s.at s.values

  pub frame_keeps_bytes : AllBytes frame → AllBytes memory → AllBytes (modbus_memory station frame memory)
  frame_keeps_bytes all-frame all-memory =
      let s = frame_stores in
      rw s.stores (all_sets s.values memory s.at all-memory (s.bytes all-frame))
