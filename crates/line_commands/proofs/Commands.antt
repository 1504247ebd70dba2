-- A message that can be formed, and what is left of one that nothing refuses.
use mathlib.Core.Path.{◌≡◌}
use mathlib.Core.Bool.{true, not}
use mathlib.Core.List.{List}
use Prim.Native.Nat.{ℕ, ◌≤◌}
use native.Mathlib.Omega.{arith}
use borrow.Author.Tests.{leb-true, eqb-true, le-ltb}
use lib.Dec.{eqb}
use lib.ListN.{length}
use lib.Seq.{sets}
use Rattle.document.specs.Numbers.{taken}
use Rattle.document.specs.Kinds.{has_length_byte, fast_length}
use Rattle.document.specs.Message.{length_fits, well_formed, summed}
use Rattle.document.specs.CommandWriter.{command_on_wire, command_refusal, command_written, command_buffer}
use Rattle.document.proofs.Cases.{split, and_right}

-- ---- a message that can be formed has few data

pub formed_short : (c : ℕ) (body : List ℕ) → well_formed (summed c body) ≡ true → length body ≤ 255
unfolding well_formed
formed_short c body e =
    let fits : length_fits c (length body) ≡ true = and_right (not (eqb c 0x2B)) (length_fits c (length body)) e in
    split (has_length_byte c)
    (λ standard. leb-true (length body) 255 (rw standard at fits))
    (λ fast. omega (arith, eqb-true (length body) (fast_length c) (rw fast at fits)))

-- ---- what is left of a message that nothing refuses

module _ (c : ℕ) (body buffer : List ℕ) (formed : well_formed (summed c body) ≡ true) (room : length (command_on_wire c body) ≤ length buffer) where
  pub command_taken : command_refusal c body buffer ≡ taken
  unfolding command_refusal
  command_taken = simp (formed, le-ltb (length buffer) (length (command_on_wire c body)) room)

  pub command_written_lem : command_written c body buffer ≡ length (command_on_wire c body)
  unfolding command_written
  command_written_lem = simp command_taken

  pub command_buffer_lem : command_buffer c body buffer ≡ sets buffer 0 (command_on_wire c body)
  unfolding command_buffer
  command_buffer_lem = simp command_taken
