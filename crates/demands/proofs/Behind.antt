-- The lent buffer behind what a call wrote there, refused or not: an answer of the second port, and a collected command.
use mathlib.Core.Path.{◌≡◌, refl, sym, subst, ◌∙◌}
use mathlib.Core.List.{List}
use Prim.Native.Nat.{ℕ, ◌≤◌}
use native.Mathlib.Omega.{arith}
use borrow.Author.Tests.{eqb-true, eqb-false}
use lib.Dec.{eqb}
use lib.ListN.{length, length-take}
use Rattle.document.specs.Numbers.{most_data, taken}
use Rattle.document.specs.Application.{new_command}
use Rattle.document.specs.Modbus.{modbus_answer, modbus_room}
use Rattle.document.proofs.Cases.{split}
use Rattle.line_wire.proofs.Left.{sets_behind}
use Rattle.application_state.proofs.Means.{new_few}
use Rattle.state_block.specs.Layout.{decoded_application, decoded}
use Rattle.call_checks.specs.Promises.{block_sound}
use Rattle.call_checks.proofs.ApplicationNumbers.{collect_known}
use Rattle.call_modbus.proofs.Answers.{lent-right}
use Rattle.laws_calls.specs.Calls.{Call, Lent, Left, length_of, command_in, Outcome, number_of, leaves, kept}
use Rattle.laws_calls.specs.Promised.{Promised}
use Rattle.laws_calls.proofs.Settled.{taken_leaves, call_refused}
use Rattle.laws_calls.proofs.Sends.{modbus_fits}
use Rattle.demands.specs.Buffers.{BehindKept}

module _ (room : ℕ) (c : Call) (l : Lent) (o : Outcome) (p : Promised l c o) where
  abbrev Leaves : Left → Type 0
  Leaves x = BehindKept room l.buffer (length_of x) x.buffer

  -- refused it writes nothing
  either : (number_of c l ≡ taken → BehindKept room l.buffer (length_of (leaves c l)) (leaves c l).buffer) → length_of (kept c l) ≡ 0
      → BehindKept room l.buffer (length_of o.left) o.left.buffer
  either when-taken none =
      let known = call_refused l c o p in
      split (eqb o.number taken)
      (λ t.
      let fine : o.number ≡ taken = eqb-true o.number taken t in
      subst Leaves (sym (taken_leaves l c o p fine)) (when-taken (sym known.number ∙ fine)))
      (λ f.
      subst Leaves (sym (known.unchanged (eqb-false o.number taken f)))
      (record { behind = refl; fits = omega (arith, none) }))

module _ (l : Lent) (o : Outcome) where
  pub modbus_behind : (station : ℕ) (bytes : List ℕ) → Promised l (Call.frame station bytes) o
      → BehindKept modbus_room l.buffer (length_of o.left) o.left.buffer
  modbus_behind station bytes p =
      let answer : List ℕ = modbus_answer station bytes l.memory in
      let short : length answer ≤ modbus_room = modbus_fits station bytes l.memory in
      either modbus_room (Call.frame station bytes) l o p
      (λ fine.
      let room = (lent-right station l.memory l.buffer fine).room in
      record { behind = sets_behind answer l.buffer (omega (arith, short, room)); fits = short })
      refl

  stored_few : length (decoded_application l.block).bytes ≤ most_data
  unfolding decoded_application
  stored_few = simp length-take (omega arith)

  -- "Bytes behind the command, or all when nothing is new, keep their values."
  pub collect_kept : Promised l Call.collect o → BehindKept most_data l.buffer (length_of o.left) o.left.buffer
  collect_kept p =
      let command : List ℕ = new_command (command_in (decoded l.block)) in
      let few : length command ≤ most_data = omega (arith, new_few (decoded_application l.block), stored_few) in
      either most_data Call.collect l o p
      (λ fine.
      let room = (collect_known (block_sound l.block) l.buffer fine).1 in
      record { behind = sets_behind command l.buffer (omega (arith, few, room)); fits = few })
      refl
