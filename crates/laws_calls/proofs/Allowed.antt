-- What the table says of a call, its promise allows: every call has an outcome, and one that the table takes can be taken.
use mathlib.Core.Path.{◌≡◌, refl, sym, ap, subst, ◌∙◌}
use mathlib.Core.Bool.{cond}
use mathlib.Core.List.{List, []}
use Prim.Native.Nat.{ℕ}
use lib.Dec.{eqb, leb}
use lib.ListN.{length}
use Rattle.document.specs.Numbers.{not_served, taken, done}
use Rattle.document.specs.Refusals.{first_of, recorder_lines}
use Rattle.document.specs.Panel.{panel_prepares, panel_starts}
use Rattle.document.proofs.Cases.{split}
use Rattle.line_wire.specs.declared.Written.{Written}
use Rattle.call_application.specs.declared.Collected.{Collected}
use Rattle.state_parts.specs.State.{Instruments, gate_of}
use Rattle.state_block.specs.Places.{state_length}
use Rattle.state_block.specs.Layout.{decoded}
use Rattle.call_panel.specs.declared.Said.{Said}
use Rattle.call_panel.proofs.Told.{given_said}
use Rattle.call_byte.specs.declared.Taken.{Taken}
use Rattle.call_block.specs.declared.BlockTaken.{BlockTaken}
use Rattle.laws_calls.specs.Calls.{Call, Lent, Left, Outcome, took_of, wrote_of, length_of, number_of, leaves, outcome}
use Rattle.laws_calls.specs.Calls.Call.{byte, receive, tick, collect, report, prepare, start, frame, register, reset}
use Rattle.laws_calls.specs.Promised.{Promised}
use Rattle.laws_calls.specs.Promised.Promised.{by_byte, by_block, by_tick, by_collect, by_report, by_prepare, by_start, by_modbus, by_register, by_reset}
use Rattle.laws_calls.proofs.Settled.{settled}

-- the panel's calls say the same over any memory
pub prepare_alike : (i : Instruments) (setup memory other : List ℕ) → (panel_prepares (gate_of i memory) setup).answer.status ≡ (panel_prepares (gate_of i other) setup).answer.status
prepare_alike i setup memory other = sym (given_said (gate_of i memory) setup) ∙ given_said (gate_of i other) setup

pub start_alike : (i : Instruments) (memory other : List ℕ) → (panel_starts (gate_of i memory)).answer.status ≡ (panel_starts (gate_of i other)).answer.status
unfolding panel_starts
start_alike i memory other =
    split (eqb (first_of (recorder_lines (gate_of i memory))) done) (λ none. rw none refl) (λ some. rw some refl)

module _ (l : Lent) where
  -- what is there when it is taken, and else
  abbrev either : {A : Type 0} → Call → A → A → A
  either c given stayed = cond (eqb (number_of c l) taken) given stayed

  exists : (c : Call) → (o : Outcome) × Promised l c o
  exists (byte b) =
      let c : Call = byte b in
      let x : Left = leaves c l in
      let r : Taken = either c (record { refusal = taken; length = length_of x }) (record { refusal = number_of c l; length = 0 }) in (
        _,
        by_byte b r (either c x.block l.block) (either c x.memory l.memory) (either c x.buffer l.buffer)
            (record { result = refl; state = refl; memory_left = refl; buffer_told = refl }),
      )
  exists (receive bytes) =
      let c : Call = receive bytes in
      let x : Left = leaves c l in
      let r : BlockTaken = either c (record { refusal = taken; taken = took_of x; written = wrote_of x }) (record { refusal = number_of c l; taken = 0; written = 0 }) in (
        _,
        by_block bytes r (either c x.block l.block) (either c x.memory l.memory) (either c x.buffer l.buffer)
            (record { result = refl; state = refl; memory_left = refl; buffer_told = refl }),
      )
  exists tick =
      let x : Left = leaves tick l in
      (_, by_tick (number_of tick l) (either tick x.block l.block) (either tick x.memory l.memory) (record { result = refl; state = refl; memory_left = refl }))
  exists collect =
      let x : Left = leaves collect l in
      let r : Collected = either collect (record { refusal = taken; length = length_of x }) (record { refusal = number_of collect l; length = 0 }) in
      (_, by_collect r (either collect x.block l.block) (either collect x.buffer l.buffer) (record { result = refl; state = refl; buffer_told = refl }))
  exists (report result) =
      let c : Call = report result in
      (_, by_report result (number_of c l) (either c (leaves c l).block l.block) (record { number = refl; state = refl }))
  exists (prepare setup) =
      let c : Call = prepare setup in
      let r : Said = either c (record { refusal = taken; status = length_of (leaves c l) }) (record { refusal = number_of c l; status = not_served }) in (
        _,
        by_prepare setup r (either c (leaves c l).block l.block)
            (record { result = λ memory. ap (λ (n : ℕ). either c (record { refusal = taken; status = n }) (record { refusal = number_of c l; status = not_served })) (prepare_alike (decoded l.block).instruments setup [] memory); state = refl }),
      )
  exists start =
      let r : Said = either start (record { refusal = taken; status = length_of (leaves start l) }) (record { refusal = number_of start l; status = not_served }) in (
        _,
        by_start r (either start (leaves start l).block l.block)
            (record { result = λ memory. ap (λ (n : ℕ). either start (record { refusal = taken; status = n }) (record { refusal = number_of start l; status = not_served })) (start_alike (decoded l.block).instruments [] memory); state = refl }),
      )
  exists (frame station bytes) =
      let c : Call = frame station bytes in
      let x : Left = leaves c l in
      let r : Written = either c (record { refusal = taken; length = length_of x }) (record { refusal = number_of c l; length = 0 }) in
      (_, by_modbus station bytes r (either c x.memory l.memory) (either c x.buffer l.buffer) (record { result = refl; memory_left = refl; buffer_told = refl }))
  exists (register list) =
      let c : Call = register list in
      (_, by_register list (number_of c l) (either c (leaves c l).block l.block) (record { number = refl; state = refl }))
  exists reset =
      (_, by_reset (number_of reset l) (cond (leb state_length (length l.block)) (leaves reset l).block l.block) (record { result = refl; state = refl }))

  pub allowed : (c : Call) → Promised l c (outcome c l)
  allowed c = let e = exists c in subst (Promised l c) (settled l c e.0 e.1) e.1
