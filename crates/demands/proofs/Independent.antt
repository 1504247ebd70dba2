-- Two runs since reset: each port depends on the other only through the bytes of the memory that both share.
use mathlib.Core.Path.{◌≡◌, refl, sym, ap, subst, ◌∙◌}
use mathlib.Core.List.{List}
use Prim.Native.Nat.{ℕ}
use lib.ListN.{drop}
use Rattle.document.specs.Areas.{variables_end}
use Rattle.document.specs.Tables.{Table}
use Rattle.document.specs.Gate.{Gate, registered as gate}
use Rattle.document.specs.Happenings.{Happening, after_all, from_reset as since}
use Rattle.document.specs.Blocks.{answers_on_wire}
use Rattle.line_receiver.specs.Report.{since_reset}
use Rattle.laws_happenings.specs.Applying.{handed_out}
use Rattle.laws_happenings.specs.Ports.{modbus_of, without_frames, found, SameBeyond, without_service, shared, calibration_in}
use Rattle.laws_happenings.specs.Ports as definition
use Rattle.laws_happenings.proofs.ServicePort.{service_same, commands_same}
use Rattle.laws_happenings.proofs.ModbusPort.{modbus_same}
use Rattle.demands.specs.Board.{Board, gate_in, begun}
use Rattle.demands.specs.AsDefined.{blank, AsDefined}
use Rattle.demands.specs.Ports.{SinceReset, SameService}
use Rattle.demands.proofs.Reached.{Reached, reached_begun}
use Rattle.demands.proofs.Runs.{run_hands, run_answers}
use Rattle.demands.proofs.Blocks.{singly, reached_run}

module _ (tables : List Table) (memory : List ℕ) (hs : List Happening) (h : Board) (r : SinceReset tables memory hs h) where
  start : Reached (begun r.after memory) (since (gate tables memory))
  start = reached_begun r.block memory r.long r.lent tables r.after r.reset

  run_stands : AsDefined h (after_all (since (gate tables memory)) hs)
  run_stands = (reached_run _ h hs r.run (since (gate tables memory)) r.are start).stands

  run_commands : h.commands ≡ handed_out (since (gate tables memory)) hs
  run_commands =
      run_hands _ h hs (singly _ h hs r.run (since (gate tables memory)) r.are start) (since (gate tables memory)) r.are start

  run_modbus : h.modbus_answers ≡ modbus_of (since (gate tables memory)) hs
  run_modbus =
      run_answers _ h hs (singly _ h hs r.run (since (gate tables memory)) r.are start) (since (gate tables memory)) r.are start

module _ (tables : List Table) (memory memory' : List ℕ) (hs ks : List Happening) (h k : Board)
    (one : SinceReset tables memory hs h) (other : SinceReset tables memory' ks k) where
  pub service_runs : drop variables_end memory ≡ drop variables_end memory' → without_frames hs ≡ without_frames ks
      → found (since (gate tables memory)) hs ≡ found (since (gate tables memory')) ks → SameService h k
  service_runs beyond happened seen =
      let here = run_stands tables memory hs h one in
      let there = run_stands tables memory' ks k other in
      let start : definition.SameService (since (gate tables memory)) (since (gate tables memory')) =
      record { bytes = refl; answers = refl; gate = record { memory = beyond; scope = refl; recorder = refl; application = refl; tables = refl } } in
      let same = service_same hs ks (since (gate tables memory)) (since (gate tables memory')) start happened seen in
      record {
        answers = here.answers ∙ ap answers_on_wire same.answers ∙ sym there.answers;
        commands =
            run_commands tables memory hs h one
            ∙ commands_same hs ks (since (gate tables memory)) (since (gate tables memory')) start happened seen
            ∙ sym (run_commands tables memory' ks k other);
        link_part = here.link_part ∙ ap (λ (bs : List ℕ). since_reset blank bs) same.bytes ∙ sym there.link_part;
        gate =
            subst (λ (g : Gate). SameBeyond g (gate_in k)) (sym here.gate)
            (subst (λ (g : Gate). SameBeyond (after_all (since (gate tables memory)) hs).gate g) (sym there.gate) same.gate);
      }

  pub modbus_runs : calibration_in memory ≡ calibration_in memory' → without_service hs ≡ without_service ks
      → shared (since (gate tables memory)) hs ≡ shared (since (gate tables memory')) ks → h.modbus_answers ≡ k.modbus_answers
  modbus_runs calibration happened seen =
      run_modbus tables memory hs h one
      ∙ modbus_same hs ks (since (gate tables memory)) (since (gate tables memory')) calibration happened seen
      ∙ sym (run_modbus tables memory' ks k other)
