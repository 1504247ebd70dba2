-- What an aside leaves of a gate, part by part, as its row says: the one case split over asides. Laws over them take these facts.
use mathlib.Core.Path.{◌≡◌, refl, sym, ap, ◌∙◌}
use mathlib.Core.Bool.{true, false}
use mathlib.Core.List.{List, []}
use Prim.Native.Nat.{ℕ, ◌-◌}
use lib.ListN.{length, drop}
use Rattle.document.specs.Areas.{variables_end, calibration_end}
use Rattle.document.specs.Stores.{stored}
use Rattle.document.specs.Gate.{Gate}
use Rattle.document.specs.Asides.{Aside, beside, ticked_gate}
use Rattle.document.specs.Asides.Aside.{tick, writes, collects, reports, prepares, starts, frames}
use Rattle.document.proofs.Cases.{neither}
use Rattle.memory_ranges.proofs.Copies.{stored_length}
use Rattle.laws_modbus.proofs.Kept.{frame_keeps_rest, frame_keeps_length}
use Rattle.laws_happenings.specs.Asides.{Side, command_after, recorder_after, row, is_tick, is_own, is_frame}
use Rattle.laws_happenings.specs.Asides.Side.{program, service, controller}
use Rattle.laws_happenings.specs.Asides.CommandStep.{kept}
use Rattle.laws_happenings.specs.Asides.RecorderStep.{stays}
use Rattle.laws_happenings.specs.Ports.{calibration_in}
use Rattle.laws_happenings.proofs.Recording.{ticked_length}
use Rattle.laws_happenings.proofs.Panel.{prepare_touches, start_touches}
use Rattle.laws_happenings.proofs.Agree.{drop_sets_agrees, bytes_sets_agrees}

-- whose doing it is, with what that says
pub by_side : {P : Type 0} (o : Side) → (o ≡ program → P) → (o ≡ service → P) → (o ≡ controller → P) → P
by_side program own port frame = own refl
by_side service own port frame = port refl
by_side controller own port frame = frame refl

-- two memories, of which each leaves its own; where the gate's own program writes, what agreed before agrees behind it
pub record OwnAgrees (a : Aside) (g k : Gate) : Type 0 where
  pub rest : drop variables_end g.memory ≡ drop variables_end k.memory → drop variables_end (beside g a).memory ≡ drop variables_end (beside k a).memory
  pub calibration : calibration_in g.memory ≡ calibration_in k.memory → calibration_in (beside g a).memory ≡ calibration_in (beside k a).memory

pub record Leaves (g : Gate) (a : Aside) : Type 0 where
  pub scope : (beside g a).scope ≡ g.scope
  pub tables : (beside g a).tables ≡ g.tables
  pub application : (beside g a).application ≡ command_after (row a).command g.application
  pub recorder : (beside g a).recorder ≡ recorder_after (row a).recorder g
  pub ticked_memory_lem : is_tick a ≡ true → (beside g a).memory ≡ (ticked_gate g).memory
  pub memory : (row a).stores ≡ false → (beside g a).memory ≡ g.memory
  pub size : length (beside g a).memory ≡ length g.memory
  -- neither the service port's side, but for a tick, nor the second port writes behind the variables
  pub rest : is_own a ≡ false → is_tick a ≡ false → drop variables_end (beside g a).memory ≡ drop variables_end g.memory
  pub own : is_own a ≡ true → (k : Gate) → OwnAgrees a g k
  pub silent : is_frame a ≡ false → (memory : List ℕ) → (row a).answer memory ≡ []
  -- "Both ports share the memory and nothing else" (2026-07)
  pub apart : is_frame a ≡ true → ((row a).command ≡ kept) × ((row a).recorder ≡ stays)

-- what leaves the memory, and is no tick of the recorder, no write of the gate's own program and no frame
module _ (g : Gate) (a : Aside) (no-tick : is_tick a ≡ false) (no_write : is_own a ≡ false) (no-frame : is_frame a ≡ false) (quiet : (memory : List ℕ) → (row a).answer memory ≡ []) (same : (beside g a).memory ≡ g.memory) where
  memory_kept : (beside g a).scope ≡ g.scope → (beside g a).tables ≡ g.tables → (beside g a).application ≡ command_after (row a).command g.application
      → (beside g a).recorder ≡ recorder_after (row a).recorder g → Leaves g a
  memory_kept scope tables application recorder =
      record {
        scope = scope;
        tables = tables;
        application = application;
        recorder = recorder;
        ticked_memory_lem = λ is. neither (sym no-tick ∙ is);
        memory = λ none. same;
        size = ap length same;
        rest = λ other none. ap (drop variables_end) same;
        own = λ is. neither (sym no_write ∙ is);
        silent = λ other. quiet;
        apart = λ is. neither (sym no-frame ∙ is);
      }

pub leaves : (g : Gate) (a : Aside) → Leaves g a
unfolding beside
leaves g tick =
    record {
      scope = refl;
      tables = refl;
      application = refl;
      recorder = refl;
      ticked_memory_lem = λ is. refl;
      memory = λ none. neither (sym none);
      size = ticked_length g.recorder g.memory;
      rest = λ other none. neither (sym none);
      own = λ is. neither is;
      silent = λ other memory. refl;
      apart = λ is. neither is;
    }
leaves g (writes address bytes) =
    record {
      scope = refl;
      tables = refl;
      application = refl;
      recorder = refl;
      ticked_memory_lem = λ is. neither is;
      memory = λ none. neither (sym none);
      size = stored_length g.memory (stored g.memory address bytes) bytes address refl;
      rest = λ other none. neither (sym other);
      own = λ is k.
          record {
            rest = drop_sets_agrees bytes g.memory k.memory variables_end address;
            calibration = bytes_sets_agrees bytes g.memory k.memory variables_end (calibration_end - variables_end) address;
          };
      silent = λ other memory. refl;
      apart = λ is. neither is;
    }
leaves g collects = memory_kept g collects refl refl refl (λ memory. refl) refl refl refl refl refl
leaves g (reports result) = memory_kept g (reports result) refl refl refl (λ memory. refl) refl refl refl refl refl
leaves g (prepares setup) =
    let is = prepare_touches g setup in
    memory_kept g (prepares setup) refl refl refl (λ memory. refl) (ap (λ (q : Gate). q.memory) is) (ap (λ (q : Gate). q.scope) is)
    (ap (λ (q : Gate). q.tables) is) (ap (λ (q : Gate). q.application) is) refl
leaves g starts =
    let is = start_touches g in
    memory_kept g starts refl refl refl (λ memory. refl) (ap (λ (q : Gate). q.memory) is) (ap (λ (q : Gate). q.scope) is)
    (ap (λ (q : Gate). q.tables) is) (ap (λ (q : Gate). q.application) is) refl
leaves g (frames station frame) =
    record {
      scope = refl;
      tables = refl;
      application = refl;
      recorder = refl;
      ticked_memory_lem = λ is. neither is;
      memory = λ none. neither (sym none);
      size = frame_keeps_length station frame g.memory;
      rest = λ other none. frame_keeps_rest station frame g.memory;
      own = λ is. neither is;
      silent = λ other. neither (sym other);
      apart = λ is. (refl, refl);
    }
