-- What happens to a gate beside the bytes of its line, and what each does to it. The line never sees one.
use Rattle.std.specs.Prelude.{List, ℕ}
use Rattle.document.specs.Stores.{stored}
use Rattle.document.specs.Recorder.{ticked, ticked_memory}
use Rattle.document.specs.Application.{after_collect, after_report}
use Rattle.document.specs.Gate.{Gate, with_memory, with_recorder, with_application}
use Rattle.document.specs.Panel.{panel_prepares, panel_starts}
use Rattle.document.specs.Modbus.{modbus_memory}

pub data Aside : Type 0 where
  -- "The gate calls a tick."
  tick : Aside
  -- the gate's own program writes bytes from an address on
  writes : ℕ → List ℕ → Aside
  -- "the gate's own program collects it" (2026-01)
  collects : Aside
  -- "and later reports a result"
  reports : ℕ → Aside
  -- "The front panel wants to prepare the recorder" (2026-06)
  prepares : List ℕ → Aside
  -- and starts it
  starts : Aside
  -- "whole frames marked off by the gate", on the second port, of which this is the own station (2026-07)
  frames : ℕ → List ℕ → Aside

abbrev pub ticked_gate : Gate → Gate
ticked_gate g = with_memory (with_recorder g (ticked g.recorder g.memory)) (ticked_memory g.recorder g.memory)

unfoldable pub beside : Gate → Aside → Gate
beside g tick = ticked_gate g
beside g (writes address bytes) = with_memory g (stored g.memory address bytes)
beside g collects = with_application g (after_collect g.application)
beside g (reports result) = with_application g (after_report result g.application)
beside g (prepares body) = (panel_prepares g body).gate
beside g starts = (panel_starts g).gate
beside g (frames station frame) = with_memory g (modbus_memory station frame g.memory)
