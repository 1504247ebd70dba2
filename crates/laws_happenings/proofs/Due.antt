-- What can happen at any moment: each thing that carries bytes alone, and asks for nothing or for what is there.
use mathlib.Core.Path.{◌≡◌, refl}
use mathlib.Core.Bool.{true}
use mathlib.Core.List.{List, [], ◌∷◌}
use Prim.Native.Nat.{ℕ, ◌≤◌}
use borrow.Author.Tests.{le-leb}
use Rattle.document.specs.Bytes.{AllBytes}
use Rattle.document.specs.Application.{is_collected}
use Rattle.document.specs.Asides.Aside.{tick, writes, collects, reports, prepares, starts, frames}
use Rattle.document.specs.Happenings.{Happening, Since}
use Rattle.document.specs.Happenings.Happening.{byte, aside}
use Rattle.laws_happenings.specs.Bytes.{IsBytes}
use Rattle.laws_happenings.specs.Due.{DueAt}

-- ---- what it carries

abbrev pub carried : Happening → List ℕ
carried (byte b) = b ∷ []
carried (aside tick) = []
carried (aside (writes address bytes)) = bytes
carried (aside collects) = []
carried (aside (reports result)) = result ∷ []
carried (aside (prepares setup)) = setup
carried (aside starts) = []
carried (aside (frames station frame)) = frame

pub carried_bytes : (h : Happening) → AllBytes (carried h) → IsBytes h
carried_bytes (byte b) are = are.0
carried_bytes (aside tick) are = are
carried_bytes (aside (writes address bytes)) are = are
carried_bytes (aside collects) are = are
carried_bytes (aside (reports result)) are = are
carried_bytes (aside (prepares setup)) are = are
carried_bytes (aside starts) are = are
carried_bytes (aside (frames station frame)) are = are

-- ---- what it asks for

module _ (s : Since) where
  pub byte_due : (b : ℕ) → DueAt s (byte b)
  byte_due b = tt

  pub tick_due : DueAt s (aside tick)
  tick_due = refl

  pub write_due : (address : ℕ) (bytes : List ℕ) → DueAt s (aside (writes address bytes))
  write_due address bytes = refl

  pub collect_due : DueAt s (aside collects)
  collect_due = refl

  -- "a result from 0 to 0xFD", of a command that was collected
  pub report_due : (result : ℕ) → result ≤ 0xFD → is_collected s.gate.application ≡ true → DueAt s (aside (reports result))
  report_due result small is = rw (le-leb result 0xFD small, is) refl

  pub prepare_due : (setup : List ℕ) → DueAt s (aside (prepares setup))
  prepare_due setup = refl

  pub start_due : DueAt s (aside starts)
  start_due = refl

  -- not "an own station outside 1 to 247"
  pub frame_due : (station : ℕ) (frame : List ℕ) → 1 ≤ station → station ≤ 247 → DueAt s (aside (frames station frame))
  frame_due station frame low high = rw (le-leb 1 station low, le-leb station 247 high) refl
