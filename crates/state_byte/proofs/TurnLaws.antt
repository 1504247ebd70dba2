-- A byte by the event that the receiver makes of it.
use mathlib.Core.Path.{◌≡◌, ap}
use mathlib.Core.Bool.{true}
use mathlib.Core.List.{List}
use Prim.Native.Nat.{ℕ, ◌≤◌}
use borrow.Author.Tests.{le-leb}
use Rattle.document.specs.Kinds.{has_length_byte}
use Rattle.document.specs.Message.{length_fits}
use Rattle.document.proofs.Cases.{split}
use Rattle.line_receiver.specs.declared.Event.{Event}
use Rattle.line_receiver.specs.Bounds.{length_right}
use Rattle.line_receiver.specs.Step.{stepped}
use Rattle.state_parts.specs.State.{Target}
use Rattle.state_byte.specs.Turn.{with_receiver, on_event, turn}

module _ (t : Target) (b : ℕ) (memory buffer : List ℕ) where
  -- the state with the receiver's next one
  abbrev pub next_of : Target
  next_of = with_receiver t (stepped t.receiver b).next

  pub by_event : (e : Event) → (stepped t.receiver b).event ≡ e → turn t b memory buffer ≡ on_event next_of e memory buffer
  unfolding turn
  by_event e h = ap (λ (k : Event). on_event next_of k memory buffer) h

-- the framing's length, of a byte
pub fits : (c n : ℕ) → n ≤ 255 → length_right c n ≡ true → length_fits c n ≡ true
fits c n small right =
    split (has_length_byte c) (λ standard. rw standard (le-leb n 255 small)) (λ fast. rw fast (rw fast at right))
