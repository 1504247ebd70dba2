-- What a step's events carry: the byte that came, and the command that the receiver holds.
use mathlib.Core.Path.{◌≡◌, refl, sym, ap, ◌∙◌}
use Prim.Native.Nat.{ℕ, ◌<◌}
use lib.Dec.{eqb, ltb}
use Rattle.document.proofs.Cases.{split}
use Rattle.line_receiver.specs.declared.Receiver.{Receiver}
use Rattle.line_receiver.specs.declared.Event.{Event}
use Rattle.line_receiver.specs.declared.Event.TheVariants.{Nothing, Keep, Whole}
use Rattle.line_receiver.specs.Bounds.{length_next, data_next, sum_next}
use Rattle.line_receiver.specs.Step.{plus, after_byte, byte_event, stepped}

-- the byte that an event keeps, and the command that it has, or another number
abbrev kept_of : ℕ → Event → ℕ
kept_of other Nothing = other
kept_of other (Keep at v) = v
kept_of other (Whole c n sum) = other

abbrev command_of : ℕ → Event → ℕ
command_of other Nothing = other
command_of other (Keep at v) = other
command_of other (Whole c n sum) = c

module _ (r : Receiver) (b : ℕ) where
  keeps : kept_of b (stepped r b).event ≡ b
  unfolding stepped byte_event
  keeps =
      split (eqb (plus b) r.waiting)
      (λ t. split (eqb r.phase data_next)
      (λ d. split (ltb r.have 64) (λ few. rw (t, d, few) refl) (λ many. rw (t, d, many) refl))
      (λ n. split (eqb r.phase sum_next) (λ s. rw (t, n, s) refl) (λ o. rw (t, n, o) refl)))
      (λ f. rw f refl)

  commands : command_of r.command (stepped r b).event ≡ r.command
  unfolding stepped byte_event
  commands =
      split (eqb (plus b) r.waiting)
      (λ t. split (eqb r.phase data_next)
      (λ d. split (ltb r.have 64) (λ few. rw (t, d, few) refl) (λ many. rw (t, d, many) refl))
      (λ n. split (eqb r.phase sum_next) (λ s. rw (t, n, s) refl) (λ o. rw (t, n, o) refl)))
      (λ f. rw f refl)

  pub kept_byte : (at v : ℕ) → (stepped r b).event ≡ Keep at v → v ≡ b
  kept_byte at v e = sym (ap (kept_of b) e) ∙ keeps

  pub whole_command : (c n sum : ℕ) → (stepped r b).event ≡ Whole c n sum → c ≡ r.command
  whole_command c n sum e = sym (ap (command_of r.command) e) ∙ commands

  -- the command is a byte that came
  pub command_byte : r.command < 256 → b < 256 → (stepped r b).next.command < 256
  unfolding stepped after_byte
  command_byte held came =
      split (eqb (plus b) r.waiting)
      (λ t. split (eqb r.phase data_next)
      (λ d. rw (t, d) held)
      (λ n. split (eqb r.phase sum_next)
      (λ s. rw (t, n, s) held)
      (λ o. split (eqb r.phase length_next) (λ l. rw (t, n, o, l) held) (λ i. rw (t, n, o, i) held))))
      (λ f. split (eqb (plus b) 1) (λ p. rw (f, p) held) (λ q. rw (f, q) came))
