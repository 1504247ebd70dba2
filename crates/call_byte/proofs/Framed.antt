-- What a heard byte leaves: a message has the length that its command gives, and a state still fits its block.
use mathlib.Core.Path.{◌≡◌, refl, sym, ap, ◌∙◌}
use mathlib.Core.Bool.{true}
use Prim.Native.Nat.{ℕ, ◌≤◌}
use native.Mathlib.Omega.{arith}
use lib.Dec.{eqb, ltb}
use lib.ListN.{length-set}
use Rattle.document.proofs.Cases.{split}
use Rattle.line_receiver.specs.declared.Receiver.{Receiver}
use Rattle.line_receiver.specs.declared.Event.{Event}
use Rattle.line_receiver.specs.declared.Event.TheVariants.{Nothing, Keep, Whole}
use Rattle.line_receiver.specs.Bounds.{data_next, sum_next, sound}
use Rattle.line_receiver.specs.Step.{plus, byte_event, stepped}
use Rattle.line_receiver.proofs.Lengths.{whole_fits}
use Rattle.state_parts.specs.State.{Target}
use Rattle.state_parts.specs.Widths.{TargetFits}
use Rattle.state_byte.specs.Turn.{with_receiver, kept_by, hearing}
use Rattle.state_byte.proofs.TurnLaws.{fits}
use Rattle.call_byte.specs.Heard.{heard_of, is_framed}

-- the length that an event has, or another number
abbrev length_of : ℕ → Event → ℕ
length_of other Nothing = other
length_of other (Keep at v) = other
length_of other (Whole c n sum) = n

module _ (r : Receiver) (b : ℕ) where
  lengths : length_of r.length (stepped r b).event ≡ r.length
  unfolding stepped byte_event
  lengths =
      split (eqb (plus b) r.waiting)
      (λ t. split (eqb r.phase data_next)
      (λ d. split (ltb r.have 64) (λ few. rw (t, d, few) refl) (λ many. rw (t, d, many) refl))
      (λ n. split (eqb r.phase sum_next) (λ s. rw (t, n, s) refl) (λ o. rw (t, n, o) refl)))
      (λ f. rw f refl)

  pub heard_framed : sound r ≡ true → r.length ≤ 255 → is_framed (heard_of (stepped r b).event) ≡ true
  heard_framed ok short = by (stepped r b).event refl
    where
      by : (e : Event) → (stepped r b).event ≡ e → is_framed (heard_of (stepped r b).event) ≡ true
      by Nothing h = rw h refl
      by (Keep at v) h = rw h refl
      by (Whole c n s) h =
          let long : n ≡ r.length = sym (ap (length_of r.length) h) ∙ lengths in
          rw h (fits c n (omega (arith, long, short)) (whole_fits b c n s r ok h))

pub hearing_fits : (t : Target) (b : ℕ) → TargetFits t → TargetFits (hearing t b)
hearing_fits t b f = by (stepped t.receiver b).event
  where
    by : (e : Event) → TargetFits (kept_by (with_receiver t (stepped t.receiver b).next) e)
    by Nothing = record { body = f.body; scope = f.scope; recorder = f.recorder; application = f.application; tables = f.tables }
    by (Keep at v) = record { body = length-set t.body at v ∙ f.body; scope = f.scope; recorder = f.recorder; application = f.application; tables = f.tables }
    by (Whole c n s) = record { body = f.body; scope = f.scope; recorder = f.recorder; application = f.application; tables = f.tables }

-- a heard byte leaves what is set up
pub hearing_instruments : (t : Target) (b : ℕ) → (hearing t b).instruments ≡ t.instruments
hearing_instruments t b = by (stepped t.receiver b).event
  where
    by : (e : Event) → (kept_by (with_receiver t (stepped t.receiver b).next) e).instruments ≡ t.instruments
    by Nothing = refl
    by (Keep at v) = refl
    by (Whole c n s) = refl
