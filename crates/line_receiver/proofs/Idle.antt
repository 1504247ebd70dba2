-- A finished message leaves the receiver idle: outside a message, and no 0x2B waits.
use Prim.Native.Nat.{ℕ}
use mathlib.Core.Path.{◌≡◌, refl, ap, ◌∙◌}
use mathlib.Core.List.{List, [], ◌∷◌, ◌++◌, map, nil≢cons, foldl-append}
use mathlib.Core.Bool.{Bool, true, false}
use lib.ListN.{length}
use lib.Dec.{ltb, eqb}
use Rattle.document.specs.Message.{Message, finished_by}
use Rattle.document.proofs.Cases.{split, neither}
use Rattle.line_receiver.specs.declared.Receiver.{Receiver}
use Rattle.line_receiver.specs.declared.Event.{Event}
use Rattle.line_receiver.specs.declared.Event.TheVariants.{Nothing, Keep, Whole}
use Rattle.line_receiver.specs.Bounds.{idle, data_next, sum_next}
use Rattle.line_receiver.specs.Step.{plus, after_byte, byte_event, stepped}
use Rattle.line_receiver.specs.Report.{HeldMessage, held, report_of, on_byte, since_reset, reporting}
use Rattle.line_receiver.proofs.Reports.{reports}

pub record Idle (r : Receiver) : Type 0 where
  pub outside : r.phase ≡ idle
  pub settled : r.waiting ≡ 0

abbrev finishes : Event → Bool
finishes Nothing = false
finishes (Keep at byte) = false
finishes (Whole command n sum) = true

step_idle : (r : Receiver) (b : ℕ) → finishes (stepped r b).event ≡ true → Idle (stepped r b).next
unfolding stepped after_byte byte_event
step_idle r b e =
    split (eqb (plus b) r.waiting)
    (λ t. split (eqb r.phase data_next)
    (λ d. split (ltb r.have 64) (λ few. neither (rw (t, d, few) at e)) (λ many. neither (rw (t, d, many) at e)))
    (λ n. split (eqb r.phase sum_next)
    (λ s. rw (t, n, s) (record { outside = refl; settled = refl }))
    (λ o. neither (rw (t, n, o) at e))))
    (λ f. neither (rw f at e))

report_finishes : (e : Event) (body : List ℕ) (h : HeldMessage) (more : List HeldMessage) → report_of e body ≡ h ∷ more → finishes e ≡ true
report_finishes Nothing body h more is = absurd (nil≢cons is)
report_finishes (Keep at byte) body h more is = absurd (nil≢cons is)
report_finishes (Whole command n sum) body h more is = refl

-- over any bytes since reset, whatever the body held: the byte that finishes a message, its sum right or wrong, leaves none begun
module _ (body : List ℕ) (full : length body ≡ 64) where
  pub finished_idle : (bs : List ℕ) (b : ℕ) (m : Message) (more : List Message) → finished_by bs b ≡ m ∷ more
      → Idle (since_reset body (bs ++ (b ∷ []))).receiver
  finished_idle bs b m more finished =
      let s = since_reset body bs in
      let whole : reporting body bs b ≡ held m ∷ map held more = reports body full bs b ∙ ap (λ (ms : List Message). map held ms) finished in
      rw (foldl-append on_byte _ bs (b ∷ []))
      (step_idle s.receiver b (report_finishes (stepped s.receiver b).event s.body (held m) (map held more) whole))
