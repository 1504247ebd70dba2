-- What is held of a message is enough for its answer.
use mathlib.Core.Path.{◌≡◌, refl, sym, ap, ◌∙◌}
use mathlib.Core.Bool.{true, false}
use mathlib.Core.List.{List, []}
use Prim.Native.Nat.{ℕ}
use borrow.Author.Tests.{ltb-false}
use lib.Dec.{ltb}
use lib.ListN.{length, take}
use lib.Seq.{take_all}
use Rattle.document.specs.Numbers.{most_data, sum_wrong, message_too_long}
use Rattle.document.specs.Message.{Message, sum_right}
use Rattle.document.specs.Services.{service_of}
use Rattle.document.specs.Gate.{Gate, says}
use Rattle.document.specs.Refusals.{refusal}
use Rattle.document.specs.Commands.{served, answered}
use Rattle.document.proofs.Cases.{split}
use Rattle.line_receiver.specs.Report.{held}
use Rattle.document_outcomes.proofs.Answered.{answered_served}
use Rattle.state_byte.specs.AnsweredHeld.{answered_held}

module _ (g : Gate) (m : Message) where
  wrong_sum : sum_right m ≡ false → answered g m ≡ says g sum_wrong []
  unfolding answered refusal
  wrong_sum wrong = rw wrong refl

  too_long : sum_right m ≡ true → ltb most_data (length m.body) ≡ true → answered g m ≡ says g message_too_long []
  unfolding answered refusal
  too_long right long = rw (right, long) refl

  whole : sum_right m ≡ true → ltb most_data (length m.body) ≡ false → answered g m ≡ served g (service_of m.command) (take most_data m.body)
  whole right short =
      answered_served g m right short
      ∙ ap (λ (body : List ℕ). served g (service_of m.command) body)
      (sym (take_all most_data m.body (ltb-false most_data (length m.body) short)))

  pub answered_held_lem : answered_held g (held m) ≡ answered g m
  unfolding answered_held
  answered_held_lem =
      split (sum_right m)
      (λ right. split (ltb most_data (length m.body))
      (λ long. rw (right, long) (sym (too_long right long)))
      (λ short. rw (right, short) (sym (whole right short))))
      (λ wrong. rw wrong (sym (wrong_sum wrong)))
