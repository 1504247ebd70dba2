-- A 0x10, accepted or refused, and what is then stored.
use mathlib.Core.Path.{◌≡◌, refl}
use mathlib.Core.List.{List}
use Prim.Native.Nat.{ℕ}
use native.Mathlib.Omega.{arith}
use borrow.Author.Tests.{eqb-false}
use lib.Dec.{eqb}
use lib.ListN.{length}
use Rattle.document.specs.Numbers.{done}
use Rattle.document.specs.Application.{is_pending}
use Rattle.document.specs.Application.Application.{waiting}
use Rattle.document.specs.Refusals.{first_of, send_lines}
use Rattle.document.specs.Gate.{Gate}
use Rattle.document.proofs.Cases.{split}
use Rattle.application_state.specs.State.{Command, application_of, sent_command, send_next}
use Rattle.application_state.proofs.Means.{sent_means}

module _ (body : List ℕ) (c : Command) where
  -- by whether one is pending, and whether there are data
  pub send_either : (P : Command → Type 0) → P c → ((length body ≡ 0 → ⊥) → P (sent_command body c)) → P (send_next body c)
  unfolding send_next
  send_either P same sent =
      split (is_pending (application_of c))
      (λ pending. rw pending same)
      (λ free. split (eqb (length body) 0) (λ empty. rw (free, empty) same) (λ some. rw (free, some) (sent (eqb-false (length body) 0 some))))

  module _ (g : Gate) (of : g.application ≡ application_of c) where
    pub send_refused : (first_of (send_lines g body) ≡ done → ⊥) → send_next body c ≡ c
    unfolding send_next
    send_refused wrong =
        split (is_pending (application_of c))
        (λ pending. rw pending refl)
        (λ free. split (eqb (length body) 0)
        (λ empty. rw (free, empty) refl)
        (λ some. absurd (wrong (rw (of, free, some) refl))))

    pub send_means : first_of (send_lines g body) ≡ done → application_of (send_next body c) ≡ waiting body
    unfolding send_next
    send_means right =
        split (is_pending (application_of c))
        (λ pending. absurd (omega (arith, rw (of, pending) at right)))
        (λ free. split (eqb (length body) 0)
        (λ empty. absurd (omega (arith, rw (of, free, empty) at right)))
        (λ some. rw (free, some) (sent_means body c)))
