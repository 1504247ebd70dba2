-- Fewer than four bytes are the front of the four.
use mathlib.Core.Path.{◌≡◌, ap, ◌∙◌}
use Prim.Native.Nat.{ℕ}
use native.Mathlib.Omega.{arith}
use Rattle.document.specs.Areas.{bytes_at}
use Rattle.document.specs.Values.{number}
use Rattle.recorder_setups.proofs.Heads.{threshold_short}
use Rattle.recorder_setups.proofs.fields.threshold_at.Goals as goal

pub returns : goal.returns
returns c =
    let a = c.args in (
      c.number_at.ensures.value
          ∙ ap (λ (n : ℕ). number (bytes_at a.body.now a.at n)) c.min.ensures
          ∙ threshold_short a.body.now a.at a.size,
      λ few. let same : c.min.result ≡ a.size = omega (arith, few, c.min.ensures) in
          rw same at c.number_at.ensures.fits,
    )
