-- A word by its bytes, or bytes one by one: the same store.
use mathlib.Core.Path.{◌≡◌, ap, ◌∙◌}
use mathlib.Core.List.{List}
use Prim.Native.Nat.{ℕ, ◌<◌}
use native.Mathlib.Omega.{arith}
use lib.ListN.{length, get_or}
use lib.Seq.{take_all}
use Rattle.document.specs.Areas.{bytes_at}
use Rattle.document.specs.Values.{number, little_endian}
use Rattle.document.specs.Stores.{mask_stored}
use Rattle.bytes_fields.proofs.Numbers.{number_kept}
use Rattle.serve_writes.proofs.mix.Goals as goal

-- a word that is all of a part is kept in its bytes
whole : (part : List ℕ) (word : ℕ) → ((i : ℕ) → get_or part i 0 < 256) → length part ≡ 2 → word ≡ number (bytes_at part 0 2) → little_endian 2 word ≡ part
whole part word small two e = ap (little_endian 2) e ∙ number_kept part small 0 2 (omega arith) ∙ take_all 2 part (omega arith)

pub returns-then-values-eq2 : goal.returns-then-values-eq2
returns-then-values-eq2 c =
    let a = c.args in
    c.store_masked_word.ensures
    ∙ (λ i.
    mask_stored a.memory.now a.at
    (whole a.values.now c.at-value.result (λ k. (c.shared_slice_known-1.given k).fits) c.if-values-eq2.true c.at-value.ensures i)
    (whole a.masks.now c.at-mask.result (λ k. (c.shared_slice_known-2-1.given k).fits) (c.requires.1 ∙ c.if-values-eq2.true) c.at-mask.ensures i))
