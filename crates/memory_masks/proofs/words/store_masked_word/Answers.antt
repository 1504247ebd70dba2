-- The word is masked as its two bytes are.
use mathlib.Core.Path.{sym, ap, ◌∙◌}
use Prim.Native.Nat.{ℕ}
use lib.Seq.{sets}
use Rattle.document.specs.Values.{little_endian}
use Rattle.bytes_fields.proofs.Numbers.{number_kept}
use Rattle.memory_masks.proofs.Turns.{mask_stored_number}
use Rattle.memory_masks.proofs.words.store_masked_word.Goals as goal

pub returns : goal.returns
returns c =
    let a = c.args in
    let memory = a.memory.now in
    let held = number_kept memory (λ i. (c.slice_known-1.given i).fits) a.at 2 c.requires in
    c.put.ensures
    ∙ ap (λ (n : ℕ). sets memory a.at (little_endian 2 n)) c.mixed.ensures
    ∙ sym (mask_stored_number 2 memory a.at c.at-old.result a.value a.mask (sym held ∙ ap (little_endian 2) (sym c.at-old.ensures)))
