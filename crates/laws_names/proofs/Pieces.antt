-- 0x01 in pieces of at most 64 bytes yields a range of any length.
use mathlib.Core.Path.{◌≡◌, sym, ap, ◌∙◌}
use mathlib.Core.List.{List, ◌++◌}
use Prim.Native.Nat.{ℕ, zero, suc, ◌+◌, ◌*◌, ◌/◌, ◌%◌, ◌<◌, ◌≤◌}
use native.Mathlib.Omega.{arith}
use borrow.Author.Tests.{eqb-true, eqb-false}
use lib.Dec.{eqb}
use lib.ListN.{take, drop}
use lib.Seq.{take-add, drop-drop}
use Rattle.document.specs.Numbers.{most_data}
use Rattle.document.specs.Areas.{memory_end, bytes_at}
use Rattle.document.specs.Gate.{Gate}
use Rattle.document.proofs.Cases.{split}
use Rattle.laws_names.specs.Steps.{pieces_read, bytes_read}
use Rattle.laws_names.proofs.Asked.{piece_read_lem}

-- a range is its first bytes and those behind them
joined : (memory : List ℕ) (address n m : ℕ) → bytes_at memory address n ++ bytes_at memory (address + n) m ≡ bytes_at memory address (n + m)
joined memory address n m =
    ap (λ (l : List ℕ). bytes_at memory address n ++ take m l) (sym (drop-drop n address memory)) ∙ sym (take-add n m (drop address memory))

module _ (g : Gate) where
  pieces_read_lem : (n address rest : ℕ) → rest < most_data → address + (n * most_data + rest) ≤ memory_end
      → pieces_read g n address rest ≡ bytes_at g.memory address (n * most_data + rest)
  pieces_read_lem zero address rest small inside =
      let e : rest ≡ 0 * most_data + rest = omega arith in
      split (eqb rest 0)
      (λ none. rw none (ap (bytes_at g.memory address) (sym (eqb-true rest 0 none) ∙ e)))
      (λ some. rw some
      (piece_read_lem g address rest (omega (arith, eqb-false rest 0 some)) (omega arith) (omega arith) ∙ ap (bytes_at g.memory address) e))
  pieces_read_lem (suc n) address rest small inside =
      let e : most_data + (n * most_data + rest) ≡ suc n * most_data + rest = omega arith in
      (λ i. piece_read_lem g address most_data (omega arith) (omega arith) (omega arith) i
      ++ pieces_read_lem n (address + most_data) rest small (omega arith) i)
      ∙ joined g.memory address most_data (n * most_data + rest)
      ∙ ap (bytes_at g.memory address) e

  pub bytes_read_lem : (address size : ℕ) → address + size ≤ memory_end → bytes_read g address size ≡ bytes_at g.memory address size
  bytes_read_lem address size inside =
      let e : size / most_data * most_data + size % most_data ≡ size = omega arith in
      pieces_read_lem (size / most_data) address (size % most_data) (omega arith) (omega arith) ∙ ap (bytes_at g.memory address) e
