-- What is read stands below the place, and the place is the middle of the memory: its front is written, all else stays.
use mathlib.Core.Path.{◌≡◌, sym, ap, ◌∙◌}
use mathlib.Core.List.{List, ◌++◌, append_assoc}
use Prim.Native.Nat.{ℕ, ◌+◌, ◌-◌, ◌≤◌}
use native.Mathlib.Omega.{arith}
use lib.ListN.{length, take, drop, length-drop}
use lib.Seq.{sets, sets-eq, take-take, drop-drop, length-take-le}
use Rattle.std.proofs.lemmas.List.{append-nil, drop_all}
use Rattle.document.specs.Areas.{bytes_at}
use Rattle.bytes_fields.proofs.Ranges.{bytes_length}
use Rattle.memory_ranges.proofs.Stored.{bytes_agree}
use Rattle.variables_sets.proofs.copy_variable.Goals as goal

module _ (m recorded ring part : List ℕ) (at size from : ℕ) (front : recorded ≡ take at m) (back : ring ≡ drop at m)
    (below : from + size ≤ at) (fits : at + size ≤ length m) where
  read : bytes_at recorded from (from + size - from) ≡ bytes_at m from size
  read =
      let n : from + size - from ≡ size = omega arith in
      ap (bytes_at recorded from) n
      ∙ bytes_agree recorded m at from size (ap (take at) front ∙ take-take at at m (omega arith)) below

  wide : length (take size ring) ≡ length (bytes_at m from size)
  wide =
      let whole : length ring ≡ length m - at = ap length back ∙ length-drop at m in
      length-take-le size ring (omega (arith, whole)) ∙ sym (bytes_length m from size (omega arith))

  placed : part ≡ sets (take size ring) 0 (bytes_at recorded from (from + size - from)) → part ≡ bytes_at m from size
  placed e =
      e
      ∙ ap (sets (take size ring) 0) read
      ∙ sets-eq (bytes_at m from size) (take size ring) 0 (omega (arith, wide))
      ∙ ap (λ (l : List ℕ). bytes_at m from size ++ l) (drop_all (0 + length (bytes_at m from size)) (take size ring) (omega (arith, wide)))
      ∙ append-nil (bytes_at m from size)

  put_back : part ≡ bytes_at m from size → recorded ++ (part ++ drop size ring) ≡ sets m at (bytes_at m from size)
  put_back e =
      (λ i. front i ++ (e i ++ drop size (back i)))
      ∙ ap (λ (l : List ℕ). take at m ++ (bytes_at m from size ++ l)) (drop-drop size at m ∙ ap (λ (n : ℕ). drop (at + n) m) (sym (bytes_length m from size (omega arith))))
      ∙ sym (append_assoc (take at m) (bytes_at m from size) (drop (at + length (bytes_at m from size)) m))
      ∙ sym (sets-eq (bytes_at m from size) m at (omega (arith, bytes_length m from size (omega arith))))

pub returns : goal.returns
returns c =
    let a = c.args in
    let s = c.split_at_mut-recorded in
    put_back a.memory.now s.result.0.now s.result.1.now c.copy_in.new.memory a.at a.size a.from s.ensures.front s.ensures.back c.requires.0 c.requires.1
    (placed a.memory.now s.result.0.now s.result.1.now c.copy_in.new.memory a.at a.size a.from s.ensures.front s.ensures.back c.requires.0 c.requires.1 c.copy_in.ensures)
