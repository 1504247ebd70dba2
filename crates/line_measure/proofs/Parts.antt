-- A command on the wire: its parts, and what measuring them one behind the other gives.
use mathlib.Core.Path.{◌≡◌, refl, ap, ◌∙◌}
use mathlib.Core.List.{List, [], ◌∷◌, ◌++◌, append_assoc}
use Prim.Native.Nat.{ℕ, ◌+◌, ◌*◌, ◌≤◌}
use native.Mathlib.Omega.{arith}
use lib.ListN.{length, length-append}
use Rattle.document.specs.Doubling.{stuffed}
use Rattle.document.specs.Sum.{sum_byte_of}
use Rattle.document.specs.Kinds.{has_length_byte}
use Rattle.document.specs.Message.{length_part, on_wire}
use Rattle.document.specs.CommandWriter.{command_on_wire}
use Rattle.line_wire.specs.declared.doubling.Progress.{Progress}
use Rattle.line_wire.specs.Put.{progressed, front}
use Rattle.document.proofs.Cases.{split}
use Rattle.line_wire.proofs.Pairing.{framed}
use Rattle.line_wire.proofs.Stuffed.{stuffed_append, stuffed_one, stuffed_length}
use Rattle.line_wire.proofs.Writing.{progressed_append, sum_front}

-- what goes between the command and the sum byte
abbrev pub between : ℕ → List ℕ → List ℕ
between c body = length_part c body ++ body

pub command_framed : (c : ℕ) (body : List ℕ) → framed c (between c body ++ (sum_byte_of (c ∷ between c body) ∷ [])) ≡ command_on_wire c body
unfolding on_wire
command_framed c body = rw (append_assoc (length_part c body)) refl

pub command_length : (c : ℕ) (body : List ℕ) →
    length (command_on_wire c body)
    ≡ 2 + length (stuffed (length_part c body)) + length (stuffed body) + length (stuffed (sum_byte_of (c ∷ between c body) ∷ []))
command_length c body =
    rw
    (← command_framed c body, stuffed_append (between c body) (sum_byte_of (c ∷ between c body) ∷ []), length-append (stuffed (between c body)), stuffed_append (length_part c body) body, length-append (stuffed (length_part c body)))
    (omega arith)

pub length_part_short : (c : ℕ) (body : List ℕ) → length (stuffed (length_part c body)) ≤ 2
length_part_short c body =
    split (has_length_byte c)
    (λ standard. rw standard (stuffed_one (length body)))
    (λ fast. rw fast (omega arith))

-- a start, a command, and every other byte doubled
pub command_most : (c : ℕ) (body : List ℕ) → length (command_on_wire c body) ≤ 2 * length body + 6
command_most c body =
    omega (arith, command_length c body, length_part_short c body, stuffed_length body, stuffed_one (sum_byte_of (c ∷ between c body)))

-- ---- measured: the length byte, the data, the sum byte

module _ (c : ℕ) (body : List ℕ) (before behind : Progress) (b : before ≡ progressed (front c) (length_part c body)) (h : behind ≡ progressed before body) where
  pub behind_is : behind ≡ progressed (front c) (between c body)
  behind_is = h ∙ ap (λ (p : Progress). progressed p body) b ∙ progressed_append (front c) (length_part c body) body

  pub behind_sum : sum_byte_of (behind.sum ∷ []) ≡ sum_byte_of (c ∷ between c body)
  behind_sum = sum_front c (between c body) behind behind_is

  pub measured_command : (end : Progress) (s : ℕ) → s ≡ sum_byte_of (behind.sum ∷ []) → end ≡ progressed behind (s ∷ []) →
      end.at ≡ length (command_on_wire c body)
  measured_command end s es e =
      let ls = between c body in
      let all : end ≡ progressed (front c) (ls ++ (sum_byte_of (c ∷ ls) ∷ [])) =
      e ∙ rw (es, behind_sum) (ap (λ (p : Progress). progressed p (sum_byte_of (c ∷ ls) ∷ [])) behind_is ∙ progressed_append (front c) ls (sum_byte_of (c ∷ ls) ∷ [])) in
      let at : end.at ≡ 2 + length (stuffed (ls ++ (sum_byte_of (c ∷ ls) ∷ []))) = ap (λ (p : Progress). p.at) all in
      rw (← command_framed c body) (omega arith)
