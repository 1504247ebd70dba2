-- What is said of a string: refused by the data's length, by its address, or without an end; else its length.
use mathlib.Core.Path.{◌≡◌, refl}
use mathlib.Core.Bool.{true, false}
use mathlib.Core.List.{List, []}
use Prim.Native.Nat.{ℕ, ◌+◌, ◌-◌, ◌≤◌}
use native.Mathlib.Omega.{arith}
use borrow.Author.Tests.{eq-eqb, ne_eqb, lt-ltb, le-ltb}
use lib.ListN.{length, drop, length-drop}
use Rattle.document.specs.Numbers.{done, layout_wrong, size_wrong, range_wrong}
use Rattle.document.specs.Areas.{may_be_read}
use Rattle.document.specs.Values.{number, little_endian}
use Rattle.document.specs.Variables.{address_width}
use Rattle.document.specs.Strings.{string_length, string_ends}
use Rattle.document.specs.Gate.{Gate}
use Rattle.document.specs.Commands.{served}
use Rattle.document.specs.Answer.{Answer}
use Rattle.document.specs.declared.Operation.TheVariants.{MeasureString}
use Rattle.document.specs.declared.Service.{Service}
use Rattle.document_outcomes.specs.Known.{known_as}
use Rattle.memory_strings.proofs.Zeros.{ends}

-- a string ends where its length falls short of memory's end
pub ends_within : (memory : List ℕ) (at : ℕ) → at ≤ length memory → (at + string_length memory at ≡ length memory → ⊥)
    → at + string_length memory at ≤ length memory → string_ends memory at ≡ true
ends_within memory at inside short within =
    rw (ends (drop at memory), length-drop) (lt-ltb (string_length memory at) (length memory - at) (omega (arith, short)))

pub ends_not : (memory : List ℕ) (at : ℕ) → at + string_length memory at ≡ length memory → string_ends memory at ≡ false
ends_not memory at long =
    rw (ends (drop at memory), length-drop) (le-ltb (string_length memory at) (length memory - at) (omega (arith, long)))

module _ (g : Gate) (s : Service) (body : List ℕ) where
  abbrev status_alone : ℕ → Answer
  status_alone status = record { status = status; body = [] }

  pub string_layout : (length body ≡ address_width s.ex → ⊥) → status_alone layout_wrong ≡ (served g (known_as MeasureString s) body).answer
  unfolding served
  string_layout other = rw (ne_eqb (length body) (address_width s.ex) other) refl

  module _ (whole : length body ≡ address_width s.ex) where
    pub string_outside : may_be_read (number body) 1 ≡ false → status_alone range_wrong ≡ (served g (known_as MeasureString s) body).answer
    unfolding served
    string_outside out = rw (eq-eqb (length body) (address_width s.ex) whole, out) refl

    module _ (inside : may_be_read (number body) 1 ≡ true) where
      pub string_unended : string_ends g.memory (number body) ≡ false → status_alone size_wrong ≡ (served g (known_as MeasureString s) body).answer
      unfolding served
      string_unended none = rw (eq-eqb (length body) (address_width s.ex) whole, inside, none) refl

      pub string_told : string_ends g.memory (number body) ≡ true
          → record { status = done; body = little_endian 2 (string_length g.memory (number body)) } ≡ (served g (known_as MeasureString s) body).answer
      unfolding served
      string_told ended = rw (eq-eqb (length body) (address_width s.ex) whole, inside, ended) refl
