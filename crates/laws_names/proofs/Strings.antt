-- 0xD4 and then 0x01 yield the string at any address of 2 bytes, a name or a type, and nothing where there is none.
use mathlib.Core.Path.{◌≡◌, refl, ap, ◌∙◌}
use mathlib.Core.Bool.{◌&&◌}
use mathlib.Core.List.{List}
use Prim.Native.Nat.{ℕ, ◌+◌, ◌<◌, ◌≤◌}
use native.Mathlib.Omega.{arith}
use borrow.Author.Tests.{ltb-true}
use lib.Dec.{ltb}
use lib.ListN.{length, drop, length-drop}
use Rattle.document.specs.Areas.{memory_end}
use Rattle.document.specs.Values.{number}
use Rattle.document.specs.Strings.{string_length, string_ends}
use Rattle.document.specs.Gate.{Gate}
use Rattle.document.proofs.Cases.{split, and_left}
use Rattle.document.proofs.Values.{number_back}
use Rattle.memory_strings.proofs.Zeros.{within}
use Rattle.laws_names.specs.Names.{string_at}
use Rattle.laws_names.specs.Steps.{bytes_read, string_read}
use Rattle.laws_names.proofs.Asked.{length_answered}
use Rattle.laws_names.proofs.Pieces.{bytes_read_lem}

module _ (g : Gate) (whole : length g.memory ≡ memory_end) where
  -- a string that begins in memory has no byte outside
  inside : (address : ℕ) → address < memory_end → address + string_length g.memory address ≤ memory_end
  inside address begins = omega (arith, within (drop address g.memory), length-drop address g.memory)

  pub string_read_lem : (address : ℕ) → address < 65536 → string_read g address ≡ string_at g.memory address
  string_read_lem address fits =
      let n : ℕ = string_length g.memory address in
      ap (λ (l : List ℕ). bytes_read g address (number l)) (length_answered g address fits)
      ∙ split (ltb address memory_end && string_ends g.memory address)
      (λ there.
      let room = inside address (ltb-true address memory_end (and_left (ltb address memory_end) (string_ends g.memory address) there)) in
      rw there (ap (bytes_read g address) (number_back 2 n (omega (arith, room))) ∙ bytes_read_lem g address n room))
      (λ none. rw none refl)
