-- A message's form by its command's entry in the table of lengths.
use mathlib.Core.Path.{◌≡◌, refl, sym, ap}
use mathlib.Core.Bool.{Bool, true, false}
use Prim.Native.Nat.{ℕ}
use borrow.Author.Tests.{ne_eqb}
use lib.Dec.{eqb, leb}
use lib.ListN.{length}
use mathlib.Core.List.{List}
use Rattle.std.specs.declared.option.Option.{Option}
use Rattle.std.specs.declared.option.Option.TheVariants.{None, Some}
use Rattle.document.specs.Kinds.{has_length_byte, fast_length}
use Rattle.document.specs.Message.{summed, well_formed}
use Rattle.document.proofs.Cases.{split, neither}
use Rattle.codes_table.specs.Table.{length_of}

abbrev is_told : Option ℕ → Bool
is_told None = true
is_told (Some n) = false

abbrev fixed_or : ℕ → Option ℕ → ℕ
fixed_or other None = other
fixed_or other (Some n) = n

told_standard : (c : ℕ) → None ≡ length_of c → has_length_byte c ≡ true
told_standard c e = split (has_length_byte c) (λ t. t) (λ f. neither (sym (rw f at (ap is_told e))))

fixed_fast : (c n : ℕ) → Some n ≡ length_of c → (has_length_byte c ≡ false) × (n ≡ fast_length c)
fixed_fast c n e =
    split (has_length_byte c)
    (λ t. neither (rw t at (ap is_told e)))
    (λ f. (f, rw f at (ap (fixed_or n) e)))

module _ (c : ℕ) (body : List ℕ) (other : c ≡ 0x2B → ⊥) where
  pub formed_told : None ≡ length_of c → leb (length body) 255 ≡ well_formed (summed c body)
  unfolding well_formed
  formed_told e = rw (ne_eqb c 0x2B other, told_standard c e) refl

  pub formed_fixed : (n k : ℕ) → Some n ≡ length_of c → k ≡ n → eqb (length body) k ≡ well_formed (summed c body)
  unfolding well_formed
  formed_fixed n k e same = let f = fixed_fast c n e in rw (ne_eqb c 0x2B other, f.0, same, f.1) refl
