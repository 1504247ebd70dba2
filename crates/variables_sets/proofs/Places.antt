-- A set into its place: turns of the copy, which reads below the place and writes in it.
use mathlib.Core.Path.{◌≡◌, sym, ap, ◌∙◌}
use mathlib.Core.Bool.{Bool, true}
use mathlib.Core.List.{List, ◌∷◌}
use Prim.Native.Nat.{ℕ, ◌+◌, ◌-◌, ◌<◌, ◌≤◌}
use native.Mathlib.Omega.{arith}
use lib.ListN.{length, get_or, take, drop}
use Rattle.document.specs.Areas.{bytes_at}
use Rattle.document.specs.Values.{number}
use Rattle.document.specs.Stores.{stored}
use Rattle.document.specs.Variables.{definitions_in, all_may, set_size, values_of}
use Rattle.document.proofs.Cases.{both}
use Rattle.memory_ranges.proofs.Copies.{stored_append}
use Rattle.memory_ranges.proofs.Stored.{take_sets, bytes_agree}
use Rattle.bytes_fields.proofs.Ranges.{bytes_length}
use Rattle.bytes_fields.proofs.Definitions.{definitions_first}

-- ---- one variable

pub stored_front : (m m' vs : List ℕ) (at i : ℕ) → at ≤ i → m' ≡ stored m i vs → take at m' ≡ take at m
stored_front m m' vs at i h e = ap (take at) e ∙ take_sets vs m i at h

-- a turn: the definition at this place of the block, and those behind it
module _ (block : List ℕ) (next left size address : ℕ) (some : 0 < left)
    (es : size ≡ get_or block next 0) (ea : address ≡ number (bytes_at block (next + 1) 4)) where
  first : definitions_in true left (drop next block) ≡ record { address = address; size = size } ∷ definitions_in true (left - 1) (drop (next + 5) block)
  first = definitions_first block next left size address some es ea

  pub size_first : set_size (definitions_in true left (drop next block)) ≡ size + set_size (definitions_in true (left - 1) (drop (next + 5) block))
  size_first = ap set_size first

  pub may_first : (may : ℕ → ℕ → Bool) → all_may may (definitions_in true left (drop next block)) ≡ true
      → (may address size ≡ true) × (all_may may (definitions_in true (left - 1) (drop (next + 5) block)) ≡ true)
  may_first may e =
      both (may address size) (all_may may (definitions_in true (left - 1) (drop (next + 5) block))) (sym (ap (all_may may) first) ∙ e)

  module _ (m₀ m m' : List ℕ) (at done : ℕ) where
    pub variable_kept : address + size ≤ at → address + size ≤ length m₀ → take at m ≡ take at m₀ → m' ≡ stored m (at + done) (bytes_at m address size)
        → stored m' (at + (done + size)) (values_of m₀ (definitions_in true (left - 1) (drop (next + 5) block)))
        ≡ stored m (at + done) (values_of m₀ (definitions_in true left (drop next block)))
    variable_kept below fits t e =
        let v : bytes_at m address size ≡ bytes_at m₀ address size = bytes_agree m m₀ at address size t below in
        let p : at + (done + size) ≡ at + done + length (bytes_at m₀ address size) = omega (arith, bytes_length m₀ address size fits) in
        rw (e, v, p, first, stored_append (bytes_at m₀ address size))
