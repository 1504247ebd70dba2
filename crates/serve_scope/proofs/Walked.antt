-- The scope's variables, walked through where they lie: what is left of them, and what it gives.
use mathlib.Core.Path.{◌≡◌, sym, ap, ◌∙◌}
use mathlib.Core.Bool.{true, not}
use mathlib.Core.List.{List, ◌∷◌, ◌++◌}
use Prim.Native.Nat.{ℕ, ◌+◌, ◌-◌, ◌*◌, ◌<◌, ◌≤◌}
use native.Mathlib.Omega.{arith}
use lib.Dec.{leb}
use lib.ListN.{get_or, drop}
use lib.Seq.{sets}
use borrow.Author.Tests.{leb-true}
use Rattle.document.specs.Areas.{memory_end, may_be_read, bytes_at}
use Rattle.document.specs.Values.{number}
use Rattle.document.specs.Doubling.{stuffed}
use Rattle.document.specs.declared.Variable.{Variable}
use Rattle.document.specs.Variables.{definitions_in, any_size_zero, all_may, values_of}
use Rattle.document.proofs.Cases.{both, and_left, and_right}
use Rattle.bytes_fields.proofs.Definitions.{definitions_first}
use Rattle.line_wire.specs.declared.doubling.Progress.{Progress}
use Rattle.line_wire.specs.Put.{progressed, Put}
use Rattle.line_wire.proofs.Stuffed.{stuffed_append, sets_append}
use Rattle.line_wire.proofs.Writing.{progressed_append}
use Rattle.variables_list.specs.State.{variables_of}
use Rattle.scope_state.specs.State.{sound}
use Rattle.state_block.specs.Places.{scope_place}
use Rattle.state_block.specs.Layout.{decoded_scope, decoded_definitions}
use Rattle.state_block.proofs.Definitions.{definitions_take}

module _ (block : List ℕ) where
  abbrev pub scope_count : ℕ
  scope_count = get_or block scope_place 0

  -- so many definitions from a place on
  abbrev pub left_at : ℕ → ℕ → List Variable
  left_at left at = definitions_in true left (drop at block)

  -- what is left of the scope's definitions behind the first i
  abbrev pub left_behind : ℕ → List Variable
  left_behind i = left_at (scope_count - i) (scope_place + 1 + i * 5)

  pub behind_next : (i : ℕ) → i < scope_count → left_at (scope_count - i - 1) (scope_place + 1 + i * 5 + 5) ≡ left_behind (i + 1)
  behind_next i h =
      let left : scope_count - i - 1 ≡ scope_count - (i + 1) = omega arith in
      let at : scope_place + 1 + i * 5 + 5 ≡ scope_place + 1 + (i + 1) * 5 = omega arith in
      λ j. left_at (left j) (at j)

  pub few : sound (decoded_scope block) ≡ true → scope_count ≤ 8
  unfolding sound decoded_scope
  few e = leb-true scope_count 8 (and_left (leb scope_count 8) _ e)

  pub all_left : scope_count ≤ 8 → variables_of (decoded_scope block).variables ≡ left_at scope_count (scope_place + 1)
  unfolding decoded_scope decoded_definitions
  all_left h = definitions_take scope_count 8 (drop (scope_place + 1) block) h

  pub all_may_lem : sound (decoded_scope block) ≡ true → all_may may_be_read (variables_of (decoded_scope block).variables) ≡ true
  unfolding sound
  all_may_lem e =
      and_right (not (any_size_zero (variables_of (decoded_scope block).variables))) _ (and_right (leb (decoded_scope block).variables.count 8) _ e)

  -- a turn: the definition at this place, and the rest
  module _ (left at : ℕ) (some : 0 < left) (size address : ℕ) (es : size ≡ get_or block at 0) (ea : address ≡ number (bytes_at block (at + 1) 4)) where
    first : left_at left at ≡ record { address = address; size = size } ∷ left_at (left - 1) (at + 5)
    first = definitions_first block at left size address some es ea

    pub may_first : all_may may_be_read (left_at left at) ≡ true → (address + size ≤ memory_end) × (all_may may_be_read (left_at (left - 1) (at + 5)) ≡ true)
    may_first e =
        let b = both (may_be_read address size) (all_may may_be_read (left_at (left - 1) (at + 5))) (sym (ap (all_may may_be_read) first) ∙ e) in
        (leb-true (address + size) memory_end b.0, b.1)

    pub values_first : (memory : List ℕ) → values_of memory (left_at left at) ≡ bytes_at memory address size ++ values_of memory (left_at (left - 1) (at + 5))
    values_first memory = ap (values_of memory) first

-- ---- what is put, and what is left to put

module _ (p q : Progress) (xs ys : List ℕ) (before after : List ℕ) (put : Put p xs before q after) where
  pub put_progress : progressed q ys ≡ progressed p (xs ++ ys)
  put_progress = ap (λ (t : Progress). progressed t ys) put.progress ∙ progressed_append p xs ys

  pub put_buffer : sets after q.at (stuffed ys) ≡ sets before p.at (stuffed (xs ++ ys))
  put_buffer =
      rw (put.buffer, ap (λ (t : Progress). t.at) put.progress, stuffed_append xs ys)
      (sym (sets_append (stuffed xs) (stuffed ys) before p.at))
