-- Readings: what is answered, by the count and the sizes.
use mathlib.Core.Path.{◌≡◌}
use mathlib.Core.List.{List, []}
use Prim.Native.Nat.{ℕ, ◌<◌, ◌≤◌}
use borrow.Author.Tests.{eq-eqb, ne_eqb, lt-ltb, le-ltb}
use Rattle.document.specs.Numbers.{most_data, done, not_set_up, answer_too_long}
use Rattle.document.specs.Variables.{set_size, values_of}
use Rattle.variables_list.specs.State.{variables_of}
use Rattle.scope_state.specs.declared.Scope.{Scope}
use Rattle.scope_state.specs.Read.{read_status, read_bytes}

module _ (s : Scope) where
  pub absent_status : s.variables.count ≡ 0 → read_status s ≡ not_set_up
  unfolding read_status
  absent_status e = rw (eq-eqb s.variables.count 0 e)

  module _ (n : s.variables.count ≡ 0 → ⊥) where
    pub long_status : most_data < set_size (variables_of s.variables) → read_status s ≡ answer_too_long
    unfolding read_status
    long_status h = rw (ne_eqb s.variables.count 0 n, lt-ltb most_data (set_size (variables_of s.variables)) h)

    pub short_status : set_size (variables_of s.variables) ≤ most_data → read_status s ≡ done
    unfolding read_status
    short_status h = rw (ne_eqb s.variables.count 0 n, le-ltb most_data (set_size (variables_of s.variables)) h)

  -- refused, no bytes; else the variables' in their order
  module _ (memory : List ℕ) where
    pub no_bytes : (read_status s ≡ done → ⊥) → read_bytes s memory ≡ []
    unfolding read_bytes
    no_bytes n = rw (ne_eqb (read_status s) done n)

    pub all_bytes : (s.variables.count ≡ 0 → ⊥) → read_status s ≡ done → read_bytes s memory ≡ values_of memory (variables_of s.variables)
    unfolding read_bytes
    all_bytes z e = rw (e, ne_eqb s.variables.count 0 z)
