-- Setups: what an accepted one is, and what it leaves.
use mathlib.Core.Path.{◌≡◌, refl, sym, ap, ◌∙◌}
use mathlib.Core.Bool.{Bool, true, false}
use mathlib.Core.List.{List}
use Prim.Native.Nat.{ℕ, ◌≤◌}
use lib.Dec.{eqb}
use lib.ListN.{length, drop}
use borrow.Author.Tests.{eq-eqb, ne_eqb, eqb-true, eqb-false, not-false}
use Rattle.document.specs.Areas.{may_be_read}
use Rattle.document.specs.Numbers.{done}
use Rattle.document.specs.declared.Variable.{Variable}
use Rattle.document.specs.Variables.{count_in, count_wrong, variables_in, length_given, any_size_zero, all_may}
use Rattle.document.specs.Scope.{scope_layout_wrong, scope_size_wrong, scope_range_wrong, scope_set_up}
use Rattle.document.specs.Scope.Scope.{watching}
use Rattle.document.proofs.Cases.{none_of}
use Rattle.variables_list.specs.State.{kept}
use Rattle.variables_list.proofs.Wrong.{count_right}
use Rattle.variables_definitions.proofs.First.{none_applies}
use Rattle.variables_definitions.proofs.Read.{definitions_length_lem, kept_all}
use Rattle.scope_state.specs.declared.Scope.{Scope}
use Rattle.scope_state.specs.State.{scope_of, sound}
use Rattle.scope_state.specs.Setup.{set_up_status, set_up_next}
use Rattle.scope_state.proofs.Bounds.{within_bounds}

-- definitions as they are kept stand for themselves
kept_scope : (vs : List Variable) → (length vs ≡ 0 → ⊥) → length vs ≤ 8 → scope_of (record { variables = kept vs }) ≡ watching vs
kept_scope vs n h = rw (ne_eqb (length vs) 0 n, kept_all vs h)

pub record SetupTaken (ex : Bool) (body : List ℕ) : Type 0 where
  pub right : length body ≡ length_given ex body
  pub some : count_in body ≡ 0 → ⊥
  pub few : count_in body ≤ 8
  pub sizes : any_size_zero (variables_in ex body) ≡ false
  pub ranges : all_may may_be_read (variables_in ex body) ≡ true

module _ (ex : Bool) (body : List ℕ) where
  pub taken_facts : set_up_status ex body ≡ done → SetupTaken ex body
  unfolding set_up_status
  taken_facts e =
      let n = none_applies (scope_layout_wrong ex body) (scope_size_wrong ex body) (scope_range_wrong ex body) e in
      let z = none_of (count_wrong (count_in body)) (any_size_zero (variables_in ex body)) n.1 in
      let k = count_right (count_in body) z.0 in
      record {
        right = eqb-true _ _ (not-false _ n.0);
        some = k.0;
        few = k.1;
        sizes = z.1;
        ranges = not-false _ n.2;
      }

  module _ (s : Scope) where
    pub next_taken : set_up_status ex body ≡ done → set_up_next s ex body ≡ record { variables = kept (variables_in ex body) }
    unfolding set_up_next
    next_taken e = rw (eq-eqb (set_up_status ex body) done e)

    pub next_refused : (set_up_status ex body ≡ done → ⊥) → set_up_next s ex body ≡ s
    unfolding set_up_next
    next_refused n = rw (ne_eqb (set_up_status ex body) done n)

    -- an accepted setup leaves the scope that the document says
    pub set_up_scope : set_up_status ex body ≡ done → scope_of (set_up_next s ex body) ≡ scope_set_up ex body
    set_up_scope e =
        let t = taken_facts e in
        let l : length (variables_in ex body) ≡ count_in body = definitions_length_lem ex (count_in body) (drop 1 body) in
        ap scope_of (next_taken e) ∙ kept_scope (variables_in ex body) (λ z. t.some (sym l ∙ z)) (rw l t.few)

    -- no state that is handed out leaves the bounds
    pub set_up_sound : sound s ≡ true → sound (set_up_next s ex body) ≡ true
    set_up_sound h = by_status (eqb (set_up_status ex body) done) refl
      where
        by_status : (t : Bool) → eqb (set_up_status ex body) done ≡ t → sound (set_up_next s ex body) ≡ true
        by_status true e =
            let t = taken_facts (eqb-true _ _ e) in
            let l : length (variables_in ex body) ≤ 8 = rw (definitions_length_lem ex (count_in body)) t.few in
            let k = kept_all (variables_in ex body) l in
            ap sound (next_taken (eqb-true _ _ e))
            ∙ within_bounds (record { variables = kept (variables_in ex body) }) (record { count = l; sizes = rw k t.sizes; ranges = rw k t.ranges })
        by_status false n = rw (next_refused (eqb-false _ _ n)) h
