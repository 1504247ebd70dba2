-- A reset with a list, store by store; and what is known where nothing refuses it.
use mathlib.Core.Path.{◌≡◌, refl, sym, ap, ◌∙◌}
use mathlib.Core.Bool.{true, false, ◌&&◌}
use mathlib.Core.List.{List, ◌∷◌, ◌++◌}
use Prim.Native.Nat.{ℕ, zero, suc, ◌+◌, ◌-◌, ◌*◌, ◌/◌, ◌%◌, ◌≤◌, ◌<◌}
use native.Mathlib.Omega.{arith}
use borrow.Author.Tests.{eq-eqb, ne_eqb, le-leb, lt-leb, leb-true, eqb-true}
use lib.Dec.{eqb, leb}
use lib.ListN.{length, set, drop, replicate, length-append, length-drop, length-replicate}
use lib.Seq.{sets, take_at}
use Rattle.document.specs.Numbers.{taken, state_refused, memory_refused, list_refused}
use Rattle.document.specs.Areas.{memory_end}
use Rattle.document.specs.Tables.{most_tables, pair_size, tables_in, are_tables_good, is_list_good}
use Rattle.document.proofs.Cases.{split, and_left, and_right}
use Rattle.document.specs.Bytes.{AllBytes}
use Rattle.tables_state.specs.State as tables
use Rattle.tables_state.specs.State.{list_length, tables_of, registered_list}
use Rattle.state_parts.specs.Within.{TablesWithin}
use Rattle.state_parts.proofs.ByteLaws.{all_append, all_drop, all_zeros}
use Rattle.state_parts.specs.Bounds.{fresh_with}
use Rattle.state_block.specs.Places.{tables_place, list_place, state_length}
use Rattle.state_block.specs.Layout.{encoded_receiver, encoded_scope, encoded_run, encoded_recorder, encoded_application, encoded_tables, encoded}
use Rattle.state_block.proofs.Parts.{sets_two}
use Rattle.call_register.specs.Promises.{register_number, RegisterDone}

-- ---- the stores

abbrev zeros : ℕ → List ℕ
zeros n = replicate n 0

zeros_behind : (n m : ℕ) → drop n (zeros m) ≡ zeros (m - n)
zeros_behind zero m = let e : m ≡ m - 0 = omega arith in ap zeros e
zeros_behind (suc n) zero = let e : 0 ≡ 0 - suc n = omega arith in ap zeros e
zeros_behind (suc n) (suc m) = let e : m - n ≡ suc m - suc n = omega arith in zeros_behind n m ∙ ap zeros e

-- in front of the tables all is zero
fresh_front : (list : List ℕ)
    → encoded (fresh_with (registered_list list)) ≡ replicate tables_place 0 ++ (length list / pair_size ∷ (list ++ drop (length list) (replicate list_length 0)))
unfolding encoded_receiver encoded_scope encoded_recorder encoded_run encoded_application encoded_tables
fresh_front list = refl

pub reset_stored : (block list : List ℕ) → length list ≤ list_length → (n end left : ℕ) → n ≡ length list / pair_size → end ≡ list_place + length list → left ≡ state_length - end
    → sets (sets (set (sets block 0 (replicate tables_place 0)) tables_place n) list_place list) end (replicate left 0)
    ≡ sets block 0 (encoded (fresh_with (registered_list list)))
reset_stored block list few n end left counted from to =
    let count : ℕ = length list / pair_size in
    let front : List ℕ = sets block 0 (replicate tables_place 0) in
    let rest : left ≡ list_length - length list = omega (arith, from, to) in
    let behind : zeros left ≡ drop (length list) (zeros list_length) =
    ap zeros rest ∙ sym (zeros_behind (length list) list_length) in
    (λ i. sets (sets (set front tables_place (counted i)) list_place list) (from i) (behind i))
    ∙ sym (sets_two (set front tables_place count) list (drop (length list) (replicate list_length 0)) list_place (length list) (list_place + length list) refl refl)
    ∙ sym (sets_two block (replicate tables_place 0) (count ∷ (list ++ drop (length list) (replicate list_length 0))) 0 tables_place tables_place (length-replicate {A = ℕ} tables_place 0) refl)
    ∙ ap (sets block 0) (sym (fresh_front list))

-- ---- the numbers

module _ (block memory list : List ℕ) where
  pub too_short : length block < state_length → state_refused ≡ register_number block memory list
  too_short h = rw (lt-leb state_length (length block) h) refl

  module _ (long : state_length ≤ length block) where
    pub other_memory : (length memory ≡ memory_end → ⊥) → memory_refused ≡ register_number block memory list
    other_memory h = rw (le-leb state_length (length block) long, ne_eqb (length memory) memory_end h) refl

    module _ (whole : length memory ≡ memory_end) where
      pub good_list : is_list_good memory list ≡ true → taken ≡ register_number block memory list
      good_list good = rw (le-leb state_length (length block) long, eq-eqb (length memory) memory_end whole, good) refl

      pub bad_list : is_list_good memory list ≡ false → list_refused ≡ register_number block memory list
      bad_list bad = rw (le-leb state_length (length block) long, eq-eqb (length memory) memory_end whole, bad) refl

-- a good list has room
pub good_few : (memory list : List ℕ) → is_list_good memory list ≡ true → length list ≤ list_length
unfolding is_list_good
good_few memory list good =
    leb-true (length list) list_length (and_left (leb (length list) list_length) _ (and_left (leb (length list) list_length && _) (are_tables_good memory (tables_in list)) good))

-- ---- what is registered

module _ (memory list : List ℕ) (good : is_list_good memory list ≡ true) where
  whole_pairs : length list / pair_size * pair_size ≡ length list
  unfolding is_list_good
  whole_pairs =
      let few = leb (length list) list_length in
      omega (arith, eqb-true (length list % pair_size) 0 (and_right few (eqb (length list % pair_size) 0) (and_left (few && eqb (length list % pair_size) 0) (are_tables_good memory (tables_in list)) good)))

  -- the tables of the list
  pub registered_tables : tables_of (registered_list list) ≡ tables_in list
  registered_tables = ap tables_in (take_at list (drop (length list) (zeros list_length)) (length list / pair_size * pair_size) (sym whole_pairs))

  pub registered_within : AllBytes list → TablesWithin (registered_list list)
  unfolding tables.sound
  registered_within all =
      let few = good_few memory list good in
      record {
        sound = le-leb (length list / pair_size) most_tables (omega (arith, few));
        size = simp (length-append, length-drop, length-replicate) (omega (arith, few));
        bytes = all_append list (drop (length list) (zeros list_length)) all (all_drop (length list) (zeros list_length) (all_zeros list_length));
      }

-- ---- where nothing refuses it

pub record Good (block memory list : List ℕ) : Type 0 where
  pub long : state_length ≤ length block
  pub whole : length memory ≡ memory_end
  pub good : is_list_good memory list ≡ true

pub taken_good : (block memory list : List ℕ) → register_number block memory list ≡ taken → Good block memory list
taken_good block memory list fine =
    split (leb state_length (length block))
    (λ long. split (eqb (length memory) memory_end)
    (λ whole. split (is_list_good memory list)
    (λ good. record { long = leb-true state_length (length block) long; whole = eqb-true (length memory) memory_end whole; good = good })
    (λ bad. let x : ⊥ = omega (arith, rw (long, whole, bad) at fine) in absurd x))
    (λ other. let x : ⊥ = omega (arith, rw (long, other) at fine) in absurd x))
    (λ short. let x : ⊥ = omega (arith, rw short at fine) in absurd x)

module _ (block memory list : List ℕ) where
  pub register_refused : (k : ℕ) → k ≡ register_number block memory list → (k ≡ taken → ⊥) → RegisterDone block memory list k block
  register_refused k e some =
      let refused = ne_eqb (register_number block memory list) taken (λ z. some (e ∙ z)) in
      record { number = e; state = rw refused refl }

  pub register_taken : register_number block memory list ≡ taken → (after : List ℕ) → after ≡ sets block 0 (encoded (fresh_with (registered_list list)))
      → RegisterDone block memory list taken after
  register_taken fine after stored =
      let none = eq-eqb (register_number block memory list) taken fine in
      record { number = sym fine; state = rw none stored }
