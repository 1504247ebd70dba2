-- Each promise settles its call: the outcome is the table's. So two outcomes of one promise are equal, and a refusal changes nothing.
use mathlib.Core.Path.{◌≡◌, refl, sym, ap, ◌∙◌}
use mathlib.Core.Bool.{Bool, true, false, cond}
use mathlib.Core.List.{[], ◌∷◌}
use Prim.Native.Nat.{ℕ}
use borrow.Author.Tests.{eqb-true, eq-eqb, ne_eqb}
use lib.Dec.{eqb, leb}
use lib.ListN.{length}
use Rattle.document.specs.Numbers.{taken, state_refused}
use Rattle.document.proofs.Cases.{split}
use Rattle.line_wire.specs.declared.Written.{Written}
use Rattle.call_application.specs.declared.Collected.{Collected}
use Rattle.state_block.specs.Places.{state_length}
use Rattle.call_panel.specs.declared.Said.{Said}
use Rattle.call_byte.specs.declared.Taken.{Taken}
use Rattle.call_block.specs.declared.BlockTaken.{BlockTaken}
use Rattle.laws_calls.specs.Calls.{Call, Lent, Left, Outcome, number_of, leaves, kept, outcome, CallRefused}
use Rattle.laws_calls.specs.Promised.{Promised}
use Rattle.laws_calls.specs.Promised.Promised.{by_byte, by_block, by_tick, by_collect, by_report, by_prepare, by_start, by_modbus, by_register, by_reset}

-- ---- by a test

-- a part of what is left
part : {A B : Type 0} (f : A → B) (t : Bool) (x y z : A) → x ≡ cond t y z → f x ≡ cond t (f y) (f z)
part f true x y z e = ap f e
part f false x y z e = ap f e

-- what is neither lent nor looked at
unlent : {A : Type 0} (t : Bool) (x : A) → x ≡ cond t x x
unlent true x = refl
unlent false x = refl

-- a test and the number by which it is told
decided : {A : Type 0} (t : Bool) (x y : A) → cond t x y ≡ cond (eqb (cond t taken state_refused) taken) x y
decided true x y = refl
decided false x y = refl

settles : (t : Bool) (x given stayed : Left) → x.said ≡ cond t given.said stayed.said → x.block ≡ cond t given.block stayed.block
    → x.memory ≡ cond t given.memory stayed.memory → x.buffer ≡ cond t given.buffer stayed.buffer → x ≡ cond t given stayed
settles true x given stayed said block memory buffer = λ j. record { said = said j; block = block j; memory = memory j; buffer = buffer j }
settles false x given stayed said block memory buffer = λ j. record { said = said j; block = block j; memory = memory j; buffer = buffer j }

-- ---- the tie of each promise to the table

module _ (l : Lent) where
  module _ (c : Call) where
    abbrev refusal : ℕ
    refusal = number_of c l

    abbrev fine : Bool
    fine = eqb (number_of c l) taken

    done : (number : ℕ) (x : Left) → number ≡ refusal → x.said ≡ cond fine (leaves c l).said (kept c l).said
        → x.block ≡ cond fine (leaves c l).block l.block → x.memory ≡ cond fine (leaves c l).memory l.memory
        → x.buffer ≡ cond fine (leaves c l).buffer l.buffer → record { number = number; left = x } ≡ outcome c l
    done number x is said block memory buffer =
        λ j. record { number = is j; left = settles fine x (leaves c l) (kept c l) said block memory buffer j }

    -- a result of which this is the number
    number_in : {R : Type 0} (f : R → ℕ) (r given stayed : R) → f given ≡ taken → f stayed ≡ refusal → r ≡ cond fine given stayed → f r ≡ refusal
    number_in f r given stayed right other e =
        split fine (λ t. ap f (e ∙ rw t refl) ∙ right ∙ sym (eqb-true refusal taken t)) (λ no_more. ap f (e ∙ rw no_more refl) ∙ other)

  pub settled : (c : Call) (o : Outcome) → Promised l c o → o ≡ outcome c l
  settled c o (by_byte b r after left told p) =
      done c r.refusal o.left (number_in c (λ (x : Taken). x.refusal) r _ _ refl refl p.result)
      (part (λ (x : Taken). x.length ∷ []) (fine c) r _ _ p.result) p.state p.memory_left p.buffer_told
  settled c o (by_block bytes r after left told p) =
      done c r.refusal o.left (number_in c (λ (x : BlockTaken). x.refusal) r _ _ refl refl p.result)
      (part (λ (x : BlockTaken). x.taken ∷ x.written ∷ []) (fine c) r _ _ p.result) p.state p.memory_left p.buffer_told
  settled c o (by_tick r after left p) = done c r o.left p.result (unlent (fine c) []) p.state p.memory_left (unlent (fine c) l.buffer)
  settled c o (by_collect r after told p) =
      done c r.refusal o.left (number_in c (λ (x : Collected). x.refusal) r _ _ refl refl p.result)
      (part (λ (x : Collected). x.length ∷ []) (fine c) r _ _ p.result) p.state (unlent (fine c) l.memory) p.buffer_told
  settled c o (by_report result r after p) =
      done c r o.left p.number (unlent (fine c) []) p.state (unlent (fine c) l.memory) (unlent (fine c) l.buffer)
  settled c o (by_prepare setup r after p) =
      done c r.refusal o.left (number_in c (λ (x : Said). x.refusal) r _ _ refl refl (p.result []))
      (part (λ (x : Said). x.status ∷ []) (fine c) r _ _ (p.result [])) p.state (unlent (fine c) l.memory) (unlent (fine c) l.buffer)
  settled c o (by_start r after p) =
      done c r.refusal o.left (number_in c (λ (x : Said). x.refusal) r _ _ refl refl (p.result []))
      (part (λ (x : Said). x.status ∷ []) (fine c) r _ _ (p.result [])) p.state (unlent (fine c) l.memory) (unlent (fine c) l.buffer)
  settled c o (by_modbus station bytes r left told p) =
      done c r.refusal o.left (number_in c (λ (x : Written). x.refusal) r _ _ refl refl p.result)
      (part (λ (x : Written). x.length ∷ []) (fine c) r _ _ p.result) (unlent (fine c) l.block) p.memory_left p.buffer_told
  settled c o (by_register list r after p) =
      done c r o.left p.number (unlent (fine c) []) p.state (unlent (fine c) l.memory) (unlent (fine c) l.buffer)
  settled c o (by_reset r after p) =
      done c r o.left p.result (unlent (fine c) []) (p.state ∙ decided (leb state_length (length l.block)) _ _) (unlent (fine c) l.memory) (unlent (fine c) l.buffer)

  -- ---- what follows, of every call

  -- "show that two outcomes allowed by one promise are equal": the result and every lent byte
  pub one_outcome : (c : Call) (o k : Outcome) → Promised l c o → Promised l c k → o ≡ k
  one_outcome c o k p q = settled c o p ∙ sym (settled c k q)

  pub taken_leaves : (c : Call) (o : Outcome) → Promised l c o → o.number ≡ taken → o.left ≡ leaves c l
  taken_leaves c o p right =
      let same = settled c o p in
      let number : number_of c l ≡ taken = sym (ap (λ (x : Outcome). x.number) same) ∙ right in
      ap (λ (x : Outcome). x.left) same ∙ ap (λ (t : Bool). cond t (leaves c l) (kept c l)) (eq-eqb (number_of c l) taken number)

  pub call_refused : (c : Call) (o : Outcome) → Promised l c o → CallRefused c l o
  call_refused c o p =
      let same = settled c o p in
      let number = ap (λ (x : Outcome). x.number) same in
      record {
        number = number;
        unchanged = λ other.
            ap (λ (x : Outcome). x.left) same
            ∙ ap (λ (t : Bool). cond t (leaves c l) (kept c l)) (ne_eqb (number_of c l) taken (λ right. other (number ∙ right)));
      }
