-- An arm of the dispatch: what its operation promises, with the operation known, is what its service does.
use mathlib.Core.Path.{◌≡◌, refl, sym, ap, subst, ◌∙◌}
use mathlib.Core.List.{List}
use Prim.Native.Nat.{ℕ, ◌<◌, ◌≤◌}
use lib.ListN.{length, get_or}
use Rattle.document.specs.Numbers.{not_served}
use Rattle.document.specs.Gate.{Gate}
use Rattle.document.specs.Commands.{served}
use Rattle.document.specs.declared.Operation.{Operation}
use Rattle.document.specs.declared.Operation.TheVariants.{Unserved}
use Rattle.document.specs.declared.Service.{Service}
use Rattle.line_wire.specs.Told.{Told}
use Rattle.line_wire.proofs.Writing.{told_as}
use Rattle.document_outcomes.specs.Known.{known_as}
use Rattle.document_outcomes.specs.Changes.{Change, change_of}
use Rattle.document_outcomes.specs.Changes.Change.{nothing}
use Rattle.document_outcomes.proofs.Served.{served_same}
use Rattle.serve_writes.specs.Wrote.{Wrote}
use Rattle.state_parts.specs.State.{Instruments, gate_of}
use Rattle.state_byte.specs.After.{instruments_changed, instruments_after}
use Rattle.state_block.specs.Places.{state_length}
use Rattle.state_block.specs.Layout.{decoded_instruments}
use Rattle.serve_recorder.specs.Operates.{status_alone, Settles, Operates}
use Rattle.serve_recorder.proofs.Changing.{same_block}

-- what a dispatch is asked
pub record Asked : Type 0 where
  pub service : Service
  pub block : List ℕ
  pub long : state_length ≤ length block
  pub small : (i : ℕ) → get_or block i 0 < 256
  pub body : List ℕ
  pub memory : List ℕ

module _ (q : Asked) where
  abbrev s : Service
  s = q.service

  abbrev block : List ℕ
  block = q.block

  abbrev i : Instruments
  i = decoded_instruments q.block

  abbrev body : List ℕ
  body = q.body

  abbrev g : Gate
  g = gate_of i q.memory

  module _ (o : Operation) (is : s.operation ≡ o) where
    same : known_as o s ≡ s
    same j = record { operation = sym is j; ex = s.ex; size = s.size }

    -- ---- the answer is told

    -- one that changes nothing
    pub tells : change_of o ≡ nothing → {out : List ℕ} {n : ℕ} {sent : List ℕ} → Told (served g (known_as o s) body).answer out n sent
        → Operates (served g s body) (instruments_after s.operation i s body) block out n sent block q.memory
    tells none {out} {n} {sent} told =
        subst (λ (t : Service). Operates (served g t body) (instruments_after t.operation i t body) block out n sent block q.memory) same
        (record {
          told = told;
          memory = ap (λ (t : Gate). t.memory) (sym (served_same g (known_as o s) body none));
          kept = same_block block q.long q.small _ (ap (λ (c : Change). instruments_changed c i (known_as o s) body) (sym none));
        })

    -- ---- a status is to be told

    pub settles : (status : ℕ) (after left : List ℕ) → Settles (served g (known_as o s) body) (instruments_after o i (known_as o s) body) block status after left
        → Settles (served g s body) (instruments_after s.operation i s body) block status after left
    settles status after left done =
        subst (λ (t : Service). Settles (served g t body) (instruments_after t.operation i t body) block status after left) same done

    -- one that changes nothing
    pub says : change_of o ≡ nothing → (status : ℕ) → status_alone status ≡ (served g (known_as o s) body).answer
        → Settles (served g s body) (instruments_after s.operation i s body) block status block q.memory
    says none status said =
        settles status block q.memory
        (record {
          answer = said;
          memory = ap (λ (t : Gate). t.memory) (sym (served_same g (known_as o s) body none));
          kept = same_block block q.long q.small _ (ap (λ (c : Change). instruments_changed c i (known_as o s) body) (sym none));
        })

    -- one that writes
    pub wrote : i ≡ instruments_after o i (known_as o s) body → (status : ℕ) (left : List ℕ) → Wrote (served g (known_as o s) body) status left
        → Settles (served g s body) (instruments_after s.operation i s body) block status block left
    wrote kept status left written =
        settles status block left
        (record { answer = sym written.answer; memory = written.memory; kept = same_block block q.long q.small _ kept })

  -- where the arms meet
  pub met : {status : ℕ} {after left : List ℕ} {r : ℕ} {a l : List ℕ} → status ≡ r → after ≡ a → left ≡ l
      → Settles (served g s body) (instruments_after s.operation i s body) block r a l
      → Settles (served g s body) (instruments_after s.operation i s body) block status after left
  met e f h done = record { answer = ap status_alone e ∙ done.answer; memory = h ∙ done.memory; kept = f ∙ done.kept }

  -- the status is told
  pub settled_told : (status : ℕ) {after left out : List ℕ} {n : ℕ} {sent : List ℕ} → Settles (served g s body) (instruments_after s.operation i s body) block status after left
      → Told (status_alone status) out n sent → Operates (served g s body) (instruments_after s.operation i s body) block out n sent after left
  settled_told status done told =
      record { told = told_as (status_alone status) _ done.answer told; memory = done.memory; kept = done.kept }

-- "not served"
pub unserved_says : (g : Gate) (s : Service) (body : List ℕ) → status_alone not_served ≡ (served g (known_as Unserved s) body).answer
unfolding served
unserved_says g s body = refl
