-- What the gate answers to the three commands of the steps, and that it stays as it was.
use mathlib.Core.Path.{◌≡◌, refl, ap, ◌∙◌}
use mathlib.Core.Bool.{true, false, cond, ◌&&◌}
use mathlib.Core.List.{List, [], ◌∷◌, ◌++◌}
use Prim.Native.Nat.{ℕ, ◌+◌, ◌<◌, ◌≤◌}
use native.Mathlib.Omega.{arith}
use native.Mathlib.Numerals.{add-one}
use borrow.Author.Tests.{ne_eqb, le-ltb, le-leb}
use lib.Dec.{ltb}
use lib.ListN.{length}
use Rattle.document.specs.Numbers.{most_data, done}
use Rattle.document.specs.Areas.{memory_end, bytes_at}
use Rattle.document.specs.Values.{number, little_endian}
use Rattle.document.specs.Strings.{string_length, string_ends}
use Rattle.document.specs.Tables.{table_answer}
use Rattle.document.specs.Message.{length_part, summed, well_formed}
use Rattle.document.specs.Services.{service_of}
use Rattle.document.specs.Gate.{Gate, Outcome}
use Rattle.document.specs.Commands.{served, answered}
use Rattle.document.proofs.Cases.{split}
use Rattle.document.proofs.Values.{number_back}
use Rattle.line_wire.proofs.RightSum.{adds_up_lem}
use Rattle.document_outcomes.proofs.Answered.{answered_served, answered_gate}
use Rattle.laws_names.specs.Steps.{asked, received, piece_read}

-- ---- the messages can be sent

pub well_formed_lem : (size x : ℕ)
    → (well_formed (summed 0x11 (little_endian 2 x)) ≡ true)
    × (well_formed (summed 0x01 (size ∷ little_endian 2 x)) ≡ true)
    × (well_formed (summed 0xD4 (little_endian 2 x)) ≡ true)
unfolding well_formed
well_formed_lem size x = (refl, refl, refl)

module _ (g : Gate) where
  -- ---- none changes the gate

  pub gate_stays : (body : List ℕ)
      → ((answered g (summed 0x11 body)).gate ≡ g)
      × ((answered g (summed 0x01 body)).gate ≡ g)
      × ((answered g (summed 0xD4 body)).gate ≡ g)
  unfolding service_of
  gate_stays body = (
    answered_gate g (summed 0x11 body) (λ (q : Gate). q ≡ g) refl (λ accepted. refl),
    answered_gate g (summed 0x01 body) (λ (q : Gate). q ≡ g) refl (λ accepted. refl),
    answered_gate g (summed 0xD4 body) (λ (q : Gate). q ≡ g) refl (λ accepted. refl),
  )

  -- ---- the answers

  as_served : (command : ℕ) (body : List ℕ) → ltb most_data (length body) ≡ false
      → asked g command body ≡ (served g (service_of command) body).answer
  unfolding asked
  as_served command body short =
      ap (λ (o : Outcome). o.answer) (answered_served g (summed command body) (adds_up_lem (command ∷ length_part command body ++ body)) short)

  -- never refused: six bytes of a table, or six zeros
  pub table_answered : (index : ℕ) → index < 65536
      → asked g 0x11 (little_endian 2 index) ≡ record { status = done; body = table_answer g.tables index }
  unfolding served service_of
  table_answered index fits =
      as_served 0x11 (little_endian 2 index) refl
      ∙ (λ i. record { status = done; body = table_answer g.tables (number_back 2 index fits i) })

  -- a piece of 1 to 64 bytes inside memory
  pub piece_read_lem : (address size : ℕ) → 0 < size → size ≤ most_data → address + size ≤ memory_end
      → piece_read g address size ≡ bytes_at g.memory address size
  unfolding served service_of
  piece_read_lem address size some few inside =
      let back : number (little_endian 2 address) ≡ address = number_back 2 address (omega arith) in
      let e : size ≡ 0 → ⊥ = λ z. omega arith in
      ap received (as_served 0x01 (size ∷ little_endian 2 address) refl)
      ∙ rw (ne_eqb size 0 e, le-ltb most_data size few, back, le-leb (address + size) memory_end inside) refl

  -- a length where the string begins in memory and ends there, nothing where it does not
  pub length_answered : (address : ℕ) → address < 65536
      → received (asked g 0xD4 (little_endian 2 address))
      ≡ cond (ltb address memory_end && string_ends g.memory address) (little_endian 2 (string_length g.memory address)) []
  unfolding served service_of
  length_answered address fits =
      let back : number (little_endian 2 address) ≡ address = number_back 2 address fits in
      ap received (as_served 0xD4 (little_endian 2 address) refl)
      ∙ rw (back, add-one address)
      (split (ltb address memory_end)
      (λ inside. rw inside
      (split (string_ends g.memory address)
      (λ ends. rw ends refl)
      (λ on. rw on refl)))
      (λ outside. rw outside refl))
