-- What messages and ticks leave of the memory, as the recorder's history and the second port ask it.
use mathlib.Core.Path.{◌≡◌, refl, sym, ap, ◌∙◌}
use mathlib.Core.Bool.{true}
use mathlib.Core.List.{List, [], ◌∷◌}
use Prim.Native.Nat.{ℕ, ◌+◌, ◌≤◌}
use native.Mathlib.Omega.{arith}
use borrow.Author.Tests.{leb-true}
use lib.Dec.{eqb}
use lib.ListN.{length, drop, length-take}
use lib.Seq.{drop-drop}
use Rattle.document.specs.Areas.{variables_end, buffer_begin, bytes_at}
use Rattle.document.specs.Message.{Message}
use Rattle.document.specs.Stores.{stored, masked_bytes}
use Rattle.document.specs.Services.{service_of}
use Rattle.document.specs.Fields.{size_field, address_field, data_field, mask_field}
use Rattle.document.specs.Run.{memory_after_tick, place_begins, set_of}
use Rattle.document.specs.Recorder.{Recorder, ticked_memory}
use Rattle.document.specs.Recorder.Recorder.{absent, planned}
use Rattle.document.specs.Gate.{Gate}
use Rattle.document.specs.Permission.{may_be_written}
use Rattle.document.specs.Commands.{answered}
use Rattle.document.specs.declared.Service.{Service}
use Rattle.document.proofs.Cases.{split}
use Rattle.memory_ranges.proofs.Copies.{stored_length}
use Rattle.memory_ranges.proofs.Stored.{drop_sets}
use Rattle.document_outcomes.proofs.Answered.{answered_memory}

-- ---- what a message leaves behind the variables: all of it
abbrev LeftRest : List ℕ → List ℕ → Type 0
LeftRest before m = (length m ≡ length before) × (drop variables_end m ≡ drop variables_end before)

-- and so the buffer
pub buffer_left : (m before : List ℕ) → drop variables_end m ≡ drop variables_end before → drop buffer_begin m ≡ drop buffer_begin before
buffer_left m before rest =
    let behind : (l : List ℕ) → drop buffer_begin l ≡ drop 4096 (drop variables_end l) = λ l. sym (drop-drop 4096 variables_end l) in
    behind m ∙ ap (drop 4096) rest ∙ sym (behind before)

masked_few : (os vs ms : List ℕ) → length (masked_bytes os vs ms) ≤ length vs
masked_few [] vs ms = omega arith
masked_few (o ∷ os) [] ms = omega arith
masked_few (o ∷ os) (v ∷ vs) [] = omega arith
masked_few (o ∷ os) (v ∷ vs) (m ∷ ms) = omega (arith, masked_few os vs ms)

-- a store that ends where the variables do
store_leaves : (g : Gate) (a n : ℕ) (vs : List ℕ) → may_be_written g a n ≡ true → length vs ≤ n → LeftRest g.memory (stored g.memory a vs)
unfolding may_be_written
store_leaves g a n vs may few =
    let inside : a + n ≤ variables_end = leb-true (a + n) variables_end may in (
      stored_length g.memory (stored g.memory a vs) vs a refl,
      drop_sets vs g.memory a variables_end (omega (arith, inside, few)),
    )

pub message_leaves : (g : Gate) (m : Message) → LeftRest g.memory (answered g m).gate.memory
message_leaves g m =
    answered_memory g m (LeftRest g.memory) (refl, refl)
    (λ may. store_leaves g (address_field s body) (size_field s body) values may few)
    (λ may.
    let old : List ℕ = bytes_at g.memory (address_field s body) (length values) in
    store_leaves g (address_field s body) (size_field s body) (masked_bytes old values (mask_field s body)) may
    (omega (arith, masked_few old values (mask_field s body), few)))
  where
    s : Service
    s = service_of m.command

    body : List ℕ
    body = m.body

    values : List ℕ
    values = data_field s body

    few : length values ≤ size_field s body
    few = simp length-take (omega arith)

-- a tick keeps the memory's length
pub ticked_length : (r : Recorder) (m : List ℕ) → length (ticked_memory r m) ≡ length m
unfolding memory_after_tick
ticked_length absent m = refl
ticked_length (planned p r) m =
    split r.running
    (λ runs. split (eqb r.wait 0)
    (λ due. rw (runs, due) (stored_length m (stored m (place_begins p r.place) (set_of p m)) (set_of p m) (place_begins p r.place) refl))
    (λ waits. rw (runs, waits) refl))
    (λ still. rw still refl)
