-- What 0x11 answers, by the bytes of the block.
use mathlib.Core.Path.{◌≡◌, refl, sym, ap, ◌∙◌}
use mathlib.Core.Bool.{Bool, true, false, ◌&&◌}
use mathlib.Core.List.{List, [], ◌∷◌, ◌++◌}
use Prim.Native.Nat.{ℕ, ◌+◌, ◌*◌, ◌<◌, ◌≤◌}
use native.Mathlib.Omega.{arith}
use borrow.Author.Tests.{eq-eqb, ne_eqb, ltb-true, ltb-false}
use lib.Dec.{ltb}
use lib.ListN.{length, get_or, take, drop, replicate, length-take}
use lib.Seq.{get_or-take, get_or-drop}
use Rattle.document.specs.Numbers.{done, layout_wrong}
use Rattle.document.specs.Areas.{bytes_at}
use Rattle.document.specs.Values.{number, little_endian}
use Rattle.document.specs.Tables.{most_tables, pair_size, table_answer}
use Rattle.document.specs.Gate.{Gate}
use Rattle.document.specs.Commands.{served}
use Rattle.document.specs.declared.Operation.TheVariants.{TellTable}
use Rattle.document.specs.declared.Service.{Service}
use Rattle.document.proofs.Cases.{split, and_left, and_right}
use Rattle.document_outcomes.specs.Known.{known_as}
use Rattle.bytes_fields.proofs.Ranges.{bytes_length}
use Rattle.bytes_fields.proofs.Numbers.{small_part, number_two}
use Rattle.tables_state.specs.State.{list_length, tables_of}
use Rattle.tables_state.proofs.Told.{pair_back, told_there, told_none}
use Rattle.state_block.specs.Places.{list_place, state_length}
use Rattle.state_block.specs.Layout.{decoded_tables}
use Rattle.serve_recorder.specs.Operates.{status_alone}

module _ (block : List ℕ) (index : ℕ) where
  abbrev answer : List ℕ
  answer = table_answer (tables_of (decoded_tables block)) index

  beyond : length (take ((decoded_tables block).count * pair_size) (decoded_tables block).list) < (index + 1) * pair_size → replicate 6 0 ≡ answer
  beyond short = sym (told_none (take ((decoded_tables block).count * pair_size) (decoded_tables block).list) index short)

  abbrev is_listed : Bool
  is_listed = ltb index (decoded_tables block).count && ltb index most_tables

  pub listed_below : is_listed ≡ true → (index < (decoded_tables block).count) × (index < most_tables)
  listed_below e = (
    ltb-true index (decoded_tables block).count (and_left (ltb index (decoded_tables block).count) (ltb index most_tables) e),
    ltb-true index most_tables (and_right (ltb index (decoded_tables block).count) (ltb index most_tables) e),
  )

  module _ (long : state_length ≤ length block) where
    room : length (decoded_tables block).list ≡ list_length
    unfolding decoded_tables
    room = bytes_length block list_place list_length (omega arith)

    -- beyond the last, or beyond what the list has room for
    pub not_listed : is_listed ≡ false → replicate 6 0 ≡ answer
    not_listed e =
        split (ltb index (decoded_tables block).count)
        (λ below. beyond (simp length-take (omega (arith, room, ltb-false index most_tables (rw below at e)))))
        (λ behind. beyond (simp length-take (omega (arith, ltb-false index (decoded_tables block).count behind))))

    module _ (small : (i : ℕ) → get_or block i 0 < 256) (few : index < 16) where
      byte : (k : ℕ) → k < list_length → get_or (decoded_tables block).list k 0 ≡ get_or block (list_place + k) 0
      unfolding decoded_tables
      byte k h = get_or-take list_length (drop list_place block) k 0 h ∙ get_or-drop list_place block k 0

      bytes : (i : ℕ) → get_or (decoded_tables block).list i 0 < 256
      unfolding decoded_tables
      bytes i = small_part block small list_place list_length i

      place : (k j : ℕ) → k ≡ j → get_or block k 0 ≡ get_or block j 0
      place k j e = ap (λ (n : ℕ). get_or block n 0) e

      bytes_at_lem : index < (decoded_tables block).count → (at : ℕ) → at ≡ list_place + index * pair_size
          → 2 ∷ 0 ∷ get_or block (at + 2) 0 ∷ get_or block (at + 2 + 1) 0 ∷ get_or block at 0 ∷ get_or block (at + 1) 0 ∷ [] ≡ answer
      bytes_at_lem h at e =
          let k : ℕ = index * pair_size in
          let b0 = place at (list_place + k) (omega (arith, e)) ∙ sym (byte k (omega arith)) in
          let b1 = place (at + 1) (list_place + (k + 1)) (omega (arith, e)) ∙ sym (byte (k + 1) (omega arith)) in
          let b2 = place (at + 2) (list_place + (k + 2)) (omega (arith, e)) ∙ sym (byte (k + 2) (omega arith)) in
          let b3 = place (at + 2 + 1) (list_place + (k + 3)) (omega (arith, e)) ∙ sym (byte (k + 3) (omega arith)) in
          (λ i. 2 ∷ 0 ∷ b2 i ∷ b3 i ∷ b0 i ∷ b1 i ∷ [])
          ∙ told_there (decoded_tables block).list (decoded_tables block).count index bytes h (omega (arith, room))

      -- a word of the block goes out as it stands there
      word : (p w : ℕ) → p + 2 ≤ length block → w ≡ number (bytes_at block p 2) → little_endian 2 w ≡ get_or block p 0 ∷ get_or block (p + 1) 0 ∷ []
      word p w inside is =
          let value : w ≡ number (get_or block p 0 ∷ get_or block (p + 1) 0 ∷ []) = omega (arith, is, number_two block p inside) in
          ap (little_endian 2) value ∙ pair_back (get_or block p 0) (get_or block (p + 1) 0) (small p) (small (p + 1))

      pub at_index : index < (decoded_tables block).count → (at size address : ℕ) → at ≡ list_place + index * pair_size
          → size ≡ number (bytes_at block (at + 2) 2) → address ≡ number (bytes_at block at 2)
          → little_endian 2 2 ++ (little_endian 2 size ++ little_endian 2 address) ≡ answer
      at_index h at size address e is-size is_Address =
          (λ i. 2 ∷ 0 ∷ (word (at + 2) size (omega (arith, e, long)) is-size i ++ word at address (omega (arith, e, long)) is_Address i))
          ∙ bytes_at_lem h at e

-- ---- 0x11

module _ (g : Gate) (s : Service) (body : List ℕ) where
  pub table_layout : (length body ≡ 2 → ⊥) → status_alone layout_wrong ≡ (served g (known_as TellTable s) body).answer
  unfolding served
  table_layout other = rw (ne_eqb (length body) 2 other) refl

  pub table_told : length body ≡ 2 → record { status = done; body = table_answer g.tables (number body) } ≡ (served g (known_as TellTable s) body).answer
  unfolding served
  table_told two = rw (eq-eqb (length body) 2 two) refl
