-- The law of request 2026-03: following 0x11, 0x01 and 0xD4 as source document 000 lists the steps yields each entry in the memory, with
-- its name and its type.
use mathlib.Core.Path.{◌≡◌, refl, ap, ◌∙◌}
use mathlib.Core.Bool.{true}
use mathlib.Core.List.{List, [], ◌∷◌, map}
use Prim.Native.Nat.{ℕ, zero, suc, ◌+◌, ◌*◌, ◌/◌, ◌<◌, ◌≤◌}
use native.Mathlib.Nat.{add-zero}
use native.Mathlib.Omega.{arith}
use lib.ListN.{length, get_or, take, drop}
use lib.Seq.{take-take, drop-drop, get_or-drop}
use Rattle.document.specs.Bytes.{AllBytes}
use Rattle.document.specs.Areas.{memory_end, bytes_at}
use Rattle.document.specs.Values.{number}
use Rattle.document.specs.Tables.{Table, most_tables, entry_size, is_place_good}
use Rattle.document.specs.Gate.{Gate}
use Rattle.document.proofs.Bytes.{each_a_byte}
use Rattle.document.proofs.Cases.{both}
use Rattle.laws_names.specs.Names.{string_at, named_at, names_at, names_of, names_in, are_places_good}
use Rattle.laws_names.specs.Steps.{string_read, parameter_in, named_in, piece_read, names_asked, table_read, most_looks, names_read}
use Rattle.laws_names.proofs.Asked.{piece_read_lem}
use Rattle.laws_names.proofs.Strings.{string_read_lem}
use Rattle.laws_names.proofs.Tables.{Place, place, tables_told}

-- two bytes hold a number of 16 bits
two_bytes : (l : List ℕ) → ((i : ℕ) → get_or l i 0 < 256) → number (take 2 l) < 65536
two_bytes [] small = omega arith
two_bytes (a ∷ []) small = omega (arith, small 0)
two_bytes (a ∷ b ∷ l) small = omega (arith, small 0, small 1)

-- two bytes of a piece are those of the whole
two_of_piece : (place n : ℕ) (l : List ℕ) → place + 2 ≤ n → take 2 (drop place (take n l)) ≡ take 2 (drop place l)
two_of_piece zero n l inside = take-take 2 n l (omega arith)
two_of_piece (suc place) zero l inside = let z : ⊥ = omega arith in absurd z
two_of_piece (suc place) (suc n) [] inside = refl
two_of_piece (suc place) (suc n) (b ∷ l) inside = two_of_piece place n l (omega arith)

module _ (g : Gate) (whole : length g.memory ≡ memory_end) (bytes : AllBytes g.memory) where
  pointer : (entry : ℕ) → number (bytes_at g.memory entry 2) < 65536
  pointer entry =
      two_bytes (drop entry g.memory) (λ i. rw (get_or-drop entry g.memory i 0) (each_a_byte g.memory bytes (entry + i)))

  -- a parameter of an entry that was read, and its place in the memory
  word_read : (entry place : ℕ) → place + 2 ≤ entry_size → parameter_in (bytes_at g.memory entry entry_size) place ≡ number (bytes_at g.memory (entry + place) 2)
  word_read entry place inside =
      ap number (two_of_piece place entry_size (drop entry g.memory) inside ∙ ap (take 2) (drop-drop place entry g.memory))

  string_at_lem : (entry place : ℕ) → place + 2 ≤ entry_size → string_read g (parameter_in (bytes_at g.memory entry entry_size) place) ≡ string_at g.memory (number (bytes_at g.memory (entry + place) 2))
  string_at_lem entry place inside =
      ap (string_read g) (word_read entry place inside) ∙ string_read_lem g whole (number (bytes_at g.memory (entry + place) 2)) (pointer (entry + place))

  -- an entry, of which the two strings are read too
  entry_read : (entry : ℕ) → entry + entry_size ≤ memory_end → named_in g (piece_read g entry 8) ≡ named_at g.memory entry
  entry_read entry inside =
      let first : entry + 0 ≡ entry = add-zero entry in
      ap (named_in g) (piece_read_lem g entry 8 (omega arith) (omega arith) inside)
      ∙ (λ i.
      record {
        name = (string_at_lem entry 0 (omega arith) ∙ ap (λ (a : ℕ). string_at g.memory (number (bytes_at g.memory a 2))) first) i;
        type = string_at_lem entry 2 (omega arith) i;
        address = word_read entry 4 (omega arith) i;
        info = word_read entry 6 (omega arith) i;
      })

  entries_read : (n entry : ℕ) → entry + n * entry_size ≤ memory_end → names_asked g entry n ≡ names_at g.memory entry n
  entries_read zero entry inside = refl
  entries_read (suc n) entry inside =
      λ i. entry_read entry (omega arith) i ∷ entries_read n (entry + entry_size) (omega arith) i

  table_read_lem : (t : Table) → Place t → table_read g t ≡ names_of g.memory t
  table_read_lem t p = entries_read (t.size / entry_size) t.address (omega (arith, p.ends))

  tables_read_lem : (ts : List Table) → are_places_good ts ≡ true → map (table_read g) ts ≡ map (names_of g.memory) ts
  tables_read_lem [] good = refl
  tables_read_lem (t ∷ ts) good =
      let each = both (is_place_good t) (are_places_good ts) good in
      λ i. table_read_lem t (place t each.0) i ∷ tables_read_lem ts each.1 i

  pub names_found : length g.tables ≤ most_tables → are_places_good g.tables ≡ true → names_read g ≡ names_in g.memory g.tables
  unfolding names_read names_in
  names_found few good = ap (map (table_read g)) (tables_told g few good most_looks (omega arith)) ∙ tables_read_lem g.tables good
