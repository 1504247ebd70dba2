-- Stores: plain and masked.
use Rattle.std.specs.Prelude.{cond, List, [], ◌∷◌, ℕ, zero, suc, ◌+◌, ◌*◌, ◌/◌, ◌%◌, length, eqb}
use Rattle.std.proofs.lemmas.List.Edits.{sets}
use Rattle.document.specs.Areas.{bytes_at}

-- the bytes from an address on; every other byte stays
abbrev pub stored : List ℕ → ℕ → List ℕ → List ℕ
stored memory address bytes = sets memory address bytes

-- "A bit set in the mask takes the value's bit; every other bit stays.": the k low bits, lowest first
abbrev pub masked : ℕ → ℕ → ℕ → ℕ → ℕ
masked zero old value mask = 0
masked (suc k) old value mask =
    cond (eqb (mask % 2) 1) (value % 2) (old % 2) + 2 * masked k (old / 2) (value / 2) (mask / 2)

-- byte by byte, "then as many mask bytes"
abbrev pub masked_bytes : List ℕ → List ℕ → List ℕ → List ℕ
masked_bytes [] vs ms = []
masked_bytes (o ∷ os) [] ms = []
masked_bytes (o ∷ os) (v ∷ vs) [] = []
masked_bytes (o ∷ os) (v ∷ vs) (m ∷ ms) = masked 8 o v m ∷ masked_bytes os vs ms

abbrev pub mask_stored : List ℕ → ℕ → List ℕ → List ℕ → List ℕ
mask_stored memory address values masks =
    stored memory address (masked_bytes (bytes_at memory address (length values)) values masks)
