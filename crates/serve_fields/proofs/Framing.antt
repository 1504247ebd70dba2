-- A command with a size of its own is fast, and its code gives a length that holds its fields: one test over the 256 commands.
use mathlib.Core.Path.{◌≡◌, refl}
use mathlib.Core.Bool.{Bool, true, false, not, ◌&&◌, ◌||◌}
use mathlib.Core.List.{List}
use Prim.Native.Nat.{ℕ, ◌+◌, ◌*◌, ◌<◌}
use borrow.Author.Tests.{eqb-true, leb-true, not-true}
use lib.Dec.{leb}
use lib.ListN.{length}
use Rattle.document.specs.Services.{service_of}
use Rattle.document.specs.Kinds.{has_length_byte, fast_length}
use Rattle.document.specs.Message.{length_fits}
use Rattle.document.specs.Fields.{has_size, data_place}
use Rattle.document.specs.declared.Service.{Service}
use Rattle.document.proofs.Cases.{both}
use Rattle.codes_table.proofs.Entries.{same_rule}
use Rattle.document_outcomes.specs.Changes.{change_of}
use Rattle.serve_fields.specs.Framed.{parts_of, Framed}

abbrev fields_end : Service → ℕ
fields_end s = data_place s + parts_of (change_of s.operation) * s.size

abbrev roomy : ℕ → Bool
roomy c = has_size (service_of c) || (not (has_length_byte c) && leb (fields_end (service_of c)) (fast_length c))

all_roomy : (c : ℕ) → c < 256 → roomy c ≡ true
unfolding service_of
all_roomy c small = same_rule roomy (λ (k : ℕ). true) false 256 c refl small

other : (a b : Bool) → a ≡ false → (a || b) ≡ true → b ≡ true
other a b fails either = rw fails at either

pub framed : (c : ℕ) (body : List ℕ) → c < 256 → length_fits c (length body) ≡ true → Framed (service_of c) body
framed c body small formed unsized =
    let t = both (not (has_length_byte c)) _ (other (has_size (service_of c)) _ unsized (all_roomy c small)) in
    let given : length body ≡ fast_length c = eqb-true _ _ (rw (not-true (has_length_byte c) t.0) at formed) in
    rw given (leb-true (fields_end (service_of c)) (fast_length c) t.1)
