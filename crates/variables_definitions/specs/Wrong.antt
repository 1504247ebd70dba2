-- "the first that applies in this order", of the three that every setup knows.
use Rattle.std.specs.Prelude.{Bool, [], ◌∷◌, ℕ}
use Rattle.document.specs.Numbers.{layout_wrong, size_wrong, range_wrong}
use Rattle.document.specs.Refusals.{when, first_of}

abbrev pub first_wrong : Bool → Bool → Bool → ℕ
first_wrong layout size range = first_of (when layout_wrong layout ∷ when size_wrong size ∷ when range_wrong range ∷ [])
