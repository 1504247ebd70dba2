-- Row by row: a search from here on finds what a search of the whole table finds.
use mathlib.Core.Path.{◌≡◌}
use Rattle.document.specs.BaseTypes.{size_of_code}
use Rattle.tables_base_types.proofs.Search.{found}
use Rattle.tables_base_types.proofs.size_of.Given as goal

abbrev pub invariant-loop-base : goal.invariant-loop-base
invariant-loop-base l = found l.code l.base-index ≡ size_of_code l.code
