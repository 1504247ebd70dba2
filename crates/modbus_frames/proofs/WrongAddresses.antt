-- What a write without exception 2 keeps to.
use mathlib.Core.Path.{◌≡◌}
use mathlib.Core.Bool.{false, not}
use mathlib.Core.List.{List}
use Prim.Native.Nat.{ℕ, ◌+◌, ◌*◌, ◌≤◌}
use borrow.Author.Tests.{leb-true, not-false}
use lib.Dec.{leb}
use Rattle.document.specs.Areas.{variables_end}
use Rattle.document.specs.Gate.{fresh}
use Rattle.document.specs.Permission.{may_be_written}
use Rattle.document.specs.Frames.{first_in}

-- where a write has no exception 2, it ends below the end of the variables
pub writes_below : (frame memory : List ℕ) (size : ℕ) → not (may_be_written (fresh memory) (2 * first_in frame) size) ≡ false → 2 * first_in frame + size ≤ variables_end
unfolding may_be_written
writes_below frame memory size may =
    leb-true (2 * first_in frame + size) variables_end (not-false (leb (2 * first_in frame + size) variables_end) may)
