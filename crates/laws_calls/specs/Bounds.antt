-- "1 a state outside the bounds listed in docs/, which no state handed out ever is": of whatever block a call was lent, reached since a
-- reset or kept elsewhere and checked.
use Rattle.std.specs.Prelude.{◌≡◌, true}
use Rattle.document.specs.Bytes.{AllBytes}
use Rattle.document.specs.Numbers.{taken}
use Rattle.call_checks.specs.Promises.{block_sound}
use Rattle.laws_calls.specs.Calls.{Call, Lent, Outcome, row}

-- what is lent and brought are bytes
pub record BytesLent (c : Call) (l : Lent) : Type 0 where
  pub block : AllBytes l.block
  pub memory : AllBytes l.memory
  pub brought : AllBytes (row c).brings

pub record HandedOut (c : Call) (l : Lent) (o : Outcome) : Type 0 where
  -- refused or not, a state within its bounds is followed by one
  pub sound_stays : block_sound l.block ≡ true → block_sound o.left.block ≡ true
  -- and a call that is taken on a block hands out one, whatever the block was
  pub sound_given : (row c).on_block ≡ true → o.number ≡ taken → block_sound o.left.block ≡ true
