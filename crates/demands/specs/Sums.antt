-- "0x82 | the sum is not 0 modulo 256", of a message that is finished between two boards.
use Rattle.std.specs.Prelude.{◌≡◌, false, [], ◌++◌}
use Rattle.document.specs.Numbers.{sum_wrong}
use Rattle.document.specs.Message.{Message, sum_right}
use Rattle.document.specs.Answer.{Answer, answer_on_wire}
use Rattle.demands.specs.Board.{Board}
use Rattle.demands.specs.Applying.{OnlySaid}

abbrev pub sum_answer : Answer
sum_answer = record { status = sum_wrong; body = [] }

-- "Given exactly when"
pub record SumExactly (m : Message) (h next : Board) : Type 0 where
  pub only : next.answers ≡ h.answers ++ answer_on_wire sum_answer → sum_right m ≡ false
  pub always : sum_right m ≡ false → OnlySaid sum_answer h next
