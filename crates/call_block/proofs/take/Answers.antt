-- The byte is heard, and answered where it ends a message.
use native.Mathlib.Omega.{arith}
use Rattle.call_byte.proofs.Answered.{quiet_turned, answer_lent, message_turned}
use Rattle.call_block.proofs.take.Goals as goal

pub returns-in-None : goal.returns-in-None
returns-in-None c =
    let a = c.args in
    quiet_turned a.state.now a.byte a.memory.now c.requires.0 (λ i. (c.slice_known-1.given i).fits) (omega arith) c.requires.1
    c.hear.result c.hear.new.state c.hear.auto.state c.hear.ensures c.in-None.is a.answer.now

pub respond-requires : goal.respond-requires
respond-requires c =
    let a = c.args in
    answer_lent a.state.now a.byte a.memory.now c.requires.0 (λ i. (c.slice_known-1.given i).fits) (omega arith) c.requires.1
    c.hear.result c.hear.new.state c.hear.auto.state c.hear.ensures c.in-Some.whole c.in-Some.is a.answer.now c.requires.2

pub returns-in-Some : goal.returns-in-Some
returns-in-Some c =
    let a = c.args in
    message_turned a.state.now a.byte a.memory.now c.requires.0 (λ i. (c.slice_known-1.given i).fits) (omega arith) c.requires.1
    c.hear.result c.hear.new.state c.hear.auto.state c.hear.ensures c.in-Some.whole c.in-Some.is
    a.answer.now _ _ _ _ (λ i. (c.slice_known-4-1.given i).fits) c.respond.ensures
