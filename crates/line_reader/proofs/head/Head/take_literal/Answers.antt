-- The phase decides; its bounds give the room.
use mathlib.Core.List.{[]}
use mathlib.Core.Path.{◌∙◌}
use native.Mathlib.Omega.{arith}
use borrow.Author.Rules.{rules}
use Rattle.line_reader.proofs.Bounds.{data_room, sum_room, literal_data, literal_sum, literal_idle}
use Rattle.line_reader.specs.Head.{with_body}
use Rattle.line_reader.proofs.head.Head.take_literal.Goals as goal

pub store-requires : goal.store-requires
store-requires c = data_room (with_body c.args.self []) c.requires c.in-1.is

pub returns-in-1 : goal.returns-in-1
returns-in-1 c =
    let args = c.args in
    ((λ body. literal_data (with_body args.self body) args.byte c.in-1.is ∙ c.store.ensures.0 body), c.store.ensures.1)

pub finish-requires : goal.finish-requires
finish-requires c =
    let args = c.args in
    let pre = c.requires in
    sum_room (with_body args.self []) (pre) c.in-2.is

pub returns-in-2 : goal.returns-in-2
returns-in-2 c =
    let args = c.args in
    ((λ body. literal_sum (with_body args.self body) args.byte c.in-2.is ∙ c.finish.ensures.0 body), c.finish.ensures.1)

pub returns-in_default : goal.returns-in_default
returns-in_default c =
    let args = c.args in
    rw c.asking.ensures ((λ body. literal_idle (with_body args.self body) args.byte (search rules) (search rules)), omega arith)
