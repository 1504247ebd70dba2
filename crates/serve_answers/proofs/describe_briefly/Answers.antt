-- The bytes are the document's, by computation.
use Rattle.document.specs.Commands.{served}
use Rattle.serve_answers.proofs.describe_briefly.Goals as goal

pub returns : goal.returns
unfolding served
returns c = λ g s body. c.done_with.ensures
