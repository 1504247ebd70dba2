-- The words so far have been told.
use lib.ListN.{take}
use Rattle.document.specs.Numbers.{done}
use Rattle.line_wire.specs.Told.{Telling}
use Rattle.serve_answers.specs.Words.{words_of}
use Rattle.serve_answers.proofs.words.done_words.Given as goal

abbrev pub invariant-loop-word : goal.invariant-loop-word
invariant-loop-word l = Telling done (words_of (take l.word-index l.words)) l.fn.out l.progress l.out
