-- Front, one word behind the other, sum byte.
use mathlib.Core.Path.{sym}
use mathlib.Core.List.{[], ◌∷◌}
use native.Mathlib.Omega.{arith}
use lib.Seq.{take_all}
use Rattle.document.specs.Numbers.{done}
use Rattle.document.specs.Sum.{sum_byte_of}
use Rattle.line_wire.proofs.Writing.{put_append, telling_room, word_room, told_in_parts}
use Rattle.serve_answers.proofs.Worded.{words_step, words_few, words_fewer}
use Rattle.serve_answers.proofs.words.done_words.Goals as goal

pub put_word-progress-requires : goal.put_word-progress-requires
put_word-progress-requires c =
    word_room done _ c.args.out.now _ _ c.loop-word.invariant c.requires.1
    (words_fewer c.args.words.now c.loop-word.word-index c.loop-word-test.true c.requires.0)

pub loop-word-preserved : goal.loop-word-preserved
loop-word-preserved c =
    rw (words_step c.args.words.now c.loop-word.word-index c.loop-word-test.true)
    (put_append _ _ _ _ _ _ _ _ c.loop-word.invariant c.put_word-progress.ensures)

pub put_sum-requires : goal.put_sum-requires
put_sum-requires c =
    telling_room done _ c.args.out.now _ _ c.loop-word.invariant c.requires.1 (sum_byte_of (c.loop-word.progress.sum ∷ []) ∷ [])
    (let few = words_few c.args.words.now c.loop-word.word-index c.requires.0 in omega (arith, few))

pub returns : goal.returns
returns c =
    told_in_parts done _ c.args.out.now _ _
    (rw (sym (take_all c.loop-word.word-index c.args.words.now (omega arith))) c.loop-word.invariant)
    c.put_sum.result _ c.put_sum.ensures
