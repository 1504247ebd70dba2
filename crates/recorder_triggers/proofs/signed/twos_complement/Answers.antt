-- Below the half the number stands for itself, from it on for what is missing to the whole; the laws hold at every width.
use native.Mathlib.Omega.{arith}
use Rattle.recorder_triggers.proofs.Halves.{halves, top_clear, top_set_fits, top_set}
use Rattle.recorder_triggers.proofs.signed.twos_complement.Goals as goal

pub overflow_cast-result : goal.overflow_cast-result
overflow_cast-result c = let s = c.before.before in record { sfits = omega (arith, halves s.args.size s.args.x c.half-h.result s.requires.0 s.requires.1 c.half-h.ensures s.requires.2) }

pub returns-then-x-h : goal.returns-then-x-h
returns-then-x-h c = let s = c.before.before in top_clear s.args.size s.args.x c.half-h.result s.requires.0 s.requires.1 c.half-h.ensures s.requires.2 c.if-x-h.true

pub overflow_add-below : goal.overflow_add-below
overflow_add-below c = let s = c.before.before in record { fits = omega (arith, halves s.args.size s.args.x c.half-h.result s.requires.0 s.requires.1 c.half-h.ensures s.requires.2) }

pub overflow_sub-below : goal.overflow_sub-below
overflow_sub-below c = let s = c.before.before in omega (arith, halves s.args.size s.args.x c.half-h.result s.requires.0 s.requires.1 c.half-h.ensures s.requires.2)

pub overflow_cast-result-2 : goal.overflow_cast-result-2
overflow_cast-result-2 c = let s = c.before.before in record { sfits = omega (arith, halves s.args.size s.args.x c.half-h.result s.requires.0 s.requires.1 c.half-h.ensures s.requires.2) }

pub overflow_sub-result : goal.overflow_sub-result
overflow_sub-result c = let s = c.before.before in top_set_fits s.args.size s.args.x c.half-h.result s.requires.0 s.requires.1 c.half-h.ensures s.requires.2 c.if-x-h.false

pub returns : goal.returns
returns c = let s = c.before.before in top_set s.args.size s.args.x c.half-h.result s.requires.0 s.requires.1 c.half-h.ensures s.requires.2 c.if-x-h.false
