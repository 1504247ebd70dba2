-- Not set up, stopped, waiting, or a set: each stores what the definition leaves.
use mathlib.Core.Path.{◌≡◌}
use Prim.Native.Nat.{ℕ, ◌<◌}
use lib.ListN.{get_or}
use Rattle.state_block.specs.Places.{recorder_place}
use Rattle.call_tick.proofs.Within.{absent_ticked, stopped_ticked, waiting_ticked, due_lent, due_ticked}
use Rattle.call_tick.proofs.tick_within.Goals as goal

pub returns-then-state-eq0 : goal.returns-then-state-eq0
returns-then-state-eq0 c =
    let small : (i : ℕ) → get_or (c.args.state.now) i 0 < 256 = λ i. (c.slice_known-1.given i).fits in
    absent_ticked (c.args.state.now) (c.args.memory.now) c.requires.0 small c.if-state-eq0.true

pub returns-then-run-eq0 : goal.returns-then-run-eq0
returns-then-run-eq0 c =
    let small : (i : ℕ) → get_or (c.args.state.now) i 0 < 256 = λ i. (c.slice_known-1.given i).fits in
    let planned : get_or (c.args.state.now) recorder_place 0 ≡ 0 → ⊥ = c.if-state-eq0.false in
    stopped_ticked (c.args.state.now) (c.args.memory.now) c.requires.0 small c.requires.1 planned (c.run_in-run.result) c.run_in-run.ensures c.if-run-eq0.true

pub returns-then-run-gt0 : goal.returns-then-run-gt0
returns-then-run-gt0 c =
    let small : (i : ℕ) → get_or (c.args.state.now) i 0 < 256 = λ i. (c.slice_known-1.given i).fits in
    let planned : get_or (c.args.state.now) recorder_place 0 ≡ 0 → ⊥ = c.if-state-eq0.false in
    let put = c.put in
    waiting_ticked (c.args.state.now) (c.args.memory.now) c.requires.0 small c.requires.1 planned (c.run_in-run.result) c.run_in-run.ensures c.if-run-eq0.false c.if-run-gt0.true put.new.block put.ensures

pub take-next-requires : goal.take-next-requires
take-next-requires c =
    let small : (i : ℕ) → get_or (c.args.state.now) i 0 < 256 = λ i. (c.slice_known-1.given i).fits in
    let planned : get_or (c.args.state.now) recorder_place 0 ≡ 0 → ⊥ = c.if-state-eq0.false in
    due_lent (c.args.state.now) (c.args.memory.now) c.requires.0 small c.requires.1 planned (c.run_in-run.result) c.run_in-run.ensures c.if-run-eq0.false c.requires.2

pub returns : goal.returns
returns c =
    let small : (i : ℕ) → get_or (c.args.state.now) i 0 < 256 = λ i. (c.slice_known-1.given i).fits in
    let planned : get_or (c.args.state.now) recorder_place 0 ≡ 0 → ⊥ = c.if-state-eq0.false in
    let put = c.put_run in
    due_ticked (c.args.state.now) (c.args.memory.now) c.requires.0 small c.requires.1 planned (c.run_in-run.result) c.run_in-run.ensures c.if-run-eq0.false c.if-run-gt0.false c.take-next.result put.new.block c.take-next.new.memory c.take-next.ensures put.ensures
