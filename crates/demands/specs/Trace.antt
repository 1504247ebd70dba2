-- What a run says of the recorder's trace: what of it is kept, what a tick makes of it, and what is told of it.
use Rattle.std.specs.Prelude.{◌≡◌, Bool, false, cond, ◌&&◌, List, [], ◌++◌, ℕ, min, eqb, drop}
use Rattle.document.specs.Numbers.{done, recorder_runs, recorder_stopped}
use Rattle.document.specs.Areas.{buffer_begin}
use Rattle.document.specs.Values.{little_endian}
use Rattle.document.specs.Answer.{Answer}
use Rattle.document.specs.Plan.{Plan}
use Rattle.document.specs.Run.{Watch, Run, start_index, goes_on}
use Rattle.document.specs.Recorder.{Recorder}
use Rattle.document.specs.Recorder.Recorder.{absent, planned}
use Rattle.document.specs.Sets.{read_round}
use Rattle.recorder_history.specs.Trace.{Among, index_after}
use Rattle.demands.specs.Board.{Board, gate_in}

-- ---- what is kept

-- of so many sets since the start, this one stands among those that reading round gives, and at most post-trigger sets behind it
pub record TraceKept (p : Plan) (h : Board) (sets : ℕ) (set : List ℕ) : Type 0 where
  pub run : Run
  pub recorder : (gate_in h).recorder ≡ planned p run
  pub kept : Among set p.post_trigger (read_round p h.memory (start_index run) (min sets p.samples))

-- plan and run, with the start index, and every byte of the buffer are as they were
pub record TraceStays (h next : Board) : Type 0 where
  pub recorder : (gate_in next).recorder ≡ (gate_in h).recorder
  pub buffer : drop buffer_begin next.memory ≡ drop buffer_begin h.memory

-- ---- what a tick makes of it

-- it takes a set
abbrev pub takes_set : Recorder → Bool
takes_set absent = false
takes_set (planned p r) = r.running && eqb r.wait 0

-- so far the trigger has come, and accordingly the recorder goes on or not
pub record Watches (p : Plan) (h : Board) (w : Watch) : Type 0 where
  pub run : Run
  pub recorder : (gate_in h).recorder ≡ planned p run
  pub watch : run.watch ≡ w
  pub running : run.running ≡ goes_on w

-- ---- what is told of it

-- the start index of so many sets since the start
pub record Indexed (p : Plan) (h : Board) (sets : ℕ) : Type 0 where
  pub run : Run
  pub recorder : (gate_in h).recorder ≡ planned p run
  pub index : start_index run ≡ index_after p.samples sets

-- "0xC3: 0x01 or 0x02."
abbrev pub status_answer : Bool → Answer
status_answer running = record { status = cond running recorder_runs recorder_stopped; body = [] }

-- "0xC4 (0xC9): buffer address 12,288 and start index (2 bytes)", the address of n bytes
abbrev pub query_answer : ℕ → ℕ → Answer
query_answer n index = record { status = done; body = little_endian n buffer_begin ++ little_endian 2 index }
