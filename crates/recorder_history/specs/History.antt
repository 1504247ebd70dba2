-- What a plan grants, what happens to a recorder since a start, and what it takes: the words of the theorems.
use Rattle.std.specs.Prelude.{◌≡◌, Bool, true, false, cond, ◌&&◌, List, [], ◌∷◌, ◌++◌, ℕ, zero, suc, ◌*◌, ◌<◌, ◌≤◌, length, take, drop, eqb}
use Rattle.document.specs.Areas.{buffer_begin, memory_end, may_be_recorded}
use Rattle.document.specs.Variables.{set_size, all_may}
use Rattle.document.specs.Plan.{Plan}
use Rattle.document.specs.Trigger.{trigger_value, is_beyond}
use Rattle.document.specs.Run.{Watch, Run, started, stopped, set_of, place_after, comes, goes_on, ran_tick, memory_after_tick}
use Rattle.document.specs.Run.Watch.{unprimed, previous, triggered}

-- what an accepted setup grants: not "0 samples; samples times set size above 4,096", and "Recorded variables and trigger
-- must end at or below 12,288."
pub record PlanFits (p : Plan) : Type 0 where
  pub samples : 1 ≤ p.samples
  pub room : p.samples * set_size p.variables ≤ 4096
  pub variables : all_may may_be_recorded p.variables ≡ true
  pub trigger : may_be_recorded p.trigger.address p.trigger.size ≡ true

-- ---- what happens

pub data Event : Type 0 where
  -- "The gate calls a tick."
  tick : Event
  -- others write, and this is the memory they leave
  others : List ℕ → Event
  -- 0xC2
  stop : Event

-- a recorder that has its plan, and the memory lent to it
pub record Recording : Type 0 where
  pub run : Run
  pub memory : List ℕ

-- a start
abbrev pub begun : List ℕ → Recording
begun memory = record { run = started; memory = memory }

abbrev pub stepped : Plan → Recording → Event → Recording
stepped p g tick = record { run = ran_tick p g.run g.memory; memory = memory_after_tick p g.run g.memory }
stepped p g (others memory) = record { run = g.run; memory = memory }
stepped p g stop = record { run = stopped g.run; memory = g.memory }

abbrev pub after : Plan → Recording → List Event → Recording
after p g [] = g
after p g (e ∷ es) = after p (stepped p g e) es

-- "So long as nobody else writes the buffer": from byte 12,288 on others leave what they found
abbrev pub LeavesBuffer : Recording → Event → Type 0
LeavesBuffer g tick = Unit {0}
LeavesBuffer g (others memory) =
    (length memory ≡ memory_end) × (drop buffer_begin memory ≡ drop buffer_begin g.memory)
LeavesBuffer g stop = Unit {0}

abbrev pub AllLeaveBuffer : Plan → Recording → List Event → Type 0
AllLeaveBuffer p g [] = Unit {0}
AllLeaveBuffer p g (e ∷ es) = LeavesBuffer g e × AllLeaveBuffer p (stepped p g e) es

-- ---- what is taken

-- the next tick takes a set
abbrev pub takes_next : Recording → Bool
takes_next g = g.run.running && eqb g.run.wait 0

-- the set that an event takes, if it takes one
abbrev pub taken_at : Plan → Recording → Event → List (List ℕ)
taken_at p g tick = cond (takes_next g) (set_of p g.memory ∷ []) []
taken_at p g (others memory) = []
taken_at p g stop = []

-- "sets .. taken since the start", oldest first
abbrev pub taken : Plan → Recording → List Event → List (List ℕ)
taken p g [] = []
taken p g (e ∷ es) = taken_at p g e ++ taken p (stepped p g e) es

-- the memory at each tick until a stop, as others left it: what the recorder itself writes is not in it
abbrev pub memories_left : List ℕ → List Event → List (List ℕ)
memories_left memory [] = []
memories_left memory (tick ∷ es) = memory ∷ memories_left memory es
memories_left memory (others left ∷ es) = memories_left left es
memories_left memory (stop ∷ es) = []

-- the memory that each tick finds until a stop, the recorder's own sets in it
abbrev pub memories_found : Plan → Recording → List Event → List (List ℕ)
memories_found p g [] = []
memories_found p g (tick ∷ es) = g.memory ∷ memories_found p (stepped p g tick) es
memories_found p g (others left ∷ es) = memories_found p (stepped p g (others left)) es
memories_found p g (stop ∷ es) = []

-- the place of set k, k counted from 0: one behind the other from place 0 on
abbrev pub place_of_set : ℕ → ℕ → ℕ
place_of_set samples zero = 0
place_of_set samples (suc k) = place_after samples (place_of_set samples k)

-- ---- when the trigger comes

-- the trigger variable is at or beyond the threshold
abbrev pub beyond_in : Plan → List ℕ → Bool
beyond_in p memory = is_beyond p.trigger (trigger_value p.trigger memory)

-- at none of the sets that these events take
abbrev pub NoneBeyond : Plan → Recording → List Event → Type 0
NoneBeyond p g [] = Unit {0}
NoneBeyond p g (tick ∷ es) = (takes_next g ≡ true → beyond_in p g.memory ≡ false) × NoneBeyond p (stepped p g tick) es
NoneBeyond p g (others memory ∷ es) = NoneBeyond p (stepped p g (others memory)) es
NoneBeyond p g (stop ∷ es) = NoneBeyond p (stepped p g stop) es

-- the sets up to the first there, and post-trigger further ones
abbrev pub until_beyond : Plan → List (List ℕ) → List (List ℕ)
until_beyond p [] = []
until_beyond p (m ∷ ms) = m ∷ cond (beyond_in p m) (take p.post_trigger ms) (until_beyond p ms)

-- the trigger comes at the next tick
pub record TriggersNext (p : Plan) (g : Recording) : Type 0 where
  pub running : g.run.running ≡ true
  pub due : g.run.wait ≡ 0
  pub comes_now : comes p.trigger g.run.watch (trigger_value p.trigger g.memory) ≡ true

-- ---- when it stops

-- further sets that are to be taken
abbrev pub sets_left : Watch → ℕ
sets_left unprimed = 0
sets_left (previous value) = 0
sets_left (triggered left) = left

-- every count of a run stays within what the plan's fields hold, and a run that goes on has something to wait for
pub record CountsFit (p : Plan) (r : Run) : Type 0 where
  pub place : r.place < p.samples
  pub wait : r.wait ≤ p.divider
  pub left : sets_left r.watch ≤ p.post_trigger
  pub more : r.running ≡ true → goes_on r.watch ≡ true

abbrev pub ticks : List Event → ℕ
ticks [] = 0
ticks (tick ∷ es) = suc (ticks es)
ticks (others memory ∷ es) = ticks es
ticks (stop ∷ es) = ticks es

-- "Unless a stop comes sooner"
abbrev pub Unstopped : List Event → Type 0
Unstopped [] = Unit {0}
Unstopped (tick ∷ es) = Unstopped es
Unstopped (others memory ∷ es) = Unstopped es
Unstopped (stop ∷ es) = ⊥

-- among these events a trigger came at a tick, and all that follows a trigger is over
pub record StoppedByTrigger (p : Plan) (g : Recording) (es : List Event) : Type 0 where
  pub earlier : List Event
  pub later : List Event
  pub parts : es ≡ earlier ++ tick ∷ later
  pub came : TriggersNext p (after p g earlier)
  pub over : p.post_trigger * suc p.divider ≤ ticks later
