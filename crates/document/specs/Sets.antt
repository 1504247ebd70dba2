-- The sets of a run, said without the recorder's state: from the memories at the ticks since a start alone.
use Rattle.std.specs.Prelude.{cond, List, [], ◌∷◌, map, ℕ, zero, suc, ◌-◌, length, take, drop}
use Rattle.document.specs.Areas.{bytes_at}
use Rattle.document.specs.Variables.{set_size}
use Rattle.document.specs.Plan.{Plan}
use Rattle.document.specs.Trigger.{trigger_value, fires, is_beyond}
use Rattle.document.specs.Run.{place_begins, place_after, set_of}

-- "After a start the first tick takes a set, then every (time divider + 1)th.": `wait` ticks pass before the next set
abbrev pub every : ℕ → ℕ → List (List ℕ) → List (List ℕ)
every divider wait [] = []
every divider zero (m ∷ ms) = m ∷ every divider divider ms
every divider (suc wait) (m ∷ ms) = every divider wait ms

-- "At a trigger, the post-trigger number of further sets is taken": `before` is the value at the previous set
abbrev pub until_stop : Plan → ℕ → List (List ℕ) → List (List ℕ)
until_stop p before [] = []
until_stop p before (m ∷ ms) =
    m ∷ cond (fires p.trigger before (trigger_value p.trigger m))
    (take p.post_trigger ms)
    (until_stop p (trigger_value p.trigger m) ms)

-- 2026-02: the first set after a start fires where it is at or beyond the threshold; "Later sets keep 01's rule."
abbrev pub from_first : Plan → List (List ℕ) → List (List ℕ)
from_first p [] = []
from_first p (m ∷ ms) =
    m ∷ cond (is_beyond p.trigger (trigger_value p.trigger m))
    (take p.post_trigger ms)
    (until_stop p (trigger_value p.trigger m) ms)

-- the sets taken, oldest first
unfoldable pub sets_taken : Plan → List (List ℕ) → List (List ℕ)
sets_taken p memories = map (set_of p) (from_first p (every p.divider 0 memories))

-- "reading round from it": n places from `place` on
abbrev pub read_round : Plan → List ℕ → ℕ → ℕ → List (List ℕ)
read_round p memory place zero = []
read_round p memory place (suc n) =
    bytes_at memory (place_begins p place) (set_size p.variables)
    ∷ read_round p memory (place_after p.samples place) n

-- "the last sets of that history": at most n of them
abbrev pub last_of : ℕ → List (List ℕ) → List (List ℕ)
last_of n sets = drop (length sets - n) sets
