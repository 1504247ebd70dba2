-- What is left of a trace: the words of the theorems about what a recorder keeps.
use Rattle.std.specs.Prelude.{◌≡◌, cond, List, ◌∷◌, ◌++◌, ℕ, ◌%◌, ◌≤◌, length, drop, ltb}
use Rattle.document.specs.Areas.{buffer_begin}
use Rattle.document.specs.Plan.{Trigger}
use Rattle.recorder_history.specs.History.{Recording}

-- this set stands among those, and at most n behind it
pub record Among (set : List ℕ) (n : ℕ) (sets : List (List ℕ)) : Type 0 where
  pub before : List (List ℕ)
  pub behind : List (List ℕ)
  pub parts : sets ≡ before ++ set ∷ behind
  pub few : length behind ≤ n

-- the run and the buffer's bytes stay
pub record Stays (g later : Recording) : Type 0 where
  pub run : later.run ≡ g.run
  pub buffer : drop buffer_begin later.memory ≡ drop buffer_begin g.memory

-- "The start index is 0 until 'samples' sets are taken, then the place that would be written next.": so many sets are taken
abbrev pub index_after : ℕ → ℕ → ℕ
index_after samples sets = cond (ltb sets samples) 0 (sets % samples)

-- a rising trigger of 2 bytes: "Sign 1 reads both as two's complement of the trigger size, sign 0 as unsigned."
pub record RisingWord (t : Trigger) (sign : ℕ) : Type 0 where
  pub rising : t.mode ≡ 1
  pub word : t.size ≡ 2
  pub signed : t.sign ≡ sign
