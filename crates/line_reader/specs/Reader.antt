-- The answer reader, a byte at a time: the bounds of its state, and what a byte makes of it.
use Rattle.std.specs.Prelude.{Bool, true, cond, ◌&&◌, ℕ, ◌+◌, ◌%◌, eqb, ltb, leb, set, take, replicate}
use mathlib.Core.List.{List, foldl}
use Rattle.document.specs.Numbers.{is_error}
use Rattle.document.specs.AnswerReader.{Brought}
use Rattle.document.specs.AnswerReader.Brought.{nothing, answer, wrong}

-- ---- the state

pub record AnswerReader : Type 0 where
  -- 1 where a 0x2B waits for its follower
  pub waiting : ℕ
  pub phase : ℕ
  pub status : ℕ
  -- how many data a status with a clear top bit brings
  pub expected : ℕ
  pub have : ℕ
  pub sum : ℕ
  pub body : List ℕ

-- the phases: outside an answer, in its data, at its sum byte
abbrev pub idle : ℕ
idle = 0

abbrev pub in_data : ℕ
in_data = 1

abbrev pub at_sum : ℕ
at_sum = 2

-- "data of the length fixed when the reading began follow a clear top bit, none a set one"
abbrev pub data_length : ℕ → ℕ → ℕ
data_length status expected = cond (is_error status) 0 expected

-- data are next where some are left, else the sum byte
abbrev pub phase_at : ℕ → ℕ → ℕ
phase_at have n = cond (ltb have n) in_data at_sum

-- a reading of so many data begins
abbrev pub fresh : ℕ → AnswerReader
fresh n =
    record { waiting = 0; phase = idle; status = 0; expected = n; have = 0; sum = 0; body = replicate 64 0 }

-- "a state outside the bounds listed in docs/": how many data are there goes with the phase
abbrev pub sound_at : ℕ → ℕ → ℕ → Bool
sound_at phase have n =
    cond (eqb phase idle) true (cond (eqb phase in_data) (ltb have n) (eqb phase at_sum && eqb have n))

unfoldable pub sound : AnswerReader → Bool
sound r =
    leb r.waiting 1
    && leb r.expected 64
    && sound_at r.phase r.have (data_length r.status r.expected)

-- ---- a byte

-- the next state, and what the byte brings
pub record Step : Type 0 where
  pub next : AnswerReader
  pub brings : Brought

abbrev pub silent : AnswerReader → Step
silent r = record { next = r; brings = nothing }

-- in another phase, with a 0x2B waiting or not
abbrev pub turned : AnswerReader → ℕ → ℕ → AnswerReader
turned r waiting phase =
    record {
      waiting = waiting;
      phase = phase;
      status = r.status;
      expected = r.expected;
      have = r.have;
      sum = r.sum;
      body = r.body;
    }

-- a start, and the status behind it
abbrev pub opened : AnswerReader → ℕ → AnswerReader
opened r s =
    record {
      waiting = 0;
      phase = phase_at 0 (data_length s r.expected);
      status = s;
      expected = r.expected;
      have = 0;
      sum = s;
      body = r.body;
    }

-- a data byte
abbrev pub stored : AnswerReader → ℕ → AnswerReader
stored r l =
    record {
      waiting = 0;
      phase = phase_at (r.have + 1) (data_length r.status r.expected);
      status = r.status;
      expected = r.expected;
      have = r.have + 1;
      sum = (r.sum + l) % 256;
      body = set r.body r.have l;
    }

-- the sum byte: right or wrong, the reader is idle again
abbrev pub finished : AnswerReader → ℕ → Step
finished r l =
    record {
      next = turned r 0 idle;
      brings =
          cond (eqb ((r.sum + l) % 256) 0) (answer (record { status = r.status; body = take r.have r.body })) wrong;
    }

-- "Literals outside a message are dropped."
unfoldable pub literal : AnswerReader → ℕ → Step
literal r l =
    cond (eqb r.phase in_data) (silent (stored r l))
    (cond (eqb r.phase at_sum) (finished r l) (silent (turned r 0 r.phase)))

-- "The answer reader pairs as the line does": 0x2B twice is a literal, 0x2B and another byte a start
unfoldable pub stepped : AnswerReader → ℕ → Step
stepped r b =
    cond (eqb b 0x2B)
    (cond (eqb r.waiting 1) (literal r 0x2B) (silent (turned r 1 r.phase)))
    (cond (eqb r.waiting 1) (silent (opened r b)) (literal r b))

-- the reader after the bytes since a reading of n data began
unfoldable pub reader_after : ℕ → List ℕ → AnswerReader
reader_after n bs = foldl (λ (r : AnswerReader) (b : ℕ). (stepped r b).next) (fresh n) bs
