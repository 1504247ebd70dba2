-- Bytes that a block passes over in a run: inside a message's data, before the last that is kept, and outside any message.
use Rattle.std.specs.Prelude.{cond, not, List, [], ◌∷◌, ℕ, zero, suc, ◌+◌, ◌-◌, ◌%◌, eqb, ltb, length, take}
use Rattle.std.proofs.lemmas.List.Edits.{sets}
use Rattle.document.specs.Sum.{total}
use Rattle.line_receiver.specs.declared.Receiver.{Receiver}
use Rattle.line_receiver.specs.Bounds.{idle, data_next}
use Rattle.state_parts.specs.State.{Target}

-- ---- what a run of data leaves

abbrev pub passed_receiver : Receiver → List ℕ → Receiver
passed_receiver r bs =
    record {
      waiting = 0;
      phase = data_next;
      command = r.command;
      length = r.length;
      have = r.have + length bs;
      sum = (r.sum + total bs) % 256;
    }

abbrev pub passed_target : Target → List ℕ → Target
passed_target t bs =
    record {
      receiver = passed_receiver t.receiver bs;
      body = sets t.body t.receiver.have bs;
      instruments = t.instruments;
    }

-- ---- how long a run is

-- how many of the first n bytes come before a 0x2B
abbrev pub plain_ahead : ℕ → List ℕ → ℕ
plain_ahead zero bs = 0
plain_ahead (suc n) [] = 0
plain_ahead (suc n) (b ∷ bs) = cond (eqb b 0x2B) 0 (suc (plain_ahead n bs))

-- "A data part holds at most 64 bytes"
abbrev pub last_kept : ℕ → ℕ
last_kept n = cond (ltb 64 n) 64 n

-- before the last that is kept
abbrev pub data_ahead : Receiver → ℕ
data_ahead r = last_kept r.length - r.have - 1

-- of these bytes so many are passed over, and this is what they leave
unfoldable pub passed_over : Target → List ℕ → ℕ
passed_over t bs =
    cond (not (eqb t.receiver.waiting 0)) 0
    (cond (eqb t.receiver.phase idle) (plain_ahead (length bs) bs)
    (cond (eqb t.receiver.phase data_next) (plain_ahead (data_ahead t.receiver) bs) 0))

unfoldable pub passed_by : Target → List ℕ → Target
passed_by t bs =
    cond (eqb (passed_over t bs) 0) t (cond (eqb t.receiver.phase data_next) (passed_target t (take (passed_over t bs) bs)) t)
