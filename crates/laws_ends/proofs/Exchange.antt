-- What the command writer wrote is the message on the wire, and an answer on the wire is given back by the reader at its last byte.
use mathlib.Core.Path.{◌≡◌, sym, ap, ◌∙◌}
use mathlib.Core.Bool.{true}
use mathlib.Core.List.{List}
use Prim.Native.Nat.{ℕ, ◌≤◌}
use native.Mathlib.Omega.{arith}
use borrow.Author.Tests.{ltb-false}
use lib.Dec.{ltb}
use lib.ListN.{length, take}
use Rattle.document.specs.Numbers.{most_data, taken}
use Rattle.document.specs.Message.{summed, well_formed}
use Rattle.document.specs.Answer.{Answer, answer_on_wire}
use Rattle.document.specs.AnswerWriter.{answer_formed}
use Rattle.document.specs.CommandWriter.{command_on_wire, command_refusal}
use Rattle.document.specs.AnswerReader.{Brought, brought, read_buffer}
use Rattle.document.proofs.Cases.{split}
use Rattle.line_wire.specs.declared.Written.{Written}
use Rattle.line_wire.proofs.Left.{sets_front}
use Rattle.line_commands.proofs.Commands.{command_written_lem, command_buffer_lem}
use Rattle.line_reader.proofs.RoundTrip.{answer_read, answer_awaited}
use Rattle.call_reader.specs.Promises.{read_of}
use Rattle.laws_ends.specs.Readings.{ByRead}
use Rattle.laws_ends.specs.Exchange.{Wrote, ReadSince, Expects, ReadBack}
use Rattle.laws_ends.proofs.Readings.{readings_give}

-- ---- the command writer

module _ (command : ℕ) (body buffer : List ℕ) (fine : command_refusal command body buffer ≡ taken) where
  formed : well_formed (summed command body) ≡ true
  unfolding command_refusal
  formed = split (well_formed (summed command body)) (λ e. e) (λ e. absurd (omega (arith, rw e at fine)))

  room : length (command_on_wire command body) ≤ length buffer
  unfolding command_refusal
  room =
      split (ltb (length buffer) (length (command_on_wire command body)))
      (λ t. absurd (omega (arith, rw (formed, t) at fine)))
      (λ f. ltb-false (length buffer) (length (command_on_wire command body)) f)

pub record OnWire (command : ℕ) (body bytes : List ℕ) : Type 0 where
  pub formed : well_formed (summed command body) ≡ true
  pub wire : bytes ≡ command_on_wire command body

pub wrote_wire : (command : ℕ) (body bytes : List ℕ) → Wrote command body bytes → OnWire command body bytes
wrote_wire command body bytes w =
    let number : command_refusal command body w.before ≡ taken = sym (ap (λ (r : Written). r.refusal) w.promised.result) ∙ w.fine in
    let whole = formed command body w.before number in
    let fits = room command body w.before number in
    record {
      formed = whole;
      wire =
          w.wire
          ∙ (λ j. take ((ap (λ (r : Written). r.length) w.promised.result ∙ command_written_lem command body w.before whole fits) j)
          ((w.promised.buffer ∙ command_buffer_lem command body w.before whole fits) j))
          ∙ sets_front (command_on_wire command body) w.before fits;
    }

-- ---- the answer reader

module _ (n : ℕ) (front : List ℕ) (b : ℕ) (block next : List ℕ) (since : ReadSince n front block) (call : ByRead block b next) (enough : most_data ≤ length call.buffer) where
  -- what the call gives, by what the byte brings
  gives : (k : Brought) → brought n front b ≡ k → (call.result ≡ read_of k) × (call.told ≡ read_buffer k call.buffer)
  gives k is =
      let reads = readings_give since.lent n since.number since.begun since.promised since.fine front block since.run b next call enough in
      (reads.result ∙ ap read_of is, reads.buffer_told ∙ ap (λ (q : Brought). read_buffer q call.buffer) is)

module _ (n : ℕ) (a : Answer) (formed : answer_formed a ≡ true) (expects : Expects n a) where
  pub read_back_lem : ReadBack n a (answer_on_wire a)
  read_back_lem =
      record {
        last = λ front b e block next since call enough.
            gives n front b block next since call enough (Brought.answer a) (answer_read a n formed expects front b e);
        before = λ front b c rest e block next since call enough.
            gives n front b block next since call enough Brought.nothing (answer_awaited a n formed expects front b c rest e);
      }
