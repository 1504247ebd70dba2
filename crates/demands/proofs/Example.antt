-- One run since reset, of which all that the demands ask for is there: messages, one of them in a block, ticks, writes, the panel's
-- preparing and start, frames, collections, a report and a refused call (`laws_happenings.Example`). The theorems speak of it, and
-- this is what they come to.
use mathlib.Core.Path.{◌≡◌, refl, sym, ap, subst, ◌∙◌}
use mathlib.Core.List.{List, [], ◌∷◌, ◌++◌, map, append_assoc}
use Prim.Native.Nat.{ℕ, ◌≤◌}
use native.Mathlib.Omega.{arith}
use lib.ListN.{length, replicate, length-replicate}
use lib.Seq.{sets}
use Rattle.document.specs.Hex.{hex}
use Rattle.document.specs.Areas.{memory_end}
use Rattle.document.specs.Numbers.{taken}
use Rattle.document.specs.Asides.Aside.{tick, collects, reports}
use Rattle.document.specs.Answer.{answer_on_wire}
use Rattle.document.specs.Gate.{Gate}
use Rattle.document.specs.Run.{started}
use Rattle.document.specs.Recorder.Recorder.{planned}
use Rattle.document.specs.Application.Application.{ended}
use Rattle.document.specs.Happenings.{Happening, after_all}
use Rattle.document.specs.Happenings.Happening.{byte, aside}
use Rattle.document.specs.Blocks.{answers_on_wire, block_after}
use Rattle.state_parts.specs.Bounds.{fresh}
use Rattle.state_parts.specs.Within.{MemoryWithin}
use Rattle.state_parts.proofs.ByteLaws.{all_zeros}
use Rattle.state_block.specs.Places.{state_length}
use Rattle.state_block.specs.Layout.{encoded}
use Rattle.call_checks.proofs.Settled.{reset_done}
use Rattle.laws_happenings.specs.Bytes.{AreBytes}
use Rattle.laws_happenings.specs.Due.{AllDue}
use Rattle.laws_happenings.specs.Example.{zeros, reset, plan, before, earlier, asking, stopping, starting, happened, rising, awaiting, repeating}
use Rattle.laws_happenings.proofs.Example.{computed, all_small_lem, happened_bytes, happened_due, happened_answers, happened_recorder, happened_application, happened_modbus}
use Rattle.laws_calls.specs.Calls.{Call, took_of}
use Rattle.demands.specs.Board.{Board, gate_in, begun}
use Rattle.demands.specs.Pieces.{Piece}
use Rattle.demands.specs.Run.{Takes, Refuses, Reset, came, Step, Run}
use Rattle.demands.specs.Run.Reset.{by_reset}
use Rattle.demands.specs.AsDefined.{AsDefined}
use Rattle.demands.proofs.Joined.{run_behind_lem, are_parts, due_parts}
use Rattle.demands.proofs.Exists.{refuses}
use Rattle.demands.proofs.Demands.{runs_exist, run_calls, demand_2, demand_2_block, demand_2_modbus}

-- ---- a block of 400 bytes, and a memory of zeros

abbrev pub block : List ℕ
block = replicate 400 0

abbrev pub begins : List ℕ
begins = sets block 0 (encoded fresh)

pub long : state_length ≤ length block
long = omega (arith, length-replicate {A = ℕ} 400 0)

pub lent : MemoryWithin zeros
lent = record { size = length-replicate {A = ℕ} memory_end 0; bytes = all_zeros memory_end }

pub reset_there : Reset block zeros [] begins
reset_there = by_reset taken begins (reset_done block long begins refl)

abbrev buffer : List ℕ
buffer = replicate 264 0

-- ---- a board at which these things have happened

pub record At (hs : List Happening) : Type 0 where
  pub there : Board
  pub are : AreBytes hs
  pub run : Run (begun begins zeros) hs there

-- each part of the list happens behind the part before it
module _ (first hs more : List Happening) (is : happened ≡ first ++ (hs ++ more)) where
  are_first : AreBytes first
  are_first = (are_parts first (hs ++ more) (subst AreBytes is happened_bytes)).0

  due_first : AllDue reset first
  due_first = (due_parts first (hs ++ more) reset (subst (AllDue reset) is happened_due)).0

  pub to : At first
  to =
      let goes = runs_exist block zeros [] begins long lent reset_there [] (begun begins zeros) tt (Run.ends (begun begins zeros)) first are_first due_first in
      record { there = goes.0; are = are_first; run = goes.1 }

  pub are_next : AreBytes hs
  are_next = (are_parts hs more (are_parts first (hs ++ more) (subst AreBytes is happened_bytes)).1).0

  due_next : AllDue (after_all reset first) hs
  due_next = (due_parts hs more (after_all reset first) (due_parts first (hs ++ more) reset (subst (AllDue reset) is happened_due)).1).0

  pub goes : (at : At first) → (last : Board) × Run at.there hs last
  goes at = runs_exist block zeros [] begins long lent reset_there first at.there at.are at.run hs are_next due_next

  -- and so the board then
  abbrev pub further : (at : At first) → At (first ++ hs)
  further at =
      record {
        there = (goes at).0;
        are = (are_parts (first ++ hs) more (subst AreBytes (is ∙ sym (append_assoc first hs more)) happened_bytes)).0;
        run = run_behind_lem (begun begins zeros) at.there (goes at).0 first hs at.run (goes at).1;
      }

-- ---- the whole of it, with a refused call, and a message in a block

-- until 0xE3 comes
abbrev waited : List Happening
waited = before ++ earlier ++ (aside tick ∷ awaiting) ++ (byte 0x3A ∷ repeating) ++ (byte 0xFF ∷ [])

abbrev message : List ℕ
message = 0x2B ∷ 0xE3 ∷ 0x00 ∷ 0x00 ∷ 0x09 ∷ 0x00 ∷ 0x14 ∷ []

abbrev rest : List Happening
rest =
    (aside collects ∷ aside tick ∷ aside (reports 0xFD) ∷ asking) ++ (byte 0x3A ∷ stopping) ++ starting ++ (byte 0x3F ∷ [])

parts : happened ≡ waited ++ (map byte message ++ rest)
parts = refl

module _ (at : At waited) where
  abbrev h : Board
  h = at.there

  -- a tick that is lent nothing
  abbrev nothing : Piece
  nothing = record { size = 0; behind = [] }

  refused_there : Refuses at.there at.there
  refused_there = refuses Call.tick h nothing nothing [] (λ e. let z : ⊥ = omega (arith, e) in absurd z)

  taking : (next : Board) × (call : Takes (Call.receive message) at.there next) × (call.made.buffer ≡ buffer)
  taking =
      run_calls block zeros [] begins long lent reset_there waited h at.are at.run (Call.receive message) buffer
      (omega (arith, length-replicate {A = ℕ} 264 0)) refl

  -- it takes all seven bytes
  taken_so : (block_after (after_all reset waited) 264 message).taken ≡ 7
  unfolding computed
  taken_so = refl

  took : took_of taking.1.made.outcome.left ≡ 7
  took =
      (demand_2_block block zeros [] begins long lent reset_there waited h at.are at.run message (all_small_lem message refl) taking.0 taking.1).taken
      ∙ ap (λ (l : List ℕ). (block_after (after_all reset waited) (length l) message).taken) taking.2
      ∙ ap (λ (n : ℕ). (block_after (after_all reset waited) n message).taken) (length-replicate {A = ℕ} 264 0)
      ∙ taken_so

  -- the refused call, then the block
  blocked : Run at.there (map byte message) taking.0
  blocked =
      Run.refuses h h taking.0 (map byte message) refused_there
      (subst (λ (n : ℕ). Run h (came n message ++ []) taking.0) took
      (Run.blocks h taking.0 taking.0 message [] (all_small_lem message refl) taking.1 (Run.ends taking.0)))

abbrev at_block : At (waited ++ map byte message)
at_block =
    let first : At waited = to waited (map byte message) rest parts in
    record {
      there = (taking first).0;
      are = are_first (waited ++ map byte message) rest [] refl;
      run = run_behind_lem (begun begins zeros) first.there (taking first).0 waited (map byte message) first.run (blocked first);
    }

pub whole : At happened
whole = further (waited ++ map byte message) rest [] refl at_block

-- what it comes to
abbrev pub last : Board
last = whole.there

stands : AsDefined whole.there (after_all reset happened)
stands = demand_2 block zeros [] begins long lent reset_there happened whole.there whole.are whole.run

pub last_answers : whole.there.answers ≡ hex "2B01FF 2B0000 2B00FE02 2B8779 2B0000 2B00FD03 2B02FE 2B0000"
unfolding answer_on_wire
last_answers = stands.answers ∙ ap answers_on_wire happened_answers ∙ refl

pub last_recorder : (gate_in whole.there).recorder ≡ planned plan started
last_recorder = ap (λ (g : Gate). g.recorder) stands.gate ∙ happened_recorder

pub last_command : (gate_in whole.there).application ≡ ended 0xFD
last_command = ap (λ (g : Gate). g.application) stands.gate ∙ happened_application

pub last_modbus : whole.there.modbus_answers ≡ rising ∷ []
last_modbus = demand_2_modbus block zeros [] begins long lent reset_there happened whole.there whole.are whole.run ∙ happened_modbus

-- a board's gate is the definition's
pub at_gate : (first : List Happening) (at : At first) → gate_in at.there ≡ (after_all reset first).gate
at_gate first at = (demand_2 block zeros [] begins long lent reset_there first at.there at.are at.run).gate

-- the next byte can be given
pub given : (first : List Happening) (at : At first) (b : ℕ) → (next : Board) × Step at.there (byte b) next
given first at b =
    let call = run_calls block zeros [] begins long lent reset_there first at.there at.are at.run (Call.byte b) buffer
    (omega (arith, length-replicate {A = ℕ} 264 0)) refl in
    (call.0, call.1)
