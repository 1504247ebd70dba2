-- A message that can be formed and has room is put front, length byte, data, sum byte; any other is refused before a
-- byte is touched.
use mathlib.Core.Path.{◌≡◌, sym, ◌∙◌, ap}
use mathlib.Core.Bool.{Bool, true, false}
use mathlib.Core.List.{List, [], ◌∷◌}
use Prim.Native.Nat.{ℕ, ◌+◌, ◌≤◌}
use native.Mathlib.Omega.{arith}
use borrow.Author.Tests.{ltb-false}
use lib.Dec.{ltb}
use lib.ListN.{length, length-set}
use lib.Seq.{sets}
use Rattle.document.specs.Doubling.{stuffed}
use Rattle.document.specs.Sum.{sum_byte_of}
use Rattle.document.specs.Message.{length_part, well_formed, summed}
use Rattle.document.specs.CommandWriter.{command_on_wire, command_refusal, command_written, command_buffer}
use Rattle.line_wire.specs.declared.doubling.Progress.{Progress}
use Rattle.line_wire.specs.Put.{front, progressed}
use Rattle.line_wire.proofs.Writing.{put_append, written_length, written_buffer}
use Rattle.line_measure.proofs.Parts.{between, command_framed, command_length, behind_sum}
use Rattle.line_commands.proofs.Commands.{formed_short, command_taken, command_written_lem, command_buffer_lem}
use Rattle.line_commands.proofs.command.written_in.Goals as goal

-- ---- what is known of a message that can be formed, and of a buffer that is long enough for it
module _ (command : ℕ) (body : List ℕ) where
  module _ (formed : Bool) (is : formed ≡ well_formed (summed command body)) (yes : formed ≡ true) where
    can_be_formed : well_formed (summed command body) ≡ true
    can_be_formed = sym is ∙ yes

    few_data : length body ≤ 255
    few_data = formed_short command body can_be_formed

  module _ (out : List ℕ) (short : Bool) (is : short ≡ ltb (length out) (length (command_on_wire command body))) (no : short ≡ false) where
    room : length (command_on_wire command body) ≤ length out
    room = ltb-false (length out) (length (command_on_wire command body)) (sym is ∙ no)

    parts_fit : 2 + length (stuffed (length_part command body)) + length (stuffed body) + length (stuffed (sum_byte_of (command ∷ between command body) ∷ [])) ≤ length out
    parts_fit = omega (arith, room, command_length command body)

  -- where the data begin
  data_place : (before : Progress) → before ≡ progressed (front command) (length_part command body) → before.at ≡ 2 + length (stuffed (length_part command body))
  data_place before e = ap (λ (p : Progress). p.at) e

pub returns-then-not-is_formed : goal.returns-then-not-is_formed
unfolding command_refusal command_written command_buffer
returns-then-not-is_formed c =
    record {
      result = simp (← c.is_formed.ensures, c.if-not-is_formed.true);
      buffer = simp (← c.is_formed.ensures, c.if-not-is_formed.true);
    }

pub is_short-requires : goal.is_short-requires
is_short-requires c =
    few_data c.args.command c.args.body.now c.is_formed.result c.is_formed.ensures c.if-not-is_formed.false

pub returns-then-is_short : goal.returns-then-is_short
unfolding command_refusal command_written command_buffer
returns-then-is_short c =
    record {
      result = simp (← c.is_formed.ensures, c.if-not-is_formed.false, ← c.is_short.ensures, c.if-is_short.true);
      buffer = simp (← c.is_formed.ensures, c.if-not-is_formed.false, ← c.is_short.ensures, c.if-is_short.true);
    }

pub bounds-out-0 : goal.bounds-out-0
bounds-out-0 c =
    omega (arith, parts_fit c.args.command c.args.body.now c.args.out.now c.is_short.result c.is_short.ensures c.if-is_short.false)

pub bounds-out-1 : goal.bounds-out-1
bounds-out-1 c =
    simp length-set (omega (arith, parts_fit c.args.command c.args.body.now c.args.out.now c.is_short.result c.is_short.ensures c.if-is_short.false))

pub put_length-before-requires : goal.put_length-before-requires
put_length-before-requires c = (
  few_data c.args.command c.args.body.now c.is_formed.result c.is_formed.ensures c.if-not-is_formed.false,
  simp length-set (omega (arith, parts_fit c.args.command c.args.body.now c.args.out.now c.is_short.result c.is_short.ensures c.if-is_short.false)),
)

pub put_all-behind-requires : goal.put_all-behind-requires
put_all-behind-requires c =
    let a = c.args in
    let parts = parts_fit a.command a.body.now a.out.now c.is_short.result c.is_short.ensures c.if-is_short.false in
    let kept : length c.put_length-before.new.out ≡ length a.out.now = c.put_length-before.auto.out ∙ simp length-set in
    let at = data_place a.command a.body.now c.put_length-before.result c.put_length-before.ensures.progress in
    omega (arith, parts)

pub put_sum-requires : goal.put_sum-requires
put_sum-requires c =
    let a = c.args in
    let parts = parts_fit a.command a.body.now a.out.now c.is_short.result c.is_short.ensures c.if-is_short.false in
    let kept : length c.put_all-behind.new.out ≡ length a.out.now = c.put_all-behind.auto.out ∙ c.put_length-before.auto.out ∙ simp length-set in
    let before = data_place a.command a.body.now c.put_length-before.result c.put_length-before.ensures.progress in
    let behind : c.put_all-behind.result.at ≡ c.put_length-before.result.at + length (stuffed a.body.now) = ap (λ (t : Progress). t.at) c.put_all-behind.ensures.progress in
    rw
    (behind_sum a.command a.body.now c.put_length-before.result c.put_all-behind.result c.put_length-before.ensures.progress c.put_all-behind.ensures.progress)
    (omega (arith, parts))

pub shape_of-out : goal.shape_of-out
shape_of-out c =
    c.put_sum.auto.out ∙ c.put_all-behind.auto.out ∙ c.put_length-before.auto.out ∙ simp length-set

pub returns : goal.returns
returns c =
    let r = c.put_sum in
    let a = c.args in
    let formed = can_be_formed a.command a.body.now c.is_formed.result c.is_formed.ensures c.if-not-is_formed.false in
    let enough = room a.command a.body.now a.out.now c.is_short.result c.is_short.ensures c.if-is_short.false in
    let ls = between a.command a.body.now in
    let put = put_append (front a.command) c.put_length-before.result c.put_all-behind.result (length_part a.command a.body.now) a.body.now _ c.put_length-before.new.out c.put_all-behind.new.out c.put_length-before.ensures c.put_all-behind.ensures in
    let length_is = written_length a.command ls a.out.now c.put_all-behind.new.out r.new.out c.put_all-behind.result r.result put r.ensures in
    let buffer_is = written_buffer a.command ls a.out.now c.put_all-behind.new.out r.new.out c.put_all-behind.result r.result put r.ensures in
    let taken_is = command_taken a.command a.body.now a.out.now formed enough in
    let written_is = command_written_lem a.command a.body.now a.out.now formed enough in
    let left_is = command_buffer_lem a.command a.body.now a.out.now formed enough in
    let wire = command_framed a.command a.body.now in
    record {
      result = λ i. record { refusal = sym taken_is i; length = (length_is ∙ ap length wire ∙ sym written_is) i };
      buffer = buffer_is ∙ ap (λ (l : List ℕ). sets a.out.now 0 l) wire ∙ sym left_is;
    }
