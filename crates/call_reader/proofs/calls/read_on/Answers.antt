-- By what the byte asks for.
use mathlib.Core.List.{[]}
use mathlib.Core.Path.{◌≡◌, refl, sym, ap, subst, ◌∙◌}
use Prim.Native.Nat.{◌+◌, ◌-◌, ◌≤◌}
use native.Mathlib.Omega.{arith}
use lib.ListN.{set, take, drop}
use lib.Seq.{sets}
use Rattle.document.specs.Areas.{bytes_at}
use Rattle.call_reader.specs.Layout.{decoded_reader}
use Rattle.line_reader.proofs.Heads.{sound_head}
use Rattle.line_reader.specs.Head.{reach, head_step}
use Rattle.line_reader.specs.declared.head.Asked.{Asked}
use Rattle.line_reader.specs.Reader.{AnswerReader}
use Rattle.line_reader.specs.Reader as host
use Rattle.call_reader.proofs.Readings.{read_nothing, read_keep, read_right, read_wrong}
use Rattle.call_reader.proofs.calls.read_on.Goals as goal

pub step-stepped-requires : goal.step-stepped-requires
step-stepped-requires c =
    sound_head c.head_in-head.result [] (bytes_at c.args.reader.now 6 64) ∙ ap host.sound c.head_in-head.ensures ∙ c.requires.1

pub returns-in-Nothing : goal.returns-in-Nothing
returns-in-Nothing c =
    let in_head : host.stepped (decoded_reader (c.args.reader.now)) c.args.byte ≡ head_step c.step-stepped.result (bytes_at (c.args.reader.now) 6 64) = ap (λ (r : AnswerReader). host.stepped r c.args.byte) (sym c.head_in-head.ensures)
    ∙ c.step-stepped.ensures.0 (bytes_at (c.args.reader.now) 6 64) in
    read_nothing (c.args.reader.now) c.requires.0 _ c.step-stepped.result in_head (c.args.out.now) _ _ c.in-Nothing.is refl
    c.put_reader_head.ensures

pub returns-in-Keep : goal.returns-in-Keep
returns-in-Keep c =
    let in_head : host.stepped (decoded_reader (c.args.reader.now)) c.args.byte ≡ head_step c.step-stepped.result (bytes_at (c.args.reader.now) 6 64) = ap (λ (r : AnswerReader). host.stepped r c.args.byte) (sym c.head_in-head.ensures)
    ∙ c.step-stepped.ensures.0 (bytes_at (c.args.reader.now) 6 64) in
    let within : (a : Asked) → c.step-stepped.result.asks ≡ a → reach a ≤ 64 = λ a is. subst (λ (k : Asked). reach k ≤ 64) is c.step-stepped.ensures.1 in
    let at = c.in-Keep.at in
    let byte = c.in-Keep.byte in
    let inside : at + 1 ≤ 64 = within _ c.in-Keep.is in
    read_keep (c.args.reader.now) c.requires.0 _ c.step-stepped.result in_head (c.args.out.now) _ at byte _ c.in-Keep.is (omega (arith, inside)) refl
    (λ i. set (c.put_reader_head.ensures i) (6 + c.from.ensures i) byte)

pub returns-in-Right : goal.returns-in-Right
returns-in-Right c =
    let in_head : host.stepped (decoded_reader (c.args.reader.now)) c.args.byte ≡ head_step c.step-stepped.result (bytes_at (c.args.reader.now) 6 64) = ap (λ (r : AnswerReader). host.stepped r c.args.byte) (sym c.head_in-head.ensures)
    ∙ c.step-stepped.ensures.0 (bytes_at (c.args.reader.now) 6 64) in
    let within : (a : Asked) → c.step-stepped.result.asks ≡ a → reach a ≤ 64 = λ a is. subst (λ (k : Asked). reach k ≤ 64) is c.step-stepped.ensures.1 in
    let n = c.in-Right.length in
    let width : 6 + c.from-end.result - 6 ≡ n = omega (arith, c.from-end.ensures) in
    read_right (c.args.reader.now) c.requires.0 _ c.step-stepped.result in_head (c.args.out.now) _ c.in-Right.status n _ c.copy_in.new.memory c.in-Right.is
    (within _ c.in-Right.is) refl c.put_reader_head.ensures
    (c.copy_in.ensures ∙ (λ i. sets (c.args.out.now) 0 (take (width i) (drop 6 (c.put_reader_head.ensures i)))))

pub returns-in-Wrong : goal.returns-in-Wrong
returns-in-Wrong c =
    let in_head : host.stepped (decoded_reader (c.args.reader.now)) c.args.byte ≡ head_step c.step-stepped.result (bytes_at (c.args.reader.now) 6 64) = ap (λ (r : AnswerReader). host.stepped r c.args.byte) (sym c.head_in-head.ensures)
    ∙ c.step-stepped.ensures.0 (bytes_at (c.args.reader.now) 6 64) in
    read_wrong (c.args.reader.now) c.requires.0 _ c.step-stepped.result in_head (c.args.out.now) _ _ c.in-Wrong.is refl
    c.put_reader_head.ensures
