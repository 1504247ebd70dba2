-- From every board that a run reaches, whatever is due can happen, one thing after the other; and a call that is refused leaves a run where
-- it is.
use mathlib.Core.Path.{refl, ap, ◌∙◌}
use mathlib.Core.Bool.{◌&&◌}
use mathlib.Core.List.{List, [], ◌∷◌}
use lib.Dec.{leb}
use Rattle.document.specs.Bytes.{AllBytes}
use Rattle.document.specs.Application.{is_collected}
use Rattle.document.specs.Gate.{Gate}
use Rattle.document.specs.Asides.Aside.{tick, writes, collects, reports, prepares, starts, frames}
use Rattle.document.specs.Happenings.{Happening, Since, after}
use Rattle.document.specs.Happenings.Happening.{byte, aside}
use Rattle.laws_happenings.specs.Bytes.{IsBytes, AreBytes}
use Rattle.laws_happenings.specs.Due.{DueAt, AllDue}
use Rattle.demands.specs.Board.{Board}
use Rattle.demands.specs.Run.{Run, doing, brought_by, Due}
use Rattle.demands.specs.Run.Run.{ends, happens}
use Rattle.demands.proofs.Exists.{can_do}
use Rattle.demands.proofs.Reached.{Reached, kept}
use Rattle.demands.proofs.Runs.{reached_step}

-- what something brings and asks for is what its call does
asked : (h : Board) (s : Since) → Reached h s → (e : Happening) → IsBytes e → DueAt s e → AllBytes (brought_by (doing e)) × Due h e
asked h s r (byte b) small due = ((small, tt), refl)
asked h s r (aside tick) are due = (are, refl)
asked h s r (aside (writes address bytes)) are due = (are, tt)
asked h s r (aside collects) are due = (are, refl)
asked h s r (aside (reports result)) are due = (are, ap (λ (g : Gate). leb result 0xFD && is_collected g.application) r.stands.gate ∙ due)
asked h s r (aside (prepares setup)) are due = (are, refl)
asked h s r (aside starts) are due = (are, refl)
asked h s r (aside (frames station bytes)) are due = (are, due)

pub run_there : (hs : List Happening) (h : Board) (s : Since) → Reached h s → AreBytes hs → AllDue s hs → (last : Board) × Run h hs last
run_there [] h s r are due = (h, ends h)
run_there (e ∷ hs) h s r are due =
    let asks = asked h s r e are.0 due.0 in
    let one = can_do h (kept h s r) (doing e) asks.0 asks.1 in
    let rest = run_there hs one.0 (after s e) (reached_step h s r e one.0 are.0 one.1) are.1 due.1 in
    (rest.0, happens h one.0 rest.0 e hs one.1 rest.1)
