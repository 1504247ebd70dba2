-- A run can be cut at each thing that happens in it, at a byte inside a block too: what is said of a byte that comes by a call of its own
-- is said of every byte.
use mathlib.Core.Path.{◌≡◌, refl, ap, subst}
use mathlib.Core.List.{List, [], ◌∷◌, ◌++◌}
use Prim.Native.Nat.{ℕ}
use native.Mathlib.Omega.{arith}
use lib.ListN.{length, drop, length-append}
use Rattle.document.specs.Happenings.{Happening, Since}
use Rattle.laws_happenings.specs.Bytes.{AreBytes}
use Rattle.demands.specs.Board.{Board}
use Rattle.demands.specs.Run.{Step, Singly, Run}
use Rattle.demands.specs.Run.Singly.{ends, happens, refuses}
use Rattle.demands.specs.Cut.{Cut}
use Rattle.demands.proofs.Reached.{Reached}
use Rattle.demands.proofs.Blocks.{singly}

-- what comes singly is a run
pub run_of : (h last : Board) (hs : List Happening) → Singly h hs last → Run h hs last
run_of h last hs (ends _) = Run.ends h
run_of h last hs (happens _ next _ e es step run) = Run.happens h next last e es step (run_of next last es run)
run_of h last hs (refuses _ next _ _ refused run) = Run.refuses h next last hs refused (run_of next last hs run)

-- the first of a list, if it has one
abbrev first_or : Happening → List Happening → Happening
first_or e [] = e
first_or e (x ∷ hs) = x

cut_singly : (h last : Board) (hs : List Happening) → Singly h hs last → (earlier : List Happening) (e : Happening) (later : List Happening)
    → hs ≡ earlier ++ (e ∷ later) → Cut h earlier e later last
cut_singly h last hs (ends _) earlier e later is =
    let z : ◌≡◌ {A = ℕ} 0 (length (earlier ++ (e ∷ later))) = ap length is in
    absurd (omega (arith, z, length-append earlier (e ∷ later)))
cut_singly h last hs (happens _ next _ x xs step run) [] e later is =
    record {
      before = h;
      next = next;
      to_there = Run.ends h;
      step = subst (λ (k : Happening). Step h k next) (ap (first_or e) is) step;
      on = subst (λ (l : List Happening). Run next l last) (ap (drop 1) is) (run_of next last xs run);
    }
cut_singly h last hs (happens _ next _ x xs step run) (y ∷ earlier) e later is =
    let cut = cut_singly next last xs run earlier e later (ap (drop 1) is) in
    let here : Step h y next = subst (λ (k : Happening). Step h k next) (ap (first_or y) is) step in
    record { before = cut.before; next = cut.next; to_there = Run.happens h next cut.before y earlier here cut.to_there; step = cut.step; on = cut.on }
cut_singly h last hs (refuses _ next _ _ refused run) earlier e later is =
    let cut = cut_singly next last hs run earlier e later is in
    record { before = cut.before; next = cut.next; to_there = Run.refuses h next cut.before earlier refused cut.to_there; step = cut.step; on = cut.on }

pub cut : (h : Board) (s : Since) → Reached h s → (earlier : List Happening) (e : Happening) (later : List Happening) (last : Board)
    → AreBytes (earlier ++ (e ∷ later)) → Run h (earlier ++ (e ∷ later)) last → Cut h earlier e later last
cut h s r earlier e later last are run =
    cut_singly h last (earlier ++ (e ∷ later)) (singly h last (earlier ++ (e ∷ later)) run s are r) earlier e later refl
