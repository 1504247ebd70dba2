-- Runs one behind the other, and what holds of a list of happenings taken apart.
use mathlib.Core.Path.{sym, subst}
use mathlib.Core.List.{List, [], ◌∷◌, ◌++◌, append_assoc}
use Rattle.document.specs.Happenings.{Happening, Since, after, after_all}
use Rattle.laws_happenings.specs.Bytes.{AreBytes}
use Rattle.laws_happenings.specs.Due.{AllDue}
use Rattle.laws_calls.specs.Calls.{took_of}
use Rattle.demands.specs.Board.{Board}
use Rattle.demands.specs.Run.{came, Run}
use Rattle.demands.specs.Run.Run.{ends, happens, blocks, refuses}

pub run_behind_lem : (h mid last : Board) (es fs : List Happening) → Run h es mid → Run mid fs last → Run h (es ++ fs) last
run_behind_lem h mid last es fs (ends _) on = on
run_behind_lem h mid last es fs (happens _ next _ e rest step run) on = happens h next last e (rest ++ fs) step (run_behind_lem next mid last rest fs run on)
run_behind_lem h mid last es fs (blocks _ next _ bytes rest all taking run) on =
    subst (λ (l : List Happening). Run h l last) (sym (append_assoc (came (took_of taking.made.outcome.left) bytes) rest fs))
    (blocks h next last bytes (rest ++ fs) all taking (run_behind_lem next mid last rest fs run on))
run_behind_lem h mid last es fs (refuses _ next _ _ refused run) on = refuses h next last (es ++ fs) refused (run_behind_lem next mid last es fs run on)

pub are_parts : (es fs : List Happening) → AreBytes (es ++ fs) → AreBytes es × AreBytes fs
are_parts [] fs are = (tt, are)
are_parts (e ∷ es) fs are = let rest = are_parts es fs are.1 in ((are.0, rest.0), rest.1)

pub due_parts : (es fs : List Happening) (s : Since) → AllDue s (es ++ fs) → AllDue s es × AllDue (after_all s es) fs
due_parts [] fs s due = (tt, due)
due_parts (e ∷ es) fs s due = let rest = due_parts es fs (after s e) due.1 in ((due.0, rest.0), rest.1)
