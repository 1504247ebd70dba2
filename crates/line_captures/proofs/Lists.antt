-- A list that is filled entry by entry: with room for all it holds them one behind another.
use mathlib.Core.Path.{◌≡◌, refl, sym, ap, ◌∙◌}
use mathlib.Core.List.{List, [], ◌∷◌, ◌++◌}
use Prim.Native.Nat.{ℕ, suc, ◌+◌, ◌*◌, ◌≤◌}
use native.Mathlib.Omega.{arith}
use borrow.Author.Tests.{lt-ltb}
use lib.ListN.{length, set}
use lib.Seq.{sets, length-sets}
use Rattle.document_captures.specs.Captures.{Entry, numbers_of, in_numbers, entry_room}
use Rattle.line_wire.proofs.Stuffed.{sets_append}
use Rattle.line_captures.specs.Entries.{put_one, put_all}

pub three_set : (list : List ℕ) (i a b c : ℕ) → set (set (set list i a) (i + 1) b) (i + 2) c ≡ sets list i (a ∷ b ∷ c ∷ [])
three_set list i a b c =
    let one : i + 1 ≡ suc i = omega arith in
    let two : i + 2 ≡ suc (suc i) = omega arith in
    λ j. set (set (set list i a) (one j) b) (two j) c

put_here : (list : List ℕ) (n : ℕ) (e : Entry) → suc n ≤ entry_room list → put_one list n e ≡ sets list (n * 3) (numbers_of e)
unfolding put_one
put_here list n e room = rw (lt-ltb n (entry_room list) room) refl

pub put_all_lem : (es : List Entry) (list : List ℕ) (n : ℕ) → n + length es ≤ entry_room list → put_all list n es ≡ sets list (n * 3) (in_numbers es)
put_all_lem [] list n room = refl
put_all_lem (e ∷ es) list n room =
    let here : put_one list n e ≡ sets list (n * 3) (numbers_of e) = put_here list n e (omega (arith, room)) in
    let same : entry_room (put_one list n e) ≡ entry_room list = ap entry_room here ∙ rw (length-sets list (n * 3) (numbers_of e)) refl in
    let next : suc n * 3 ≡ n * 3 + 3 = omega arith in
    put_all_lem es (put_one list n e) (suc n) (omega (arith, room, same))
    ∙ (λ j. sets (here j) (next j) (in_numbers es))
    ∙ sym (sets_append (numbers_of e) (in_numbers es) list (n * 3))

pub put_append : (es fs : List Entry) (list : List ℕ) (n : ℕ) → put_all list n (es ++ fs) ≡ put_all (put_all list n es) (n + length es) fs
put_append [] fs list n =
    let none : n ≡ n + 0 = omega arith in
    ap (λ (k : ℕ). put_all list k fs) none
put_append (e ∷ es) fs list n =
    let next : suc n + length es ≡ n + suc (length es) = omega arith in
    put_append es fs (put_one list n e) (suc n) ∙ ap (λ (k : ℕ). put_all (put_all (put_one list n e) (suc n) es) k fs) next
