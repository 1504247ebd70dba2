-- The rows hold of the definitions, over a short memory: all of them by one computation. It is a test of numbers, which is fast where
-- the comparison of two terms is not, and the test's truth is their equality.
use mathlib.Core.Path.{◌≡◌, refl}
use mathlib.Core.Bool.{Bool, true, false, cond, ◌&&◌}
use mathlib.Core.List.{List, [], ◌∷◌, ◌++◌, map, cons≢nil}
use Prim.Native.Nat.{ℕ, suc}
use lib.Dec.{T, eqb, eqb→eq}
use Rattle.document.specs.Services.{service_of}
use Rattle.document.specs.Message.{heard, finished_by}
use Rattle.document.specs.Answer.{answer_on_wire}
use Rattle.document.specs.Plan.{plan_in}
use Rattle.document.specs.Trigger.{fires, is_beyond}
use Rattle.document.specs.Run.{ran_tick, memory_after_tick}
use Rattle.document.specs.Permission.{may_be_written}
use Rattle.document.specs.Refusals.{refusal}
use Rattle.document.specs.Commands.{answered}
use Rattle.document.specs.Panel.{panel_prepares, panel_starts}
use Rattle.document.specs.Asides.{beside}
use Rattle.document.specs.Strings.{before_zero, has_zero}
use Rattle.document.specs.ApplicationRows.{application_rows}
use Rattle.document.specs.PanelRows.{panel_rows, midst_rows}
use Rattle.document.specs.Rows.{Row, said_by, byte_by_byte}
use Rattle.document.specs.QuickRows.{said_quick, step_by_step_quick}
use Rattle.document.specs.LineRows.{line_rows, long_line_rows, paired_bytes, tokens}
use Rattle.document.specs.ReadRows.{read_rows}
use Rattle.document.specs.WriteRows.{write_rows}
use Rattle.document.specs.ScopeRows.{scope_rows}
use Rattle.document.specs.SetupRows.{setup_rows}
use Rattle.document.specs.RecorderRows.{recorder_rows}
use Rattle.document.specs.TriggerRows.{trigger_rows}
use Rattle.document.specs.EdgeRows.{Edge, fires_at, edges, complements, complements_written}
use Rattle.document.specs.LevelRows.{Level, fires_first, levels}

-- ---- the test

abbrev same : {A : Type 0} → (A → A → Bool) → List A → List A → Bool
same one [] [] = true
same one [] (y ∷ ys) = false
same one (x ∷ xs) [] = false
same one (x ∷ xs) (y ∷ ys) = one x y && same one xs ys

left : (s t : Bool) → T (s && t) → T s
left true t h = tt
left false t h = absurd h

right : (s t : Bool) → T (s && t) → T t
right true t h = h
right false t h = absurd h

same_eq : {A : Type 0} (one : A → A → Bool) → ((x y : A) → T (one x y) → x ≡ y) → (xs ys : List A) → T (same one xs ys) → xs ≡ ys
same_eq one eq [] [] h = refl
same_eq one eq [] (y ∷ ys) h = absurd h
same_eq one eq (x ∷ xs) [] h = absurd h
same_eq one eq (x ∷ xs) (y ∷ ys) h =
    λ i. eq x y (left (one x y) (same one xs ys) h) i ∷ same_eq one eq xs ys (right (one x y) (same one xs ys) h) i

-- the numbers of the rows that differ, the first row being n. To find one that does not hold, cut `rows` below short: the
-- prover prints the numbers of a short table alone
abbrev differing : {A : Type 0} → (A → A → Bool) → ℕ → List A → List A → List ℕ
differing one n [] [] = []
differing one n [] (y ∷ ys) = n ∷ []
differing one n (x ∷ xs) [] = n ∷ []
differing one n (x ∷ xs) (y ∷ ys) = cond (one x y) (differing one (suc n) xs ys) (n ∷ differing one (suc n) xs ys)

agreed : (b : Bool) (n : ℕ) (ns : List ℕ) → cond b ns (n ∷ ns) ≡ [] → T b × (ns ≡ [])
agreed true n ns e = (tt, e)
agreed false n ns e = absurd (cons≢nil e)

none_differs : {A : Type 0} (one : A → A → Bool) → ((x y : A) → T (one x y) → x ≡ y) → (n : ℕ) (xs ys : List A) → differing one n xs ys ≡ [] → xs ≡ ys
none_differs one eq n [] [] e = refl
none_differs one eq n [] (y ∷ ys) e = absurd (cons≢nil e)
none_differs one eq n (x ∷ xs) [] e = absurd (cons≢nil e)
none_differs one eq n (x ∷ xs) (y ∷ ys) e =
    let both : T (one x y) × (differing one (suc n) xs ys ≡ []) = agreed (one x y) n (differing one (suc n) xs ys) e in
    λ i. eq x y both.0 i ∷ none_differs one eq (suc n) xs ys both.1 i

-- of rows that are lists of bytes, and of rows that are lists of answers
abbrev pub unlike : List (List ℕ) → List (List ℕ) → List ℕ
unlike given said = differing (same eqb) 0 given said

abbrev pub unanswered : List (List (List ℕ)) → List (List (List ℕ)) → List ℕ
unanswered given said = differing (same (same eqb)) 0 given said

pub lists_eq : (given said : List (List ℕ)) → unlike given said ≡ [] → given ≡ said
lists_eq given said e = none_differs (same eqb) (same_eq eqb eqb→eq) 0 given said e

pub holds_eq : (given said : List (List (List ℕ))) → unanswered given said ≡ [] → given ≡ said
holds_eq given said e = none_differs (same (same eqb)) (same_eq (same eqb) (same_eq eqb eqb→eq)) 0 given said e

-- ---- the table

abbrev pub rows : List Row
unfolding long_line_rows read_rows write_rows scope_rows setup_rows recorder_rows trigger_rows application_rows panel_rows
rows = long_line_rows ++ read_rows ++ write_rows ++ scope_rows ++ setup_rows ++ recorder_rows ++ trigger_rows ++ application_rows ++ panel_rows

-- those of the line byte by byte, the others over a short memory
abbrev pub given : List (List (List ℕ))
unfolding line_rows long_line_rows read_rows write_rows scope_rows setup_rows recorder_rows trigger_rows application_rows panel_rows midst_rows
given = map byte_by_byte line_rows ++ map byte_by_byte midst_rows ++ map step_by_step_quick rows

abbrev pub said : List (List (List ℕ))
unfolding line_rows long_line_rows read_rows write_rows scope_rows setup_rows recorder_rows trigger_rows application_rows panel_rows midst_rows
said = map said_by line_rows ++ map said_by midst_rows ++ map said_quick rows

pub quick_rows_hold : given ≡ said
unfolding line_rows long_line_rows read_rows write_rows scope_rows setup_rows recorder_rows trigger_rows application_rows panel_rows midst_rows panel_prepares panel_starts answer_on_wire heard finished_by service_of may_be_written refusal answered plan_in fires is_beyond ran_tick memory_after_tick beside before_zero has_zero
quick_rows_hold = holds_eq given said refl

pub edges_hold : map fires_at edges ≡ map (λ (e : Edge). e.fires) edges
unfolding edges fires
edges_hold = refl

pub levels_hold : map fires_first levels ≡ map (λ (l : Level). l.fires) levels
unfolding levels is_beyond
levels_hold = refl

pub complements_hold : complements ≡ complements_written
complements_hold = refl

pub tokens_hold : paired_bytes ≡ tokens
tokens_hold = refl
