-- A literal is passed over: the messages from its place on are those from the place behind it on.
use mathlib.Core.Path.{◌≡◌, refl, sym, ap, subst, ◌∙◌}
use mathlib.Core.List.{List, [], ◌∷◌, ◌++◌, map, map-append}
use Prim.Native.Nat.{ℕ, zero, suc, ◌+◌, ◌-◌, ◌%◌, ◌<◌, ◌≤◌}
use native.Mathlib.Omega.{arith}
use lib.ListN.{length, take, drop, get_or}
use lib.Seq.{drop-length}
use Rattle.std.specs.declared.option.Option.TheVariants.{None}
use Rattle.document.specs.Sum.{total}
use Rattle.document.specs.Pairing.{paired, until_start, width, opened_at}
use Rattle.document.specs.Pairing.Token.{literal}
use Rattle.document.specs.Message.{Message, whole_message}
use Rattle.document_captures.specs.Captures.{Entry, entry_of}
use Rattle.line_captures.specs.declared.tokens.Met.{Met}
use Rattle.line_captures.specs.declared.tokens.Met.TheVariants.{Start, Literal, End}
use Rattle.line_captures.specs.declared.messages.Step.{Step}
use Rattle.line_captures.specs.Tokens.{met_at}
use Rattle.line_captures.specs.Messages.{literals_from, heard_from, Passed, entries_at, Opened}
use Rattle.line_captures.specs.Walk.{captured_from, Stepped}
use Rattle.line_captures.proofs.Meeting.{AtStart, AtLiteral, Reads, reads}

module _ (bytes : List ℕ) (at : ℕ) where
  pub at_start : met_at bytes at ≡ Start → AtStart bytes at
  at_start e = subst (Reads bytes at) e (reads bytes at)

  pub at_literal : (l next : ℕ) → met_at bytes at ≡ Literal l next → AtLiteral bytes at l next
  at_literal l next e = subst (Reads bytes at) e (reads bytes at)

  at_end : met_at bytes at ≡ End → paired (drop at bytes) ≡ []
  at_end e = subst (Reads bytes at) e (reads bytes at)

  -- ---- a literal

  pub literals_on : (l next : ℕ) → met_at bytes at ≡ Literal l next → literals_from bytes at ≡ l ∷ literals_from bytes next
  literals_on l next e = ap until_start (at_literal l next e).tokens

  pub heard_on : (l next : ℕ) → met_at bytes at ≡ Literal l next → heard_from bytes at ≡ heard_from bytes next
  unfolding heard_from
  heard_on l next e =
      let here = at_literal l next e in
      ap (opened_at whole_message at) here.tokens ∙ ap (λ (n : ℕ). opened_at whole_message n (paired (drop next bytes))) (sym here.behind)

  -- ---- no literal

  pub literals_other : (m : Met) → m ≡ met_at bytes at → ((l next : ℕ) → m ≡ Literal l next → ⊥) → literals_from bytes at ≡ []
  literals_other Start e none = ap until_start (at_start (sym e)).tokens
  literals_other (Literal l next) e none = absurd (none l next refl)
  literals_other End e none = ap until_start (at_end (sym e))

  pub heard_end : met_at bytes at ≡ End → heard_from bytes at ≡ []
  unfolding heard_from
  heard_end e = ap (opened_at whole_message at) (at_end e)

-- ---- no byte is left

pub heard_behind : (bytes : List ℕ) → heard_from bytes (length bytes) ≡ []
unfolding heard_from
heard_behind bytes = rw (drop-length bytes) refl

-- ---- from one place to the other

pub passed_none : (bytes : List ℕ) (at : ℕ) → at ≤ length bytes → Passed bytes at at
passed_none bytes at inside = record { heard = refl; forward = omega arith; inside = inside }

pub passed_on : (bytes : List ℕ) (from at l next : ℕ) → Passed bytes from at → met_at bytes at ≡ Literal l next → Passed bytes from next
passed_on bytes from at l next before e =
    let here = at_literal bytes at l next e in
    record {
      heard = before.heard ∙ heard_on bytes at l next e;
      forward = omega (arith, before.forward, here.forward);
      inside = here.inside;
    }

pub passed_then : (bytes : List ℕ) (from at behind : ℕ) → Passed bytes from at → Passed bytes at behind → Passed bytes from behind
passed_then bytes from at behind one two =
    record { heard = one.heard ∙ two.heard; forward = omega (arith, one.forward, two.forward); inside = two.inside }

-- ---- a start: what it opens, then the rest

entries_placed : (place : ℕ) (ms : List Message) → map entry_of (map (λ (m : Message). record { place = place; thing = m }) ms) ≡ entries_at place ms
entries_placed place [] = refl
entries_placed place (m ∷ ms) = ap (λ (es : List Entry). entry_of (record { place = place; thing = m }) ∷ es) (entries_placed place ms)

module _ (bytes : List ℕ) (at : ℕ) (e : met_at bytes at ≡ Start) where
  abbrev command : ℕ
  command = get_or bytes (at + 1) 0

  heard_start : heard_from bytes at ≡ map (λ (m : Message). record { place = at; thing = m }) (whole_message (command ∷ literals_from bytes (at + 2))) ++ heard_from bytes (at + 2)
  unfolding heard_from
  heard_start =
      let here = at_start bytes at e in
      let behind : at + 1 + width (literal command) ≡ at + 2 = rw here.other (omega arith) in
      ap (opened_at whole_message at) here.tokens
      ∙ ap (λ (n : ℕ). map (λ (m : Message). record { place = at; thing = m }) (whole_message (command ∷ literals_from bytes (at + 2))) ++ opened_at whole_message n (paired (drop (at + 2) bytes))) behind

  pub captured_start : captured_from bytes at ≡ entries_at at (whole_message (command ∷ literals_from bytes (at + 2))) ++ captured_from bytes (at + 2)
  unfolding captured_from
  captured_start =
      let ms : List Message = whole_message (command ∷ literals_from bytes (at + 2)) in
      ap (map entry_of) heard_start
      ∙ map-append entry_of (map (λ (m : Message). record { place = at; thing = m }) ms) (heard_from bytes (at + 2))
      ∙ ap (λ (es : List Entry). es ++ map entry_of (heard_from bytes (at + 2))) (entries_placed at ms)

-- ---- what stands at a place, and the rest

pub captured_behind : (bytes : List ℕ) → captured_from bytes (length bytes) ≡ []
unfolding captured_from
captured_behind bytes = ap (map entry_of) (heard_behind bytes)

pub start_stepped : (bytes : List ℕ) (at : ℕ) (r : Step) → met_at bytes at ≡ Start → Opened bytes (at + 1) r → Stepped bytes at r
unfolding captured_from
start_stepped bytes at r e o =
    let two : at + 2 ≡ at + 1 + 1 = omega arith in
    record {
      found =
          captured_start bytes at e
          ∙ (λ i. entries_at at (whole_message (get_or bytes (at + 1) 0 ∷ literals_from bytes (two i))) ++ map entry_of (heard_from bytes (two i)))
          ∙ (λ i. o.found at i ++ map entry_of (o.passed.heard i));
      forward = omega (arith, o.passed.forward);
      inside = o.passed.inside;
    }

-- nothing is found there
abbrev on : ℕ → Step
on behind = record { behind = behind; found = None }

pub literal_stepped : (bytes : List ℕ) (at l next : ℕ) → met_at bytes at ≡ Literal l next → Stepped bytes at (on next)
unfolding captured_from
literal_stepped bytes at l next e =
    let here = at_literal bytes at l next e in
    record { found = ap (map entry_of) (heard_on bytes at l next e); forward = here.forward; inside = here.inside }

pub end_stepped : (bytes : List ℕ) (at : ℕ) → at < length bytes → met_at bytes at ≡ End → Stepped bytes at (on (length bytes))
unfolding captured_from
end_stepped bytes at inside e =
    record { found = ap (map entry_of) (heard_end bytes at e) ∙ sym (captured_behind bytes); forward = inside; inside = omega arith }

-- ---- so many literals

-- one of them taken
pub take_on : (n l : ℕ) (ls : List ℕ) → 0 < n → take n (l ∷ ls) ≡ l ∷ take (n - 1) ls
take_on zero l ls some = absurd (omega arith)
take_on (suc n) l ls some =
    let less : n ≡ suc n - 1 = omega arith in
    ap (λ (k : ℕ). l ∷ take k ls) less

pub sum_on : (n sum l : ℕ) (ls : List ℕ) → 0 < n → ((sum + l) % 256 + total (take (n - 1) ls)) % 256 ≡ (sum + total (take n (l ∷ ls))) % 256
sum_on n sum l ls some = rw (take_on n l ls some) (omega arith)
