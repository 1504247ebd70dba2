-- The walk: what a step finds, and what all of them leave.
use Rattle.std.specs.Prelude.{◌≡◌, List, ◌++◌, map, ℕ, ◌<◌, ◌≤◌, length}
use Rattle.document_captures.specs.Captures.{Entry, entry_of, captured}
use Rattle.line_captures.specs.declared.messages.Step.{Step}
use Rattle.line_captures.specs.Entries.{put_all}
use Rattle.line_captures.specs.Messages.{heard_from, entries_of}

-- the entries from a place on
unfoldable pub captured_from : List ℕ → ℕ → List Entry
captured_from bytes at = map entry_of (heard_from bytes at)

pub record Stepped (bytes : List ℕ) (at : ℕ) (r : Step) : Type 0 where
  pub found : captured_from bytes at ≡ entries_of at r ++ captured_from bytes r.behind
  pub forward : at < r.behind
  pub inside : r.behind ≤ length bytes

pub record Walked (bytes before : List ℕ) (r : ℕ) (after : List ℕ) : Type 0 where
  pub count : r ≡ length (captured bytes)
  pub list : after ≡ put_all before 0 (captured bytes)
