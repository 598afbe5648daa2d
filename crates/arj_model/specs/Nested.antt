-- The order of nested actions, as if each ran whole at its commit.
use Rattle.std.specs.Prelude.{Bool, List, [], false, if◌then◌else◌, map, true, ℕ, ◌&&◌, ◌++◌, ◌<◌, ◌==◌, ◌∷◌, ◌≡◌}
use Rattle.std.specs.List.{AllByRecursion}
use Rattle.arj_journal.specs.declared.body.Line.{Line}
use Rattle.arj_model.specs.Actions.{Placed, committed}
use Rattle.arj_model.specs.Book.{OfEachTwo, is_conflict}
use Rattle.arj_model.specs.Calls.{Call, committed_calls}
use Rattle.arj_model.specs.Last.{is_among}
use Rattle.arj_model.specs.Serial.{arrange, lex, serial_calls}

-- the place of the first line that commits the action with this number
abbrev pub commit_place : List (Placed ℕ) → ℕ → ℕ
commit_place [] id = 0
commit_place (e ∷ ends) id = if e.it == id then e.at else commit_place ends id

-- Where a call stands if each nested action is moved to its `committed` line: at the place of the outermost action below
-- the top that it was made in, among that one's calls at the place of the next, and last at its own.
abbrev pub nested_key : List (Placed ℕ) → Call → List ℕ
nested_key ends c = map (commit_place ends) c.chain ++ c.at ∷ []

-- of two calls of one top, the first stands before the second so
abbrev pub nested_less : List (Placed ℕ) → Call → Call → Bool
nested_less ends c d = (c.top == d.top) && lex (nested_key ends c) (nested_key ends d)

-- The surviving calls of committed tops in serial order, those of each committed nested action moved to its `committed`
-- line, innermost first.
abbrev pub nested_calls : List Line → List Call
nested_calls lines = arrange (nested_less (committed lines)) (serial_calls lines)

-- of two conflicting calls of one top, each action below it that the first was made in and the second wasn't was
-- committed before the second was answered
abbrev pub IsFreedFor : List (Placed ℕ) → Call → Call → Type 0
IsFreedFor ends c d =
    c.at < d.at → (c.top == d.top) ≡ true → is_conflict c d ≡ true →
    AllByRecursion (λ a. is_among d.chain a ≡ false → commit_place ends a < d.at) c.chain

-- Nested order: so each two surviving calls of committed tops.
abbrev pub FreedInOrder : List Line → Type 0
FreedInOrder lines = OfEachTwo (IsFreedFor (committed lines)) (committed_calls lines)

-- no `ok` line of a surviving call of a committed top stands behind the `committed` line of an action that it was made in
abbrev pub AnsweredInTime : List Line → Type 0
AnsweredInTime lines = AllByRecursion (λ c. AllByRecursion (λ a. c.at < commit_place (committed lines) a) c.chain) (committed_calls lines)
