-- One outcome, by a journal: what is committed anywhere was decided before, and why a store, or naming, may abort what was decided.
use Rattle.std.specs.Prelude.{Bool, List, [], true, ◌&&◌, ◌++◌, ◌∷◌, ◌≡◌}
use Rattle.arj_journal.specs.declared.body.Body.{Body}
use Rattle.arj_journal.specs.declared.body.Line.{Line}
use Rattle.arj_model.specs.Outcome.{has_cause_to_abort, is_behind_decision}

-- a test that holds of each line, by the lines before it
abbrev pub each_behind : (List Line → Body → Bool) → List Line → List Line → Bool
each_behind test before [] = true
each_behind test before (line ∷ lines) = test before line.body && each_behind test (before ++ line ∷ []) lines

-- each line that a commit is done stands behind one that says that it is decided
abbrev pub commits_are_behind : List Line → Bool
commits_are_behind lines = each_behind is_behind_decision [] lines

-- each line that says an abort of an action that is decided has a cause
abbrev pub aborts_have_cause : List Line → Bool
aborts_have_cause lines = each_behind has_cause_to_abort [] lines

-- Both: the journal shows one outcome of each top.
pub record ShowsOneOutcome (lines : List Line) : Type 0 where
  pub commits : commits_are_behind lines ≡ true
  pub aborts : aborts_have_cause lines ≡ true
