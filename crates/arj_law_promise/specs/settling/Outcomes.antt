-- Each run shows one outcome of each top, whatever stops fall in it: what stores abort of a decided one has a cause, and naming aborts
-- nothing of it.
use Rattle.std.specs.Prelude.{◌≡◌, ℕ, true, false, List, ◌∷◌, ◌++◌}
use Rattle.arj_base.specs.declared.mode.End.TheVariants as ending
use Rattle.arj_base.specs.declared.uid.Uid.{Uid}
use Rattle.arj_journal.specs.declared.body.Body.TheVariants as body
use Rattle.arj_journal.specs.declared.body.Line.{Line}
use Rattle.arj_journal.specs.declared.body.Role.TheVariants as role
use Rattle.arj_journal.specs.declared.header.Header.{Header}
use Rattle.arj_promise.specs.Runs.{Run, journal_by}
use Rattle.arj_model.specs.Outcome.{is_said, may_abort}
use Rattle.arj_promise.specs.Outcome.{ShowsOneOutcome}

-- what a store aborts of a decided top has a cause
abbrev pub StoresHaveCauses : List Line → Type 0
StoresHaveCauses lines = (before : List Line) (line : Line) (behind : List Line) (n : ℕ) (u : Uid) → lines ≡ before ++ line ∷ behind →
    line.body ≡ body.Done n u role.Store ending.Abort → is_said before u ≡ true → may_abort before role.Store n u ≡ true

-- so it is in every run
abbrev pub StoresAbortByCauses : Type 0
StoresAbortByCauses = (hd : Header) (r : Run hd) → StoresHaveCauses (journal_by hd r)

-- naming aborts nothing that it prepared for an action that was decided before
abbrev pub AbortsNoneDecided : List Line → Type 0
AbortsNoneDecided lines = (before : List Line) (line : Line) (behind : List Line) (n : ℕ) (u : Uid) → lines ≡ before ++ line ∷ behind →
    line.body ≡ body.Done n u role.Names ending.Abort → is_said before u ≡ false

-- so it is in every run
abbrev pub NamingAbortsNoneDecided : Type 0
NamingAbortsNoneDecided = (hd : Header) (r : Run hd) → AbortsNoneDecided (journal_by hd r)

-- and each run shows one outcome of each top
abbrev pub RunsShowOneOutcome : Type 0
RunsShowOneOutcome = (hd : Header) (r : Run hd) → ShowsOneOutcome (journal_by hd r)
