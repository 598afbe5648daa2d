-- One outcome, by a journal: what is committed anywhere was decided before, and why a store, or naming, may abort what was
-- decided.
use Rattle.std.specs.Prelude.{ℕ, List, Bool, true, false, ◌==◌, ◌&&◌, ◌||◌, not, nat_lt, Option, None, Some}
use Rattle.std.specs.List.{list_any}
use Rattle.arj_base.specs.Uid.{uid_eq}
use Rattle.arj_base.specs.declared.mode.End.TheVariants as ending
use Rattle.arj_base.specs.declared.uid.Uid.{Uid}
use Rattle.arj_journal.specs.declared.body.Body.{Body}
use Rattle.arj_journal.specs.declared.body.Body.TheVariants as body
use Rattle.arj_journal.specs.declared.body.Line.{Line}
use Rattle.arj_journal.specs.declared.body.Role.{Role}
use Rattle.arj_journal.specs.declared.body.Role.TheVariants as role
use Rattle.arj_model.specs.Actions.{Act, acts, committed, halts, is_committed, recovered, top_in}
use Rattle.arj_model.specs.Calls.{committings}
use Rattle.arj_model.specs.Last.{excluded}

-- an action with this Uid has its `committed` line, or the line that a restart found its record
abbrev pub is_said : List Line → Uid → Bool
is_said lines u = list_any (λ (a : Act). uid_eq a.uid u && is_committed (committed lines) (recovered lines) a) (acts lines)

-- a line that a commit is done stands behind one that says that it is decided
abbrev pub is_behind_decision : List Line → Body → Bool
is_behind_decision before (body.Done n u r ending.Commit) = is_said before u
is_behind_decision before _ = true

-- the store of the node, or naming there, has committed what it prepared for the action
abbrev pub is_commit_by : Role → ℕ → Uid → Body → Bool
is_commit_by role.Store n u (body.Done m v role.Store ending.Commit) = (m == n) && uid_eq v u
is_commit_by role.Names n u (body.Done m v role.Names ending.Commit) = (m == n) && uid_eq v u
is_commit_by r n u _ = false

-- some line says so
abbrev pub was_committed_at : List Line → Role → ℕ → Uid → Bool
was_committed_at lines r n u = list_any (λ (line : Line). is_commit_by r n u line.body) lines

-- the action with this number has this Uid
abbrev pub has_uid : List Line → Uid → ℕ → Bool
has_uid lines u id = list_any (λ (a : Act). (a.id == id) && uid_eq a.uid u) (acts lines)

-- the top's commit excluded the store, for some object
abbrev pub was_excluded : List Line → ℕ → Uid → Bool
was_excluded lines n u = list_any (λ e. (e.it.node == n) && has_uid lines u e.it.top) (excluded lines)

-- the path's top has this Uid
abbrev pub is_top_of : Uid → Option Act → Bool
is_top_of u None = false
is_top_of u (Some a) = uid_eq a.uid u

-- the node has halted since the top's commit was called
abbrev pub has_halted_since : List Line → ℕ → Uid → Bool
has_halted_since lines n u =
    list_any (λ m. is_top_of u (top_in m.it) && list_any (λ h. (h.it.node == n) && nat_lt m.at h.at) (halts lines)) (committings lines)

-- A store, or naming, may abort what it prepared for a decided top only where it has committed it before, the top's commit excluded the node,
-- or the node has halted since that commit was called.
abbrev pub may_abort : List Line → Role → ℕ → Uid → Bool
may_abort lines r n u = was_committed_at lines r n u || was_excluded lines n u || has_halted_since lines n u

-- so it is of a line that says an abort of an action that is decided
abbrev pub has_cause_to_abort : List Line → Body → Bool
has_cause_to_abort before (body.Done n u r ending.Abort) = not (is_said before u) || may_abort before r n u
has_cause_to_abort before _ = true
