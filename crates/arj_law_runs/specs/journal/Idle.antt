-- Tops that committed while nobody took part in them, and what is below a top whose commit was called.
use Rattle.std.specs.Prelude.{◌≡◌, ◌≢◌, ℕ, true, false, List, [], ◌∷◌, ◌++◌, Some, Contains}
use Rattle.arj_base.specs.Rows.{is_on}
use Rattle.arj_base.specs.declared.uid.Uid.{Uid}
use Rattle.arj_journal.specs.declared.body.Line.{Line}
use Rattle.arj_model.specs.Actions.{Act, acts, ended, has_end, path, uids}
use Rattle.arj_model.specs.Calls.{surviving}
use Rattle.arj_model.specs.Last.{joins_of}
use Rattle.arj_protocol.specs.Coord.{Coord, Doing, doing_of}
use Rattle.arj_protocol.specs.Tree.{Branch, behind, branch_of}
use Rattle.arj_protocol.specs.Words.ending
use Rattle.arj_law_runs.specs.journal.Book.{Access, Book, is_top}
use Rattle.arj_law_runs.specs.journal.Laws.{called}

-- A top whose commit was called, and of which nothing survives: each access below it was cut off by an abort on its path.
pub record IsIdle (B : Book) (u : Uid) : Type 0 where
  pub called : is_on B.called u ≡ true
  pub cut : (a : Access) → Contains B.accesses a → is_on (uids (path B.acts (let c = a.act in c.label))) u ≡ true →
      (w : Uid) × (is_on (behind u (uids (path B.acts (let c = a.act in c.label)))) w ≡ true) × (is_on B.aborted w ≡ true)

-- by the journal no call of the top survives, and no include
pub record HasNothing (lines : List Line) (a : Act) : Type 0 where
  pub calls : surviving lines a.id ≡ []
  pub includes : (x : ℕ) → joins_of lines a.id x ≡ []

-- the coordinator has the top as committed, and nobody took part in it
pub record IsLeftAlone (c : Coord) (u : Uid) : Type 0 where
  pub branch : Branch
  pub doing : Doing
  pub found : branch_of u c.tree ≡ Some branch
  pub does : doing_of u c ≡ Some doing
  pub committed : branch.ended ≡ Some ending.Commit
  pub top : is_top branch.kind ≡ true
  pub took : doing.took ≡ []

-- where the commit of a top was called each action below it has an end
abbrev pub BelowCommitsIsOver : List Line → Type 0
BelowCommitsIsOver lines = (top a : Act) → Contains (acts lines) top → Contains (acts lines) a → has_end (called lines) top.id ≡ true →
    is_on (uids (path (acts lines) a.label)) top.uid ≡ true → a.uid ≢ top.uid → has_end (ended lines) a.id ≡ true
