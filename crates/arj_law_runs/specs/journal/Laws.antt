-- What follows of a journal whose lines are right, in the words of `arj_model`.
use Rattle.std.specs.Prelude.{⊤, ◌≡◌, ◌≢◌, ℕ, true, false, List, [], ◌∷◌, ◌++◌, length, Option, Some, None, Contains}
use Rattle.std.specs.List.{AllByRecursion}
use Rattle.arj_base.specs.declared.mode.End.TheVariants as ending
use Rattle.arj_base.specs.declared.uid.Uid.{Uid}
use Rattle.arj_journal.specs.declared.body.Body.{Body}
use Rattle.arj_journal.specs.declared.body.Body.TheVariants as body
use Rattle.arj_journal.specs.declared.body.Line.{Line}
use Rattle.arj_text.specs.Label.{name}
use Rattle.arj_model.specs.Actions.{Act, Placed, act_in, acts, committed, ended, ended_of, has_end, id_in, is_committed, read, recovered}
use Rattle.arj_model.specs.Calls.{Top, tops}
use Rattle.arj_protocol.specs.Words.{Label}
use Rattle.arj_law_runs.specs.journal.Book.{book, is_decided, is_over, is_top}
use Rattle.arj_law_runs.specs.journal.Right.{IsBelow, has_act}

-- an action of this journal is committed
abbrev pub IsDone : List Line → Act → Type 0
IsDone lines a = is_committed (committed lines) (recovered lines) a ≡ true

-- The book of a journal has the journal's actions, and says of each whether it is committed and whether it has an end.
pub record IsItsBook (lines : List Line) : Type 0 where
  pub begun : (let B = book lines in B.acts) ≡ acts lines
  pub decided : (a : Act) → Contains (acts lines) a → is_committed (committed lines) (recovered lines) a ≡ is_decided (book lines) a.uid
  pub over : (a : Act) → Contains (acts lines) a → has_end (ended lines) a.id ≡ is_over (book lines) a.uid

-- actions, the newest first, are told apart by their numbers, by their labels and by their Uids
abbrev pub AreDistinct : List Act → Type 0
AreDistinct [] = ⊤
AreDistinct (a ∷ older) = (a.id ≡ length older) × (act_in older a.label ≡ None) × (has_act older a.uid ≡ false) × AreDistinct older

-- each action fits its parent, which began before it
abbrev pub AreFormed : List Act → Type 0
AreFormed [] = ⊤
AreFormed (a ∷ older) = IsBelow older a.kind a.parent × AreFormed older

-- the action with this Uid began, and is committed
abbrev pub IsCommittedIn : List Line → Uid → Type 0
IsCommittedIn lines u = (a : Act) × Contains (acts lines) a × (a.uid ≡ u) × IsDone lines a

-- a commit is told, and done, of an action that is committed by then
abbrev pub IsCaused : List Line → Body → Type 0
IsCaused before (body.Told n u ending.Commit p) = IsCommittedIn before u
IsCaused before (body.Done n u r ending.Commit) = IsCommittedIn before u
IsCaused before _ = ⊤

-- so it is of each line of the journal
abbrev pub CommitsAreCaused : List Line → Type 0
CommitsAreCaused lines = (before : List Line) (line : Line) (behind : List Line) → lines ≡ before ++ line ∷ behind →
    IsCaused before line.body

-- a line that ends an action is its first
abbrev pub ActionsEndOnce : List Line → Type 0
ActionsEndOnce lines = (before : List Line) (line : Line) (behind : List Line) → lines ≡ before ++ line ∷ behind → (id : ℕ) →
    ended_of (acts before) line.body ≡ Some id → has_end (ended before) id ≡ false

-- the number of the action that a line says was aborted
abbrev pub aborted_of : List Act → Body → Option ℕ
aborted_of acts (body.Aborted l c) = id_in acts (name l)
aborted_of acts _ = None

-- the aborts of a journal
abbrev pub aborted : List Line → List (Placed ℕ)
aborted lines = read aborted_of [] 0 lines

-- no committed action was aborted
abbrev pub OutcomesAreOne : List Line → Type 0
OutcomesAreOne lines = (a : Act) → Contains (acts lines) a → IsDone lines a → has_end (aborted lines) a.id ≡ false

-- the number of the action whose commit a line calls, and all of a journal
abbrev pub called_of : List Act → Body → Option ℕ
called_of acts (body.Committing l) = id_in acts (name l)
called_of acts _ = None

-- the commit calls of a journal, in order
abbrev pub called : List Line → List (Placed ℕ)
called lines = read called_of [] 0 lines

-- the number of the action to which a line answers a call or an include, and of the one that it says makes an exclusion
abbrev pub answered_of : List Act → Body → Option ℕ
answered_of acts (body.Ok l x o r) = id_in acts (name l)
answered_of acts (body.Includes l x n) = id_in acts (name l)
answered_of acts _ = None

-- the number of the action whose exclusion a line says
abbrev pub excluder_of : List Act → Body → Option ℕ
excluder_of acts (body.Excluded l x n) = id_in acts (name l)
excluder_of acts _ = None

-- A call and an include is answered to an action that has no end yet, and whose commit isn't called; and an exclusion is made by
-- one that has no end, and whose commit was called.
abbrev pub CallsAreTimely : List Line → Type 0
CallsAreTimely lines = (before : List Line) (line : Line) (behind : List Line) → lines ≡ before ++ line ∷ behind → (id : ℕ) →
    answered_of (acts before) line.body ≡ Some id → (has_end (ended before) id ≡ false) × (has_end (called before) id ≡ false)

-- each exclusion is said by an action whose commit was called and has no end yet
abbrev pub ExclusionsAreTimely : List Line → Type 0
ExclusionsAreTimely lines = (before : List Line) (line : Line) (behind : List Line) → lines ≡ before ++ line ∷ behind → (id : ℕ) →
    excluder_of (acts before) line.body ≡ Some id → (has_end (ended before) id ≡ false) × (has_end (called before) id ≡ true)

-- A commit is called once, of an action that has no end; behind the call it is decided, by its line where the action is a top, or by
-- a record that a restart finds.
pub record CommitsAreCalled (lines : List Line) : Type 0 where
  pub once : (before : List Line) (line : Line) (behind : List Line) → lines ≡ before ++ line ∷ behind → (id : ℕ) →
      called_of (acts before) line.body ≡ Some id → (has_end (ended before) id ≡ false) × (has_end (called before) id ≡ false)
  pub said : (before : List Line) (line : Line) (behind : List Line) → lines ≡ before ++ line ∷ behind → (l : Label) (a : Act) →
      line.body ≡ body.Committed l → act_in (acts before) (name l) ≡ Some a → has_end (called before) a.id ≡ is_top a.kind
  pub found : (before : List Line) (line : Line) (behind : List Line) → lines ≡ before ++ line ∷ behind → (n : ℕ) (a : Act) →
      Contains (acts before) a → line.body ≡ body.Recovered n a.uid → has_end (called before) a.id ≡ true

-- the top is an action of the journal, a committed one
pub record IsTop (lines : List Line) (t : Top) : Type 0 where
  pub act : Act
  pub there : Contains (acts lines) act
  pub number : act.id ≡ t.id
  pub kind : is_top act.kind ≡ true
  pub done : IsDone lines act

-- none is behind one of its number
abbrev pub AreApart : List Top → Type 0
AreApart [] = ⊤
AreApart (t ∷ ts) = AllByRecursion (λ (u : Top). t.id ≢ u.id) ts × AreApart ts

-- The tops that a journal lists, in the order in which their commits were called, are the committed tops, each once.
pub record AreItsTops (lines : List Line) : Type 0 where
  pub each : AllByRecursion (IsTop lines) (tops lines)
  pub apart : AreApart (tops lines)
  pub all : (a : Act) → Contains (acts lines) a → is_top a.kind ≡ true → IsDone lines a →
      (t : Top) × Contains (tops lines) t × (t.id ≡ a.id)

-- what holds of a journal whose lines are right
pub record IsSound (lines : List Line) : Type 0 where
  pub reads : IsItsBook lines
  pub distinct : AreDistinct (acts lines)
  pub formed : AreFormed (acts lines)
  pub causes : CommitsAreCaused lines
  pub once : ActionsEndOnce lines
  pub outcomes : OutcomesAreOne lines
  pub listed : AreItsTops lines
  pub calls : CallsAreTimely lines
  pub exclusions : ExclusionsAreTimely lines
  pub commits : CommitsAreCalled lines
