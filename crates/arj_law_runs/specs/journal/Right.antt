-- What is right at each line of a journal, by the book of the lines before it.
use Rattle.std.specs.Prelude.{⊤, ◌≡◌, ℕ, Bool, true, false, List, [], ◌∷◌, Option, None, Some, Contains}
use Rattle.std.specs.List.{list_any}
use Rattle.std.specs.Option.{option_map}
use Rattle.arj_base.specs.declared.mode.End.{End}
use Rattle.arj_base.specs.declared.mode.End.TheVariants as ending
use Rattle.arj_base.specs.declared.uid.Uid.{Uid}
use Rattle.arj_base.specs.Rows.{is_on}
use Rattle.arj_base.specs.Uid.{uid_eq}
use Rattle.arj_journal.specs.declared.body.Body.{Body}
use Rattle.arj_journal.specs.declared.body.Body.TheVariants as body
use Rattle.arj_journal.specs.declared.body.Kind.{Kind}
use Rattle.arj_journal.specs.declared.body.Kind.TheVariants as kind
use Rattle.arj_journal.specs.declared.body.Line.{Line}
use Rattle.arj_text.specs.Label.{name}
use Rattle.arj_text.specs.declared.label.Label.{Label}
use Rattle.arj_model.specs.Actions.{Act, act_in, path, uids}
use Rattle.arj_law_runs.specs.journal.Book.{Book, turned, is_decided, is_over, is_top}
use Rattle.arj_start.specs.Kinds.{is_serial}

-- the label is that of an open action: no line has ended it, and no restart has found its record
pub record IsOpen (B : Book) (l : Label) (a : Act) : Type 0 where
  pub named : act_in B.acts (name l) ≡ Some a
  pub unended : is_over B a.uid ≡ false
  pub unfound : is_on B.found a.uid ≡ false

-- the same, of an action that isn't serializing
pub record IsOpenPlain (B : Book) (l : Label) (a : Act) : Type 0 where
  pub named : act_in B.acts (name l) ≡ Some a
  pub unended : is_over B a.uid ≡ false
  pub unfound : is_on B.found a.uid ≡ false
  pub unserial : is_serial a.kind ≡ false

-- an action with this label began
abbrev pub IsNamed : Book → Label → Type 0
IsNamed B l = (a : Act) × (act_in B.acts (name l) ≡ Some a)

-- A restart of this node may find the action's record: its commit was called there, and it wasn't aborted.
pub record MayBeFound (B : Book) (n : ℕ) (u : Uid) : Type 0 where
  pub here : u.node ≡ n
  pub called : is_on B.called u ≡ true
  pub kept : is_on B.aborted u ≡ false

-- a commit is told of an action that is decided
abbrev pub IsSaid : Book → Uid → End → Type 0
IsSaid B u ending.Commit = is_decided B u ≡ true
IsSaid B u ending.Abort = ⊤

-- an action with this Uid began
abbrev pub has_act : List Act → Uid → Bool
has_act acts u = list_any (λ (a : Act). uid_eq a.uid u) acts

-- An action's parent by its kind: a nested action and an independent one begin in one that isn't serializing, a constituent in a
-- serializing one.
abbrev pub IsBelow : List Act → Kind → Option (List ℕ) → Type 0
IsBelow acts kind.Top None = ⊤
IsBelow acts kind.Serial None = ⊤
IsBelow acts kind.Independent (Some p) = (s : Act) × (act_in acts p ≡ Some s) × (is_serial s.kind ≡ false)
IsBelow acts kind.Nested (Some p) = (s : Act) × (act_in acts p ≡ Some s) × (is_serial s.kind ≡ false)
IsBelow acts kind.Constituent (Some p) = (s : Act) × (act_in acts p ≡ Some s) × (is_serial s.kind ≡ true)
IsBelow acts k parent = ⊥

-- the action is open, isn't serializing, and its commit was called, or wasn't
abbrev pub IsOpenSo : Bool → Book → Label → Type 0
IsOpenSo c B l = (a : Act) × IsOpenPlain B l a × (is_on B.called a.uid ≡ c)

-- An action with this Uid begins in one that is open, whose commit wasn't called, and that is of its node and incarnation.
abbrev pub BeginsIn : Book → Uid → Option Label → Type 0
BeginsIn B u None = ⊤
BeginsIn B u (Some p) = (s : Act) × IsOpen B p s × (is_on B.called s.uid ≡ false) × (s.uid.node ≡ u.node) × (s.uid.inc ≡ u.inc)

-- each action below this one has an end
abbrev pub IsClosed : Book → Uid → Type 0
IsClosed B u = (a : Act) → Contains B.acts a → is_on (uids (path B.acts a.label)) u ≡ true → (a.uid ≡ u → ⊥) → is_over B a.uid ≡ true

-- An action begins with a new label and a new Uid, fits its parent, and begins while that is open and its commit isn't called. The
-- commit of a top is called once, and then nothing below it is open. Who commits, is aborted or ends was open; a top commits once its
-- commit was called, and no other action's commit is called. A restart finds records of tops that weren't aborted. A call, and an
-- include, is answered to an open action whose commit wasn't called; an exclusion is made by one whose commit was; neither is
-- serializing. How else a call ends, and a giveup, is of an action that began. And a commit is told, and done, after the line that
-- says that it is decided.
abbrev pub Right : Book → Body → Type 0
Right B (body.Began l k u p) =
    (act_in B.acts (name l) ≡ None) × (has_act B.acts u ≡ false) × IsBelow B.acts k (option_map name p) × BeginsIn B u p
Right B (body.Committing l) = (a : Act) × IsOpen B l a × (is_top a.kind ≡ true) × (is_on B.called a.uid ≡ false) × IsClosed B a.uid
Right B (body.Committed l) = (a : Act) × IsOpen B l a × (is_serial a.kind ≡ false) × (is_on B.called a.uid ≡ is_top a.kind)
Right B (body.Ended l) = (a : Act) × IsOpen B l a × (is_serial a.kind ≡ true)
Right B (body.Aborted l c) = (a : Act) × IsOpen B l a
Right B (body.Recovered n u) = MayBeFound B n u
Right B (body.Ok l x o r) = IsOpenSo false B l
Right B (body.Includes l x n) = IsOpenSo false B l
Right B (body.Excluded l x n) = IsOpenSo true B l
Right B (body.Conflict l h m n) = IsNamed B l
Right B (body.Lost l n) = IsNamed B l
Right B (body.Changed l n d) = IsNamed B l
Right B (body.GaveUp l n) = IsNamed B l
Right B (body.Told n u e p) = IsSaid B u e
Right B (body.Done n u r e) = IsSaid B u e
Right B _ = ⊤

-- so is each of these lines, behind that book
abbrev pub AreRight : Book → List Line → Type 0
AreRight B [] = ⊤
AreRight B (line ∷ lines) = Right B line.body × AreRight (turned B line.body) lines
