-- What lines say of the exclusions of commits, and what was asked of naming for those of which they say some.
use Rattle.std.specs.Prelude.{◌≡◌, ◌==◌, ◌&&◌, ℕ, Bool, true, false, List, [], Some, Contains}
use Rattle.std.specs.List.{list_any}
use Rattle.std.specs.Str.{bytes_eq}
use Rattle.arj_model.specs.Actions.{Act, act_in, acts}
use Rattle.arj_protocol.specs.Words.{Body, Head, Header, Line, Message, Uid, asks, name}
use Rattle.arj_protocol.specs.Words.ask
use Rattle.arj_protocol.specs.Words.body
use Rattle.arj_protocol.specs.Ask.{actor}
use Rattle.arj_protocol.specs.Confirm.{Grants, Marks}
use Rattle.arj_protocol.specs.Commit.{Confirming, Machine, Preparing, Voting, is_marked}
use Rattle.arj_protocol.specs.Coord.{Committing, Doing, doing_of}
use Rattle.arj_protocol.specs.Node.{Parts}
use Rattle.arj_protocol.specs.Step.{Node}
use Rattle.arj_law_parts.specs.moves.Keeps.{Holds}
use Rattle.arj_promise.specs.Runs.{Run, world_by}
use Rattle.arj_law_parts.specs.moves.Seen.{In}
use Rattle.arj_promise.specs.Runs.{Post, Seen}
use Rattle.arj_law_runs.specs.journal.Book.{book}
use Rattle.arj_protocol.specs.Order.{is_empty}

-- the line says that the commit of the action with this name excludes the store for the object
abbrev pub excludes : List ℕ → ℕ → ℕ → Body → Bool
excludes l x s (body.Excluded m y n) = bytes_eq (name m) l && ((y == x) && (n == s))
excludes l x s _ = false

-- so does one of these lines
abbrev pub was_marked : List Line → List ℕ → ℕ → ℕ → Bool
was_marked lines l x s = list_any (λ (k : Line). excludes l x s k.body) lines

-- None is said while the votes are collected, and the plan has none; nor while a prepare step runs, which is for some object; and behind
-- that what the plan has marked is said.
abbrev pub FitsMarks : (ℕ → ℕ → Bool) → Machine → Type 0
FitsMarks f (Voting p left) = ((x s : ℕ) → f x s ≡ false) × (p.excluded ≡ [])
FitsMarks f (Preparing p left) = ((x s : ℕ) → f x s ≡ false) × (is_empty p.used ≡ false)
FitsMarks f (Confirming p) = (x s : ℕ) → f x s ≡ is_marked x s p

-- so it is of what an action at work waits for
abbrev pub SaysMarks : List Line → Doing → Type 0
SaysMarks lines d = (m : Machine) → d.now ≡ Committing m → FitsMarks (was_marked lines (name d.label)) m

-- and of each commit under way at a node that is up
abbrev pub MarksAreSaid : Seen → Type 0
MarksAreSaid M = (j : ℕ) (n : Node) (t : Parts) (u : Uid) (d : Doing) → M.nodes j ≡ Some n → n.live ≡ Some t → doing_of u t.coord ≡ Some d →
    SaysMarks M.lines d

-- So it is after all moves.
abbrev pub RunsSayMarks : Type 0
RunsSayMarks = (hd : Header) (r : Run hd) → Holds hd MarksAreSaid (world_by hd r)

-- ---- what naming is asked

-- The message asks naming to confirm the commit of this action.
pub record ConfirmsFor (u : Uid) (m : Message) : Type 0 where
  pub head : Head
  pub grants : Grants
  pub excluded : Marks
  pub included : Marks
  pub asked : asks m ≡ Some (head, ask.Confirm grants excluded included)
  pub whose : actor head.path ≡ u

-- Among what was sent naming was asked to confirm the commit of the action that the lines have by this name.
pub record WasAsked (lines : List Line) (sent : List Post) (l : List ℕ) : Type 0 where
  pub act : Act
  pub there : Contains (acts lines) act
  pub label : act.label ≡ l
  pub post : Post
  pub posted : In post sent
  pub confirms : ConfirmsFor act.uid post.message

-- so it is of each action of which a line says an exclusion
abbrev pub MarksAreAsked : Seen → Type 0
MarksAreAsked M = (l : List ℕ) (x s : ℕ) → was_marked M.lines l x s ≡ true → WasAsked M.lines M.sent l

-- So it is after all moves.
abbrev pub RunsAskMarks : Type 0
RunsAskMarks = (hd : Header) (r : Run hd) → Holds hd MarksAreAsked (world_by hd r)

-- The lines have the action, and none of them says an exclusion of it.
pub record IsSpared (lines : List Line) (u : Uid) : Type 0 where
  pub act : Act
  pub named : act_in (let B = book lines in B.acts) act.label ≡ Some act
  pub uid : act.uid ≡ u
  pub spared : (x s : ℕ) → was_marked lines act.label x s ≡ false
