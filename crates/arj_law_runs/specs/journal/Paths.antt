-- The paths of actions, as nodes have begun them and as a journal has them.
use Rattle.std.specs.Prelude.{⊤, ◌≡◌, ◌≤◌, ℕ, List, [], ◌∷◌, length, Some}
use Rattle.arj_model.specs.Actions.{Act, acts, path, path_in, uids}
use Rattle.arj_law_parts.specs.parts.Actions.{Action, act_of}
use Rattle.arj_protocol.specs.Words.{Uid, name, uids_of}
use Rattle.arj_protocol.specs.Coord.{Doing, doing_of}
use Rattle.arj_protocol.specs.Node.{Parts}
use Rattle.arj_protocol.specs.Step.{Node}
use Rattle.arj_protocol.specs.Tree.{Branch, at_place, branch_of}
use Rattle.arj_start.specs.Limits.{most_on_path}
use Rattle.arj_protocol.specs.World.{World}
use Rattle.arj_law_runs.specs.kept.Worlds.{IsGoodOf}
use Rattle.arj_promise.specs.Runs.{Seen}
use Rattle.arj_law_runs.specs.journal.Book.{book}
use Rattle.arj_law_runs.specs.journal.Knows.{IsWritten}

-- One by one these are the same actions, each of one kind, and with one path.
abbrev pub AreAlike : List Action → List Act → Type 0
AreAlike [] [] = ⊤
AreAlike (a ∷ begun) (b ∷ acts) = (b.uid ≡ act_of a) × (b.kind ≡ a.kind) × (uids (path_in acts b) ≡ uids_of a.path) × AreAlike begun acts
AreAlike begun acts = ⊥

-- the path of each of these actions is no longer than a path may be
abbrev pub AreShort : List Act → Type 0
AreShort [] = ⊤
AreShort (a ∷ older) = (length (path_in older a) ≤ most_on_path) × AreShort older

-- good nodes, whose actions are those of the journal
abbrev pub IsAlikeOf : List Action → Seen → Type 0
IsAlikeOf begun M = IsGoodOf begun M × AreAlike begun (let B = book M.lines in B.acts) × IsWritten M

-- there are such actions
abbrev pub IsAlike : Seen → Type 0
IsAlike M = (begun : List Action) × IsAlikeOf begun M

-- each action that a coordinator has, of a node that is up, has its path by the journal, under its label
abbrev pub PathsAgree : World → Type 0
PathsAgree w = (k : ℕ) (n : Node) (t : Parts) (u : Uid) (b : Branch) (q : Doing) → at_place k w.nodes ≡ Some n → n.live ≡ Some t →
    branch_of u t.coord.tree ≡ Some b → doing_of u t.coord ≡ Some q → uids (path (acts w.lines) (name q.label)) ≡ uids_of b.path
