-- Calls and includes are of objects of the header, calls of operations of their classes, and includes of its nodes: those that wait, and
-- those that were answered; and roots use no other objects.
use Rattle.std.specs.Prelude.{⊤, ◌≡◌, ℕ, false, List, Some}
use Rattle.std.specs.List.{AllByRecursion}
use Rattle.arj_model.specs.Last.{Inclusion}
use Rattle.arj_protocol.specs.Words.{Body, Header, Line, Uid}
use Rattle.arj_protocol.specs.Words.body
use Rattle.arj_protocol.specs.Call.{Goal, Include, Run, Steps}
use Rattle.arj_protocol.specs.Coord.{Calling, Coord, Doing, doing_of}
use Rattle.arj_protocol.specs.Effect.{Effect, Say}
use Rattle.arj_protocol.specs.Node.{Parts}
use Rattle.arj_protocol.specs.Step.{Node, class_at, lacks_op}
use Rattle.arj_protocol.specs.Tree.{Family, Tree}
use Rattle.arj_law_runs.specs.addresses.Addresses.{GoalOf, IsNode}
use Rattle.arj_promise.specs.Runs.{Seen}
use Rattle.arj_law_lock_view.specs.facts.Entries.{HasObject}

-- what waits is about an object and for a goal of which this holds
abbrev pub WaitFor : (ℕ → Goal → Type 0) → Coord → Type 0
WaitFor P c = (u : Uid) (d : Doing) (s : Steps) → doing_of u c ≡ Some d → d.now ≡ Calling s → P s.x s.goal

-- roots use objects of which this holds
abbrev pub UsesOf : (ℕ → Type 0) → Tree → Type 0
UsesOf O t = AllByRecursion (λ (e : ℕ × Family). AllByRecursion O (let f = e.1 in f.objects)) t.families

-- an answered call was, and an include
abbrev pub SaysOf : (ℕ → Goal → Type 0) → Body → Type 0
SaysOf P (body.Ok l x o a) = P x (Run o)
SaysOf P (body.Includes l x n) = P x (Include n)
SaysOf P _ = ⊤

-- what an effect says is so
abbrev pub SayOf : (Body → Type 0) → Effect → Type 0
SayOf S (Say b) = S b
SayOf S _ = ⊤

-- so it is of all lines
abbrev pub LinesOf : (ℕ → Goal → Type 0) → List Line → Type 0
LinesOf P lines = AllByRecursion (λ (l : Line). SaysOf P l.body) lines

-- so it is at each node that is up, and in the journal
pub record CallsOf (P : ℕ → Goal → Type 0) (O : ℕ → Type 0) (M : Seen) : Type 0 where
  pub works : (j : ℕ) (n : Node) (t : Parts) → M.nodes j ≡ Some n → n.live ≡ Some t →
      WaitFor P t.coord × UsesOf O (let c = t.coord in c.tree)
  pub lines : LinesOf P M.lines

-- a call's operation is one of the class that the header gives the object
abbrev pub FitsGoal : Header → ℕ → Goal → Type 0
FitsGoal hd x (Run o) = lacks_op o (class_at x hd) ≡ false
FitsGoal hd x (Include n) = ⊤

-- The object is one of the header, a store to include is one of its nodes, and an operation fits.
abbrev pub IsOfHeader : Header → ℕ → Goal → Type 0
IsOfHeader hd x g = HasObject hd x × GoalOf (IsNode hd) g × FitsGoal hd x g

-- so it is of an answered include
abbrev pub IsIncluded : Header → Inclusion → Type 0
IsIncluded hd i = IsOfHeader hd i.x (Include i.node)

-- and of all calls and includes
abbrev pub CallsAreOfHeader : Header → Seen → Type 0
CallsAreOfHeader hd M = CallsOf (IsOfHeader hd) (HasObject hd) M
