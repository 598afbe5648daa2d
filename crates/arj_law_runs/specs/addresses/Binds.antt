-- What calls of a coordinator stand on: what its roots keep of the objects that were called; and that a Bind is answered as it asks.
use Rattle.std.specs.Prelude.{⊤, ◌≡◌, ◌⊎◌, ◌≤◌, ℕ, Bool, true, false, List, Option, Some, None}
use Rattle.arj_protocol.specs.Words.{Uid, Asked, Binding, BoundReply, Head, asks, last_uid, uids_of}
use Rattle.arj_protocol.specs.Words.ask
use Rattle.arj_protocol.specs.Words.bound
use Rattle.arj_protocol.specs.Ask.{Reply, actor, answers, asked_by}
use Rattle.arj_protocol.specs.Asking.{waits_for_call}
use Rattle.arj_protocol.specs.Call.{At, AtBind, AtLoad, Goal, Include, Known, Run, Steps, is_include}
use Rattle.arj_protocol.specs.Coord.{Calling, Coord, Doing, Root, Said, doing_of, is_called, kept_of, root_at}
use Rattle.arj_protocol.specs.Node.{Parts}
use Rattle.arj_protocol.specs.Step.{Node}
use Rattle.arj_protocol.specs.Tree.{Branch, Tree, branch_of, is_own, root_of}
use Rattle.arj_lock.proofs.Members as list
use Rattle.arj_law_runs.specs.calls.Coords.{IsSpent}
use Rattle.arj_law_parts.specs.moves.Seen.{In}
use Rattle.arj_promise.specs.Runs.{Post, Seen}

-- ---- answers to a Bind

-- A Bind of a call isn't answered as one of an include is, nor the other way round.
abbrev pub Answers : Goal → BoundReply → Type 0
Answers (Run o) (bound.Write g stores) = ⊥
Answers (Include n) (bound.Live b server i g stores) = ⊥
Answers (Include n) (bound.Make b server g stores) = ⊥
Answers g r = ⊤

-- an answer to the step that waits
abbrev pub AnswersAt : Goal → At → Reply → Type 0
AnswersAt g (AtBind avoid) (Reply.Bound r) = Answers g r
AnswersAt g at r = ⊤

-- an answer for which a call waits is one to its step
abbrev pub AnswersWaiting : ℕ → Asked → Reply → Coord → Type 0
AnswersWaiting from a r c = (d : Doing) (s : Steps) → doing_of a.act c ≡ Some d → d.now ≡ Calling s → waits_for_call from a r s ≡ true →
    AnswersAt s.goal s.at r

-- the answer is to a Bind of an include, or of a call
abbrev pub IsAnswerOf : Bool → BoundReply → Type 0
IsAnswerOf include (bound.Write g stores) = include ≡ true
IsAnswerOf include (bound.Live b server i g stores) = include ≡ false
IsAnswerOf include (bound.Make b server g stores) = include ≡ false
IsAnswerOf include (bound.Conflict holder m) = ⊤

-- a Bind for an include or for a call was sent by this node, by the one who asks
pub record IsAsked (sent : List Post) (from : ℕ) (a : Asked) (include : Bool) : Type 0 where
  pub post : Post
  pub head : Head
  pub object : ℕ
  pub avoid : Binding
  pub posted : In post sent
  pub sender : post.from ≡ from
  pub asking : asks post.message ≡ Some (head, ask.Bind object include avoid)
  pub asker : asked_by head ≡ a

-- who is answered a Bind asked for it
abbrev pub IsReply : List Post → Post → Type 0
IsReply sent p = (a : Asked) (r : BoundReply) → answers p.message ≡ Some (a, Reply.Bound r) →
    (include : Bool) × IsAnswerOf include r × IsAsked sent p.to a include

-- ---- what calls stand on

-- something is kept
abbrev pub IsThere : Option Known → Type 0
IsThere None = ⊥
IsThere (Some k) = ⊤

-- of each object that a plan of this top finds called the root keeps a binding
abbrev pub KeepsCalled : Uid → Root → Coord → Type 0
KeepsCalled top r c = (x : ℕ) → is_called x top r c ≡ true → IsThere (kept_of x r)

-- Past its Bind a call is on an object of which its root keeps a binding; an include doesn't go past its Load.
abbrev pub StandsOn : Goal → Option Known → At → Type 0
StandsOn g kept (AtBind avoid) = ⊤
StandsOn (Run o) kept at = IsThere kept
StandsOn (Include n) kept (AtLoad k s rest) = ⊤
StandsOn (Include n) kept at = ⊥

-- Of a call that was answered to an action of the root with this number: some action on its path was aborted, or the root keeps a binding
-- of the object.
pub record IsSaid (t : Tree) (root : ℕ) (r : Root) (s : Said) : Type 0 where
  pub branch : Branch
  pub there : branch_of (last_uid s.path) t ≡ Some branch
  pub path : uids_of branch.path ≡ s.path
  pub of : (let u = root_of branch.path in u.num) ≡ root
  pub kept : IsSpent t s.path ⊎ IsThere (kept_of s.x r)

-- A Bind that was sent is of no later number than the action's last request, and if it's that one, it's of the step that waits.
pub record IsCounted (c : Coord) (h : Head) (include : Bool) : Type 0 where
  pub doing : Doing
  pub found : doing_of (actor h.path) c ≡ Some doing
  pub low : h.req ≤ doing.req
  pub last : (s : Steps) → doing.now ≡ Calling s → h.req ≡ doing.req → is_include s.goal ≡ include

-- what the coordinator of a node knows of its calls and Binds
pub record KnowsBinds (sent : List Post) (k : ℕ) (c : Coord) : Type 0 where
  pub said : (root : Uid) (s : Said) → list.In s (let r = root_at root c in r.said) → IsSaid c.tree root.num (root_at root c) s
  pub steps : (u : Uid) (d : Doing) (s : Steps) → doing_of u c ≡ Some d → d.now ≡ Calling s →
      StandsOn s.goal (kept_of s.x (root_at (root_of s.path) c)) s.at
  pub counted : (p : Post) (h : Head) (x : ℕ) (include : Bool) (avoid : Binding) → In p sent → p.from ≡ k →
      asks p.message ≡ Some (h, ask.Bind x include avoid) → is_own (actor h.path) c.tree ≡ true → IsCounted c h include

-- so it is at each node that is up, and each answer to a Bind is one to it
pub record BindsAreKnown (M : Seen) : Type 0 where
  pub nodes : (j : ℕ) (n : Node) (t : Parts) → M.nodes j ≡ Some n → n.live ≡ Some t → KnowsBinds M.sent j t.coord
  pub replies : (p : Post) → In p M.sent → IsReply M.sent p
