-- Who wrote the states that stores have: one from before the run, or a top whose end was told; but a state that an action has prepared, or
-- asks a store to prepare, the action may have written itself.
use Rattle.std.specs.Prelude.{IfSome, List, Option, Some, None, false, ℕ, ⊤, ◌≡◌, ◌⊎◌, Contains}
use Rattle.std.specs.List.{AllByRecursion}
use Rattle.arj_protocol.specs.Words.{Ask, Asked, End, Head, Message, ObjectState, Uid, asks}
use Rattle.arj_protocol.specs.Words.ask
use Rattle.arj_protocol.specs.Words.loaded
use Rattle.arj_protocol.specs.Words.role
use Rattle.arj_protocol.specs.Words.voted
use Rattle.arj_protocol.specs.Ask.{Reply, actor, answers}
use Rattle.arj_protocol.specs.Commit.{Plan, Used, plan_of}
use Rattle.arj_protocol.specs.Coord.{Calling, Committing, Coord, Doing, Idle, Joined, Now, Root, doing_of}
use Rattle.arj_protocol.specs.Effect.{Commit, Do, Effect, Pair, Prepare, Send}
use Rattle.arj_protocol.specs.Node.{Parts}
use Rattle.arj_protocol.specs.Step.{Node}
use Rattle.arj_law_parts.specs.parts.Ends.{told_by}
use Rattle.arj_law_runs.specs.kept.Worlds.{IsGood}
use Rattle.arj_law_disk_view.specs.running.Places.{IsSince}
use Rattle.arj_law_parts.specs.moves.Seen.{In}
use Rattle.arj_start.specs.Start.{Start}
use Rattle.arj_promise.specs.Runs.{Post, Seen}
use Rattle.arj_promise.specs.Starts.{IsPast, next_inc}
use Rattle.arj_protocol.specs.Order.{is_empty}

-- some node was told of its end
abbrev pub HasToldEnd : List Post → Uid → Type 0
HasToldEnd sent u = (p : Post) × In p sent × (e : End) × Contains (told_by p.message) (u, e)

-- one from before the run, or one whose end was told
abbrev pub IsPastWriter : Start → List Post → Uid → Type 0
IsPastWriter st sent u = IsPast st u ⊎ HasToldEnd sent u

-- the state is by a writer of which this holds
abbrev pub IsBy : (Uid → Type 0) → ObjectState → Type 0
IsBy P st = P st.writer

-- or by this action
abbrev pub IsOwnOrBy : (Uid → Type 0) → Uid → ObjectState → Type 0
IsOwnOrBy P u st = (st.writer ≡ u) ⊎ P st.writer

-- ---- messages

-- what a Prepare brings is by the action that asks, or by such a writer
abbrev pub AskIsBy : (Uid → Type 0) → Head → Ask → Type 0
AskIsBy P h (ask.Prepare states) = AllByRecursion (IsOwnOrBy P (actor h.path)) states
AskIsBy P h a = ⊤

-- so it is of a message's request, where it has one
abbrev pub AskedIsBy : (Uid → Type 0) → Option (Head × Ask) → Type 0
AskedIsBy P None = ⊤
AskedIsBy P (Some q) = AskIsBy P q.0 q.1

-- what a store gives is by such a writer, and what a server votes by the top that asked
abbrev pub ReplyIsBy : (Uid → Type 0) → Asked → Reply → Type 0
ReplyIsBy P a (Reply.Loaded (loaded.State st)) = IsBy P st
ReplyIsBy P a (Reply.Voted (voted.Yes states)) = AllByRecursion (IsBy (λ w. w ≡ a.act)) states
ReplyIsBy P a r = ⊤

-- so it is of a message's answer, where it has one
abbrev pub AnsweredIsBy : (Uid → Type 0) → Option (Asked × Reply) → Type 0
AnsweredIsBy P None = ⊤
AnsweredIsBy P (Some q) = ReplyIsBy P q.0 q.1

-- of both
abbrev pub MessageIsBy : (Uid → Type 0) → Message → Type 0
MessageIsBy P m = AskedIsBy P (asks m) × AnsweredIsBy P (answers m)

-- ---- coordinators

-- What a plan of this top loaded is by such a writer, and what was voted is by the top.
pub record PlanIsBy (P : Uid → Type 0) (u : Uid) (p : Plan) : Type 0 where
  pub top : actor p.path ≡ u
  pub loaded : AllByRecursion (λ (v : Used). IfSome v.loaded (IsBy P)) p.used
  pub changed : AllByRecursion (IsBy (λ w. w ≡ u)) p.changed

-- and who is at its commit has asked somebody
abbrev pub NowIsBy : (Uid → Type 0) → Uid → Now → Type 0
NowIsBy P u Idle = ⊤
NowIsBy P u (Calling s) = ⊤
NowIsBy P u (Committing m) = PlanIsBy P u (plan_of m) × (is_empty (let p = plan_of m in p.sent) ≡ false)

-- what a root's includes loaded, and what its constituents wrote
pub record RootIsBy (P : Uid → Type 0) (r : Root) : Type 0 where
  pub joined : AllByRecursion (λ (j : Joined). IsBy P j.loaded) r.joined
  pub states : AllByRecursion (λ (e : ℕ × ObjectState). IsBy P e.1) r.states

-- plans by the first, and what roots have by the second
pub record CoordIsBy (P Q : Uid → Type 0) (c : Coord) : Type 0 where
  pub works : (u : Uid) (d : Doing) → doing_of u c ≡ Some d → NowIsBy P u d.now
  pub roots : AllByRecursion (λ (e : ℕ × Root). RootIsBy Q e.1) c.roots

-- ---- nodes

-- what is committed is by such a writer, and what is prepared by its action or by such a writer
pub record PairIsBy (P : Uid → Type 0) (d : Pair) : Type 0 where
  pub held : AllByRecursion (λ (e : Uid × ObjectState). IsBy P e.1) d.held
  pub pend : AllByRecursion (λ (e : Uid × List ObjectState). AllByRecursion (IsOwnOrBy P e.0) e.1) d.pend

-- so it is of a node's store, and of its coordinator while it is up
pub record NodeIsBy (P : Uid → Type 0) (n : Node) : Type 0 where
  pub store : PairIsBy P (let d = n.disk in d.store)
  pub live : (t : Parts) → n.live ≡ Some t → CoordIsBy P P t.coord

-- ---- effects

-- so it is of what a node prepares and sends; and whose states it commits, such a writer is that
abbrev pub EffectIsBy : (Uid → Type 0) → Effect → Type 0
EffectIsBy P (Do (Prepare role.Store u states)) = AllByRecursion (IsOwnOrBy P u) states
EffectIsBy P (Do (Commit role.Store u)) = P u
EffectIsBy P (Send to m) = MessageIsBy P m
EffectIsBy P _ = ⊤

-- ---- all nodes

-- so it is of each node, and of each message that was sent
pub record ArePastWriters (M : Seen) : Type 0 where
  pub nodes : (k : ℕ) (n : Node) → M.nodes k ≡ Some n → NodeIsBy (IsPastWriter M.start M.sent) n
  pub posts : (p : Post) → In p M.sent → MessageIsBy (IsPastWriter M.start M.sent) p.message

-- No node that is up has an incarnation from before the run.
abbrev pub AreSince : Seen → Type 0
AreSince M = (k : ℕ) (n : Node) → M.nodes k ≡ Some n → IsSince (next_inc M.start k) (let d = n.disk in d.inc) n.live

-- beside good nodes
abbrev pub WritersArePast : Seen → Type 0
WritersArePast M = (IsGood M × AreSince M) × ArePastWriters M
