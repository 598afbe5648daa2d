-- What is known of calls and votes in each run, and what a run's relation has to give for it.
use Rattle.std.specs.Prelude.{◌≡◌, ℕ, true, List, Some}
use Rattle.arj_protocol.specs.Words.{Asked, Binding, Message, ObjectState, Uid}
use Rattle.arj_protocol.specs.Words.voted
use Rattle.arj_lock.proofs.Members as list
use Rattle.arj_protocol.specs.Ask.{Reply, answers}
use Rattle.arj_protocol.specs.Asking.{kept_at, waits_for_call}
use Rattle.arj_protocol.specs.Call.{Known, Steps}
use Rattle.arj_protocol.specs.Commit.{Machine, plan_of}
use Rattle.arj_protocol.specs.Coord.{Calling, Committing, Doing, doing_of, root_at, top_uses}
use Rattle.arj_protocol.specs.Effect.{Disk}
use Rattle.arj_protocol.specs.Node.{Parts}
use Rattle.arj_protocol.specs.Order.{binding_number}
use Rattle.arj_protocol.specs.Step.{Node}
use Rattle.arj_protocol.specs.Tree.{root_of}
use Rattle.arj_law_parts.specs.parts.Actions.{Action, Agree}
use Rattle.arj_law_parts.specs.parts.Copies.{IsTree, Paths}
use Rattle.arj_law_runs.specs.kept.Worlds.{IsGoodOf}
use Rattle.arj_law_parts.specs.moves.Seen.{In, up}
use Rattle.arj_promise.specs.Runs.{Seen}
use Rattle.arj_law_runs.specs.calls.Bindings.{HasFewBindings}
use Rattle.arj_law_runs.specs.calls.Coords.{IsUsed}
use Rattle.arj_law_runs.specs.calls.Homes.{NamesIn}
use Rattle.arj_law_runs.specs.calls.Lived.{LivesRun}
use Rattle.arj_law_runs.specs.calls.Worlds.{CallsReach, KnowsWorld}

-- a tree of paths that has these actions
abbrev pub Trees : List Action → Type 0
Trees acts = (paths : Paths) × IsTree paths × Agree acts paths

-- in each such tree calls and votes are known
abbrev pub AreKnown : List Action → Seen → Type 0
AreKnown acts M = (p : Trees acts) → KnowsWorld p.0 M

-- so it is with all actions that were begun
abbrev pub KnowsRun : Seen → Type 0
KnowsRun M = (acts : List Action) × IsGoodOf acts M × AreKnown acts M

-- Where a Bind is answered with the binding that its root keeps of the object already, the answer names the same server.
abbrev pub HasHomes : ℕ → Parts → Seen → Type 0
HasHomes k t M = (from : ℕ) (m : Message) (a : Asked) (r : Reply) → In (record { from = from; to = k; message = m }) M.sent →
    answers m ≡ Some (a, r)
    → (d : Doing) (s : Steps) → doing_of a.act t.coord ≡ Some d → d.now ≡ Calling s → waits_for_call from a r s ≡ true
    → (old : Known) (b : Binding) (n : ℕ) → kept_at s t.coord ≡ Some old → NamesIn r b n → binding_number old.binding ≡ binding_number b →
    old.server ≡ n

-- Each call that was sent names an incarnation of its server and a binding which the server had, or a later one; and a binding has one
-- server.
pub record Grounds (R : Seen → Type 0) : Type 0 where
  pub reached : (M : Seen) → R M → CallsReach M
  pub homes : (k : ℕ) (d : Disk) (t : Parts) (M : Seen) → R (up k d t M) → HasHomes k t (up k d t M)

-- few bindings were made so far, and so much is known of servers and of calls
abbrev pub KnowsFew : Seen → Type 0
KnowsFew M = HasFewBindings M.lines × (LivesRun M × KnowsRun M)

-- A vote that was sent to a node has states of objects only that the plan there uses at the server which votes.
abbrev pub VotesAreUsed : ℕ → Parts → Seen → Type 0
VotesAreUsed k t M = (from : ℕ) (m : Message) (a : Asked) (states : List ObjectState) →
    In (record { from = from; to = k; message = m }) M.sent → answers m ≡ Some (a, Reply.Voted (voted.Yes states))
    → (d : Doing) (q : Machine) → doing_of a.act t.coord ≡ Some d → d.now ≡ Committing q → (s : ObjectState) → list.In s states →
    IsUsed (plan_of q).used (let u = s.uid in u.num) from

-- What a commit under way has as changed are states of objects on which a call survives in its top.
abbrev pub ChangesAreCalled : Parts → Type 0
ChangesAreCalled t = (u : Uid) (d : Doing) (q : Machine) → doing_of u t.coord ≡ Some d → d.now ≡ Committing q → (s : ObjectState) →
    list.In s (let p = plan_of q in p.changed) →
    top_uses u (let w = s.uid in w.num) (root_at (let p = plan_of q in root_of p.path) t.coord) t.coord ≡ true

-- so it is at each node that is up
abbrev pub AllChangesAreCalled : Seen → Type 0
AllChangesAreCalled M = (k : ℕ) (n : Node) (t : Parts) → M.nodes k ≡ Some n → n.live ≡ Some t → ChangesAreCalled t

-- so it is at each node that is up
abbrev pub AllVotesAreUsed : Seen → Type 0
AllVotesAreUsed M = (k : ℕ) (n : Node) (t : Parts) → M.nodes k ≡ Some n → n.live ≡ Some t → VotesAreUsed k t M
