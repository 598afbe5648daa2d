-- What a server does with the commit of an action, and with a vote, in the machine of one object.
use Rattle.std.specs.Prelude.{◌≡◌, ◌≢◌, ◌≤◌, ◌<◌, ℕ, true, false, Option, Some, None}
use Rattle.arj_protocol.specs.Words.{Uid, Value, before_last}
use Rattle.arj_protocol.specs.Words.ending
use Rattle.arj_protocol.specs.Copy.{Base, Copy, Over, end_copy, over_of}
use Rattle.arj_protocol.specs.Order.{binding_number}
use Rattle.arj_law_lock.specs.machine.Actions.{Act, In, Root, Sub, at_act, is_action, on, same}
use Rattle.arj_law_lock.specs.machine.Machine.{Guard, Run, next}
use Rattle.arj_law_lock.specs.machine.State as machine
use Rattle.arj_law_lock.specs.machine.State.{Ballot, State}
use Rattle.arj_law_lock.specs.machine.Steps.{VoteTop}
use Rattle.arj_law_parts.specs.parts.Copies.{IsGoodCopy, IsLowest, IsTree, Paths}
use Rattle.arj_law_lock_view.specs.view.Acts.{Acts, AreOne}
use Rattle.arj_law_lock_view.specs.view.Copies.{Codes, IsTold, OnlyEnds, SeesCopy, base_code, writer_of}
use Rattle.arj_law_lock_view.specs.view.Going.{Goes}
use Rattle.arj_law_lock_view.specs.view.Calling.{IsReached}
use Rattle.arj_law_lock.specs.machine.Laws.{given_by}

-- the copy is seen after this commit, and nothing else changed
abbrev pub IsCommitSeen : Acts → Codes → ℕ → ℕ → Uid → Copy → State → Type 0
IsCommitSeen act code n x u c S = Goes S (λ T. SeesCopy act code x (end_copy u ending.Commit c) (T.server n) × OnlyEnds n S T)

-- What is known of a copy where an action commits: it is good, and no descendant of the action has a lock.
pub record IsCommitting (act : Acts) (paths : Paths) (x : ℕ) (u : Uid) (c : Copy) : Type 0 where
  pub one : AreOne act
  pub good : IsGoodCopy paths x c
  pub lowest : IsLowest u c.rows
  pub told : IsTold act u c

-- A committed action stands right below the other one, in the protocol and in the machine.
pub record IsRightBelow (act : Acts) (paths : Paths) (u h : Uid) (S : State) : Type 0 where
  pub number : ℕ
  pub below : act u ≡ Sub (act h) number
  pub parent : before_last (paths u) ≡ Some h
  pub committed : (S.action (act u)).stage ≡ 3

-- A commit of a nested action: the machine passes its rows and writes to its parent.
abbrev pub FoldingsAreSeen : Type 0
FoldingsAreSeen = (act : Acts) (code : Codes) (paths : Paths) (n x : ℕ) (u h : Uid) (c : Copy) (S : State)
    → IsTree paths → IsCommitting act paths x u c → IsRightBelow act paths u h S → is_action (act h) ≡ true →
    SeesCopy act code x c (S.server n) → IsCommitSeen act code n x u c S

-- A commit of a constituent: what it wrote becomes the copy's own value, and its rows pass to its serializing action.
abbrev pub RetainingsAreSeen : Type 0
RetainingsAreSeen = (act : Acts) (code : Codes) (paths : Paths) (n x : ℕ) (u h : Uid) (unit : ℕ) (c : Copy) (S : State)
    → IsCommitting act paths x u c → IsRightBelow act paths u h S → act h ≡ Root unit → SeesCopy act code x c (S.server n) →
    IsCommitSeen act code n x u c S

-- A committed top that is alone in its unit, which is over.
pub record IsAlone (act : Acts) (u : Uid) (S : State) : Type 0 where
  pub unit : ℕ
  pub number : ℕ
  pub below : act u ≡ Sub (Root unit) number
  pub alone : (w : Uid) → on (act w) (Root unit) ≡ on (act w) (act u)
  pub committed : (S.action (act u)).stage ≡ 3
  pub over : (S.action (Root unit)).stage ≡ 3

-- A commit of a plain top: what it wrote becomes the copy's own value, and its rows go.
abbrev pub SettlingsAreSeen : Type 0
SettlingsAreSeen = (act : Acts) (code : Codes) (paths : Paths) (n x : ℕ) (u : Uid) (c : Copy) (S : State)
    → IsCommitting act paths x u c → IsAlone act u S → SeesCopy act code x c (S.server n) → IsCommitSeen act code n x u c S

-- ---- votes

-- the value of an action's overlay, or else the copy's own
abbrev pub value_in : Base → Option Over → Value
value_in b None = b.value
value_in b (Some o) = o.value

-- the top that wrote that value
abbrev pub maker_in : Acts → Base → Option Over → Act
maker_in act b None = act b.writer
maker_in act b (Some o) = writer_of act o

-- what a vote for the top gives: the value that it left here, and the copy's own
abbrev pub ballot_for : Acts → Codes → Uid → Copy → Ballot
ballot_for act code u c = record {
  value = code (value_in c.base (over_of u c.stack)) (maker_in act c.base (over_of u c.stack));
  under = base_code act code c.base;
}

-- Only the server of this node changed, and what votes for this top gave: under no lesser binding.
pub record OnlyVote (n : ℕ) (m : Act) (S T : State) : Type 0 where
  pub rest : T ≡ record S { server = T.server; yes = T.yes; vote = T.vote }
  pub others : (k : ℕ) → k ≢ n → T.server k ≡ S.server k
  pub tops : (a : Act) → same a m ≡ false → (T.yes a ≡ S.yes a) × (T.vote a ≡ S.vote a)
  pub raised : S.yes m ≤ T.yes m

-- The server has voted for the top under the binding. The first such vote gives what the copy has; a vote that comes again, or of
-- an earlier binding, gives nothing new.
pub record HasVoted (n : ℕ) (m : Act) (b : ℕ) (given : Ballot) (S T : State) : Type 0 where
  pub voted : (let v = T.server n in v.voted m) ≡ true
  pub yes : b ≤ T.yes m
  pub first : S.yes m < b → T.vote m ≡ given
  pub again : b ≤ S.yes m → (T.vote m ≡ S.vote m) × (T.yes m ≡ S.yes m)

-- Of a server its incarnation stays, and the numbers of the last requests; it has voted for this top too.
pub record KeepsVoter (m : Act) (v w : machine.Server) : Type 0 where
  pub incarnation : w.incarnation ≡ v.incarnation
  pub request : w.request ≡ v.request
  pub voted : w.voted ≡ at_act v.voted m true

-- The server of a node voted for the top under the binding, in a state that the machine came to, and gave this; from there it came here.
pub record IsVoteOf (m : Act) (b : ℕ) (given : Ballot) (T : State) : Type 0 where
  pub before : State
  pub node : ℕ
  pub inc : ℕ
  pub reached : IsReached before
  pub may : Guard (VoteTop node m b inc) before
  pub run : Run (next (VoteTop node m b inc) before) T
  pub gives : given_by before node m ≡ given

-- A vote that came to the binding's server in this incarnation, where the binding is active and the ends of all nested actions
-- were applied: the copy was seen there as it was given.
abbrev pub VotesAreSeen : Type 0
VotesAreSeen = (act : Acts) (code : Codes) (paths : Paths) (n x i : ℕ) (u : Uid) (c : Copy) (S : State)
    → IsReached S → IsCommitting act paths x u c → In (machine.Vote (act u) (binding_number c.binding) i) S.net →
    (let b = S.binding (binding_number c.binding) in b.server) ≡ n → (let v = S.server n in v.incarnation) ≡ i
    → SeesCopy act code x c (S.server n) → Goes S (λ T. SeesCopy act code x c (T.server n) × OnlyVote n (act u) S T × KeepsVoter (act u)
    (S.server n) (T.server n) × HasVoted n (act u) (binding_number c.binding) (ballot_for act code u c) S T × ((o : IsVoteOf (act u)
    (binding_number c.binding) (ballot_for act code u c) T) × SeesCopy act code x c ((let k = o.before in k.server) o.node)))
