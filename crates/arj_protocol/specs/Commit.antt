-- The commit of a top: votes of the servers, states prepared at the stores, the grants confirmed by naming, the decision.
-- Each step asks its nodes, and ends when all have answered.
use Rattle.arj_protocol.specs.Words.ask
use Rattle.std.specs.Prelude.{ℕ, ◌+◌, Bool, true, false, not, ◌&&◌, ◌||◌, ◌==◌, nat_lt, if◌then◌else◌, List, [], ◌∷◌, ◌++◌, map, filter}
use Rattle.std.specs.Prelude.{find, Option, Some, None, min}
use Rattle.std.specs.List.{flat_map, filter_map, list_any}
use Rattle.arj_protocol.specs.Words.{Uid, Binding, Path, End, ObjectState, Cause, VotedReply, PreparedReply, ConfirmedReply, uid_eq, object}
use Rattle.arj_protocol.specs.Words.{Ask}
use Rattle.arj_protocol.specs.Words.cause
use Rattle.arj_protocol.specs.Words.voted
use Rattle.arj_protocol.specs.Words.prepared
use Rattle.arj_protocol.specs.Words.confirmed
use Rattle.arj_protocol.specs.Order.{has, is_empty, with_number, without_number, number_set}
use Rattle.arj_protocol.specs.Ask.{Reply, differs}

-- An object with a surviving or retained call (`called`) or include. `joins` are the stores of the surviving includes, and
-- `loaded` is the state that these bring. Without a call binding, server and incarnation say nothing.
pub record Used : Type 0 where
  pub x : ℕ
  pub called : Bool
  pub binding : Binding
  pub server : ℕ
  pub inc : ℕ
  pub grant : ℕ
  pub stores : List ℕ
  pub joins : List ℕ
  pub loaded : Option ObjectState

-- The plan of a commit. `sent` are the nodes that were sent a message of the top. The last four are what was heard: the
-- changed states by object, the stores that prepared, the stores that are marked for exclusion by object, and whether
-- naming confirmed.
pub record Plan : Type 0 where
  pub path : Path
  pub req : ℕ
  pub ends : List (Uid × End)
  pub used : List Used
  pub sent : List ℕ
  pub changed : List ObjectState
  pub prepared : List ℕ
  pub excluded : List (ℕ × ℕ)
  pub confirmed : Bool

-- the step that waits, with the nodes that haven't answered
pub data Machine : Type 0 where
  Voting : Plan → List ℕ → Machine
  Preparing : Plan → List ℕ → Machine
  Confirming : Plan → Machine

-- What a step leads to: it waits further, asks, decides, or aborts for a cause.
pub data CommitStep : Type 0 where
  Stays : Machine → CommitStep
  Asks : Machine → CommitStep
  Decides : Plan → CommitStep
  Aborts : Cause → Plan → CommitStep

-- what a step leads to, and the exclusions that the commit sets out to make where its prepare step ends
pub record Marked : Type 0 where
  pub step : CommitStep
  pub marks : List (ℕ × ℕ)

-- the step sets out to exclude nothing
abbrev pub plainly : CommitStep → Marked
plainly s = record { step = s; marks = [] }

-- the plan of a commit, whatever it waits for
abbrev pub plan_of : Machine → Plan
plan_of (Voting p left) = p
plan_of (Preparing p left) = p
plan_of (Confirming p) = p

-- the nodes that haven't answered: naming alone, while it is asked to confirm
abbrev pub left_of : Machine → List ℕ
left_of (Voting p left) = left
left_of (Preparing p left) = left
left_of (Confirming p) = 1 ∷ []

-- ---- whom the steps ask, and what

-- the servers with calls
abbrev pub servers_of : Plan → List ℕ
servers_of p = number_set (map (λ u. u.server) (filter (λ u. u.called) p.used))

-- the object was called at this server
abbrev pub is_at_server : ℕ → Used → Bool
is_at_server s u = u.called && (u.server == s)

-- the least of these numbers
abbrev pub least_of : List ℕ → ℕ
least_of [] = 0
least_of (n ∷ []) = n
least_of (n ∷ m ∷ ns) = min n (least_of (m ∷ ns))

-- the Vote for a server: the least incarnation that was heard of it, each of its objects with its binding, and the ends of the root
abbrev pub vote_ask : Plan → ℕ → Ask
vote_ask p s =
    let here = filter (is_at_server s) p.used in
    ask.Vote (least_of (map (λ u. u.inc) here)) (map {A = Used} {B = ℕ × Binding} (λ u. (u.x, u.binding)) here) p.ends

-- the changed state of an object
abbrev pub changed_of : ℕ → Plan → Option ObjectState
changed_of x p = find (λ s. uid_eq s.uid (object x)) p.changed

-- What a store is sent of an object: the changed state where the object's list has the store or it is included there, and
-- of an object that didn't change the loaded state where it is included there.
abbrev pub state_by : ℕ → Used → Option ObjectState → Option ObjectState
state_by s u None = if has u.joins s then u.loaded else None
state_by s u (Some st) = if has u.stores s || has u.joins s then Some st else None

-- what a store is sent of an object
abbrev pub state_for : ℕ → Plan → Used → Option ObjectState
state_for s p u = state_by s u (changed_of u.x p)

-- what a store is sent, object by object
abbrev pub states_for : ℕ → Plan → List ObjectState
states_for s p = filter_map (state_for s p) p.used

-- the stores that the prepare step asks
abbrev pub stores_by : Used → Option ObjectState → List ℕ
stores_by u None = u.joins
stores_by u (Some st) = u.stores ++ u.joins

-- all stores that the prepare step asks, in order
abbrev pub targets_of : Plan → List ℕ
targets_of p = number_set (flat_map (λ u. stores_by u (changed_of u.x p)) p.used)

-- the store is marked for exclusion of the object
abbrev pub is_marked : ℕ → ℕ → Plan → Bool
is_marked x s p = list_any (λ (m : ℕ × ℕ). (m.0 == x) && (m.1 == s)) p.excluded

-- the surviving includes whose stores aren't marked
abbrev pub joins_left : Plan → Used → List (ℕ × ℕ)
joins_left p u = map {A = ℕ} {B = ℕ × ℕ} (λ s. (u.x, s)) (filter (λ s. not (is_marked u.x s p)) u.joins)

-- all includes that the commit makes
abbrev pub included_of : Plan → List (ℕ × ℕ)
included_of p = flat_map (joins_left p) p.used

-- the Confirm: each object with the least incarnation of its grants, and the stores that are excluded and included
abbrev pub confirm_ask : Plan → Ask
confirm_ask p = ask.Confirm (map {A = Used} {B = ℕ × ℕ} (λ u. (u.x, u.grant)) p.used) p.excluded (included_of p)

-- what the step asks a node
abbrev pub ask_of : Machine → ℕ → Ask
ask_of (Voting p left) n = vote_ask p n
ask_of (Preparing p left) n = ask.Prepare (states_for n p)
ask_of (Confirming p) n = confirm_ask p

-- the requests that aren't answered, in increasing node order
abbrev pub waiting : Machine → List (ℕ × Ask)
waiting m = map {A = ℕ} {B = ℕ × Ask} (λ n. (n, ask_of m n)) (left_of m)

-- ---- the steps

-- a step takes the next request number, and its nodes count among those that were sent a message
abbrev pub further : List ℕ → Plan → Plan
further nodes p = record p { req = p.req + 1; sent = number_set (p.sent ++ nodes) }

-- Without any used object there is nothing to confirm.
abbrev pub begin_confirm : List Used → Plan → CommitStep
begin_confirm [] p = Decides p
begin_confirm (u ∷ us) p = Asks (Confirming (further (1 ∷ []) p))

-- with no store to ask the prepare step is left out
abbrev pub begin_prepare : List ℕ → Plan → CommitStep
begin_prepare [] p = begin_confirm p.used p
begin_prepare (s ∷ ss) p = Asks (Preparing (further (s ∷ ss) p) (s ∷ ss))

-- with no server to ask the vote step is left out
abbrev pub begin_vote : List ℕ → Plan → CommitStep
begin_vote [] p = begin_prepare (targets_of p) p
begin_vote (s ∷ ss) p = Asks (Voting (further (s ∷ ss) p) (s ∷ ss))

-- a commit begins with the votes
abbrev pub start : Plan → Marked
start p = plainly (begin_vote (servers_of p) p)

-- the states in order of their objects
abbrev pub with_state : ObjectState → List ObjectState → List ObjectState
with_state s [] = s ∷ []
with_state s (t ∷ ts) = if nat_lt t.uid.num s.uid.num then t ∷ with_state s ts else s ∷ t ∷ ts

-- these states put in
abbrev pub with_states : List ObjectState → List ObjectState → List ObjectState
with_states [] all = all
with_states (s ∷ ss) all = with_states ss (with_state s all)

-- a mark by object, then by store
abbrev pub with_mark : ℕ × ℕ → List (ℕ × ℕ) → List (ℕ × ℕ)
with_mark m [] = m ∷ []
with_mark m (k ∷ ks) = if nat_lt k.0 m.0 || ((k.0 == m.0) && nat_lt k.1 m.1) then k ∷ with_mark m ks else m ∷ k ∷ ks

-- these marks put in
abbrev pub with_marks : List (ℕ × ℕ) → List (ℕ × ℕ) → List (ℕ × ℕ)
with_marks [] all = all
with_marks (m ∷ ms) all = with_marks ms (with_mark m all)

-- a store is marked for each object that was sent to it
abbrev pub marks_at : ℕ → Plan → List (ℕ × ℕ)
marks_at s p = map {A = ObjectState} {B = ℕ × ℕ} (λ st. (st.uid.num, s)) (states_for s p)

-- the store is marked for all that was sent to it
abbrev pub marks_store : ℕ → Plan → Plan
marks_store s p = record p { excluded = with_marks (marks_at s p) p.excluded }

-- so are these stores
abbrev pub marks_stores : List ℕ → Plan → Plan
marks_stores [] p = p
marks_stores (s ∷ ss) p = marks_stores ss (marks_store s p)

-- the vote of the last server ends the step
abbrev pub votes_left : List ℕ → Plan → CommitStep
votes_left [] p = begin_prepare (targets_of p) p
votes_left (n ∷ ns) p = Stays (Voting p (n ∷ ns))

-- a server answered: its changed states are taken, or the commit aborts
abbrev pub voted_by : ℕ → List ℕ → Plan → VotedReply → Marked
voted_by from left p (voted.Yes states) =
    plainly (votes_left (without_number from left) (record p { changed = with_states states p.changed }))
voted_by from left p (voted.Changed w) = plainly (Aborts (cause.Changed from (differs w)) p)

-- the answer of the last store ends the step; what is marked by then is what the commit excludes
abbrev pub stores_left : List ℕ → Plan → Marked
stores_left [] p = record { step = begin_confirm p.used p; marks = p.excluded }
stores_left (n ∷ ns) p = plainly (Stays (Preparing p (n ∷ ns)))

-- a store answered: it has prepared, or is marked, or has a later state, by which the commit aborts
abbrev pub prepared_by : ℕ → List ℕ → Plan → PreparedReply → Marked
prepared_by from left p prepared.Yes = stores_left (without_number from left) (record p { prepared = with_number from p.prepared })
prepared_by from left p (prepared.InDoubt x holder) = stores_left (without_number from left) (marks_store from p)
prepared_by from left p (prepared.Old x v) = plainly (Aborts (cause.Old from x v) p)

-- naming answered: the commit is decided, or aborts
abbrev pub confirmed_by : Plan → ConfirmedReply → CommitStep
confirmed_by p confirmed.Yes = Decides (record p { confirmed = true })
confirmed_by p (confirmed.Conflict holder m) = Aborts (cause.Conflict holder m 1) p
confirmed_by p (confirmed.Changed w) = Aborts (cause.Changed 1 (differs w)) p
confirmed_by p (confirmed.NoStores x) = Aborts (cause.NoStores x) p
confirmed_by p (confirmed.Listed x s) = Aborts (cause.Listed x s) p

-- An answer of another kind is none to the step that waits.
abbrev pub answered : ℕ → Machine → Reply → Marked
answered from (Voting p left) (Reply.Voted r) = voted_by from left p r
answered from (Preparing p left) (Reply.Prepared r) = prepared_by from left p r
answered from (Confirming p) (Reply.Confirmed r) = plainly (confirmed_by p r)
answered from m r = plainly (Stays m)

-- ---- given up

-- the first of these nodes
abbrev pub first_of : List ℕ → ℕ
first_of [] = 0
first_of (n ∷ ns) = n

-- the nodes of which a giveup says that they didn't answer
abbrev pub nodes_given_up : Machine → List ℕ
nodes_given_up (Voting p left) = first_of left ∷ []
nodes_given_up (Preparing p left) = left
nodes_given_up (Confirming p) = 1 ∷ []

-- In the prepare step the stores that haven't answered are marked, and the commit goes on.
abbrev pub given_up : Machine → Marked
given_up (Voting p left) = plainly (Aborts (cause.Lost (first_of left)) p)
given_up (Preparing p left) = stores_left [] (marks_stores left p)
given_up (Confirming p) = plainly (Aborts (cause.Lost 1) p)

-- ---- the decision

-- A store prepared, or naming was asked for an exclusion or an inclusion: there is a record.
abbrev pub has_record : Plan → Bool
has_record p = not (is_empty p.prepared) || (p.confirmed && not (is_empty p.excluded && is_empty (included_of p)))

-- naming, where it confirmed
abbrev pub naming_node : Plan → List ℕ
naming_node p = if p.confirmed then 1 ∷ [] else []

-- the servers that voted, the stores that prepared, and naming where it confirmed
abbrev pub participants : Plan → List ℕ
participants p = number_set (servers_of p ++ p.prepared ++ naming_node p)
