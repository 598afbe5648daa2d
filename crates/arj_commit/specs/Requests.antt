-- The requests of a commit, part by part.
use Rattle.std.specs.Prelude.{ℕ, List, map, filter, find, Option, Some, None, min}
use Rattle.std.specs.List.{filter_map}
use Rattle.arj_base.specs.declared.binding.Binding.{Binding}
use Rattle.arj_msg.specs.Ask.{request}
use Rattle.arj_msg.specs.declared.ask.Ask.{Ask}
use Rattle.arj_msg.specs.declared.message.Head.{Head}
use Rattle.arj_msg.specs.declared.message.Message.{Message}
use Rattle.arj_protocol.specs.Commit.{Used, Plan, Machine, plan_of, is_at_server, waiting, state_by, states_for, vote_ask}
use Rattle.arj_base.specs.declared.state.ObjectState.{ObjectState}
use Rattle.arj_base.specs.Uid.{uid_eq, object}
use Rattle.arj_msg.specs.declared.ask.Ask.TheVariants as ask

-- who asks
abbrev pub head_of : Plan → Head
head_of p = record { path = p.path; req = p.req }

-- a number, or the lesser of two
abbrev pub lesser_of : Option ℕ → ℕ → ℕ
lesser_of None n = n
lesser_of (Some m) n = min m n

-- the objects at a server, with their bindings
abbrev pub binds_at : ℕ → List Used → List (ℕ × Binding)
binds_at s used = map {A = Used} {B = ℕ × Binding} (λ u. (u.x, u.binding)) (filter (is_at_server s) used)

-- the used objects, with the naming incarnations of their grants
abbrev pub grants_of : List Used → List (ℕ × ℕ)
grants_of used = map {A = Used} {B = ℕ × ℕ} (λ u. (u.x, u.grant)) used

-- a request that waits, as a message to its node
abbrev pub asked_of : Plan → ℕ × Ask → ℕ × Message
asked_of p w = (w.0, request (head_of p) w.1)

-- the requests that wait
abbrev pub requests : Machine → List (ℕ × Message)
requests m = map {A = ℕ × Ask} {B = ℕ × Message} (asked_of (plan_of m)) (waiting m)

-- the state that a store is sent of an object, if any
abbrev pub state_in : ℕ → List ObjectState → Used → Option ObjectState
state_in store changed u = state_by store u (find (λ s. uid_eq s.uid (object u.x)) changed)

-- the states of these objects that a store is sent
abbrev pub states_in : ℕ → List ObjectState → List Used → List ObjectState
states_in store changed used = filter_map (state_in store changed) used

-- what these servers are asked
abbrev pub votes : Plan → List ℕ → List (ℕ × Message)
votes p servers = map {A = ℕ} {B = ℕ × Message} (λ n. (n, request (head_of p) (vote_ask p n))) servers

-- what these stores are asked
abbrev pub prepares : Plan → List ℕ → List (ℕ × Message)
prepares p stores = map {A = ℕ} {B = ℕ × Message} (λ n. (n, request (head_of p) (ask.Prepare (states_for n p)))) stores
