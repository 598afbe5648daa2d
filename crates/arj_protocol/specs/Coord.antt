-- The coordinator part of a node: its actions, what each waits for, what each root has sent, heard and keeps, and the
-- tolds that aren't acknowledged. What a root did and heard are lists, each item once; questions are filters on them.
use Rattle.std.specs.Prelude.{ℕ, Bool, true, false, not, ◌&&◌, ◌||◌, ◌==◌, nat_lt, if◌then◌else◌, List, [], ◌∷◌, ◌++◌, map, filter, Option}
use Rattle.std.specs.Prelude.{Some, None, unwrap_or, min}
use Rattle.std.specs.List.{list_any, list_all}
use Rattle.std.specs.Map.{lookup}
use Rattle.std.specs.BTreeMap.{insert_entry, is_at}
use Rattle.arj_protocol.specs.Words.{Uid, Binding, Path, ObjectState, Label, label_cmp, uid_eq, is_on, last_uid}
use Rattle.arj_protocol.specs.Order.{at_number, put_number, number_set, unbound}
use Rattle.arj_protocol.specs.Effect.{Intent}
use Rattle.arj_protocol.specs.Ask.{actor}
use Rattle.arj_protocol.specs.Tree.{Tree, Branch, new_tree, at_place, set_place, branch_of, is_own, is_committed, is_merged, is_spent}
use Rattle.arj_protocol.specs.Tree.{root_of, ends_of}
use Rattle.arj_protocol.specs.Call.{Known, Steps, Goal, Run, Include}
use Rattle.arj_protocol.specs.Commit.{Machine, Used, Plan, least_of}
use Rattle.arj_start.specs.Kinds.{is_constituent}

-- ---- what there is of an action

-- What an action does: nothing, a call or an include, or its commit.
pub data Now : Type 0 where
  Idle : Now
  Calling : Steps → Now
  Committing : Machine → Now

-- An action at work: its label, its last request number, what it waits for, and the participants of its commit.
pub record Doing : Type 0 where
  pub label : Label
  pub req : ℕ
  pub now : Now
  pub took : List ℕ

-- ---- what there is of a root

-- a node that was sent a message of an action, and whether that was an Invoke
pub record Went : Type 0 where
  pub path : List Uid
  pub node : ℕ
  pub invoke : Bool

-- a call on an object that was answered
pub record Said : Type 0 where
  pub path : List Uid
  pub x : ℕ

-- an include that was answered: the store, and the state that was loaded
pub record Joined : Type 0 where
  pub path : List Uid
  pub x : ℕ
  pub store : ℕ
  pub loaded : ObjectState

-- The locks that a top was granted on an entry: the least naming incarnation of all grants, and the binding that the last
-- answer to a call named.
pub record Grant : Type 0 where
  pub top : Uid
  pub x : ℕ
  pub least : ℕ
  pub named : Option Binding

-- One binding per root: what is kept of an object, whether it is spoiled, and the binding to avoid.
pub record Keeping : Type 0 where
  pub kept : Option Known
  pub spoiled : Bool
  pub avoid : Binding

-- `states` has of each object that a constituent changed the state that the last such commit prepared.
pub record Root : Type 0 where
  pub went : List Went
  pub said : List Said
  pub joined : List Joined
  pub grants : List Grant
  pub keeping : List (ℕ × Keeping)
  pub states : List (ℕ × ObjectState)

-- A coordinator: the actions of its incarnation, their labels, what each is at, what each root has, and the commits that aren't acknowledged by all.
pub record Coord : Type 0 where
  pub tree : Tree
  pub labels : List (Label × ℕ)
  pub doings : List Doing
  pub roots : List (ℕ × Root)
  pub telling : List (Uid × Intent)

-- a root that did nothing yet
abbrev pub no_root : Root
no_root = record { went = []; said = []; joined = []; grants = []; keeping = []; states = [] }

-- the coordinator of a node that comes up in this incarnation
abbrev pub new_coord : ℕ → ℕ → Coord
new_coord node inc = record { tree = new_tree node inc; labels = []; doings = []; roots = []; telling = [] }

-- ---- finding

-- the number of the action with a label
abbrev pub number_of : Label → Coord → Option ℕ
number_of l c = lookup (is_at (label_cmp l)) c.labels

-- the label is that of the action with this number
abbrev pub with_label : Label → ℕ → Coord → Coord
with_label l k c = record c { labels = insert_entry label_cmp c.labels l k }

-- the Uid of the action with this number
abbrev pub uid_at : ℕ → Coord → Uid
uid_at k c = record { node = c.tree.node; inc = c.tree.inc; num = k }

-- an action at work, found by its place
abbrev pub doing_of : Uid → Coord → Option Doing
doing_of u c = if is_own u c.tree then at_place u.num c.doings else None

-- the action is at this now
abbrev pub set_doing : Uid → Doing → Coord → Coord
set_doing u d c = record c { doings = set_place u.num d c.doings }

-- what the action is at is changed, where it is there
abbrev pub change_doing : (Doing → Doing) → Uid → Coord → Option Doing → Coord
change_doing f u c None = c
change_doing f u c (Some d) = set_doing u (f d) c

-- what the action is at is changed
abbrev pub on_doing : Uid → (Doing → Doing) → Coord → Coord
on_doing u f c = change_doing f u c (doing_of u c)

-- a root, found by its number
abbrev pub root_at : Uid → Coord → Root
root_at root c = unwrap_or (at_number root.num c.roots) no_root

-- what the root has is changed
abbrev pub on_root : Uid → (Root → Root) → Coord → Coord
on_root root f c = record c { roots = put_number root.num (f (root_at root c)) c.roots }

-- nothing is kept of an object
abbrev pub no_keeping : Keeping
no_keeping = record { kept = None; spoiled = false; avoid = unbound }

-- what the root keeps of an object
abbrev pub keeping_of : ℕ → Root → Keeping
keeping_of x r = unwrap_or (at_number x r.keeping) no_keeping

-- the root keeps this of the object
abbrev pub with_keeping : ℕ → Keeping → Root → Root
with_keeping x k r = record r { keeping = put_number x k r.keeping }

-- the binding that the root keeps of an object, with what is known of it
abbrev pub kept_of : ℕ → Root → Option Known
kept_of x r = let k = keeping_of x r in k.kept

-- ---- noting what was done and heard, each once

-- both are true or both false
abbrev pub same_flag : Bool → Bool → Bool
same_flag true b = b
same_flag false b = not b

-- the same action and node, and both an Invoke or both not
abbrev pub same_went : Went → Went → Bool
same_went w v = uid_eq (last_uid w.path) (last_uid v.path) && ((w.node == v.node) && same_flag w.invoke v.invoke)

-- it is noted once that the node was sent this
abbrev pub with_went : Went → Root → Root
with_went w r = if list_any (same_went w) r.went then r else record r { went = r.went ++ w ∷ [] }

-- the same action called the same object
abbrev pub same_said : Said → Said → Bool
same_said s t = uid_eq (last_uid s.path) (last_uid t.path) && (s.x == t.x)

-- it is noted once that the call was answered
abbrev pub with_said : Said → Root → Root
with_said s r = if list_any (same_said s) r.said then r else record r { said = r.said ++ s ∷ [] }

-- the same action included the same store of the same object
abbrev pub same_join : Joined → Joined → Bool
same_join i j = uid_eq (last_uid i.path) (last_uid j.path) && ((i.x == j.x) && (i.store == j.store))

-- of two states the later one
abbrev pub later_state : ObjectState → ObjectState → ObjectState
later_state s t = if nat_lt s.version t.version then t else s

-- an include again: the state of the greater version counts
abbrev pub joined_with : Joined → List Joined → List Joined
joined_with j [] = j ∷ []
joined_with j (i ∷ rest) = if same_join j i then record i { loaded = later_state i.loaded j.loaded } ∷ rest else i ∷ joined_with j rest

-- the include was answered
abbrev pub with_join : Joined → Root → Root
with_join j r = record r { joined = joined_with j r.joined }

-- the lock that this top was granted on the entry of this object
abbrev pub is_grant_of : Uid → ℕ → Grant → Bool
is_grant_of top x g = uid_eq g.top top && (g.x == x)

-- the binding that an answer named, where it named one
abbrev pub named_last : Option Binding → Option Binding → Option Binding
named_last None old = old
named_last (Some b) old = Some b

-- a further grant to the same top on the same entry keeps the least incarnation, and the binding that was named last
abbrev pub granted_with : Grant → List Grant → List Grant
granted_with g [] = g ∷ []
granted_with g (h ∷ hs) =
    if is_grant_of g.top g.x h then record h { least = min h.least g.least; named = named_last g.named h.named } ∷ hs
    else h ∷ granted_with g hs

-- the root was granted this
abbrev pub with_grant : Grant → Root → Root
with_grant g r = record r { grants = granted_with g r.grants }

-- ---- what survives

-- all actions of the path behind the top were committed
abbrev pub survives : Uid → List Uid → Coord → Bool
survives top path c = is_on path top && is_merged top path c.tree

-- an action that is there is a constituent
abbrev pub is_constituent_branch : Option Branch → Bool
is_constituent_branch None = false
is_constituent_branch (Some b) = is_constituent b.kind

-- the action is a committed constituent
abbrev pub is_kept_top : Uid → Coord → Bool
is_kept_top u c = is_constituent_branch (branch_of u c.tree) && is_committed u c.tree

-- the second Uid of a path, below a serializing action the top
abbrev pub second_uid : List Uid → Option Uid
second_uid (root ∷ top ∷ rest) = Some top
second_uid _ = None

-- the top is a committed constituent, and the path survives in it
abbrev pub retained_in : List Uid → Coord → Option Uid → Bool
retained_in path c None = false
retained_in path c (Some top) = is_kept_top top c && survives top path c

-- A serializing action retains it: the top is a committed constituent, in which it survives.
abbrev pub is_retained : List Uid → Coord → Bool
is_retained path c = retained_in path c (second_uid path)

-- it survives in this top, or is retained
abbrev pub counts : Uid → List Uid → Coord → Bool
counts top path c = survives top path c || is_retained path c

-- the serializing action retains a call on the object
abbrev pub retains : ℕ → Root → Coord → Bool
retains x r c = list_any (λ (s : Said). (s.x == x) && is_retained s.path c) r.said

-- ---- free of the kept binding

-- a call, and no include
abbrev pub is_call : Goal → Bool
is_call (Run op) = true
is_call (Include s) = false

-- it waits in a call on the object
abbrev pub calls_on : ℕ → Now → Bool
calls_on x (Calling s) = (s.x == x) && is_call s.goal
calls_on x _ = false

-- an action whose doing is known waits in a call on the object
abbrev pub calls_now : ℕ → Option Doing → Bool
calls_now x None = false
calls_now x (Some d) = calls_on x d.now

-- an action other than this one waits in a call on the object
abbrev pub branch_calls : ℕ → Uid → Coord → Branch → Bool
branch_calls x but c b = not (uid_eq (actor b.path) but) && calls_now x (doing_of (actor b.path) c)

-- the answered calls of a root
abbrev pub said_of : Uid → Coord → List Said
said_of root c = let r = root_at root c in r.said

-- the action is one of the root
abbrev pub of_root : Uid → Branch → Bool
of_root root b = uid_eq (root_of b.path) root

-- another action of the root waits in a call on the object
abbrev pub others_call : Uid → Uid → ℕ → Coord → Bool
others_call root but x c = list_any (branch_calls x but c) (filter (of_root root) c.tree.branches)

-- The root is free of the kept binding: no other action of it waits in a call on the object, and each call on it that was
-- answered has an aborted action on its path.
abbrev pub is_free : Uid → Uid → ℕ → Coord → Bool
is_free root but x c =
    not (others_call root but x c) && list_all (λ (s : Said). not (s.x == x) || is_spent s.path c.tree) (said_of root c)

-- ---- the nodes that were sent something

-- the nodes that were sent these, each once, in order of their numbers
abbrev pub nodes_of : List Went → List ℕ
nodes_of ws = number_set (map (λ (w : Went). w.node) ws)

-- the nodes that were sent a message of the action or of one below it
abbrev pub nodes_sent : Uid → Root → List ℕ
nodes_sent u r = nodes_of (filter (λ (w : Went). is_on w.path u) r.went)

-- the servers that were sent an Invoke of the action or of one that was merged into it
abbrev pub is_invoked_by : Uid → Coord → Went → Bool
is_invoked_by u c w = w.invoke && survives u w.path c

-- the servers that are told of the end of a nested action: those that were sent an Invoke of it, or of what was merged into it
abbrev pub servers_told : Uid → Root → Coord → List ℕ
servers_told u r c = nodes_of (filter (is_invoked_by u c) r.went)

-- ---- what a commit uses

-- the calls that the commit of this top is about: those that survive in it, and those that its serializing action retains
abbrev pub said_in : Uid → Root → Coord → List Said
said_in top r c = filter (λ (s : Said). counts top s.path c) r.said

-- the includes that the commit of this top is about
abbrev pub joined_in : Uid → Root → Coord → List Joined
joined_in top r c = filter (λ (j : Joined). counts top j.path c) r.joined

-- the surviving includes of the top itself, on an object
abbrev pub joins_on : ℕ → Uid → Root → Coord → List Joined
joins_on x top r c = filter (λ (j : Joined). (j.x == x) && survives top j.path c) r.joined

-- the objects that the commit of this top is about, by number
abbrev pub objects_in : Uid → Root → Coord → List ℕ
objects_in top r c = number_set (map (λ (s : Said). s.x) (said_in top r c) ++ map (λ (j : Joined). j.x) (joined_in top r c))

-- a call or an include on the object survives in this top
abbrev pub top_uses : Uid → ℕ → Root → Coord → Bool
top_uses top x r c =
    list_any (λ (s : Said). (s.x == x) && survives top s.path c) r.said || list_any (λ (j : Joined). (j.x == x) && survives top j.path c) r.joined

-- the grants that count: those of the top, and those that its serializing action retains
abbrev pub counts_grant : Uid → ℕ → Root → Coord → Grant → Bool
counts_grant top x r c g = (g.x == x) && (uid_eq g.top top || (is_kept_top g.top c && top_uses g.top x r c))

-- the least incarnation of naming of the grants that count
abbrev pub least_grant : Uid → ℕ → Root → Coord → ℕ
least_grant top x r c = least_of (map (λ (g : Grant). g.least) (filter (counts_grant top x r c) r.grants))

-- of the states that the includes loaded the latest one
abbrev pub latest_of : Option ObjectState → List Joined → Option ObjectState
latest_of found [] = found
latest_of None (j ∷ js) = latest_of (Some j.loaded) js
latest_of (Some s) (j ∷ js) = latest_of (Some (later_state s j.loaded)) js

-- of the loaded state and the one that the serializing action keeps the later one
abbrev pub or_kept_state : Option ObjectState → Option ObjectState → Option ObjectState
or_kept_state None kept = None
or_kept_state (Some s) None = Some s
or_kept_state (Some s) (Some t) = Some (later_state s t)

-- the state that is sent to included stores where the object wasn't changed: the latest that was loaded, or that the serializing action keeps
abbrev pub loaded_for : ℕ → Uid → Root → Coord → Option ObjectState
loaded_for x top r c = or_kept_state (latest_of None (joins_on x top r c)) (at_number x r.states)

-- what the commit is about of one object, with what is known of its binding
abbrev pub used_with : ℕ → Bool → Uid → Root → Coord → Known → Used
used_with x called top r c k = record {
  x = x;
  called = called;
  binding = k.binding;
  server = k.server;
  inc = unwrap_or k.inc 0;
  grant = least_grant top x r c;
  stores = k.stores;
  joins = number_set (map (λ (j : Joined). j.store) (joins_on x top r c));
  loaded = loaded_for x top r c;
}

-- of an object that was only included no binding is known
abbrev pub nothing_known : Known
nothing_known = record { binding = unbound; server = 0; inc = None; grant = 0; stores = []; recorded = false }

-- what is kept counts where the object was called
abbrev pub known_for : Bool → ℕ → Root → Known
known_for false x r = nothing_known
known_for true x r = unwrap_or (kept_of x r) nothing_known

-- a call on the object counts for this top
abbrev pub is_called : ℕ → Uid → Root → Coord → Bool
is_called x top r c = list_any (λ (s : Said). s.x == x) (said_in top r c)

-- what the commit is about of one object
abbrev pub used_of : Uid → Root → Coord → ℕ → Used
used_of top r c x = let called = is_called x top r c in used_with x called top r c (known_for called x r)

-- the plan of a top's commit, before any answer
abbrev pub plan_for : Path → ℕ → Root → Coord → Plan
plan_for p req r c = record {
  path = p;
  req = req;
  ends = ends_of (root_of p) c.tree;
  used = map (used_of (actor p) r c) (objects_in (actor p) r c);
  sent = nodes_sent (actor p) r;
  changed = [];
  prepared = [];
  excluded = [];
  confirmed = false;
}
