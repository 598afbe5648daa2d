-- The actions that wait among all, and what is asked of them alone.
use Rattle.std.specs.Prelude.{ℕ, ◌+◌, Bool, true, false, not, ◌&&◌, if◌then◌else◌, List, [], ◌∷◌, Option, Some, None}
use Rattle.std.specs.List.{list_any}
use Rattle.std.specs.BTreeMap.{is_at}
use Rattle.std.specs.BTreeSet.{insert_key}
use Rattle.std.specs.Ordering.{nat_cmp}
use Rattle.std.specs.Set.{remove_key}
use Rattle.arj_protocol.specs.Ask.{actor}
use Rattle.arj_protocol.specs.Coord.{Coord, Doing, Now, Idle, of_root}
use Rattle.arj_protocol.specs.Step.{is_waiting_now}
use Rattle.arj_protocol.specs.Tree.{Branch, at_place, set_place}
use Rattle.arj_protocol.specs.Words.{Uid, uid_eq}
use Rattle.arj_start.specs.Kinds.{is_constituent}

-- the numbers of the actions that wait, counted from this one
abbrev pub waiting : ℕ → List Doing → List ℕ
waiting n [] = []
waiting n (d ∷ ds) = if is_waiting_now d.now then n ∷ waiting (n + 1) ds else waiting (n + 1) ds

-- a number comes to these or goes
abbrev pub marked : Bool → ℕ → List ℕ → List ℕ
marked true k ns = insert_key nat_cmp ns k
marked false k ns = remove_key (is_at (nat_cmp k)) ns

-- an action waits for nothing
abbrev pub idle_doing : Doing → Doing
idle_doing d = record d { now = Idle }

-- an action at work changed, where there is one
abbrev pub changed_by : (Doing → Doing) → ℕ → List Doing → Option Doing → List Doing
changed_by f k ds None = ds
changed_by f k ds (Some d) = set_place k (f d) ds

-- the action at this place changed, where there is one
abbrev pub changed_at : ℕ → (Doing → Doing) → List Doing → List Doing
changed_at k f ds = changed_by f k ds (at_place k ds)

-- what an action waits for, nothing where there is no such action
abbrev pub now_in : Option Doing → Now
now_in None = Idle
now_in (Some d) = d.now

-- ---- questions

-- there is an action here, and it passes
abbrev pub passes : (Branch → Bool) → Option Branch → Bool
passes test None = false
passes test (Some b) = test b

-- what it waits for passes
abbrev pub waits_so : (Now → Bool) → Option Doing → Bool
waits_so test None = false
waits_so test (Some d) = test d.now

-- the action of a number passes, and so does what it waits for
abbrev pub passes_at : (Branch → Bool) → (Now → Bool) → Coord → ℕ → Bool
passes_at test waits c k = passes test (at_place k c.tree.branches) && waits_so waits (at_place k c.doings)

-- one of these numbers is of such an action
abbrev pub any_passes : (Branch → Bool) → (Now → Bool) → Coord → List ℕ → Bool
any_passes test waits c ns = list_any (passes_at test waits c) ns

-- another constituent of the root
abbrev pub is_other_constituent : Uid → Uid → Branch → Bool
is_other_constituent root but b = of_root root b && (is_constituent b.kind && not (uid_eq (actor b.path) but))

-- another action of the root
abbrev pub is_other : Uid → Uid → Branch → Bool
is_other root but b = of_root root b && not (uid_eq (actor b.path) but)
