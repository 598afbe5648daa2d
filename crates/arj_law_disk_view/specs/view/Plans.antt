-- The commit machine of a coordinator seen as the disk machine has it: the plan of one object, the stores that said Yes, and
-- those that are marked.
use Rattle.std.specs.Prelude.{⊤, ◌≡◌, ◌⊎◌, ℕ, true, ◌==◌, List, [], ◌∷◌, find, Option, Some, None, option_map, false}
use Rattle.arj_protocol.specs.Words.{Uid, ObjectState, object}
use Rattle.arj_protocol.specs.Commit as commit
use Rattle.arj_protocol.specs.Commit.{Used, changed_of, states_for, targets_of}
use Rattle.arj_protocol.specs.Order as order
use Rattle.arj_protocol.specs.Order.{uid_number}
use Rattle.arj_law_disk.specs.machine.State as disk
use Rattle.arj_law_disk.specs.machine.State.{State, Packed, target}
use Rattle.arj_law_disk_view.specs.view.Pairs.{packed}
use Rattle.arj_law_disk_view.specs.view.Stores.{IsPlanned}

-- what a plan uses of an object
abbrev pub used_at : ℕ → List Used → Option Used
used_at x us = find (λ (u : Used). u.x == x) us

-- no state was loaded
abbrev pub unloaded : Packed
unloaded = record { version = 0; writer = 0; content = [] }

-- the state that was loaded, if one was
abbrev pub loads : Option ObjectState → Packed
loads None = unloaded
loads (Some s) = packed s

-- the machine's plan for an object, by what is used of it and the state that was changed
abbrev pub plan_by : Option Used → Option ObjectState → disk.Plan
plan_by None changed = record { writes = None; list = []; joins = []; loaded = unloaded }
plan_by (Some u) changed = record { writes = option_map packed changed; list = u.stores; joins = u.joins; loaded = loads u.loaded }

-- the machine's plan for an object
abbrev pub plan_at : ℕ → commit.Plan → disk.Plan
plan_at x p = plan_by (used_at x p.used) (changed_of x p)

-- the object is used so
abbrev pub Uses : Used → List Used → Type 0
Uses u [] = ⊥
Uses u (v ∷ vs) = (v ≡ u) ⊎ Uses u vs

-- no two stand for one object
abbrev pub AreApart : List Used → Type 0
AreApart [] = ⊤
AreApart (u ∷ us) = (used_at u.x us ≡ None) × AreApart us

-- each number stands once
abbrev pub AreDistinct : List ℕ → Type 0
AreDistinct [] = ⊤
AreDistinct (n ∷ ns) = (order.has ns n ≡ false) × AreDistinct ns

-- A plan uses each object once, includes it nowhere twice, and of each that it includes somewhere it has a loaded state.
pub record IsTidy (p : commit.Plan) : Type 0 where
  pub apart : AreApart p.used
  pub once : (u : Used) → Uses u p.used → used_at u.x p.used ≡ Some u
  pub distinct : (u : Used) → Uses u p.used → AreDistinct u.joins
  pub loaded : (u : Used) (s : ℕ) → Uses u p.used → order.has u.joins s ≡ true → (st : ObjectState) × (u.loaded ≡ Some st)
  pub of : (u : Used) (st : ObjectState) → Uses u p.used → u.loaded ≡ Some st → st.uid ≡ object u.x

-- what a plan sends to a store is planned
abbrev pub StatesArePlanned : Type 0
StatesArePlanned = (x s : ℕ) (S : State) (a : Uid) (p : commit.Plan) → IsTidy p → S.begun (uid_number a) ≡ true →
    S.plan (uid_number a) ≡ plan_at x p → IsPlanned x S a s (states_for s p)

-- the prepare step asks each store to which a state is sent
abbrev pub TargetsAreAsked : Type 0
TargetsAreAsked = (x s : ℕ) (p : commit.Plan) → target (plan_at x p) s ≡ true → order.has (targets_of p) s ≡ true
