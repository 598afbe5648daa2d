-- What is so at naming, as tests that pass for all that is so there. What messages and coordinators claim is claimed for each tests that
-- pass.
use Rattle.std.specs.Prelude.{◌≡◌, ◌≤◌, ◌<◌, ◌+◌, ◌*◌, ◌||◌, ℕ, Bool, true, Option, Some, None}
use Rattle.arj_protocol.specs.Words.{Uid, Binding, is_on}
use Rattle.arj_protocol.specs.Named.{Made, Named}
use Rattle.arj_protocol.specs.Naming.{Naming}
use Rattle.arj_protocol.specs.Node.{Parts}
use Rattle.arj_protocol.specs.Order.{at_number, at_uid, binding_number}
use Rattle.arj_protocol.specs.Step.{Node}
use Rattle.arj_promise.specs.Runs.{Seen}

-- Of a number, that naming has given a binding none above it; of an object and a number, that a binding of no lower number was recorded, or
-- naming is in a later incarnation than that of the binding; of an object, a top and an incarnation, that the top asked the lock by an
-- include in it, or naming was told of the top, or is in a later one; of an incarnation, that naming isn't in an earlier one; and of an
-- object, a binding's number and a store, that the object's entry lists the store, if it was made for a top and matters still.
pub record Tests : Type 0 where
  pub made : ℕ → Bool
  pub past : ℕ → ℕ → Bool
  pub asked : ℕ → Uid → ℕ → Bool
  pub low : ℕ → Bool
  pub listed : ℕ → ℕ → ℕ → Bool

-- they pass for all that was so before this incarnation
pub record PassesBefore (T : Tests) (inc : ℕ) : Type 0 where
  pub made : (v : ℕ) → v < inc * 4294967296 → T.made v ≡ true
  pub past : (x v : ℕ) → v < inc * 4294967296 → T.past x v ≡ true
  pub asked : (x : ℕ) (u : Uid) (i : ℕ) → i < inc → T.asked x u i ≡ true
  pub listed : (x v s : ℕ) → v < inc * 4294967296 → T.listed x v s ≡ true

-- for what naming has of an object
pub record PassesNamed (T : Tests) (x : ℕ) (n : Naming) (o : Named) : Type 0 where
  pub recorded : (b : Binding) (v : ℕ) → o.recorded ≡ Some b → v ≤ binding_number b → T.past x v ≡ true
  pub asked : (u : Uid) → (is_on o.asked u || is_on n.told u) ≡ true → T.asked x u n.inc ≡ true

-- for what naming has
pub record PassesNaming (T : Tests) (n : Naming) : Type 0 where
  pub made : (v : ℕ) → v ≤ binding_number (record { inc = n.inc; count = n.count }) → T.made v ≡ true
  pub objects : (x : ℕ) (o : Named) → at_number x n.objects ≡ Some o → PassesNamed T x n o

-- while naming is down, for all that is so before the next incarnation
abbrev pub PassesLive : Tests → ℕ → Option Parts → Type 0
PassesLive T inc None = PassesBefore T (inc + 1)
PassesLive T inc (Some t) = (n : Naming) → t.naming ≡ Some n → PassesNaming T n

-- for naming's node; and whatever entries list
pub record PassesNode (T : Tests) (n : Node) : Type 0 where
  pub low : (i : ℕ) → i ≤ (let d = n.disk in d.inc) → T.low i ≡ true
  pub before : PassesBefore T (let d = n.disk in d.inc)
  pub live : PassesLive T (let d = n.disk in d.inc) n.live
  pub lists : (x v s : ℕ) → T.listed x v s ≡ true

-- so it is of node 1
abbrev pub Passes : Tests → Seen → Type 0
Passes T M = (T.made 0 ≡ true) × ((n : Node) → M.nodes 1 ≡ Some n → PassesNode T n)

-- each binding that was recorded for a top isn't above the one that was recorded last
abbrev pub AreBelowLast : Named → Type 0
AreBelowLast o = (u : Uid) (m : Made) → at_uid u o.made ≡ Some m → m.recorded ≡ true →
    (b : Binding) × (o.recorded ≡ Some b) × (binding_number m.binding ≤ binding_number b)
