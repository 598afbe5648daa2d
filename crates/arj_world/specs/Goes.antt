-- How a world goes on within an event, where it isn't known yet which stops will fall into it.
use Rattle.std.specs.Prelude.{ℕ, zero, suc, ◌+◌, ◌≡◌, ◌⊎◌, ◌-◌, ◌<◌, ◌==◌, Bool, true, false, if◌then◌else◌, List, [], ◌∷◌, ◌++◌, Option}
use Rattle.std.specs.Prelude.{Some, None, IsSomeAnd, unwrap_or, option_map}
use Rattle.arj_core.specs.declared.node.Core.{Ghosts}
use Rattle.arj_disk.specs.FileMap.{FileMap}
use Rattle.arj_protocol.specs.Effect.{Stop}
use Rattle.arj_protocol.specs.Step.{Node, Input, step}
use Rattle.arj_protocol.specs.Step as input
use Rattle.arj_protocol.specs.Tree.{at_place}
use Rattle.arj_protocol.specs.World.{World, Arm, cut, count_works, done_step, halted_at}
use Rattle.arj_world.specs.Stands.{Hand, Stands}
use Rattle.arj_world.specs.Turns.{with_arms}

-- for each node the stop that will fall, if any
abbrev pub Pick : Type 0
Pick = ℕ → Option Arm

-- the stop that will fall at a node, if any
abbrev pub one_arm : ℕ → Option Arm → List (ℕ × Arm)
one_arm n None = []
one_arm n (Some a) = (n, a) ∷ []

-- the arms of so many nodes from this one on
abbrev pub arms_from : ℕ → ℕ → Pick → List (ℕ × Arm)
arms_from zero k f = []
arms_from (suc c) k f = one_arm k (f k) ++ arms_from c (k + 1) f

-- the arms of so many nodes
abbrev pub arms_of : ℕ → Pick → List (ℕ × Arm)
arms_of most f = arms_from most 1 f

-- another pick at one node
abbrev pub but_at : {A : Type 0} → ℕ → A → (ℕ → A) → ℕ → A
but_at k a f n = if n == k then a else f n

-- how many works each node has done within the event; nothing of one that has halted
abbrev pub Works : Type 0
Works = ℕ → Option ℕ

-- a stop that is still to fall stands behind the works that are done, and no halted node has one
abbrev pub Admits : Works → Pick → Type 0
Admits done f = (n : ℕ) (a : Arm) → f n ≡ Some a → IsSomeAnd (done n) (λ d. d < a.works)

-- the stops that are still to fall, counted from now
abbrev pub left_of : Works → Pick → Pick
left_of done f n = option_map (λ (a : Arm). record a { works = a.works - unwrap_or (done n) 0 }) (f n)

-- Whatever stops are still to fall: the run from the first world, with those and the stops that fell, is what is left of it
-- from this one. Each of them falls at a work, and a node that has halted is down.
pub record Reaches (most : ℕ) (run : World → World) (first : World) (rest : World → World) (now : World) : Type 0 where
  pub done : Works
  pub pick : Pick → Pick
  pub works : (f : Pick) → Admits done f → Admits (λ k. Some 0) (pick f)
  pub down : (k : ℕ) (n : Node) → done k ≡ None → at_place k now.nodes ≡ Some n → n.live ≡ None
  pub same : (f : Pick) → Admits done f →
      run (with_arms (arms_of most (pick f)) first) ≡ rest (with_arms (arms_of most (left_of done f)) now)

-- the step of a node at this place was done, or a stop of its disk cut it; of the world then this holds
abbrev pub Went : ℕ → Input → World → (World → Type 0) → Node → Type 0
Went k i w P n = P (done_step k (step w.header n i) w)
    ⊎ ((work : ℕ) × (how : Stop) × (work < count_works (step w.header n i).halting) × P (halted_at k n (cut work how (step w.header n i).halting n.disk) w))

-- one step of the node at this place
pub record StepsOne (k : ℕ) (i : Input) (w : World) (P : World → Type 0) : Type 0 where
  pub node : Node
  pub here : at_place k w.nodes ≡ Some node
  pub went : Went k i w P node

-- a node that is down does nothing, but for a restart
abbrev pub is_no_restart : Input → Bool
is_no_restart input.Restart = false
is_no_restart i = true

-- One step of a node, from one world in hand to the next.
abbrev pub StepsTo : {C D : Type 0} → Ghosts C → (D → FileMap) → ℕ → Input → Hand C D → Hand C D → Type 0
StepsTo core file k i old new = (w : World) → Stands core file old w → StepsOne k i w (Stands core file new)

-- Of what the protocol does here a part was done, and this is left, whatever stops are still to fall.
pub record Goes (most : ℕ) (go left : World → World) (w : World) (P : World → Type 0) : Type 0 where
  pub now : World
  pub stands : P now
  pub reaches : (run rest : World → World) (first : World) → Reaches most run first (λ v. rest (go v)) w →
      Reaches most run first (λ v. rest (left v)) now

-- so it is of each world that the hand stands for
abbrev pub GoesPartTo : {C D : Type 0} → Ghosts C → (D → FileMap) → (World → World) → (World → World) → Hand C D → Hand C D → Type 0
GoesPartTo core file go left old new = (w : World) → Stands core file old w → Goes old.kept.header.nodes go left w (Stands core file new)

-- all of it was done
abbrev pub GoesTo : {C D : Type 0} → Ghosts C → (D → FileMap) → (World → World) → Hand C D → Hand C D → Type 0
GoesTo core file go old new = GoesPartTo core file go (λ v. v) old new

-- The same at an event's beginning, where no node has done anything.
pub record Begins (most : ℕ) (go : World → World) (w : World) (P : World → Type 0) : Type 0 where
  pub now : World
  pub stands : P now
  pub reaches : Reaches most go w (λ v. v) now

-- so it is of each world that the hand stands for
abbrev pub BeginsTo : {C D : Type 0} → Ghosts C → (D → FileMap) → (World → World) → Hand C D → Hand C D → Type 0
BeginsTo core file go old new = (w : World) → Stands core file old w → Begins old.kept.header.nodes go w (Stands core file new)
