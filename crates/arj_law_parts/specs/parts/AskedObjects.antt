-- The objects that a coordinator asks about are of its roots: each is among the objects that the action's root uses.
use Rattle.std.specs.Prelude.{◌≡◌, ℕ, true, List, Option, Some, None, unwrap_or, ⊤}
use Rattle.std.specs.List.{AllByRecursion}
use Rattle.arj_protocol.specs.Words.{Uid, Binding, Head, Ask, asks}
use Rattle.arj_protocol.specs.Words.ask
use Rattle.arj_protocol.specs.Commit.{Used, plan_of}
use Rattle.arj_protocol.specs.Coord.{Coord, Doing, Joined, Now, Idle, Calling, Committing, Root, Said, doing_of}
use Rattle.arj_protocol.specs.Effect.{Effect, Say, Send, Do}
use Rattle.arj_protocol.specs.Order.{at_number, has}
use Rattle.arj_protocol.specs.Tree.{Tree, no_family, root_of}

-- the root with this number uses the object
abbrev pub IsUsedIn : Tree → ℕ → ℕ → Type 0
IsUsedIn t k x = has (let f = unwrap_or (at_number k t.families) no_family in f.objects) x ≡ true

-- each object that is asked about, in a request by the path of this root
abbrev pub IsAskOf : Tree → ℕ → Ask → Type 0
IsAskOf t k (ask.Bind x include avoid) = IsUsedIn t k x
IsAskOf t k (ask.Load x) = IsUsedIn t k x
IsAskOf t k (ask.Record x b i g) = IsUsedIn t k x
IsAskOf t k (ask.Invoke x b i ends op) = IsUsedIn t k x
IsAskOf t k (ask.Vote i ties ends) = AllByRecursion (λ (e : ℕ × Binding). IsUsedIn t k e.0) ties
IsAskOf t k (ask.Confirm grants excluded included) = AllByRecursion (λ (e : ℕ × ℕ). IsUsedIn t k e.0) grants
IsAskOf t k _ = ⊤

-- so it is of a request, where the message is one
abbrev pub IsAskedOf : Tree → Option (Head × Ask) → Type 0
IsAskedOf t None = ⊤
IsAskedOf t (Some a) = IsAskOf t (let h = a.0 in let r = root_of h.path in r.num) a.1

-- so it is of each message that is sent
abbrev pub IsOfRoots : Tree → Effect → Type 0
IsOfRoots t (Send to m) = IsAskedOf t (asks m)
IsOfRoots t (Say b) = ⊤
IsOfRoots t (Do w) = ⊤

-- so it is of all effects
abbrev pub AreOfRoots : Tree → List Effect → Type 0
AreOfRoots t outs = AllByRecursion (IsOfRoots t) outs

-- what waits is about objects of the root
abbrev pub IsNowOf : Tree → Now → Type 0
IsNowOf t Idle = ⊤
IsNowOf t (Calling s) = IsUsedIn t (let r = root_of s.path in r.num) s.x
IsNowOf t (Committing m) =
    AllByRecursion (λ (u : Used). IsUsedIn t (let p = plan_of m in let r = root_of p.path in r.num) u.x) (let p = plan_of m in p.used)

-- and so is what the root was answered and included
abbrev pub IsRootOf : Tree → ℕ → Root → Type 0
IsRootOf t k r = AllByRecursion (λ (s : Said). IsUsedIn t k s.x) r.said × AllByRecursion (λ (j : Joined). IsUsedIn t k j.x) r.joined

-- A coordinator knows only objects that the roots of its tree use: what its actions wait for, and what its roots have.
pub record KnowsObjects (c : Coord) : Type 0 where
  pub works : (u : Uid) (d : Doing) → doing_of u c ≡ Some d → IsNowOf c.tree d.now
  pub roots : AllByRecursion (λ (e : ℕ × Root). IsRootOf c.tree e.0 e.1) c.roots
