-- Request numbers, the objects that plans use, and that commits wait for somebody.
use Rattle.std.specs.Prelude.{◌≡◌, ◌<◌, ℕ, false, List, [], ◌∷◌, Some, ⊤}
use Rattle.std.specs.List.{AllByRecursion}
use Rattle.arj_protocol.specs.Words.{Uid}
use Rattle.arj_protocol.specs.Commit.{Machine, Used, left_of, plan_of}
use Rattle.arj_protocol.specs.Coord.{Coord, Doing, Now, Idle, Calling, Committing, doing_of}
use Rattle.arj_protocol.specs.Order.{is_empty}

-- each object once, in increasing order
abbrev pub AreOnce : List Used → Type 0
AreOnce [] = ⊤
AreOnce (u ∷ us) = AllByRecursion (λ (v : Used). u.x < v.x) us × AreOnce us

-- a commit names each object that it uses once, and waits for some node
abbrev pub IsAwaited : Machine → Type 0
IsAwaited m = AreOnce (let p = plan_of m in p.used) × (is_empty (left_of m) ≡ false)

-- What waits is the action's last request, and for somebody.
abbrev pub IsNumbered : ℕ → Now → Type 0
IsNumbered req Idle = ⊤
IsNumbered req (Calling s) = s.req ≡ req
IsNumbered req (Committing m) = ((let p = plan_of m in p.req) ≡ req) × IsAwaited m

-- so it is of each action at work
abbrev pub AreNumbered : Coord → Type 0
AreNumbered c = (u : Uid) (d : Doing) → doing_of u c ≡ Some d → IsNumbered d.req d.now
