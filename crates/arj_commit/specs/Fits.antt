-- What a plan has to be for its commit.
use Rattle.std.specs.Prelude.{◌≡◌, ℕ, ◌≤◌, IfSome}
use Rattle.std.specs.List.{AllByRecursion}
use Rattle.arj_protocol.specs.Commit.{Used, Plan}

-- 1 to 16
abbrev pub IsNode : ℕ → Type 0
IsNode n = (1 ≤ n) × (n ≤ 16)

-- A used object names nodes, where a server 0 is none, and the state that its includes loaded has its number.
pub record UsedFits (u : Used) : Type 0 where
  pub server : u.server ≤ 16
  pub stores : AllByRecursion IsNode u.stores
  pub joins : AllByRecursion IsNode u.joins
  pub loaded : IfSome u.loaded (λ s. s.uid.num ≡ u.x)

-- Each used object is so, and what prepared are nodes.
pub record PlanFits (p : Plan) : Type 0 where
  pub used : AllByRecursion UsedFits p.used
  pub prepared : AllByRecursion IsNode p.prepared
