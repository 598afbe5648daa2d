-- What an action waits for is its own.
use Rattle.std.specs.Prelude.{◌≡◌, ℕ, ◌+◌, ◌≤◌, List, [], ◌∷◌, ⊤}
use Rattle.arj_protocol.specs.Ask.{actor}
use Rattle.arj_protocol.specs.Call.{Goal, Run, Include}
use Rattle.arj_protocol.specs.Commit.{plan_of}
use Rattle.arj_protocol.specs.Coord.{Doing, Now, Idle, Calling, Committing}
use Rattle.arj_protocol.specs.Words.{Uid}

-- an include is of a node
abbrev pub IncludesNode : Goal → Type 0
IncludesNode (Run op) = ⊤
IncludesNode (Include n) = (1 ≤ n) × (n ≤ 16)

-- the request that waits is of this action, and of this number
abbrev pub NowFits : Uid → ℕ → Now → Type 0
NowFits u req Idle = ⊤
NowFits u req (Calling s) = (actor s.path ≡ u) × ((s.req ≡ req) × IncludesNode s.goal)
NowFits u req (Committing m) = (actor (plan_of m).path ≡ u) × ((plan_of m).req ≡ req)

-- so is that of each action, counted from this number
abbrev pub AllFit : ℕ → ℕ → ℕ → List Doing → Type 0
AllFit node inc n [] = ⊤
AllFit node inc n (d ∷ ds) = NowFits (record { node = node; inc = inc; num = n }) d.req d.now × AllFit node inc (n + 1) ds
