-- What messages say of the incarnation of the node that sends them.
use Rattle.std.specs.Prelude.{◌≡◌, ◌≤◌, ℕ, List, ⊤}
use Rattle.std.specs.List.{AllByRecursion}
use Rattle.arj_protocol.specs.Words.{Uid, Message}
use Rattle.arj_protocol.specs.Words.message
use Rattle.arj_protocol.specs.Coord.{Coord}
use Rattle.arj_protocol.specs.Effect.{Effect, Say, Send, Do, Work, PutInc}
use Rattle.arj_protocol.specs.Node.{Parts, Handled, Void, Took}
use Rattle.arj_law_parts.specs.parts.Claims.{IsClaimed, IsOwnRecord, GoesOn}
use Rattle.arj_law_parts.specs.parts.Messages.{Seals}

-- A Hello is of this node, and neither it nor an answer to an Activate names a later incarnation than this one.
abbrev pub SaysInc : ℕ → ℕ → Message → Type 0
SaysInc n i (message.Hello m) = (m.node ≡ n) × (m.inc ≤ i)
SaysInc n i (message.Activated m) = m.server_inc ≤ i
SaysInc n i _ = ⊤

-- the work puts no other incarnation than this one
abbrev pub KeepsInc : ℕ → Work → Type 0
KeepsInc i (PutInc j) = j ≡ i
KeepsInc i _ = ⊤

-- an effect names no later incarnation of the node, and puts none but this one
abbrev pub IsOfInc : ℕ → ℕ → Effect → Type 0
IsOfInc n i (Say b) = ⊤
IsOfInc n i (Send to m) = SaysInc n i m
IsOfInc n i (Do w) = KeepsInc i w

-- effects of a node in an incarnation
abbrev pub AreOfInc : ℕ → ℕ → List Effect → Type 0
AreOfInc n i outs = AllByRecursion (IsOfInc n i) outs

-- what the message says of actions is true at this coordinator
abbrev pub AreClaims : Coord → Message → Type 0
AreClaims c m = (u : Uid) → Seals m u → IsClaimed u c

-- so it is of an effect
abbrev pub IsClaimsOf : Coord → Effect → Type 0
IsClaimsOf c (Say b) = ⊤
IsClaimsOf c (Send to m) = AreClaims c m
IsClaimsOf c (Do w) = IsOwnRecord c.tree.node c.tree.inc w

-- What a node makes of a message: its coordinator goes on, its server stays in its incarnation, and what it sends is true.
abbrev pub IsTrulyHandled : ℕ → Parts → Handled → Type 0
IsTrulyHandled n t (Void outs) = AllByRecursion (IsClaimsOf t.coord) outs × AreOfInc n t.server.inc outs
IsTrulyHandled n t (Took v outs) =
    GoesOn t.coord v.coord × (v.server.inc ≡ t.server.inc) × AllByRecursion (IsClaimsOf v.coord) outs × AreOfInc n t.server.inc outs
