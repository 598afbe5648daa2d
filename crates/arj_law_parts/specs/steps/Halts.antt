-- Which steps say that a node halted, and that none says that a disk was armed.
use Rattle.std.specs.Prelude.{◌≡◌, ◌==◌, ℕ, Bool, true, false, not, Option, Some, None, is_some}
use Rattle.arj_protocol.specs.Effect.{Effect, Say}
use Rattle.arj_protocol.specs.Says.{AreAll}
use Rattle.arj_protocol.specs.Step.{Node, Input, Crash, step}
use Rattle.arj_protocol.specs.Words.{Body, Header}
use Rattle.arj_protocol.specs.Words.body

-- the node that the line says has halted, if it says so
abbrev pub halted_node : Body → Option ℕ
halted_node (body.Halted n) = Some n
halted_node _ = None

-- the line doesn't say that a node halted
abbrev pub is_no_halt : Body → Bool
is_no_halt b = not (is_some (halted_node b))

-- so it is of an effect
abbrev pub says_no_halt : Effect → Bool
says_no_halt (Say b) = is_no_halt b
says_no_halt _ = true

-- the node whose disk was armed, if the line says so
abbrev pub armed_node : Body → Option ℕ
armed_node (body.Armed n) = Some n
armed_node _ = None

-- the line doesn't say that a disk was armed
abbrev pub is_no_arm : Body → Bool
is_no_arm b = not (is_some (armed_node b))

-- so it is of an effect
abbrev pub says_no_arm : Effect → Bool
says_no_arm (Say b) = is_no_arm b
says_no_arm _ = true

-- a crash
abbrev pub is_crash : Input → Bool
is_crash Crash = true
is_crash _ = false

-- neither what a step does nor what a stop cuts says so, but at a crash
abbrev pub OnlyCrashesSayHalted : Type 0
OnlyCrashesSayHalted = (hd : Header) (n : Node) (i : Input) → is_crash i ≡ false →
    AreAll says_no_halt (step hd n i).outs × AreAll says_no_halt (step hd n i).halting

-- no other node than this one
abbrev pub is_only : ℕ → Option ℕ → Bool
is_only k None = true
is_only k (Some n) = n == k

-- an effect says of no other node that it halted
abbrev pub says_own_halt : ℕ → Effect → Bool
says_own_halt k (Say b) = is_only k (halted_node b)
says_own_halt k _ = true

-- and a crash says it of no other node
abbrev pub CrashesSayTheirOwn : Type 0
CrashesSayTheirOwn = (hd : Header) (n : Node) →
    AreAll (says_own_halt n.number) (step hd n Crash).outs × AreAll (says_own_halt n.number) (step hd n Crash).halting
