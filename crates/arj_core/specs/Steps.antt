-- What a core is asked and puts out, in the protocol's words.
use Rattle.std.specs.Prelude.{ℕ, ◌≡◌, ◌<◌, ◌≤◌, List, [], ◌∷◌, ◌++◌, map, Option, Some, None, Result, Ok, IsErrOf, OnOk}
use Rattle.arj_base.specs.Count.{Rose}
use Rattle.arj_disk.specs.Disk.{Counts}
use Rattle.arj_core.specs.declared.input.Input.{Input}
use Rattle.arj_core.specs.declared.input.Input.TheVariants as of
use Rattle.arj_core.specs.declared.output.Output.{Output}
use Rattle.arj_core.specs.declared.output.Output.TheVariants as output
use Rattle.arj_protocol.specs.Words.{Body, FrameKind, Message, read_message}
use Rattle.arj_protocol.specs.Ask.{frame_kind}
use Rattle.arj_protocol.specs.Effect.{Disk, Effect, Say, Send, Do, Stop}
use Rattle.arj_protocol.specs.Step as protocol
use Rattle.arj_protocol.specs.Step.{Node, Step}
use Rattle.arj_protocol.specs.World.{Cut, count_works, cut}

-- ---- what it is while it is down

-- the node of this number, down with this disk
abbrev pub down_with : ℕ → Disk → Node
down_with n d = record { number = n; disk = d; live = None }

-- ---- what it is asked

-- the message that was read, where no byte is behind it
abbrev pub whole_message : Result (Message × List ℕ) ℕ → Option Message
whole_message (Ok (m, [])) = Some m
whole_message _ = None

-- the message that a frame's bytes are, if they are one
abbrev pub message_of : List ℕ → Option Message
message_of bytes = whole_message (read_message bytes)

-- an input, as the protocol's
abbrev pub input_of : Input → protocol.Input
input_of (of.Begin l k parent) = protocol.Begin l k parent
input_of (of.Call l x op) = protocol.Call l x op
input_of (of.Include l x s) = protocol.Include l x s
input_of (of.Commit l) = protocol.Commit l
input_of (of.Abort l) = protocol.Abort l
input_of (of.GiveUp l) = protocol.GiveUp l
input_of (of.Frame k from bytes) = protocol.Frame k from (message_of bytes)
input_of of.Tick = protocol.Tick
input_of of.Restart = protocol.Restart
input_of of.Crash = protocol.Crash
input_of (of.Show x) = protocol.Show x

-- ---- what it puts out

-- an effect as it is seen from outside: work on the disk isn't
pub data Seen : Type 0 where
  Said : Body → Seen
  Sent : ℕ → FrameKind → Option Message → Seen

-- a line, or a frame with the message that it holds
abbrev pub seen_of : Output → Seen
seen_of (output.Say b) = Said b
seen_of (output.Send to k bytes) = Sent to k (message_of bytes)

-- what is seen of effects
abbrev pub seen : List Effect → List Seen
seen [] = []
seen (Say b ∷ es) = Said b ∷ seen es
seen (Send to m ∷ es) = Sent to (frame_kind m) (Some m) ∷ seen es
seen (Do w ∷ es) = seen es

-- Behind what was put out stands what is seen of these effects.
pub record PutsOut (effects : List Effect) (before after : List Output) : Type 0 where
  pub added : List Output
  pub are : after ≡ before ++ added
  pub seen_so : map seen_of added ≡ seen effects

-- A step was done: the node is the one after it, and its effects were put out.
pub record Did (stands : Node → Type 0) (s : Step) (before after : List Output) : Type 0 where
  pub node : stands s.after
  pub outs : PutsOut s.outs before after

-- A stop cut a step at a work of its disk: the node is down, with the disk as the stop left it, and what stands before
-- was put out.
pub record WasCut (stands : Node → Type 0) (n : Node) (s : Step) (before after : List Output) : Type 0 where
  pub work : ℕ
  pub how : Stop
  pub within : work < count_works s.halting
  pub node : let c = cut work how s.halting n.disk in stands (record n { disk = c.disk; live = None })
  pub outs : let c = cut work how s.halting n.disk in PutsOut c.outs before after

-- The counts of a disk over a step with this result: the node halted where a stop was counted. Where memory was wanting a stop
-- may have come before.
pub record CountsStep {T E : Type 0} (old new : Counts) (result : Result T E) (halted : E) : Type 0 where
  pub rose : IsErrOf result halted → Rose old.stops new.stops
  pub ok : OnOk result (new.stops ≡ old.stops)
  pub later : old.stops ≤ new.stops
  pub arms : new.arms ≡ old.arms
  pub last_arm : new.last_arm ≡ old.last_arm
