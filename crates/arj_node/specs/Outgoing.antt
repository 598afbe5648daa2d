-- What parts hand back, in the protocol's words.
use Rattle.std.specs.Prelude.{◌≡◌, List, [], ◌∷◌, ◌++◌, map, ⊤}
use Rattle.std.specs.Global.{Box}
use Rattle.std.specs.List.{AllByRecursion}
use Rattle.arj_msg.specs.Sendable.{IsSendable}
use Rattle.arj_node.specs.Ran.{IsStoppedAt}
use Rattle.arj_node.specs.declared.outgoing.Handed.{Handed}
use Rattle.arj_node.specs.declared.outgoing.Handed.TheVariants as handed
use Rattle.arj_node.specs.declared.outgoing.Outgoing.{Outgoing}
use Rattle.arj_node.specs.declared.outgoing.Outgoing.TheVariants as of
use Rattle.arj_protocol.specs.Effect.{Disk, Effect, Say, Send, Do}
use Rattle.arj_protocol.specs.Words.{Message}

-- what is kept, as contracts see it
abbrev pub outgoing_of : Handed → Outgoing
outgoing_of (handed.Say b) = of.Say b
outgoing_of (handed.Send to m) = of.Send to m.value

-- a line or a message, as an effect
abbrev pub effect_of : Outgoing → Effect
effect_of (of.Say b) = Say b
effect_of (of.Send to m) = Send to m

-- so of all in order
abbrev pub effects_of : List Outgoing → List Effect
effects_of outs = map effect_of outs

-- messages that stand in boxes
abbrev pub messages_of : List (Box Message) → List Message
messages_of ms = map (λ (b : Box Message). b.value) ms

-- effects but for the work
abbrev pub loud : List Effect → List Effect
loud [] = []
loud (Say b ∷ es) = Say b ∷ loud es
loud (Send to m ∷ es) = Send to m ∷ loud es
loud (Do w ∷ es) = loud es

-- behind what was handed back before stands what is to be put out of these effects
abbrev pub Tells : List Effect → List Outgoing → List Outgoing → Type 0
Tells es before after = effects_of after ≡ effects_of before ++ loud es

-- a message that is handed back can be spelled
abbrev pub IsSpelled : Outgoing → Type 0
IsSpelled (of.Say b) = ⊤
IsSpelled (of.Send to m) = IsSendable m

-- so it is of all messages
abbrev pub AreSpelled : List Outgoing → Type 0
AreSpelled outs = AllByRecursion IsSpelled outs

-- A stop cut these effects; what stands before the stop was handed back.
pub record IsHalted (left : Disk → Type 0) (outs : List Effect) (d : Disk) (before after : List Outgoing) : Type 0 where
  pub front : List Effect
  pub stop : IsStoppedAt left outs d front
  pub tells : Tells front before after
