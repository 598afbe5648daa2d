-- What a node did with messages and effects, as the protocol's node runs them.
use Rattle.std.specs.Prelude.{◌≡◌, List, ◌++◌}
use Rattle.arj_core.specs.declared.output.Output.{Output}
use Rattle.arj_core.specs.Steps.{PutsOut}
use Rattle.arj_protocol.specs.Node.{Here, Ran}
use Rattle.arj_protocol.specs.Words.{Message}

-- what was run, but for the messages to the node itself that are left: the node stands, and its effects were put out
pub record Goes (on : Here → Type 0) (r : Ran) (before after : List Output) : Type 0 where
  pub stands : on r.here
  pub puts : PutsOut r.outs before after

-- and these are behind the messages that waited
pub record GoesOn (on : Here → Type 0) (r : Ran) (before after : List Output) (waited waits : List Message) : Type 0 where
  pub goes : Goes on r before after
  pub queue : waits ≡ waited ++ r.queue
