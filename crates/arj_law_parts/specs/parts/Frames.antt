-- Which states at a store, and which entries, a message is about.
use Rattle.std.specs.Prelude.{List}
use Rattle.arj_protocol.specs.Effect.{Effect}
use Rattle.arj_protocol.specs.Node.{Handled, Void, Took}

-- what handling a message put out, void or not
abbrev pub outs_of : Handled → List Effect
outs_of (Void outs) = outs
outs_of (Took t outs) = outs
