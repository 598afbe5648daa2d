-- One object at naming: what is in memory, as the protocol has it, and what a call on it did.
use Rattle.std.specs.Prelude.{◌≡◌, List, ◌++◌, Some}
use Rattle.arj_journal.specs.declared.body.Line.{Line}
use Rattle.arj_naming.specs.declared.change.Change.{Change}
use Rattle.arj_naming.specs.declared.change.Change.TheVariants as change
use Rattle.arj_naming.specs.declared.counter.Counter.{Counter}
use Rattle.arj_naming.specs.declared.made.Live.{Live}
use Rattle.arj_naming.specs.Said.{said}
use Rattle.arj_protocol.specs.Effect.{Served}
use Rattle.arj_protocol.specs.Named as protocol
use Rattle.arj_protocol.specs.Named.{Named, Counted, end_named, hello_named}

-- a live binding in memory, as the protocol has it
abbrev pub live_of : Live → protocol.Live
live_of l = record { binding = l.binding; server = l.server; inc = l.inc }

-- an object after a change
abbrev pub changed_by : Change → Named → Named
changed_by (change.End action e) o = end_named action e o
changed_by (change.Hello node inc) o = hello_named node inc o

-- an object with the count of bindings
abbrev pub counted : Named → Counter → Counted
counted o c = record { named = o; count = c.count }

-- A call on one object did what is told of it: the object and the count after it, the lines behind those before, and the
-- answer.
pub record IsServed {R : Type 0} (told : Served Counted R) (new : Counted) (before after : List Line) (answer : R) : Type 0 where
  pub part : new ≡ told.part
  pub lines : after ≡ before ++ said told.outs
  pub reply : told.reply ≡ Some answer
