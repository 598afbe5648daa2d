-- What one part of the services did, and the answers by what its store read.
use Rattle.std.specs.Prelude.{◌≡◌, List, ◌++◌, Option, Some, None, option_map}
use Rattle.arj_journal.specs.declared.body.Line.{Line}
use Rattle.arj_naming.specs.Kept as naming
use Rattle.arj_naming.specs.Said.{said}
use Rattle.arj_protocol.specs.Ask.{asked_by}
use Rattle.arj_protocol.specs.Effect.{Served}
use Rattle.arj_protocol.specs.Naming.{Naming}
use Rattle.arj_protocol.specs.Server.{Server}
use Rattle.arj_protocol.specs.Words.{Head, Message}
use Rattle.arj_protocol.specs.Words.loaded
use Rattle.arj_protocol.specs.Words.message
use Rattle.arj_serve.specs.Did.{Call}
use Rattle.arj_server.specs.Lines as server
use Rattle.arj_store.specs.declared.answer.Read.{Read}
use Rattle.arj_store.specs.declared.answer.Read.TheVariants as read

-- The server did this, and the answer is what it says: the lines stand behind those before.
pub record ServerDid {O R : Type 0} (r : Served Server R) (say : R → Message) (call : Call O) (answer : Option Message) : Type 0 where
  pub part : call.new ≡ record call.old { server = r.part }
  pub lines : call.after ≡ call.before ++ server.said r.outs
  pub reply : answer ≡ option_map say r.reply

-- a call of naming: it and the lines, before it and after it
pub record NamingCall (O : Type 0) : Type 0 where
  pub old : naming.Kept O
  pub new : naming.Kept O
  pub before : List Line
  pub after : List Line

-- Naming did this in memory.
pub record NamingDid {O R : Type 0} (r : Served Naming R) (say : R → Message) (call : NamingCall O) (answer : Option Message) : Type 0 where
  pub part : call.new ≡ record call.old { part = r.part }
  pub lines : call.after ≡ call.before ++ said r.outs
  pub reply : answer ≡ option_map say r.reply

-- the answer to a Load, by what is read
abbrev pub loaded_by : Head → Read → Option Message
loaded_by h (read.State s) = Some (message.Loaded (record { asked = asked_by h; reply = loaded.State s }))
loaded_by h (read.InDoubt holder) = Some (message.Loaded (record { asked = asked_by h; reply = loaded.InDoubt holder }))
loaded_by h read.Absent = None
