-- the transfers so far
use Rattle.std.proofs.Common.{◌≡◌}
use Rattle.std.specs.Prelude.{map}
use Rattle.std.specs.List.{AllByRecursion}
use Rattle.arj_gen.specs.Bank.{lines_of_first, state_behind}
use Rattle.arj_journal.specs.ScriptForm.{EventInForm}
use Rattle.arj_journal.specs.ScriptText.{event_text}
use Rattle.arj_gen.proofs.bank.events.Given as goal

abbrev pub invariant-loop-k : goal.invariant-loop-k
invariant-loop-k l = record {
  texts : map event_text l.events ≡ lines_of_first l.fn.n l.k;
  form : AllByRecursion EventInForm l.events;
  state : l.draws.state ≡ state_behind l.fn.n l.k;
}
