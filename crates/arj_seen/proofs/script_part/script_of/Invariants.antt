-- The lines so far, and the input that is left.
use Rattle.std.proofs.Common.{◌≡◌, ◌++◌, length, None}
use Rattle.std.specs.Prelude.{IfSome}
use Rattle.arj_journal.specs.ScriptForm.{HeaderInForm}
use Rattle.arj_script.specs.Grammar.{Start}
use Rattle.arj_seen.specs.Input.{AreScript, script_text}
use Rattle.arj_seen.proofs.script_part.script_of.Given as goal

abbrev pub invariant-loop-line : goal.invariant-loop-line
invariant-loop-line l = record {
  header : IfSome l.script.header HeaderInForm;
  read : AreScript Start None l.script.lines.items l.reader l.script.header;
  front : l.bytes ≡ script_text l.script.lines.items ++ l.rest;
}

abbrev pub decreases-loop-line : goal.decreases-loop-line
decreases-loop-line l = length l.rest
