-- Which nodes a run's lines name: those of the header.
use Rattle.std.specs.List.{AllByRecursion}
use Rattle.arj_journal.specs.declared.body.Line.{Line}
use Rattle.arj_journal.specs.declared.header.Header.{Header}
use Rattle.arj_law_runs.specs.addresses.Addresses.{IsNode, SaysOf}
use Rattle.arj_promise.specs.Runs.{HeaderFits, Run, journal_by}

-- each line that a node says names nodes of the header alone, whether the run's events are in form or not
abbrev pub RunsNameNodes : Type 0
RunsNameNodes =
    (hd : Header) (r : Run hd) → HeaderFits hd → AllByRecursion (λ (line : Line). SaysOf (IsNode hd) line.body) (journal_by hd r)
