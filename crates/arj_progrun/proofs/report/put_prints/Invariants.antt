-- what is put so far
use Rattle.std.proofs.Common.{◌≡◌, ◌++◌, take, map}
use Rattle.arj_progrun.specs.Levels.{said_of}
use Rattle.arj_progrun.specs.Schedule.{prints}
use Rattle.arj_progrun.specs.declared.report.ReportLine.TheVariants as told
use Rattle.arj_progrun.proofs.report.put_prints.Given as goal

abbrev pub invariant-loop-heard : goal.invariant-loop-heard
invariant-loop-heard l = l.report ≡ l.fn.report ++ map told.Print (prints (map said_of (take l.heard-index l.said)))
