-- What is written of a report.
use Rattle.std.specs.Prelude.{List, ℕ, [], ◌∷◌, ◌++◌, codes}
use Rattle.std.specs.List.{flat_map}
use Rattle.arj_progrun.specs.declared.report.ReportLine.{ReportLine}
use Rattle.arj_progrun.specs.declared.report.ReportLine.TheVariants as told
use Rattle.arj_text.specs.Label.{name}

-- a word, what stands behind it, and the line's end
abbrev pub told_line : List ℕ → List ℕ → List ℕ
told_line word bytes = word ++ (bytes ++ 10 ∷ [])

-- the text of a line
abbrev pub told_text : ReportLine → List ℕ
told_text (told.Commit label) = told_line (codes "commit ") (name label)
told_text (told.Print answer) = told_line (codes "print ") answer
told_text (told.Failed label) = told_line (codes "failed ") (name label)
told_text (told.GaveUp label) = told_line (codes "gaveup ") (name label)
told_text (told.Unfinished label) = told_line (codes "unfinished ") (name label)

-- the text of a report
abbrev pub report_text : List ReportLine → List ℕ
report_text report = flat_map told_text report
