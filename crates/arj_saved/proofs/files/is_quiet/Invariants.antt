use Rattle.std.proofs.Common.{◌≡◌, drop}
use Rattle.arj_saved.specs.Files.{is_quiet}
use Rattle.arj_saved.proofs.files.is_quiet.Given as goal

abbrev pub invariant-loop-file : goal.invariant-loop-file
invariant-loop-file l = is_quiet (drop l.file-index l.files) ≡ is_quiet l.files
