use Rattle.std.proofs.Common.{◌≡◌, drop}
use Rattle.arj_saved.specs.Files.{inc_at}
use Rattle.arj_saved.proofs.files.inc_of.Given as goal

abbrev pub invariant-loop-file : goal.invariant-loop-file
invariant-loop-file l = inc_at (drop l.file-index l.files) l.node ≡ inc_at l.files l.node
