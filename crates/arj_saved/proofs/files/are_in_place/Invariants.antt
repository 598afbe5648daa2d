use Rattle.std.proofs.Common.{◌≡◌, drop}
use Rattle.arj_saved.specs.Files.{are_in_place}
use Rattle.arj_saved.proofs.files.are_in_place.Given as goal

abbrev pub invariant-loop-file : goal.invariant-loop-file
invariant-loop-file l = are_in_place (drop l.file-index l.files) ≡ are_in_place l.files
