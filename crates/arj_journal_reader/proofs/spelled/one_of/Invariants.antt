-- Whether there is such a word is asked of those that are left.
use Rattle.std.proofs.Common.{◌≡◌, drop}
use Rattle.std.specs.Prelude.{find}
use Rattle.std.specs.Str.{bytes_eq}
use Rattle.arj_journal_reader.proofs.spelled.one_of.Given as goal

abbrev pub invariant-loop-kind : goal.invariant-loop-kind
invariant-loop-kind g l =
    find (λ j. bytes_eq (g.K.Spelled.spelling j) l.bytes) (drop l.kind-index l.every) ≡ find (λ j. bytes_eq (g.K.Spelled.spelling j) l.bytes) g.K.Spelled.kinds
