-- Calls whose answers differ.
use Rattle.std.proofs.Common.{◌≡◌, List, Option, Some, None, refl}
use Rattle.arj_journal.specs.declared.body.Line.{Line}
use Rattle.arj_replay.specs.Verdict.{Differs, IsWrong}
use Rattle.arj_replay.specs.declared.run.Wrong.{Wrong}

pub none_wrong : (lines : List Line) (d : Option Differs) → IsWrong lines d None → d ≡ None
none_wrong lines None is = refl
none_wrong lines (Some d) is = absurd is

pub one_wrong : (lines : List Line) (d : Option Differs) (w : Wrong) → IsWrong lines d (Some w) → d ≡ None → ⊥
one_wrong lines None w is e = is
one_wrong lines (Some d) w is e = cc e
