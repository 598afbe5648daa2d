-- The keys of those so far.
use Rattle.std.proofs.Common.{◌≡◌, List, map, take}
use Rattle.arj_changes.specs.Kept.{AreKept, is_ended, is_found}
use Rattle.arj_journal.specs.declared.body.Line.{Line}
use Rattle.arj_model.specs.Calls.{tops}
use Rattle.arj_model.specs.Serial.{serial_key}
use Rattle.arj_last.specs.Kept.{AreWritten}
use Rattle.arj_last.specs.Survivors.{key_of, survives_by, survivors_from}
use Rattle.arj_last.proofs.keys.keys_of.Given as goal

abbrev pub invariant-loop-at : goal.invariant-loop-at
invariant-loop-at l = (lines : List Line) → AreKept lines l.changes → AreWritten lines l.writes → map (λ k. k.items) l.keys.items
    ≡ map (key_of (serial_key (tops lines))) (survivors_from (survives_by (is_ended l.changes) (is_found l.changes)) 0 (take l.at l.all))
