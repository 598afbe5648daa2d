-- A run that goes on behind a journal keeps the promise of both together.
use Rattle.arj_law_parts.proofs.Words
use Words.{List, subst, ◌≡◌}
use Rattle.arj_journal.specs.declared.body.Line.{Line}
use Rattle.arj_journal.specs.declared.header.Header.{Header}
use Rattle.arj_law.proofs.{JoinedBook.book_join, JoinedLast.clean_join, JoinedOrder.serial_both}
use Rattle.arj_law.specs.Joined.{AreCalled, AreJoined, values_after}
use Rattle.arj_law_promise.proofs.statement.Keeping.{runs_keep}
use Rattle.arj_law_promise.specs.starts.Continued.{Continues, GoOnTogether}
use Rattle.arj_law_serial.proofs.joint.{BookRuns.runs_are_called, DisksJoined.joined_in_time}
use Rattle.arj_model.specs.Clean.{CleanFrom}
use Rattle.arj_model.specs.Keeping.{KeepsTheBook}
use Rattle.arj_model.specs.Last.{first_values}
use Rattle.arj_model.specs.Serial.{Serial}
use Rattle.arj_promise.specs.Excluded.{DisksAreInTimeFrom}
use Rattle.arj_promise.specs.Promise.{KeepsThePromise}
use Rattle.arj_promise.specs.Runs.{IsInForm, Run, journal_by, world_by}

pub go_on : (header : Header) (first : List Line) (next : Header) (r : Run next) → IsInForm next r → Continues header first next r →
    GoOnTogether header first next r
go_on header first next r form c = record {
  serial = λ s. serial_both first second c.apart called (first_values header) s (subst (λ v. Serial v second) values k.serial.0);
  book = λ b. book_join first second c.apart called (first_values header) b (subst (λ v. KeepsTheBook v second) values k.book);
  clean = λ disks has. clean_join header next first second joined disks
      (subst (λ m. CleanFrom next m second disks) c.marks (k.clean disks has));
  in_time = λ disks has events. joined_in_time header next first second (let w = world_by next r in w.event) disks joined events
      (subst (λ m. DisksAreInTimeFrom next m (let w = world_by next r in w.event) second disks) c.marks (k.in_time disks has));
}
  where
    second : List Line
    second = journal_by next r

    k : KeepsThePromise next r
    k = runs_keep next r form

    called : AreCalled second
    called = runs_are_called next r form

    joined : AreJoined header first next second
    joined = record { goes = c.goes; apart = c.apart; called = called }

    values : first_values next ≡ values_after (first_values header) first
    values = λ i x. c.goes.values x i
