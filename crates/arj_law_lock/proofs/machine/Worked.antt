-- Runs, computed: a lost lock, a binding replaced, a serializing action, old frames.
use Rattle.arj_law_lock.proofs.Terms
use Terms.{List, [], ◌∷◌, true, false, refl, Act, Root, Event, CrashNaming, BindLive, BindNew, Record, ConfirmTop, PassEntry, DropEntry}
use Terms.{CrashServer, ActivateCopy, Apply, Refuse, Change, PassTop, DropRows, VoteTop, Keep, Name, Load, SendInvoke, Answered, TurnedDown}
use Terms.{Lost, GiveUp, Abort, CommitTop, SendVote, SendConfirm, Decide, Report, EndUnit, start}
use Rattle.arj_law_lock.proofs.machine.Samples.{after, runs, start_finite}
use Rattle.arj_law_lock.specs.machine
use machine.Runs.{first_top, second_top, first_constituent, second_constituent, nested, LostLock, Rebinding, Serializing, OldFrames}

abbrev touched : List Act
touched = Root 1 ∷ Root 2 ∷ Root 3 ∷ first_top ∷ second_top ∷ first_constituent ∷ second_constituent ∷ nested ∷ []

abbrev lost_lock_events : List Event
lost_lock_events = BindNew first_top 1 1 ∷ Keep first_top 1 ∷ Load 1 9 ∷ ActivateCopy 1 1 9 ∷ Name 1 0 ∷ Record 1
    ∷ SendInvoke first_top 1 true ∷ Apply 1 (record { act = first_top; number = 1; binding = 1; write = true }) 5
    ∷ Answered (record { request = (record { act = first_top; number = 1; binding = 1; write = true }); place = 1; sees = 9; gives = 5 }) 1
    ∷ CrashServer 1 1 ∷ BindLive second_top ∷ Keep second_top 1 ∷ SendInvoke second_top 1 true
    ∷ Change 1 (record { act = second_top; number = 1; binding = 1; write = true }) ∷ Lost second_top ∷ Abort first_top
    ∷ DropEntry first_top ∷ BindNew second_top 2 1 ∷ Keep second_top 2 ∷ Load 2 9 ∷ ActivateCopy 1 2 9 ∷ Name 2 1 ∷ Record 2
    ∷ SendInvoke second_top 2 true ∷ Apply 1 (record { act = second_top; number = 2; binding = 2; write = true }) 7
    ∷ Answered (record { request = (record { act = second_top; number = 2; binding = 2; write = true }); place = 2; sees = 9; gives = 7 }) 2
    ∷ CommitTop second_top 3 ∷ SendVote second_top 1 ∷ VoteTop 1 second_top 2 1 ∷ SendConfirm second_top 2 ∷ ConfirmTop second_top 2
    ∷ Decide second_top ∷ Report second_top 4 ∷ EndUnit 2 ∷ PassTop 1 2 0 ∷ PassEntry 2 0 ∷ DropRows 1 (Root 2) ∷ DropEntry (Root 2) ∷ []

pub lost_lock : LostLock
lost_lock = record {
  state = after lost_lock_events (start 9);
  run = runs touched lost_lock_events (start 9) (start_finite touched 9) refl;
  calls_are = refl;
  commits = (refl, tt);
  aborts = (refl, tt);
}

abbrev rebinding_events : List Event
rebinding_events = BindNew first_top 1 1 ∷ Keep first_top 1 ∷ Load 1 9 ∷ ActivateCopy 1 1 9 ∷ Name 1 0 ∷ Record 1
    ∷ SendInvoke first_top 1 true ∷ Apply 1 (record { act = first_top; number = 1; binding = 1; write = true }) 5
    ∷ Answered (record { request = (record { act = first_top; number = 1; binding = 1; write = true }); place = 1; sees = 9; gives = 5 }) 1
    ∷ CommitTop first_top 2 ∷ SendVote first_top 0 ∷ VoteTop 1 first_top 1 0 ∷ SendConfirm first_top 1 ∷ ConfirmTop first_top 1
    ∷ Decide first_top ∷ Report first_top 3 ∷ EndUnit 1 ∷ PassTop 1 1 0 ∷ PassEntry 1 0 ∷ DropRows 1 (Root 1) ∷ DropEntry (Root 1)
    ∷ CrashNaming 10 ∷ BindNew second_top 10 2 ∷ Keep second_top 10 ∷ Load 10 5 ∷ ActivateCopy 2 10 5 ∷ Name 10 0 ∷ Record 10
    ∷ SendInvoke second_top 1 false ∷ Apply 2 (record { act = second_top; number = 1; binding = 10; write = false }) 5 ∷ Answered
    (record { request = (record { act = second_top; number = 1; binding = 10; write = false }); place = 4; sees = 5; gives = 5 }) 4
    ∷ CommitTop second_top 5 ∷ SendVote second_top 0 ∷ VoteTop 2 second_top 10 0 ∷ SendConfirm second_top 10 ∷ ConfirmTop second_top 10
    ∷ Decide second_top ∷ Report second_top 6 ∷ EndUnit 2 ∷ PassTop 2 2 0 ∷ PassEntry 2 0 ∷ DropRows 2 (Root 2) ∷ DropEntry (Root 2) ∷ []

pub rebinding : Rebinding
rebinding = record {
  state = after rebinding_events (start 9);
  run = runs touched rebinding_events (start 9) (start_finite touched 9) refl;
  calls_are = refl;
  commits = (refl, (refl, tt));
  aborts = tt;
}

abbrev serializing_events : List Event
serializing_events = BindNew first_constituent 1 1 ∷ Keep first_constituent 1 ∷ Load 1 9 ∷ ActivateCopy 1 1 9 ∷ Name 1 0 ∷ Record 1
    ∷ SendInvoke first_constituent 1 true ∷ Apply 1 (record { act = first_constituent; number = 1; binding = 1; write = true }) 5 ∷ Answered
    (record { request = (record { act = first_constituent; number = 1; binding = 1; write = true }); place = 1; sees = 9; gives = 5 }) 1
    ∷ CommitTop first_constituent 2 ∷ SendVote first_constituent 0 ∷ VoteTop 1 first_constituent 1 0 ∷ SendConfirm first_constituent 1
    ∷ ConfirmTop first_constituent 1 ∷ Decide first_constituent ∷ Report first_constituent 3 ∷ PassTop 1 3 0 ∷ PassEntry 3 0
    ∷ BindLive second_top ∷ Keep second_top 1 ∷ SendInvoke second_top 1 false
    ∷ Refuse 1 (record { act = second_top; number = 1; binding = 1; write = false })
    ∷ TurnedDown (record { act = second_top; number = 1; binding = 1; write = false }) ∷ SendInvoke second_constituent 1 true
    ∷ Apply 1 (record { act = second_constituent; number = 1; binding = 1; write = true }) 6 ∷ Answered
    (record { request = (record { act = second_constituent; number = 1; binding = 1; write = true }); place = 4; sees = 5; gives = 6 }) 4
    ∷ CommitTop second_constituent 5 ∷ SendVote second_constituent 0 ∷ VoteTop 1 second_constituent 1 0 ∷ SendConfirm second_constituent 1
    ∷ ConfirmTop second_constituent 1 ∷ Decide second_constituent ∷ Report second_constituent 6 ∷ PassTop 1 3 1 ∷ PassEntry 3 1 ∷ EndUnit 3
    ∷ DropRows 1 (Root 3) ∷ DropEntry (Root 3) ∷ SendInvoke second_top 2 false
    ∷ Apply 1 (record { act = second_top; number = 2; binding = 1; write = false }) 6 ∷ Answered
    (record { request = (record { act = second_top; number = 2; binding = 1; write = false }); place = 7; sees = 6; gives = 6 }) 7
    ∷ CommitTop second_top 8 ∷ SendVote second_top 0 ∷ VoteTop 1 second_top 1 0 ∷ SendConfirm second_top 1 ∷ ConfirmTop second_top 1
    ∷ Decide second_top ∷ Report second_top 9 ∷ EndUnit 2 ∷ PassTop 1 2 0 ∷ PassEntry 2 0 ∷ DropRows 1 (Root 2) ∷ DropEntry (Root 2) ∷ []

pub serializing : Serializing
serializing = record {
  state = after serializing_events (start 9);
  run = runs touched serializing_events (start 9) (start_finite touched 9) refl;
  calls_are = refl;
  commits = (refl, (refl, (refl, tt)));
  aborts = tt;
}

abbrev old_frames_events : List Event
old_frames_events =
    BindNew first_top 1 1 ∷ Keep first_top 1 ∷ Load 1 9 ∷ ActivateCopy 1 1 9 ∷ Name 1 0 ∷ Record 1 ∷ SendInvoke nested 1 true ∷ GiveUp
    nested ∷ Abort nested ∷ SendInvoke first_top 1 true ∷ Apply 1 (record { act = first_top; number = 1; binding = 1; write = true }) 5
    ∷ Apply 1 (record { act = nested; number = 1; binding = 1; write = true }) 8
    ∷ Answered (record { request = (record { act = first_top; number = 1; binding = 1; write = true }); place = 1; sees = 9; gives = 5 }) 1
    ∷ DropRows 1 nested ∷ CommitTop first_top 2 ∷ SendVote first_top 0 ∷ VoteTop 1 first_top 1 0 ∷ SendConfirm first_top 1
    ∷ ConfirmTop first_top 1 ∷ Decide first_top ∷ Report first_top 3 ∷ EndUnit 1 ∷ PassTop 1 1 0 ∷ PassEntry 1 0 ∷ DropRows 1 (Root 1)
    ∷ DropEntry (Root 1) ∷ CrashServer 1 1 ∷ ActivateCopy 1 1 9 ∷ BindLive second_top ∷ Keep second_top 1 ∷ SendInvoke second_top 1 false
    ∷ Change 1 (record { act = second_top; number = 1; binding = 1; write = false }) ∷ Lost second_top ∷ BindNew second_top 2 1
    ∷ Keep second_top 2 ∷ Load 2 5 ∷ ActivateCopy 1 2 5 ∷ Name 2 1 ∷ Record 2 ∷ SendInvoke second_top 2 false
    ∷ Apply 1 (record { act = second_top; number = 2; binding = 2; write = false }) 5 ∷ Answered
    (record { request = (record { act = second_top; number = 2; binding = 2; write = false }); place = 4; sees = 5; gives = 5 }) 4
    ∷ CommitTop second_top 5 ∷ SendVote second_top 1 ∷ VoteTop 1 second_top 2 1 ∷ SendConfirm second_top 2 ∷ ConfirmTop second_top 2
    ∷ Decide second_top ∷ Report second_top 6 ∷ EndUnit 2 ∷ PassTop 1 2 0 ∷ PassEntry 2 0 ∷ DropRows 1 (Root 2) ∷ DropEntry (Root 2) ∷ []

pub old_frames : OldFrames
old_frames = record {
  state = after old_frames_events (start 9);
  run = runs touched old_frames_events (start 9) (start_finite touched 9) refl;
  calls_are = refl;
  commits = (refl, (refl, tt));
  aborts = (refl, tt);
}
