-- What the proofs of this crate name of its own definitions and of the crates below, passed on from one place.
-- Declares nothing.
pub use Rattle.arj_law_lock.specs.logs.Under.{MayCount}
pub use Rattle.arj_law_lock.specs.machine.Actions.{Act, In, Root, Sub, at, at_act, is_action, is_top, on, root, same, top}
pub use Rattle.arj_law_lock.specs.machine.Laws.{given_by}
pub use Rattle.arj_law_lock.specs.machine.Machine.{Guard, Run, after_crash, answer_of, applied, ballot, handed, lowered, next, start, stay}
pub use Rattle.arj_law_lock.specs.machine.Machine.{step, stopped}
pub use Rattle.arj_law_lock.specs.machine.Rows.{Apart, Clear, Rows, drop_below, mode, pass, raise}
pub use Rattle.arj_law_lock.specs.machine.State.{Action, Activate, Activated, Alive, Answer, Ballot, Binding, Call, Changed, Confirm}
pub use Rattle.arj_law_lock.specs.machine.State.{Covered, Entry, Granted, Include, Invoke, Invoked, Live, Made, Merged, Message, Naming}
pub use Rattle.arj_law_lock.specs.machine.State.{Open, Passed, Recorded, Refused, Request, Server, State, Vote}
pub use Rattle.arj_law_lock.specs.machine.Steps.{Abort, ActivateCopy, Answered, Apply, BindLive, BindNew, Change, CommitNested, CommitTop}
pub use Rattle.arj_law_lock.specs.machine.Steps.{ConfirmTop, CrashNaming, CrashServer, Decide, DropEntry, DropRows, EndUnit, Event, GiveUp}
pub use Rattle.arj_law_lock.specs.machine.Steps.{Grant, Included, IsCurrent, IsLast, Keep, Load, Lost, Name, Newest, NobodyInDoubt}
pub use Rattle.arj_law_lock.specs.machine.Steps.{PassEntry, PassRow, PassTop, Record, Refuse, Report, SendConfirm, SendInvoke, SendVote}
pub use Rattle.arj_law_lock.specs.machine.Steps.{Survives, TurnedDown, VoteTop, held_value, newest, none, older, value_over}
pub use Rattle.std.proofs.Common.{Bool, List, [], ap, arith, cond, false, filter, inl, inr, map, max, min, not, refl, subst, sym, true, ℕ}
pub use Rattle.std.proofs.Common.{◌&&◌, ◌+◌, ◌<◌, ◌==◌, ◌||◌, ◌∙◌, ◌∷◌, ◌≡◌, ◌≢◌, ◌≤◌, ◌⊎◌}
