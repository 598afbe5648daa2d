-- What the proofs of this crate name of its own definitions and of the crates below, passed on from one place.
-- Declares nothing.
pub use Rattle.arj_law_disk.specs.machine.Core.{Bare, Chain, Coordinators, Core, Fresh, HasReached, History, IsActive, Journal, Pending}
pub use Rattle.arj_law_disk.specs.machine.Effects.{Agree, Allowed, Begin, CanBegin, Decide, Drop, DropEntry, Effect, EndBare, Enter, Finish}
pub use Rattle.arj_law_disk.specs.machine.Effects.{FinishEntry, Halt, Intend, IsClear, Keep, Locked, MaySend, Move, MoveEntry, Pass, Seal}
pub use Rattle.arj_law_disk.specs.machine.Effects.{Take, Whole, World, after, changed, entry_hold, marked, new_list, run}
pub use Rattle.arj_law_disk.specs.machine.Guards.{HasPart, HasPresent, HasRow, IsGranted, IsPresent, IsToldFirst, IsUntold, MayConfirm}
pub use Rattle.arj_law_disk.specs.machine.Guards.{MayDo, Runs, end_of}
pub use Rattle.arj_law_disk.specs.machine.Messages.{Acked, Confirm, Confirmed, IsOver, Meaning, Message, Prepare, Prepared, ToldAbort}
pub use Rattle.arj_law_disk.specs.machine.Messages.{ToldBare, ToldCommit, ToldSerial}
pub use Rattle.arj_law_disk.specs.machine.Named.{AnswerMeans, Grants, IsHeld, IsLeaving, IsLoad, IsWide, Named, Plans, Related, Roots, Rows}
pub use Rattle.arj_law_disk.specs.machine.Names.{Answer, Bound, Do, Kept, Loaded, Names, Office, acted, load_of, newer, or_else, raised}
pub use Rattle.arj_law_disk.specs.machine.Names.{written_in}
pub use Rattle.arj_law_disk.specs.machine.Samples.{first_office, first_state, serial_office, state_by}
pub use Rattle.arj_law_disk.specs.machine.State.{Below, Confirming, Done, Gone, Hold, IsExcused, IsNew, IsPast, Known, KnownIn, Listed}
pub use Rattle.arj_law_disk.specs.machine.State.{Packed, Plan, Preparing, Stage, State, decided, decided_in, effective_by, entry_after}
pub use Rattle.arj_law_disk.specs.machine.State.{hold, is_gone, is_idle, is_latest, is_latest_in, is_open, is_sealed, last, last_entry}
pub use Rattle.arj_law_disk.specs.machine.State.{last_in, list_after, listed_by, lists, naming, open_by, state_for, target, undecided}
pub use Rattle.arj_law_disk.specs.machine.Words.{In, has, put, put2}
pub use Rattle.std.proofs.Common.{Bool, List, None, Option, Some, [], ap, arith, cond, false, filter, inl, inr, is_some, le_refl, nat_lt}
pub use Rattle.std.proofs.Common.{not, refl, subst, sym, take, true, unwrap_or, ℕ, ⊎_elim, ◌&&◌, ◌+◌, ◌<◌, ◌==◌, ◌||◌, ◌∙◌, ◌∷◌, ◌≡◌, ◌≤◌}
pub use Rattle.std.proofs.Common.{◌⊎◌}
pub use Rattle.std.proofs.lemmas.Bool.Decides.{nat_tests}
pub use Rattle.std.specs.Str.{bytes_eq}
pub use Rattle.arj_law_disk.specs.machine.Effects
