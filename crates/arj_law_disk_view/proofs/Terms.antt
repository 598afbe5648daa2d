-- What the proofs of this crate name of its own definitions and of the crates below, passed on from one place.
-- Declares nothing.
pub use Rattle.arj_law_disk.proofs.machine.Acts.{runs_keep}
pub use Rattle.arj_law_disk.proofs.machine.Base.{bool_cases, falls_to, gone_closed, never, never_some, not_true, open_done, open_made}
pub use Rattle.arj_law_disk.proofs.machine.Base.{open_parts, or_cases, or_left, or_right, put2_rises, put2_same, put2_true, put_cases}
pub use Rattle.arj_law_disk.proofs.machine.Base.{put_other, put_rises, put_same, some_is, test_cases, test_is, test_not, test_same}
pub use Rattle.arj_law_disk.proofs.machine.Keeps.{effect_keeps, run_keeps}
pub use Rattle.arj_law_disk.proofs.machine.Listing.{has_filtered}
pub use Rattle.arj_law_disk.proofs.machine.PlainActs.{plain_act}
pub use Rattle.arj_law_disk.proofs.machine.Restarts.{write_clears}
pub use Rattle.arj_law_disk.proofs.machine.Results.{clean}
pub use Rattle.arj_law_disk.specs.machine.Core.{Bare, Chain, Core, History}
pub use Rattle.arj_law_disk.specs.machine.Effects.{Agree, Allowed, CanBegin, Effect, Enter, Follows, IsNot, IsUnlisted, Pass, Whole, World}
pub use Rattle.arj_law_disk.specs.machine.Effects.{after, changed, done_of, entry_hold, new_list, run}
pub use Rattle.arj_law_disk.specs.machine.Guards.{Acks, AreOnlyOf, Begins, Confirms, Decides, HasPart, HasRow, IsNext, IsPresent, IsUntold}
pub use Rattle.arj_law_disk.specs.machine.Guards.{May, Note, Runs, end_of, is_only_of, only_acks, only_begins, only_decides, tells_only_of}
pub use Rattle.arj_law_disk.specs.machine.Messages.{IsOver, Meaning}
pub use Rattle.arj_law_disk.specs.machine.Named.{Named}
pub use Rattle.arj_law_disk.specs.machine.Names.{Answer, Do, Kept, Loaded, Names, Office, acted, lists_after, load_of, newer, or_else}
pub use Rattle.arj_law_disk.specs.machine.Names.{raised, retained, with_list, written_in}
pub use Rattle.arj_law_disk.specs.machine.NamingLaws.{IsFirstNames}
pub use Rattle.arj_law_disk.specs.machine.Offices.{chosen}
pub use Rattle.arj_law_disk.specs.machine.State.{Below, Confirming, Done, Gone, Hold, Idle, IsExcused, IsNew, Known, KnownIn, Listed}
pub use Rattle.arj_law_disk.specs.machine.State.{Packed, Plan, Preparing, Stage, State, decided, decided_in, effective_by, is_gone, is_idle}
pub use Rattle.arj_law_disk.specs.machine.State.{is_open, is_sealed, last_entry, last_in, list_after, listed_by, lists, naming, open_by}
pub use Rattle.arj_law_disk.specs.machine.State.{state_for, target, undecided}
pub use Rattle.arj_law_disk.specs.machine.Words.{In, has, put, put2}
pub use Rattle.arj_law_disk_view.specs.deciding_lines.Said.{IsDoneBy, IsPlain, IsTied, WithTie}
pub use Rattle.arj_law_disk_view.specs.names.Booked.{CountsOnGrants, HasGrant, IsConfirmedBy, NamesGrants}
pub use Rattle.arj_law_disk_view.specs.names.Both.{BothWalk, DisksWalk, GoesOnward, HasGoneOn, HasNoPart, IsEndedBare, IsFrom}
pub use Rattle.arj_law_disk_view.specs.names.Both.{IsOpenByDisks, IsOpenIn, IsOther, IsPassedNow, IsRecorded, IsSeenFrom, IsSeenIn}
pub use Rattle.arj_law_disk_view.specs.names.Both.{OnlyAnswers, OnlyAtNode, OnlyDecided, OnlyFound, OnlyMemory, OnlyRoots, SeesBoth}
pub use Rattle.arj_law_disk_view.specs.names.Both.{SeesNames, SeesRootOf, decided_names, ended_names, has_part, is_no_work, leaves_the_inc}
pub use Rattle.arj_law_disk_view.specs.names.Calls.{ClaimsBound, ClaimsTop, HasExclude, HasGiven, OnlyEnds, OnlyLocks}
pub use Rattle.arj_law_disk_view.specs.names.Claims.{IsAfter}
pub use Rattle.arj_law_disk_view.specs.names.Decided.{DecidesTop, GoesOnce}
pub use Rattle.arj_law_disk_view.specs.names.Grants.{HasLeast, SeesGrants, StandsOn, StaysRetained, grant_at, is_retained}
pub use Rattle.arj_law_disk_view.specs.names.Handlers.{Answering, BeginsLater, Change, Changes, CountsOn, Deciding, IsForGrants}
pub use Rattle.arj_law_disk_view.specs.names.Handlers.{IsOpenAfter, IsSeenAfter, MayGoOn, MayRecord, Quietly, answer_change, ask_change}
pub use Rattle.arj_law_disk_view.specs.names.Handlers.{asked_change, bind_change, change_by, doing_change, is_voting, now_change}
pub use Rattle.arj_law_disk_view.specs.names.Handlers.{reply_change, root_retains}
pub use Rattle.arj_law_disk_view.specs.names.Heard.{AfterInclude}
pub use Rattle.arj_law_disk_view.specs.names.Lists.{AfterAnswer, AfterDecision, HasCallList, HasKeptList, HasList, HasNarrowed, HasRetained}
pub use Rattle.arj_law_disk_view.specs.names.Lists.{IsLasting, IsNamedNow, IsSaid, IsShort, IsTopOf, IsWithin, KeepsCalls, LeavesOthers}
pub use Rattle.arj_law_disk_view.specs.names.Lists.{OnlyKept, SeesLists}
pub use Rattle.arj_law_disk_view.specs.names.Loads.{HasLoad, HaveLoads, KeepsState}
pub use Rattle.arj_law_disk_view.specs.names.Memory.{IsAlone, IsBehind, IsOfTop, NamesGo, SeesNamed, SeesNaming, SeesRows, lock_in}
pub use Rattle.arj_law_disk_view.specs.names.Restarts.{AreEntries, has_prepared}
pub use Rattle.arj_law_disk_view.specs.running.Bindings.{AllKnowTops, AllNameOwn, AreGoodCounted, HasFewLabels, KnowsScript, NamesOwn}
pub use Rattle.arj_law_disk_view.specs.running.Decided.{AreOnce, NewTops, SeesDecided}
pub use Rattle.arj_law_disk_view.specs.running.Entries.{HasEntries, HaveEntries, IsEntryNode, IsInStep, KnowsEntries}
pub use Rattle.arj_law_disk_view.specs.running.Facts.{GivesVotes}
pub use Rattle.arj_law_disk_view.specs.running.Heard.{AsksListed, ClaimsAsked, ClaimsGrants, HasNoneOf, IsAskedFor, IsHadBy, IsListFor}
pub use Rattle.arj_law_disk_view.specs.running.Heard.{IsOfGoal, IsOfRoot, IsPathIn, IsToStep, IsWorkingRoot, NamesNow, SeesCall, SeesHeard}
pub use Rattle.arj_law_disk_view.specs.running.Heard.{SeesHeardAt, SeesPlan, SeesStep, is_bound}
pub use Rattle.arj_law_disk_view.specs.running.Kinds.{Agrees, AreOfOneNode, AreOfTops, IsOfTops, is_of_kind, is_top_kind, kinds_of}
pub use Rattle.arj_law_disk_view.specs.running.Listed.{AnswersList, IsCurrent, PassesListed, PassesLists, TellsLists}
pub use Rattle.arj_law_disk_view.specs.running.Part.{Going, HasHeard, HoldsAgain, HoldsAlong, HoldsFrom, KeepsPart, are_recorded, going_of}
pub use Rattle.arj_law_disk_view.specs.running.Places.{AreBegunIn, AreCallRows, AreEntryRows, AreKeyed, AreNamesRows, ArePlaced}
pub use Rattle.arj_law_disk_view.specs.running.Places.{IsAboutBegun, IsBegun, IsCallRow, IsEntryRow, IsPlacedUp, IsTopPath, MeansBegun}
pub use Rattle.arj_law_disk_view.specs.running.Places.{asked_about}
pub use Rattle.arj_law_disk_view.specs.running.Records.{AreRecorded, HaveRecords, IsRooted, LeavesRecords}
pub use Rattle.arj_law_disk_view.specs.running.Rest.{GivesNaming, IsHeardAt, answers_commit}
pub use Rattle.arj_law_disk_view.specs.running.Runs.{HasState}
pub use Rattle.arj_law_disk_view.specs.running.Sound.{AreChanged, AreIncluded, AreOnPaths, AreOwnIn, AreOwnStates, AreSound, FitsVote}
pub use Rattle.arj_law_disk_view.specs.running.Sound.{IsOwnAnswer, IsOwnRoot, IsOwnVote, IsSound, IsSoundNow, voted_of}
pub use Rattle.arj_law_disk_view.specs.running.States.{AllSay, CoordIsSo, Fits, MayKeep, NowIsSo}
pub use Rattle.arj_law_disk_view.specs.view.Asking.{IsUnanswered, SeesConfirming, SeesPreparing, TopGoes}
pub use Rattle.arj_law_disk_view.specs.view.Confirming.{AreNew, FitsVersion, IsBooked, IsConfirmation, IsNewConfirm, IsUnconfirmed}
pub use Rattle.arj_law_disk_view.specs.view.Confirming.{SaysMarks, with_locks}
pub use Rattle.arj_law_disk_view.specs.view.Coordinating.{AreOrphansOf, ConfirmsAreBooked, DidIsWalked, HasBegunHere, IsBefore}
pub use Rattle.arj_law_disk_view.specs.view.Coordinating.{IsConfirmedNow, KnowsNode, NotesMessage, UsesNothing}
pub use Rattle.arj_law_disk_view.specs.view.Deciding.{IsCalm, SeesRecords, Stills, nodes_of}
pub use Rattle.arj_law_disk_view.specs.view.Entries.{EntryGoes, SeesEntry}
pub use Rattle.arj_law_disk_view.specs.view.Formats.{HasObject}
pub use Rattle.arj_law_disk_view.specs.view.Knows.{CommitsAt, IsFirstAt, IsFromRoot, IsOfKind, IsOpenSerial, KnowsCoord, KnowsKinds}
pub use Rattle.arj_law_disk_view.specs.view.Knows.{KnowsMachine, KnowsPlan}
pub use Rattle.arj_law_disk_view.specs.view.Pairs.{Among, AreAbove, AreOne, AreSorted, HasNone, Holder, IsOf, SeesPair, hold_of, packed}
pub use Rattle.arj_law_disk_view.specs.view.Pairs.{packed_entry}
pub use Rattle.arj_law_disk_view.specs.view.Plans.{AreApart, AreDistinct, IsTidy, Uses, loads, plan_at, plan_by, used_at}
pub use Rattle.arj_law_disk_view.specs.view.Sees.{Along, AreOneChange, Claims, ClaimsAnswered, ClaimsAsk, ClaimsConfirm, ClaimsEnd}
pub use Rattle.arj_law_disk_view.specs.view.Sees.{ClaimsLast, ClaimsOther, ClaimsReply, IsAlong, IsFixed, IsFuture, IsKnown, IsKnownIfThere}
pub use Rattle.arj_law_disk_view.specs.view.Sees.{IsLater, IsNamedCommit, IsNested, IsOneChange, IsSeenByDisks, IsSettled, Kinds, KnowsNow}
pub use Rattle.arj_law_disk_view.specs.view.Sees.{KnowsRoot, RequestIsWalked, SeesConfirmed, SeesCoord, SeesDisks, SeesDown, SeesNotes}
pub use Rattle.arj_law_disk_view.specs.view.Sees.{WaitsForNaming, WaitsForStore, Walk, Works, WorksBy, begins, followed, is_awaited_by}
pub use Rattle.arj_law_disk_view.specs.view.Sees.{may_note, was_begun}
pub use Rattle.arj_law_disk_view.specs.view.Stores.{ClaimsAbort, ClaimsCommit, ClaimsPrepare, IsPlanned, SeesStore, StoreGoes}
pub use Rattle.arj_law_lock_view.proofs.records.NamingWalks.{Left}
pub use Rattle.arj_law_lock_view.specs.records.Claims.{AreAnswered}
pub use Rattle.arj_law_lock_view.specs.records.Runs.{RecordsAreFree, RecordsKnown}
pub use Rattle.arj_law_lock_view.specs.records.Tests.{Tests}
pub use Rattle.arj_law_parts.proofs.moves.Happens.{place_same}
pub use Rattle.arj_law_parts.proofs.moves.Together.{walks_both, walks_to}
pub use Rattle.arj_law_parts.proofs.parts.Begun.{begun_tree, on_more, on_own, one_action, path_length, path_some, serial_alone}
pub use Rattle.arj_law_parts.proofs.parts.CoordInputs.{named_found}
pub use Rattle.arj_law_parts.proofs.parts.GoodCoords.{IsStepOf, answer_step, doomed_same, giveup_step, uses_same, vote_step}
pub use Rattle.arj_law_parts.proofs.parts.GoodTrees.{found_by, get_more, over_below, own_is}
pub use Rattle.arj_law_parts.proofs.parts.Keys.{in_at}
pub use Rattle.arj_law_parts.proofs.parts.LivesNamed.{all_found, all_put}
pub use Rattle.arj_law_parts.proofs.parts.Pairs.{moved_names}
pub use Rattle.arj_law_parts.proofs.parts.Settled.{doing_other, doing_put, end_tree_on}
pub use Rattle.arj_law_parts.proofs.parts.Stores.{one_of}
pub use Rattle.arj_law_parts.specs.moves.Keeps.{Holds, IsAtStarts, Keeps, is_act, label_at}
pub use Rattle.arj_law_parts.specs.moves.Seen.{AreQuiet, at, down, given, posted, said, up}
pub use Rattle.arj_law_parts.specs.moves.Walks.{Stops, Up, Walks, halted}
pub use Rattle.arj_law_parts.specs.parts.Actions.{Action, AreBegun, Stands, act_of, action_of, paths_of}
pub use Rattle.arj_law_parts.specs.parts.Coords.{IsAsking, IsBusy, IsGoodCoord, IsVoting}
pub use Rattle.arj_law_parts.specs.parts.Copies.{IsTree, Paths}
pub use Rattle.arj_law_parts.specs.parts.Ends.{IsSure}
pub use Rattle.arj_law_parts.specs.parts.Messages.{FitsAsked, IsAsker}
pub use Rattle.arj_law_runs.proofs.addresses.Lists.{all_append}
pub use Rattle.arj_law_runs.proofs.calls.CoordKnown.{doing_here, root_own, roots_work}
pub use Rattle.arj_law_runs.proofs.calls.Given.{KeepsGiven, keeps_given, kept_both}
pub use Rattle.arj_law_runs.proofs.calls.WorldRuns.{votes_used}
pub use Rattle.arj_law_runs.proofs.journal.Books.{Later, Sane, book_more, decided_later, sane_lines, sane_new}
pub use Rattle.arj_law_runs.proofs.journal.Tops.{is_sound}
pub use Rattle.arj_law_runs.proofs.kept.Handled.{good_coord, it}
pub use Rattle.arj_law_runs.proofs.kept.Starts.{first_at, first_up, live_first}
pub use Rattle.arj_law_runs.specs.calls.Coords.{IsOfStep, head_of}
pub use Rattle.arj_law_runs.specs.calls.Reached.{IsReached}
pub use Rattle.arj_law_runs.specs.calls.Runs.{KnowsFew}
pub use Rattle.arj_law_runs.specs.coordinators.Uses.{KnowsUses}
pub use Rattle.arj_law_runs.specs.journal.Book.{book, is_decided, is_top, new_book}
pub use Rattle.arj_law_runs.specs.journal.Idle.{IsIdle}
pub use Rattle.arj_law_runs.specs.journal.Knows.{IsKept, IsWritten, KnowsUp}
pub use Rattle.arj_law_runs.specs.journal.Right.{AreRight, has_act}
pub use Rattle.arj_law_runs.specs.kept.Worlds.{IsGood, IsGoodOf, IsUp}
pub use Rattle.arj_model.specs.Actions.{Act, acts}
pub use Rattle.arj_protocol.specs.Commit.{start}
pub use Rattle.arj_protocol.specs.Effect.{moved}
pub use Rattle.arj_protocol.specs.Ending.{is_over}
pub use Rattle.arj_protocol.specs.Naming.{told}
pub use Rattle.arj_protocol.specs.Step.{disk_by, entry_by, older_at, state_by, states_from}
pub use Rattle.arj_protocol.specs.Tree.{is_below}
pub use Rattle.std.proofs.Common.{bytes_eq, filter_map, flat_map}
pub use Rattle.arj_law_disk.specs.machine.Effects as machine
pub use Rattle.arj_law_disk.specs.machine.Messages as mail
pub use Rattle.arj_law_disk.specs.machine.Named as names
pub use Rattle.arj_law_disk.specs.machine.State as disk
pub use Rattle.arj_law_disk.specs.machine.Words as words
pub use Rattle.arj_law_parts.specs.moves.Seen as seen
