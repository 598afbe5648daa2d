-- What the proofs of this crate name of its own definitions and of the crates below, passed on from one place.
-- Declares nothing.
pub use Rattle.arj_disk.specs.declared.slot.Role.{Role}
pub use Rattle.arj_promise.specs.Runs.{HeaderFits}
pub use Rattle.arj_journal.specs.declared.limits.TheConstants.{STORES}
pub use Rattle.arj_law.proofs.Common.{Pairwise, not_below_itself, read_rises}
pub use Rattle.arj_law.proofs.Last.{writes_conflict}
pub use Rattle.arj_law.proofs.Listed.{listed_append}
pub use Rattle.arj_law.proofs.Order.{rises}
pub use Rattle.arj_law.specs.Growth.{IdleInPlace, first_stores}
pub use Rattle.arj_law_disk.proofs.machine.Base.{bool_cases, falls_to, never, or_cases, or_left, or_right, put_cases, some_is, test_is}
pub use Rattle.arj_law_disk.proofs.machine.Base.{test_same}
pub use Rattle.arj_law_disk.proofs.machine.History.{in_decided, last_known}
pub use Rattle.arj_law_disk.proofs.machine.Keeps.{effect_keeps}
pub use Rattle.arj_law_disk.proofs.machine.Kin.{Kin, kin_granted, near, not_over, open_untold}
pub use Rattle.arj_law_disk.specs.machine.Core.{Chain, Core}
pub use Rattle.arj_law_disk.specs.machine.Effects.{Allowed, Effect, Follows, Whole, World}
pub use Rattle.arj_law_disk.specs.machine.Guards.{HasRow, IsGranted, IsNext, IsPresent, IsUntold, only_decides}
pub use Rattle.arj_law_disk.specs.machine.Named.{Named}
pub use Rattle.arj_law_disk.specs.machine.Names.{Names, Office}
pub use Rattle.arj_law_disk.specs.machine.Order.{counts_of}
pub use Rattle.arj_law_disk.specs.machine.State.{Done, Hold, Known, KnownIn, Packed, Plan, Stage, decided, decided_in, entry_in, is_gone}
pub use Rattle.arj_law_disk.specs.machine.State.{is_idle, is_open, is_sealed, last, last_entry, last_in, target, undecided}
pub use Rattle.arj_law_disk.specs.machine.Words.{has}
pub use Rattle.arj_law_disk_view.proofs.deciding_lines.IdleKnown.{KnowsIdle, knows_idle}
pub use Rattle.arj_law_disk_view.proofs.deciding_lines.Steps.{IsNear, IsStep, near_same, nothing_more, step_halted, step_walk}
pub use Rattle.arj_law_disk_view.proofs.deciding_lines.Tying.{goes_by, tied_part}
pub use Rattle.arj_law_disk_view.proofs.running.Begun.{Stood, root_on, stood}
pub use Rattle.arj_law_disk_view.proofs.running.BothEach.{with_entries}
pub use Rattle.arj_law_disk_view.proofs.running.Decisions.{goes_along}
pub use Rattle.arj_law_disk_view.proofs.running.EntryRows.{rows_bind, rows_confirm, rows_hello, rows_note, rows_recovered, rows_told}
pub use Rattle.arj_law_disk_view.proofs.running.Grows.{called_later, in_both, in_front, quietly, who_decides}
pub use Rattle.arj_law_disk_view.proofs.running.HeardPosts.{all_join}
pub use Rattle.arj_law_disk_view.proofs.running.Holders.{path_more, top_path_is}
pub use Rattle.arj_law_disk_view.proofs.running.Lists.{all_each, all_filter, all_keys, all_put, all_set, all_tops, all_without}
pub use Rattle.arj_law_disk_view.proofs.running.Means.{All, queries_mean}
pub use Rattle.arj_law_disk_view.proofs.running.RecordWalks.{restart_plain}
pub use Rattle.arj_law_disk_view.proofs.running.Scripts.{part_more}
pub use Rattle.arj_law_disk_view.proofs.running.StateInputs.{acts_so, begins_so, hears_so}
pub use Rattle.arj_law_disk_view.proofs.running.StateEnds.{acks_so, new_so, query_so}
pub use Rattle.arj_law_disk_view.proofs.view.DecideWalks.{confirming_of}
pub use Rattle.arj_law_runs.proofs.kept.Starts.{first_at, first_up, live_first}
pub use Rattle.arj_law_disk_view.proofs.view.Frames.{node_cases, node_here}
pub use Rattle.arj_law_disk_view.proofs.view.Later.{effects_are_later}
pub use Rattle.arj_law_disk_view.proofs.view.Planned.{has_same, used_there}
pub use Rattle.arj_law_disk_view.proofs.view.ServedWalks.{bind_says, note_says}
pub use Rattle.arj_law_disk_view.proofs.view.StoreSteps.{place_free}
pub use Rattle.arj_law_disk_view.specs.deciding_lines.Said.{AreDone, AreNotLate, IsDoneBy, IsKnownEarly, IsLate, IsPlain, WithTie}
pub use Rattle.arj_law_disk_view.specs.names.Both.{IsPassedNow, OnlyAnswers, OnlyFound, SeesBoth}
pub use Rattle.arj_law_disk_view.specs.names.Handlers.{Answering, Change, Changes, Deciding, Quietly, change_by}
pub use Rattle.arj_law_disk_view.specs.running.Bindings.{AreGoodCounted, HasFewLabels, KnowsScript}
pub use Rattle.arj_law_disk_view.specs.running.Decided.{AreCalled, AreOnce, NewTops, SeesDecided}
pub use Rattle.arj_law_disk_view.specs.running.Entries.{HaveEntries}
pub use Rattle.arj_law_disk_view.specs.running.Heard.{IsAskedFor, IsHadBy, SeesHeard, SeesPlan}
pub use Rattle.arj_law_disk_view.specs.running.Part.{Going, HasHeard, KeepsPart, are_recorded, going_of}
pub use Rattle.arj_law_disk_view.specs.running.Places.{AreBegunIn, AreEntryRows, AreNamesRows, AsksBegun, HasNaming, IsBegun, IsCallRow}
pub use Rattle.arj_law_disk_view.specs.running.Places.{IsEntryRow, IsTopPath, asked_about}
pub use Rattle.arj_law_disk_view.specs.running.Records.{AreRecorded, IsRecorded, IsRooted, recorded}
pub use Rattle.arj_law_disk_view.specs.running.States.{AllSay, AnsweredIsSo, AskIsSo, AskedIsSo, CoordIsSo, Fits, MayKeep, MessageIsSo}
pub use Rattle.arj_law_disk_view.specs.running.States.{NowIsSo, Own, PlanIsSo, ReplyIsSo}
pub use Rattle.arj_law_disk_view.specs.view.Asking.{SeesConfirming, SeesPreparing}
pub use Rattle.arj_law_disk_view.specs.view.Coordinating.{KnowsNode}
pub use Rattle.arj_law_disk_view.specs.view.Deciding.{SeesRecords, nodes_of}
pub use Rattle.arj_law_disk_view.specs.view.Entries.{SeesEntry}
pub use Rattle.arj_law_disk_view.specs.view.Formats.{IsLine}
pub use Rattle.arj_law_disk_view.specs.view.Knows.{KnowsMachine}
pub use Rattle.arj_law_disk_view.specs.view.Pairs.{Among, AreSorted, content_of, packed, packed_entry}
pub use Rattle.arj_law_disk_view.specs.view.Plans.{IsTidy, plan_at, plan_by, used_at}
pub use Rattle.arj_law_disk_view.specs.view.Sees.{Along, ClaimsAsked, IsLater, Kinds, SeesCoord, SeesDisks, Works, WorksBy}
pub use Rattle.arj_law_disk_view.specs.view.Stores.{SeesStore}
pub use Rattle.arj_law_lock.proofs.logs.Homes.{counting_is_old}
pub use Rattle.arj_law_lock.proofs.machine.Claims.{Good, Holds}
pub use Rattle.arj_law_lock.proofs.machine.Order.{go_on, run_keeps, start_holds, step_keeps}
pub use Rattle.arj_law_lock.proofs.machine.Ordered.{is_entry_written, is_held, lives}
pub use Rattle.arj_law_lock.proofs.machine.Paths.{above_top, act_cases, act_here, by_cases, differ, on_root, on_top, same_is, same_self}
pub use Rattle.arj_law_lock.proofs.machine.Paths.{top_action, top_is, top_of, top_root, top_self}
pub use Rattle.arj_law_lock.proofs.machine.Roots.{RootsLow, roots_low, start_low}
pub use Rattle.arj_law_lock.proofs.machine.ValueClaims.{Seen}
pub use Rattle.arj_law_lock.proofs.machine.ValueRun.{run_values, start_values}
pub use Rattle.arj_law_lock.proofs.machine.ValueServers.{survives_of}
pub use Rattle.arj_law_lock.proofs.machine.VoteLasts.{Votes}
pub use Rattle.arj_law_lock.proofs.machine.VoteRun.{run_all_votes, start_votes, votes_are_right}
pub use Rattle.arj_law_lock.specs.logs.Under.{MayCount}
pub use Rattle.arj_law_lock.specs.machine.Actions.{Root, Sub, is_action, on, root, same, top}
pub use Rattle.arj_law_lock.specs.machine.Laws.{Closes, Conflicting, IsCommitted, IsEntryWritten, OfUnit}
pub use Rattle.arj_law_lock.specs.machine.Machine.{Guard, Run, next, start, stay, step, stopped}
pub use Rattle.arj_law_lock.specs.machine.Rows.{mode}
pub use Rattle.arj_law_lock.specs.machine.State.{Alive, Answer, Call, Entry, Include, Server, State, Vote}
pub use Rattle.arj_law_lock.specs.machine.Steps.{Abort, ActivateCopy, Answered, Apply, BindLive, BindNew, CommitNested, CommitTop}
pub use Rattle.arj_law_lock.specs.machine.Steps.{ConfirmTop, CrashNaming, CrashServer, Decide, DropEntry, DropRows, EndUnit, Event, GiveUp}
pub use Rattle.arj_law_lock.specs.machine.Steps.{Grant, Included, IsLast, Keep, Load, Lost, Name, Newest, PassEntry, PassRow, PassTop}
pub use Rattle.arj_law_lock.specs.machine.Steps.{Record, Refuse, Report, SendConfirm, SendInvoke, SendVote, Survives, TurnedDown, VoteTop}
pub use Rattle.arj_law_lock.specs.machine.Steps.{newest, none, older}
pub use Rattle.arj_law_lock_view.proofs.facts.Acts.{kept_of}
pub use Rattle.arj_law_lock_view.proofs.facts.CommitCoords.{AreAt}
pub use Rattle.arj_law_lock_view.proofs.facts.Kept.{Place}
pub use Rattle.arj_law_lock_view.proofs.facts.Listed.{copies_listed}
pub use Rattle.arj_law_lock_view.proofs.facts.PartSends.{AllSeek, SeeksSo, acts_seeks, again_seeks, heard_seeks, seek_both}
pub use Rattle.arj_law_lock_view.proofs.facts.PartWalks.{parted_keep}
pub use Rattle.arj_law_lock_view.proofs.facts.Pieces.{Pieces, abort_so, acked_so, again_so, commit_so, give_up_so, heard_so}
pub use Rattle.arj_law_lock_view.proofs.facts.UpperWalks.{uppers_of}
pub use Rattle.arj_law_lock_view.proofs.facts.Works.{works_keep}
pub use Rattle.arj_law_lock_view.proofs.running.GoodSteps.{its, steady}
pub use Rattle.arj_law_lock_view.proofs.running.KeptSteps.{coordinated, handled_answer, is_acked, is_answer, is_query, response_is}
pub use Rattle.arj_law_lock_view.proofs.running.KeptSteps.{took_heard}
pub use Rattle.arj_law_lock_view.proofs.running.LeftSteps.{AreSentTo, IsSentTo, Leaves, message_left}
pub use Rattle.arj_law_lock_view.proofs.running.ShownSteps.{shown_to_server}
pub use Rattle.arj_law_lock_view.proofs.running.WalkSteps.{leaves}
pub use Rattle.arj_law_lock_view.proofs.view.ToldSteps.{brought_go, copy_told, family_told, turn_of}
pub use Rattle.arj_law_lock_view.proofs.view.TreeSteps.{root_there}
pub use Rattle.arj_law_lock_view.specs.facts.Acts.{KeepsOf, begins_in}
pub use Rattle.arj_law_lock_view.specs.facts.Entries.{HasObject, HoldsEntry}
pub use Rattle.arj_law_lock_view.specs.facts.Parted.{HasPart, IsPart, KnowsParted, KnowsParts, asks_part}
pub use Rattle.arj_law_lock_view.specs.facts.Requests.{IsAskedBy, KnowsRequests}
pub use Rattle.arj_law_lock_view.specs.facts.Uppers.{AreOfEntries, AreUpper, AreUppersOf, HaveUpper, IsTopOf}
pub use Rattle.arj_law_lock_view.specs.facts.Votes.{side_at}
pub use Rattle.arj_law_lock_view.specs.facts.Works.{AreInner}
pub use Rattle.arj_law_lock_view.specs.facts.Worlds.{WorksAreKnown}
pub use Rattle.arj_law_lock_view.specs.journal.Lines.{AreCallsOf, EndsSo, IsCallOf, IsDecidedAt, IsIncludeOf, IsTiedToLines, included_on}
pub use Rattle.arj_law_lock_view.specs.journal.Lines.{said_on}
pub use Rattle.arj_law_lock_view.specs.running.Answers.{IsLastFor}
pub use Rattle.arj_law_lock_view.specs.running.Beside.{Case, IsConfirmedNow, IsSeenIn, IsToldAbort, KnowsSpot, Spot, server_at, told_in}
pub use Rattle.arj_law_lock_view.specs.running.Beside.{view_in, world_at}
pub use Rattle.arj_law_lock_view.specs.running.Coordinating.{coord_at}
pub use Rattle.arj_law_lock_view.specs.running.Fixed.{Agrees, AgreesAs, AgreesBy, BeginsAs, Fixed, StandsFor, view_of}
pub use Rattle.arj_law_lock_view.specs.running.Kept.{GivesLocks, HasCome, case_of}
pub use Rattle.arj_law_lock_view.specs.running.Posts.{IsAskedSeen, IsRequestSeen}
pub use Rattle.arj_law_lock_view.specs.running.Sees.{IsPast, SeesDown, SeesLocks, SeesMemory, SeesUp}
pub use Rattle.arj_law_lock_view.specs.running.Tied.{AreTied, BeginNone}
pub use Rattle.arj_law_lock_view.specs.running.Votes.{AreVotedAt}
pub use Rattle.arj_law_lock_view.specs.running.World.{is_for_parts}
pub use Rattle.arj_law_lock_view.specs.view.Actions.{IsPlaced, stage_of}
pub use Rattle.arj_law_lock_view.specs.view.Acts.{Acts, AreOne}
pub use Rattle.arj_law_lock_view.specs.view.Asks.{ShowsAsk}
pub use Rattle.arj_law_lock_view.specs.view.Copies.{Codes, OnlyEnds, SeesCopy, state_code}
pub use Rattle.arj_law_lock_view.specs.view.Ends.{SeesNothing}
pub use Rattle.arj_law_lock_view.specs.view.Families.{acts_of}
pub use Rattle.arj_law_lock_view.specs.view.Going.{Goes}
pub use Rattle.arj_law_lock_view.specs.view.Handling.{IsAskingShown, IsMessageShown}
pub use Rattle.arj_law_lock_view.specs.view.Hearing.{SeesNamingIn}
pub use Rattle.arj_law_lock_view.specs.view.Named.{binding_at}
pub use Rattle.arj_law_lock_view.specs.view.Namings.{SeesNaming}
pub use Rattle.arj_law_lock_view.specs.view.Plans.{SeesMachine}
pub use Rattle.arj_law_lock_view.specs.view.Roots.{SeesRoot}
pub use Rattle.arj_law_lock_view.specs.view.Rows.{SeesRows, held_in, strength}
pub use Rattle.arj_law_lock_view.specs.view.Servers.{SeesObject}
pub use Rattle.arj_law_lock_view.specs.view.Serving.{IsShown, ListsEach}
pub use Rattle.arj_law_lock_view.specs.view.Telling.{AreBrought, AreOneTree, IsOfFamily, Sees, View}
pub use Rattle.arj_law_parts.proofs.moves.Happens.{arms_hold, event_asked, first_asked, place_same}
pub use Rattle.arj_law_parts.proofs.moves.Rounds.{AreLooks, LooksAlone, taken_looks}
pub use Rattle.arj_law_parts.proofs.moves.Together.{walks_both, walks_to}
pub use Rattle.arj_law_parts.proofs.parts.Begun.{begun_tree, on_own, one_action, path_found, path_some, serial_alone, where_stands}
pub use Rattle.arj_law_parts.proofs.parts.CoordInputs.{named_found, off, off_third}
pub use Rattle.arj_law_parts.proofs.parts.Decided.{stand_acts, stand_again}
pub use Rattle.arj_law_parts.proofs.parts.EndsHandled.{surely_handled}
pub use Rattle.arj_law_parts.proofs.parts.SureCalls.{none_in}
pub use Rattle.arj_law_parts.proofs.parts.GoodCoords.{IsStepOf, actor_is, answer_step, doing_by, doomed_same, giveup_step, good_heard}
pub use Rattle.arj_law_parts.proofs.parts.GoodCoords.{on_tree, uses_same, vote_step, voting_at}
pub use Rattle.arj_law_parts.proofs.parts.GoodTrees.{found_by, get_more}
pub use Rattle.arj_law_parts.proofs.parts.InTurn.{told_stays}
pub use Rattle.arj_law_parts.proofs.parts.Keys.{at_in, in_at, on_with, order_itself}
pub use Rattle.arj_law_parts.proofs.parts.LivesNamed.{keyed_found, keyed_put}
pub use Rattle.arj_law_parts.proofs.parts.Pairs.{at_each}
pub use Rattle.arj_law_parts.proofs.parts.SaidIncs.{all_both, all_flat, all_map, truly_handled}
pub use Rattle.arj_law_parts.proofs.parts.Settled.{end_tree_on}
pub use Rattle.arj_law_parts.proofs.parts.TrueSteps.{true_query, well_acked, well_acts, well_again, well_heard, without_in, work_there}
pub use Rattle.arj_law_parts.specs.moves.Keeps.{IsAtStarts, Keeps, KeepsFrom, MayGive, is_act, label_at}
pub use Rattle.arj_law_parts.specs.moves.Seen.{AreQuiet, In, Within, at, down, given, is_quiet_line, posted, said, up}
pub use Rattle.arj_law_parts.specs.moves.Walks.{Up, Walks, halted}
pub use Rattle.arj_law_parts.specs.parts.Actions.{Action, AreBegun, IsNew, act_of, action_of, paths_of}
pub use Rattle.arj_law_parts.specs.parts.Claims.{AreTrue}
pub use Rattle.arj_law_parts.specs.parts.Coords.{IsAsking, IsBusy, IsCommitting, IsGoodCoord, IsOver, IsVoting}
pub use Rattle.arj_law_parts.specs.parts.Copies.{IsTree, Paths}
pub use Rattle.arj_law_parts.specs.parts.Ends.{AllSayEnds, AreOfCommits, Decides, IsSure, IsSurelyHandled, brought, brought_by}
pub use Rattle.arj_protocol.specs.Follow.{ends_in}
pub use Rattle.arj_law_parts.specs.parts.Ends.{told_by}
pub use Rattle.arj_law_parts.specs.parts.Incs.{IsTrulyHandled}
pub use Rattle.arj_law_parts.specs.parts.Lives.{Reach}
pub use Rattle.arj_law_parts.specs.parts.Messages.{AreOfTops, FitsAsk, FitsAsked, FitsMessage, IsAsker, IsDecided, IsTopAction}
pub use Rattle.arj_law_parts.specs.parts.Nodes.{IsGoodNode}
pub use Rattle.arj_law_parts.specs.parts.Requests.{AreNumbered, IsNumbered}
pub use Rattle.arj_law_parts.specs.parts.Servers.{AreOrdered}
pub use Rattle.arj_law_runs.proofs.addresses.BindRuns.{answers_fit, binds_keep}
pub use Rattle.arj_law_runs.proofs.addresses.Lists.{all_append, all_at_uid, all_placed}
pub use Rattle.arj_law_runs.proofs.bindings.Events.{moves_reached}
pub use Rattle.arj_law_runs.proofs.calls.CommitPlans.{any_in}
pub use Rattle.arj_law_runs.proofs.calls.CoordKnown.{doing_here}
pub use Rattle.arj_law_runs.proofs.calls.CoordOuts.{quiet_again}
pub use Rattle.arj_law_runs.proofs.calls.CoordSends.{AllQuiet}
pub use Rattle.arj_law_runs.proofs.calls.Given.{KeepsGiven, given_more, keeps_given, kept_both}
pub use Rattle.arj_law_runs.proofs.calls.Reaching.{kept_holds, moves_keep}
pub use Rattle.arj_law_runs.proofs.calls.WholeRuns.{home_in, is_home}
pub use Rattle.arj_law_runs.proofs.calls.WorldSteps.{no_answer, reads_back}
pub use Rattle.arj_law_runs.proofs.coordinators.CoordUses.{moved_keeps, on_cases, on_roots, root_cases}
pub use Rattle.arj_law_runs.proofs.journal.Books.{book_more, decided_later, later_from, named_is, on_here, or_which, sane_lines, sane_new}
pub use Rattle.arj_law_runs.proofs.journal.Books.{still_named}
pub use Rattle.arj_law_runs.proofs.journal.Closed.{Stands, one_act, stands_lines, stands_new, stands_turn}
pub use Rattle.arj_law_runs.proofs.journal.Models.{AreSound, act_there, acts_turn, holds, in_later, is_book, its_acts, its_call, its_sound}
pub use Rattle.arj_law_runs.proofs.journal.Models.{named_in, tells}
pub use Rattle.arj_law_runs.proofs.journal.Nothing.{idle_has_nothing}
pub use Rattle.arj_law_runs.proofs.journal.Owners.{acts_more, kept_nodes}
pub use Rattle.arj_law_runs.proofs.journal.Paths.{IsPathedOf, act_pathed, message_pathed}
pub use Rattle.arj_law_runs.proofs.journal.Runs.{act_turns, kept_right, lines_keep, message_turns, tick_turns}
pub use Rattle.arj_law_runs.proofs.journal.Ties.{named_label, on_path, on_uids, path_new, path_old}
pub use Rattle.arj_law_runs.proofs.journal.Tops.{is_sound}
pub use Rattle.arj_law_runs.proofs.journal.Walks.{its_own}
pub use Rattle.arj_law_runs.proofs.kept.AllRuns.{all_keep}
pub use Rattle.arj_law_runs.proofs.kept.Begins.{begin_good, its_uid}
pub use Rattle.arj_law_runs.proofs.kept.Handled.{act_good, good_coord, it, message_good, one_tree, own_of_disk, records_of_disk, tick_good}
pub use Rattle.arj_law_runs.proofs.kept.Handled.{tops_of_disk}
pub use Rattle.arj_law_runs.proofs.kept.Walked.{other_number, same_number}
pub use Rattle.arj_law_runs.specs.addresses.Addresses.{IsEntry}
pub use Rattle.arj_law_runs.specs.addresses.Binds.{AnswersAt, AnswersWaiting, BindsAreKnown}
pub use Rattle.arj_law_runs.specs.calls.Bindings.{AreSaid, HasFewBindings}
pub use Rattle.arj_law_runs.specs.calls.Lived.{LivesRun, PassesAll, PassesIn}
pub use Rattle.arj_law_runs.specs.calls.Reached.{IsReached, Keeping}
pub use Rattle.arj_law_runs.specs.calls.Runs.{KnowsFew, KnowsRun, VotesAreUsed}
pub use Rattle.arj_law_runs.specs.journal.Book.{Access, Book, book, book_from, is_decided, is_top, new_book, turned, with_access}
pub use Rattle.arj_law_runs.specs.journal.Book.{with_named}
pub use Rattle.arj_law_runs.specs.journal.Idle.{HasNothing, IsIdle}
pub use Rattle.arj_law_runs.specs.journal.Knows.{AreIdle, AreLined, IsEnd, IsGiven, IsKept, IsKnown, KnowsUp, after}
pub use Rattle.arj_law_runs.specs.journal.Laws.{AreDistinct, AreFormed, IsCommittedIn, IsDone, IsSound, called, called_of}
pub use Rattle.arj_law_runs.specs.journal.Paths.{AreAlike, IsAlikeOf}
pub use Rattle.arj_law_runs.specs.journal.Right.{AreRight, Right, has_act}
pub use Rattle.arj_law_runs.specs.journal.Whose.{IsOfNode}
pub use Rattle.arj_law_runs.specs.kept.Worlds.{IsGood, IsGoodOf, IsMemory, IsUp}
pub use Rattle.arj_law_serial.specs.holding.Held.{entry_locks_in, locks_in, memory_of, named_locks}
pub use Rattle.arj_law_serial.specs.holding.Shown.{AreShown, ShowsLocks}
pub use Rattle.arj_law_serial.specs.joint.Apt.{AgreesApart, IsApt}
pub use Rattle.arj_law_serial.specs.joint.Based.{AreBased, CopiesAreBased, HasWriters, IsBasedAt, IsKnownAs, IsKnownState, IsVotedOver}
pub use Rattle.arj_law_serial.specs.joint.Based.{IsVotedState, IsYesBased, WasVotedOver, coord_fits, post_fits}
pub use Rattle.arj_law_serial.specs.joint.BasedSteps.{AreBasedSo, ArePlannedOver, SendsNoYes, StaysBased}
pub use Rattle.arj_law_serial.specs.joint.Excluded.{AreExcludedInTime, CommitsBeginIt, IsInTime, IsOnly, IsSeenSo}
pub use Rattle.arj_law_serial.specs.joint.Fit.{OpFits, OpsFit}
pub use Rattle.arj_law_serial.specs.joint.Forms.{AllAreSo, AreSo, CopyIsSo, DiskIsSo, Kind, PartsAreSo, kind_of, listed, so_of, stored}
pub use Rattle.arj_law_serial.specs.joint.Includers.{IncludersTakeTurns, IncludesNone, JoinersAreNewestFirst}
pub use Rattle.arj_law_serial.specs.joint.Joined.{AreBareSo, ArePlannedSo, AreWritten, ChangesCalled, IsJoinedSo, IsKnownJoined, IsPaired}
pub use Rattle.arj_law_serial.specs.joint.Joined.{IsPlannedSo, IsRecordedAt, SeesRecorded, world_of}
pub use Rattle.arj_law_serial.specs.joint.Joins.{AreRising, FitsIncludes, HasJoined, IncludesAreNoted, IncludesAreSaid, IncludesLeft}
pub use Rattle.arj_law_serial.specs.joint.Joins.{PlansInclude, has_included, includes_in, is_of_store, lasts_in}
pub use Rattle.arj_law_serial.specs.joint.Lights.{AddsNone, IsSplit}
pub use Rattle.arj_law_serial.specs.joint.Loads.{AreLoadsLast, AwaitsLoad}
pub use Rattle.arj_law_serial.specs.joint.Marked.{ConfirmsFor, FitsMarks, IsSpared, MarksAreAsked, MarksAreSaid, WasAsked, excludes}
pub use Rattle.arj_law_serial.specs.joint.Marked.{was_marked}
pub use Rattle.arj_law_serial.specs.joint.MarkedTops.{AreMarkedSo, IsMarkedSo}
pub use Rattle.arj_law_serial.specs.joint.Nodes.{NodesAreThere}
pub use Rattle.arj_law_serial.specs.joint.Ordered.{AreDim, AreSpared, AreStill, AreTurns, AreTurnsOf, IsCalledBefore, IsCalledFirst}
pub use Rattle.arj_law_serial.specs.joint.Ordered.{IsOrdered, IsOrderedSo, IsTurn}
pub use Rattle.arj_law_serial.specs.joint.SaidFirst.{IncludersKnow, IsSaidFirst}
pub use Rattle.arj_law_serial.specs.joint.Shown.{IncludesAreThere}
pub use Rattle.arj_law_serial.specs.joint.Writers.{IsWriter, WritersAreNewestFirst}
pub use Rattle.arj_law_serial.specs.order.Cleaned.{BeginsSo, HaveForm, IsCleanIn, marked}
pub use Rattle.arj_law_serial.specs.order.Codes.{code_of}
pub use Rattle.arj_law_serial.specs.order.Decided.{AreDecided, AreDecisions, AreNewestFirst, ChangersHaveTurns, CommitsComeFirst}
pub use Rattle.arj_law_serial.specs.order.Decided.{DecideChanges, HaveTurns, IsDecision, IsInTurn, Joined, VotedSo, WroteSo, left_by}
pub use Rattle.arj_law_serial.specs.order.Locked.{AreRowsSeen, IsHeldByUpper, IsSeenAt, ran_at}
pub use Rattle.arj_law_serial.specs.order.Seen.{IsCalled, RequestsAreOne}
pub use Rattle.arj_law_serial.specs.order.Tied.{AreApart, Began, HasPlaces, IsTied, path_of}
pub use Rattle.arj_law_serial.specs.order.Turns.{TakeTurns}
pub use Rattle.arj_law_serial.specs.past.Told.{ArePastIn, IsClosedAt, IsNamedBy, SaysPast, live_in}
pub use Rattle.arj_law_serial.specs.tables.Tables.{IsOfPart, holders_in, is_steady, rows_on, up_from, up_of}
pub use Rattle.arj_law_serial.specs.whole.Aborts.{AbortsAreKnown, IsAbortTold, IsPartAsked, KnowsAborts}
pub use Rattle.arj_law_serial.specs.whole.Acks.{AcksAreKnown, AreHomed, AreListed, HasAcked, IsDemanded, IsPartOf, IsVoter, KnowsAcked}
pub use Rattle.arj_law_serial.specs.whole.Acks.{KnowsAcks, WasRecorded, acked_in, demanded, demanded_if, record_in, records_in}
pub use Rattle.arj_law_serial.specs.whole.Avoids.{Avoids, AvoidsAreKnown, WasAvoided}
pub use Rattle.arj_law_serial.specs.whole.Called.{IsIncluded, LinesOf, SayOf, SaysOf, UsesOf, WaitFor}
pub use Rattle.arj_law_serial.specs.whole.Rest.{GivesRest}
pub use Rattle.arj_law_serial.specs.whole.Tops.{HaveTops, HoldsNames, IsAboutTop, MeansTop, PreparesTop, TopsAreKnown}
pub use Rattle.arj_law_serial.specs.whole.Whole.{KnowsWhole}
pub use Rattle.arj_law_store.specs.store.Files.{IsPairOf}
pub use Rattle.arj_model.specs.Actions.{Act, Begun, Placed, act_in, acts, acts_after, acts_from, begun_of, behind_first, chain_in}
pub use Rattle.arj_model.specs.Actions.{committed, committed_of, has_end, id_in, is_committed, numbered, path, path_in, put}
pub use Rattle.arj_model.specs.Actions.{read, recovered, recovered_of, root_in, top_in, uids, upwards}
pub use Rattle.arj_model.specs.Book.{InOrder}
pub use Rattle.arj_model.specs.Calls.{Said, Top, call_of, committed_calls, committing_of, committings, ids, kept, kept_in, root_or, said_of}
pub use Rattle.arj_model.specs.Calls.{top_by, tops}
pub use Rattle.arj_model.specs.Clean.{CleanFrom}
pub use Rattle.arj_model.specs.Disks.{Disks, Reading}
pub use Rattle.arj_model.specs.Held.{locks_for, unit_end}
pub use Rattle.arj_model.specs.Last.{Inclusion, entry_payload, first_values, included, included_of, increasing, insert_number}
pub use Rattle.arj_model.specs.Last.{is_among, joins_by, joins_of, leaves_of, listed_after, listed_from, object_line}
pub use Rattle.arj_model.specs.Last.{serial_tops, servers_of_line, stores_of_line, uid_of_id, value_of_line}
pub use Rattle.arj_model.specs.Outcome.{is_said}
pub use Rattle.arj_start.specs.Start.{Mark, Marks}
pub use Rattle.arj_model.specs.Serial.{Values, lex, root_of, run, serial_calls, serial_key, top_place, unit_place, writes_on}
pub use Rattle.arj_model.specs.Table.{path_by, table, table_from, table_step, up_step}
pub use Rattle.arj_protocol.specs.Effect.{moved}
pub use Rattle.arj_protocol.specs.Ending.{is_over}
pub use Rattle.arj_promise.specs.Starts.{IsOlder}
pub use Rattle.arj_protocol.specs.Server.{taken_end}
pub use Rattle.arj_protocol.specs.Step.{disk_by, entries_from, entry_by, older_at, state_by, states_from}
pub use Rattle.arj_protocol.specs.World.{Asked, says}
pub use Rattle.arj_text.specs.Fields.{OpTextInForm, is_distinct}
pub use Rattle.std.specs.Option.{option_map}
pub use Rattle.arj_base.specs.declared.mode.End.TheVariants as ending
pub use Rattle.arj_disk.specs.declared.slot.Role.TheVariants as role
pub use Rattle.arj_journal.specs.declared.body.Body.TheVariants as body
pub use Rattle.arj_journal.specs.declared.body.Kind.TheVariants as kind
pub use Rattle.arj_journal.specs.declared.body.Part.TheVariants as part
pub use Rattle.arj_law_disk.specs.machine.Effects
pub use Rattle.arj_law_disk.specs.machine.State as disk
pub use Rattle.arj_law_disk.specs.machine.Words as words
pub use Rattle.arj_law_disk_view.proofs.view.Keys as keys
pub use Rattle.arj_law_lock.specs.machine.Actions as machine
pub use Rattle.arj_law_lock.specs.machine.State as state
pub use Rattle.arj_law_parts.specs.moves.Seen as seen
pub use Rattle.arj_protocol.specs.Words.which
