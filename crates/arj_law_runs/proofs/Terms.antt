-- What the proofs of this crate name of its own definitions and of the crates below, passed on from one place.
-- Declares nothing.
pub use Rattle.arj_law_parts.proofs.moves.Happens.{arms_hold, deliver_holds, event_asked, keeps_asked, place_same, steps_hold}
pub use Rattle.arj_law_parts.proofs.moves.Moving.{move_asked, moves_asked, moves_go_on}
pub use Rattle.arj_law_parts.proofs.moves.Rounds.{AreLooks, LooksAlone, taken_looks, taken_meant}
pub use Rattle.arj_law_parts.proofs.moves.Together.{walks_both, walks_to}
pub use Rattle.arj_law_parts.proofs.parts.Begun.{agree_less, begun_tree, on_more, on_own, path_found, path_length, path_some, serial_alone}
pub use Rattle.arj_law_parts.proofs.parts.CoordInputs.{behind, named_found, off, off_third}
pub use Rattle.arj_law_parts.proofs.parts.Decided.{stand_begins, stand_ended, stand_goes}
pub use Rattle.arj_law_parts.proofs.parts.EndsHandled.{says_queries}
pub use Rattle.arj_law_parts.proofs.parts.EndsSaid.{said_on, sure_records}
pub use Rattle.arj_law_parts.proofs.parts.SureCalls.{none_in}
pub use Rattle.arj_law_parts.proofs.parts.GoodCoords.{IsSameTree, IsStepOf, actor_is, answer_step, doing_by, doomed_same, giveup_step}
pub use Rattle.arj_law_parts.proofs.parts.GoodCoords.{on_tree, uses_same, vote_step, voting_at}
pub use Rattle.arj_law_parts.proofs.parts.GoodNodes.{input_well, message_well, restart_well, tick_well}
pub use Rattle.arj_law_parts.proofs.parts.GoodTrees.{above_of, after, after_cases, all_over, at_others, at_u, ended_b, found_by, get_more}
pub use Rattle.arj_law_parts.proofs.parts.GoodTrees.{grown_cases, grown_still, new, over_below, own_is, place_in, placed, shorter}
pub use Rattle.arj_law_parts.proofs.parts.Keys.{at_in, put_same, without_cases}
pub use Rattle.arj_law_parts.proofs.parts.LivesNamed.{all_at, all_each, all_put}
pub use Rattle.arj_law_parts.proofs.parts.Pairs.{each_at}
pub use Rattle.arj_law_parts.proofs.parts.SaidIncs.{all_both, all_flat, all_map, all_quiet, restart_of, stopped_inc, true_inc}
pub use Rattle.arj_law_parts.proofs.parts.SaidIncs.{truly_handled, worked_inc}
pub use Rattle.arj_law_parts.proofs.parts.ServerRuns.{end_binding}
pub use Rattle.arj_law_parts.proofs.parts.Settled.{doing_other, doing_put, end_tree_on, inc_on, node_on}
pub use Rattle.arj_law_parts.proofs.parts.TrueSteps.{true_query, true_records, well_acked, well_acts, well_again, well_heard, without_in}
pub use Rattle.arj_law_parts.proofs.parts.TrueSteps.{work_there}
pub use Rattle.arj_law_parts.proofs.parts.Truths.{put_in, true_on}
pub use Rattle.arj_law_parts.proofs.steps.CoordNames.{names_kept, same_acked, same_acts, same_again, same_heard}
pub use Rattle.arj_law_parts.proofs.steps.Frames.{length_marked, steps_add}
pub use Rattle.arj_law_parts.proofs.steps.Settled.{events_settle}
pub use Rattle.arj_law_parts.specs.moves.Keeps.{DidKeeps, HasPlace, Holds, IsAtStarts, IsSent, Keeps, KeepsAsked, KeepsOn, MayGive, is_act}
pub use Rattle.arj_law_parts.specs.moves.Keeps.{label_at}
pub use Rattle.arj_law_parts.specs.moves.Seen.{AreQuiet, In, Within, at, down, given, posted, said, up}
pub use Rattle.arj_law_parts.specs.moves.Walks.{Up, Walks, halted}
pub use Rattle.arj_law_parts.specs.parts.Actions.{Action, Agree, AreBegun, AreCounted, IsCounted, MayBegin, action_of, paths_of}
pub use Rattle.arj_law_parts.specs.parts.Claims.{AreOfNode, AreTrue, GoesOn, IsSettled}
pub use Rattle.arj_law_parts.specs.parts.Coords.{IsAsking, IsBusy, IsGoodCoord, IsVoting}
pub use Rattle.arj_law_parts.specs.parts.Copies.{IsTree, Paths}
pub use Rattle.arj_law_parts.specs.parts.Ends.{AllSayEnds, AreOfCommits, IsSaidSo, IsSure, SaysEndsIn, brought, brought_by}
pub use Rattle.arj_protocol.specs.Follow.{ends_in}
pub use Rattle.arj_law_parts.specs.parts.Ends.{told_by}
pub use Rattle.arj_law_parts.specs.parts.Incs.{AreOfInc, IsClaimsOf, IsOfInc, IsTrulyHandled, KeepsInc, SaysInc}
pub use Rattle.arj_law_parts.specs.parts.Lives.{FitsCall, Homes, IsNamingSo, IsPastZero, KnowsServers, NamesAsked, NamesReply, Reach}
pub use Rattle.arj_law_parts.specs.parts.Messages.{AllFit, AreOfTops, FitsAsk, FitsMessage, IsDecided, Seals, SealsAsked, has_commit_of}
pub use Rattle.arj_law_parts.specs.parts.Messages.{is_commit}
pub use Rattle.arj_law_parts.specs.parts.Nodes.{IsGoodNode, IsWellHandled}
pub use Rattle.arj_law_parts.specs.parts.Requests.{AreNumbered, IsNumbered}
pub use Rattle.arj_law_parts.specs.parts.Trees.{HasLists}
pub use Rattle.arj_law_parts.specs.steps.Named.{AreNamed, HasNames, KnowsNames}
pub use Rattle.arj_law_runs.specs.addresses.Addresses.{AllOf, AreOf, AskOf, BoundOf, CoordOf, CopiesOf, DiskOf, EntryOf, HasEntry, IsEntry}
pub use Rattle.arj_law_runs.specs.addresses.Addresses.{KeptOf, KnownOf, MessageOf, MovedOf, NamedOf, NamingOf, PartsOf, PathOf, ReplyOf}
pub use Rattle.arj_law_runs.specs.addresses.Addresses.{RowsOf, StateOf, StepOf, UidsOf}
pub use Rattle.arj_law_runs.specs.addresses.Binds.{Answers, AnswersAt, AnswersWaiting, IsAnswerOf, IsThere, KeepsCalled, KnowsBinds}
pub use Rattle.arj_law_runs.specs.addresses.Binds.{StandsOn}
pub use Rattle.arj_law_runs.specs.calls.Bindings.{bindings_made, bound_by}
pub use Rattle.arj_law_runs.specs.calls.Calls.{Call, IsAsked, IsRefused, IsSaidToCommit, call_by, call_in, call_of, is_refusal, refusal_of}
pub use Rattle.arj_law_runs.specs.calls.Calls.{refused_by, refuses}
pub use Rattle.arj_law_runs.specs.calls.Coords.{Answered, AreOfPaths, Doomed, HasNoServer, IsAnswered, IsCalledBy, IsCovered, IsDoomed}
pub use Rattle.arj_law_runs.specs.calls.Coords.{IsFree, IsOfStep, IsOver, IsOwn, IsPlanned, IsSpent, IsTie, IsTied, IsTiedAt, IsUsed}
pub use Rattle.arj_law_runs.specs.calls.Coords.{IsVotedIn, IsWaiting, KnowsCalls, Nowhere, Refused, Spent, WasRefused, WasSpent, bare}
pub use Rattle.arj_law_runs.specs.calls.Coords.{head_of}
pub use Rattle.arj_law_runs.specs.calls.Homes.{NamesIn}
pub use Rattle.arj_law_runs.specs.calls.Lived.{AreApart, AreBelow, CountFits, Gifts, HasGiven, HasServers, IsHome, LivesRun, LivesWith}
pub use Rattle.arj_law_runs.specs.calls.Lived.{NamesPost, Passes, PassesAll}
pub use Rattle.arj_law_runs.specs.calls.Reached.{IsReached, Keeping}
pub use Rattle.arj_law_runs.specs.calls.Runs.{AllChangesAreCalled, AllVotesAreUsed, HasHomes, KnowsRun, Trees}
pub use Rattle.arj_law_runs.specs.calls.Servers.{AreFromCalls, AreOneCall, HasDone, HasReached, IsPast, IsRefusal, IsSoUp, IsSource, Since}
pub use Rattle.arj_law_runs.specs.calls.Worlds.{AreKeyed, CallsReach, KnowsNode, KnowsWorld, vote_by, vote_in, vote_of}
pub use Rattle.arj_law_runs.specs.coordinators.Rooms.{HasRoom, actions_at}
pub use Rattle.arj_law_runs.specs.coordinators.Uses.{IsCut, KnowsTops, KnowsUses}
pub use Rattle.arj_law_runs.specs.journal.Book.{Access, Book, book, book_from, is_decided, is_over, is_top, new_book, turned, with_access}
pub use Rattle.arj_law_runs.specs.journal.Book.{with_named}
pub use Rattle.arj_law_runs.specs.journal.Idle.{IsIdle}
pub use Rattle.arj_law_runs.specs.journal.Knows.{AreIdle, AreLate, AreLined, AreSaid, Calls, Claims, Counts, EachRecord, HasBranch}
pub use Rattle.arj_law_runs.specs.journal.Knows.{HasNoted, IsAbout, IsCalled, IsEnd, IsGiven, IsKept, IsKnown, IsLined, IsWritten, Knows}
pub use Rattle.arj_law_runs.specs.journal.Knows.{KnowsUp, Puts, Remembers, Ties, decides, root_in}
pub use Rattle.arj_law_runs.specs.journal.Laws.{AreDistinct, AreFormed, IsDone}
pub use Rattle.arj_law_runs.specs.journal.Right.{AreRight, BeginsIn, IsBelow, IsClosed, IsNamed, IsOpen, IsOpenPlain, IsOpenSo, IsSaid}
pub use Rattle.arj_law_runs.specs.journal.Right.{MayBeFound, Right}
pub use Rattle.arj_law_runs.specs.journal.Right.{has_act}
pub use Rattle.arj_law_runs.specs.kept.Worlds.{IsGood, IsGoodDisk, IsGoodOf, IsGoodPlace, IsGoodWorld, IsMemory, IsSaidIn, IsSettledIn}
pub use Rattle.arj_law_runs.specs.kept.Worlds.{IsSo, IsUp, KnowsLabels}
pub use Rattle.arj_law_runs.specs.resting.Answered.{EndsWait, HasEnded, HasHalted, IsAborted}
pub use Rattle.arj_law_runs.specs.resting.Quiet.{SettlesAll}
pub use Rattle.arj_law_runs.specs.resting.Rounds.{AnswersWaits, WaitOvertaken}
pub use Rattle.arj_law_runs.specs.resting.Waits.{AreBrought, Asking, AsksFor, HasWay, Want, want_of_call, want_of_commit}
pub use Rattle.arj_model.specs.Actions.{Act, Placed, act_in, acts, acts_after, acts_from, committed, has_end, is_committed, path}
pub use Rattle.arj_model.specs.Actions.{path_in, put, read, recovered, top_in, uids, upwards}
pub use Rattle.arj_model.specs.Calls.{Said, said_of}
pub use Rattle.arj_model.specs.Last.{Inclusion, included_of}
pub use Rattle.arj_protocol.specs.Naming.{told}
pub use Rattle.arj_protocol.specs.Server.{kept_after, taken_end}
pub use Rattle.arj_promise.specs.Runs.{Run}
pub use Rattle.arj_protocol.specs.Step.{Frame, disk_by, entries_from, entry_by}
pub use Rattle.arj_protocol.specs.Tree.{is_below}
pub use Rattle.arj_protocol.specs.World.{Asked, says}
pub use Rattle.arj_text.proofs.Labels.{same_key}
pub use Rattle.std.specs.Option.{option_map}
pub use Rattle.arj_journal.specs.declared.body.Body.TheVariants as body
pub use Rattle.arj_law_parts.specs.moves.Seen as seen
pub use Rattle.arj_protocol.specs.Words.which
