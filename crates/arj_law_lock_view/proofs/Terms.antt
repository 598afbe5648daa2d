-- What the proofs of this crate name of its own definitions and of the crates below, passed on from one place.
-- Declares nothing.
pub use Rattle.arj_law_lock.proofs.machine.Claims.{Holds}
pub use Rattle.arj_law_lock.proofs.machine.Later.{Later, alive_back, covered_back}
pub use Rattle.arj_law_lock.proofs.machine.Order.{go_on, run_keeps, start_holds, step_keeps}
pub use Rattle.arj_law_lock.proofs.machine.Paths.{act_cases, act_here, act_other, at_here, by_cases, differ, not_below, number_self}
pub use Rattle.arj_law_lock.proofs.machine.Paths.{on_above, on_base, on_root, on_same, on_self, on_top, on_trans, on_up, root_is, same_is}
pub use Rattle.arj_law_lock.proofs.machine.Paths.{same_self, top_action, top_is, top_root}
pub use Rattle.arj_law_lock.proofs.machine.Roots.{roots_low, start_low}
pub use Rattle.arj_law_lock.proofs.machine.Rows.{pass_cases}
pub use Rattle.arj_law_lock.proofs.machine.ValueRun.{start_values}
pub use Rattle.arj_law_lock.specs.machine.Actions.{Act, In, Root, Sub, at_act, depth, is_action, is_top, on, root, same, top}
pub use Rattle.arj_law_lock.specs.machine.Machine.{Guard, Run, handed, next, start, stay, step}
pub use Rattle.arj_law_lock.specs.machine.Rows.{Clear, raise}
pub use Rattle.arj_law_lock.specs.machine.State.{Alive, Ballot, Call, Covered, Entry, Include, IsFree, Message, Open, Request, Server}
pub use Rattle.arj_law_lock.specs.machine.State.{State}
pub use Rattle.arj_law_lock.specs.machine.Steps.{Abort, ActivateCopy, Answered, Apply, BindLive, BindNew, Change, CommitNested, CommitTop}
pub use Rattle.arj_law_lock.specs.machine.Steps.{ConfirmTop, CrashNaming, CrashServer, Decide, DropEntry, DropRows, EndUnit, Event, GiveUp}
pub use Rattle.arj_law_lock.specs.machine.Steps.{Grant, Included, IsCurrent, IsFolded, Keep, KnowsRecorded, Load, LoadsTheLast, Lost}
pub use Rattle.arj_law_lock.specs.machine.Steps.{MayUse, Name, PassEntry, PassRow, PassTop, Record, Refuse, Report, SendConfirm, SendInvoke}
pub use Rattle.arj_law_lock.specs.machine.Steps.{SendVote, Survives, TurnedDown, VoteTop, held_value}
pub use Rattle.arj_law_lock_view.specs.facts.Acts.{KeepsOf, begins_in}
pub use Rattle.arj_law_lock_view.specs.facts.Grants.{HasGrant, IsAbove, IsGranted, IsLow, KnowsGrants, KnowsGrantsBy, KnowsMade, is_bind}
pub use Rattle.arj_law_lock_view.specs.facts.Parted.{AreLeft, IsAskedNow, IsLeft, IsPart, IsSought, KnowsParted, asks_part, names_object}
pub use Rattle.arj_law_lock_view.specs.facts.Requests.{IsAskedBy, KnowsRequests}
pub use Rattle.arj_law_lock_view.specs.facts.Uppers.{AreOfEntries, AreUpper, AsTops, HavePrepared, HaveUpper, HoldsObjects, HoldsUppers}
pub use Rattle.arj_law_lock_view.specs.facts.Uppers.{IsTopOf, PreparesUpper}
pub use Rattle.arj_law_lock_view.specs.facts.Votes.{AreVoted, side_at}
pub use Rattle.arj_law_lock_view.specs.facts.Works.{AreInner, HasNoRoots, KnowsEnds, KnowsWaits}
pub use Rattle.arj_law_lock_view.specs.facts.Worlds.{IsFromOne, Said}
pub use Rattle.arj_law_lock_view.specs.journal.Coordinators.{IsLabelled, IsOnPage, Page, bodies_of}
pub use Rattle.arj_law_lock_view.specs.journal.Lines.{AreCallsOf, AreIncludesOf, EndsSo, IsDecidedAt, IsTiedToLines, included_on, said_on}
pub use Rattle.arj_law_lock_view.specs.journal.Steps.{AreNamed, ArePlain, CallsStay, EndsStay, GoesBeside, StopsSo, is_plain}
pub use Rattle.arj_law_lock_view.specs.journal.Stops.{AreHereOrGone}
pub use Rattle.arj_law_lock_view.specs.records.Claims.{AreAnswered, AreConfirmed, AreFitting, HasIncluded, IsAnswer, IsConfirm, IsMarked}
pub use Rattle.arj_law_lock_view.specs.records.Claims.{IsRecord, SaysBound, SaysNoted, SaysReply, SentAreKnown, WasConfirmed}
pub use Rattle.arj_law_lock_view.specs.records.Coords.{AreRecorded, CallStands, HasNumber, IncludeStands, IsIncluded, IsJoin, IsKept}
pub use Rattle.arj_law_lock_view.specs.records.Coords.{IsOrdered, IsPlanSo, IsRecorded, KnowsKept, KnowsRecords, KnowsSent, StepStands}
pub use Rattle.arj_law_lock_view.specs.records.Coords.{has_store, height, top_number}
pub use Rattle.arj_law_lock_view.specs.records.Runs.{AnswersClaim, Below, EntriesConfirmed, NamingHolds, NamingKnows, RecordsSettle}
pub use Rattle.arj_law_lock_view.specs.records.Tests.{AreBelowLast, Passes, PassesBefore, PassesNaming, PassesNode, Tests}
pub use Rattle.arj_law_lock_view.specs.running.Answers.{KnowsAnswer}
pub use Rattle.arj_law_lock_view.specs.running.Beside.{Case, HoldsNamingIn, IsSeenIn, KnowsEntry, KnowsNaming, KnowsSpot, Spot, told_in}
pub use Rattle.arj_law_lock_view.specs.running.Beside.{view_in, world_at}
pub use Rattle.arj_law_lock_view.specs.running.Coordinating.{AreSends, AreSendsShown, HasStepped, IsAtCommit, IsSendShown, IsWorking}
pub use Rattle.arj_law_lock_view.specs.running.Coordinating.{KnowsAsks, KnowsCoord, OnlyUnit, StepGoes, coord_at, records_at}
pub use Rattle.arj_law_lock_view.specs.running.Fixed.{Fixed, family_of, view_of, StandsFor}
pub use Rattle.arj_law_lock_view.specs.running.Inputs.{KnowsAfter}
pub use Rattle.arj_law_lock_view.specs.running.Posts.{AreToldSo, IsAnswerSeen, IsAnsweredSeen, IsAskedSeen, IsOtherSeen, IsPostSeen}
pub use Rattle.arj_law_lock_view.specs.running.Posts.{IsRequestSeen, IsToldSo, SaysToNaming}
pub use Rattle.arj_law_lock_view.specs.running.Sees.{AreHome, ArePast, AreRecordsOf, HasConfirm, HaveConfirms, IsConfirmedAt, IsFresh}
pub use Rattle.arj_law_lock_view.specs.running.Sees.{IsOverIn, IsPast, IsUnbegun, SeesDown, SeesLocks, SeesMemory, SeesUp, WasAnsweredYes}
pub use Rattle.arj_law_lock_view.specs.running.Sees.{WereConfirmed}
pub use Rattle.arj_law_lock_view.specs.running.Tied.{AreTied, BeginNone}
pub use Rattle.arj_law_lock_view.specs.running.Votes.{AreVotedAt}
pub use Rattle.arj_law_lock_view.specs.running.World.{IsSeenSo, is_for_parts}
pub use Rattle.arj_law_lock_view.specs.view.Acting.{CallersAreHere, IsBacked, IsFirst, IsFreeToEnd, KeepsUnits, OnlyActed}
pub use Rattle.arj_law_lock_view.specs.view.Actions.{AreAlike, IsHere, IsIdle, IsLone, IsPlaced, IsSteady, SeesAction, SeesActions, invokes}
pub use Rattle.arj_law_lock_view.specs.view.Actions.{stage_of}
pub use Rattle.arj_law_lock_view.specs.view.Acts.{Acts, AreOne, IsAlong, IsCaller, IsDeep, IsTopped}
pub use Rattle.arj_law_lock_view.specs.view.Asks.{ShowsAsk}
pub use Rattle.arj_law_lock_view.specs.view.Begins.{IsBeginning, IsUntouched}
pub use Rattle.arj_law_lock_view.specs.view.Bindings.{IsGood, IsUntold}
pub use Rattle.arj_law_lock_view.specs.view.Calling.{IsAtWork, IsReached, IsToInclude, IsWaiting, OnlyCalled, ShowsAnswer, WritesLine}
pub use Rattle.arj_law_lock_view.specs.view.Calling.{WritesNone}
pub use Rattle.arj_law_lock_view.specs.view.Commits.{HasVoted, IsAlone, IsCommitting, IsRightBelow, IsVoteOf, OnlyVote, ballot_for}
pub use Rattle.arj_law_lock_view.specs.view.Commits.{maker_in, value_in}
pub use Rattle.arj_law_lock_view.specs.view.Copies.{AreHeld, Codes, CountsForNone, IsDead, IsNew, IsOver, KeepsServer, MayUndo, OnlyEnds}
pub use Rattle.arj_law_lock_view.specs.view.Copies.{OnlyServer, SeesCopy, SeesOvers, answer_for, base_code, request_for, state_code}
pub use Rattle.arj_law_lock_view.specs.view.Copies.{writer_in}
pub use Rattle.arj_law_lock_view.specs.view.Covers.{HasOfUnit}
pub use Rattle.arj_law_lock_view.specs.view.Ending.{AbortsOnly, ChangesOne, IsOpenAt, KeepsActions, KeepsEnds, KeptEnd, SameEnd, aborted}
pub use Rattle.arj_law_lock_view.specs.view.Ending.{called_at, committed_at, moved_by, now_by}
pub use Rattle.arj_law_lock_view.specs.view.Ends.{AreOwned, MayGo, MayPass, OnlyTold, SeesNothing}
pub use Rattle.arj_law_lock_view.specs.view.Going.{Goes, IsServedBy, NobodyConfirmed, NobodyTold, OnlyNaming, SameConfirmed, ShowsBound}
pub use Rattle.arj_law_lock_view.specs.view.Going.{ShowsNoted}
pub use Rattle.arj_law_lock_view.specs.view.Handling.{AreAnswersShown, IsAskingShown, IsMessageShown, IsTellingShown, OnlyServing}
pub use Rattle.arj_law_lock_view.specs.view.Handling.{ShowsReply, server_after}
pub use Rattle.arj_law_lock_view.specs.view.Hearing.{AreConfirmsAnswered, AreRepliesShown, IsAskedShown, IsEndShown, IsOtherShown}
pub use Rattle.arj_law_lock_view.specs.view.Hearing.{IsRequestShown, IsShownBy, SeesNamingIn, ShowsNamingReply, Site, is_for_naming}
pub use Rattle.arj_law_lock_view.specs.view.Hearing.{naming_after}
pub use Rattle.arj_law_lock_view.specs.view.Including.{IsJoined, IsLoading, IsNoted, OnlyIncluded, SeesIncludes, ShowsInclude}
pub use Rattle.arj_law_lock_view.specs.view.Including.{WritesInclude, included_by}
pub use Rattle.arj_law_lock_view.specs.view.Inputs.{AreTopped, GoesWhole, HasLowGrant, IsOfUnit, OnlyEnded, SeesWhole, plan_now}
pub use Rattle.arj_law_lock_view.specs.view.Listed.{IsTelling}
pub use Rattle.arj_law_lock_view.specs.view.Named.{IsNamedSo, Place, SeesMade, SeesNamed, binding_at}
pub use Rattle.arj_law_lock_view.specs.view.Namings.{HasNothingAt, HaveFirsts, SeesNaming, ShowsConfirmed, ShowsEndAt, StandsFirst}
pub use Rattle.arj_law_lock_view.specs.view.Namings.{place_of}
pub use Rattle.arj_law_lock_view.specs.view.Plans.{AreKept, IsCounted, OnlySent, SeesMachine, SeesNext, SeesPlan, SeesVotes, ShowsToCommit}
pub use Rattle.arj_law_lock_view.specs.view.Plans.{least_inc}
pub use Rattle.arj_law_lock_view.specs.view.Replies.{head_of}
pub use Rattle.arj_law_lock_view.specs.view.Roots.{HasHeard, IsSaid, IsTied, SeesCoord, SeesKeeping, SeesKept, SeesRoot, SeesStep}
pub use Rattle.arj_law_lock_view.specs.view.Roots.{invoke_of, is_early}
pub use Rattle.arj_law_lock_view.specs.view.Rows.{SeesRows, held_in, strength}
pub use Rattle.arj_law_lock_view.specs.view.Sent.{HaveEnded}
pub use Rattle.arj_law_lock_view.specs.view.Servers.{SeesObject, ShowsIfInvoked, ShowsInvoked, Wanted, Wants, last_of, wanted_by}
pub use Rattle.arj_law_lock_view.specs.view.Serving.{HaveOne, IsShown, IsVotedBy, ListsEach, ShowsActivated, post_to, state_in}
pub use Rattle.arj_law_lock_view.specs.view.Stops.{AreAborted, AreUnitsOver, HasStopped, IfDecided, IsDecided, IsUnitOf, OnlyStopped}
pub use Rattle.arj_law_lock_view.specs.view.Telling.{AreBrought, AreOneTree, Family, HasEnded, IsCommittedSo, IsOfFamily, Sees, ShowsEnd}
pub use Rattle.arj_law_lock_view.specs.view.Telling.{View}
pub use Rattle.arj_law_lock_view.specs.view.Voted.{IsCalledIn, KnowsNext, Side, side_of}
pub use Rattle.arj_law_parts.proofs.moves.Together.{walks_both, walks_to}
pub use Rattle.arj_law_parts.proofs.parts.Begun.{begun_fits, begun_tree, on_more, on_own, one_action, path_found, path_length, path_some}
pub use Rattle.arj_law_parts.proofs.parts.Begun.{serial_alone, where_stands}
pub use Rattle.arj_law_parts.proofs.parts.CoordInputs.{behind, good_acts, named_found, off}
pub use Rattle.arj_law_parts.proofs.parts.Decided.{Stand, stand_acked, stand_acts, stand_again, stand_begins, stand_heard}
pub use Rattle.arj_law_parts.proofs.parts.GoodCalls.{untold_path}
pub use Rattle.arj_law_parts.proofs.parts.GoodCoords.{IsSameTree, IsStepOf, actor_is, answer_step, doing_by, doomed_same, giveup_step}
pub use Rattle.arj_law_parts.proofs.parts.GoodCoords.{good_acked, good_again, good_heard, good_on, on_tree, uses_same, vote_step}
pub use Rattle.arj_law_parts.proofs.parts.GoodObjects.{owner_untold}
pub use Rattle.arj_law_parts.proofs.parts.GoodTrees.{above_of, after, all_over, at_others, at_u, ended_b, found_by, get_more, grown_cases}
pub use Rattle.arj_law_parts.proofs.parts.GoodTrees.{grown_still, in_more, new, not_yet, over_below, own_is, place_in, place_same, placed}
pub use Rattle.arj_law_parts.proofs.parts.GoodTrees.{shorter}
pub use Rattle.arj_law_parts.proofs.parts.Keys.{at_in, drop_on, on_with, order_exact, put_cases, put_other, put_same, with_on}
pub use Rattle.arj_law_parts.proofs.parts.Keys.{without_cases, without_other}
pub use Rattle.arj_law_parts.proofs.parts.LivesNamed.{all_each, all_found, all_put}
pub use Rattle.arj_law_parts.proofs.parts.Pairs.{at_each, each_at}
pub use Rattle.arj_law_parts.proofs.parts.SaidIncs.{all_flat, all_map}
pub use Rattle.arj_law_parts.proofs.parts.ServerRuns.{told_follows}
pub use Rattle.arj_law_parts.proofs.parts.Settled.{doing_other, doing_put, end_tree_on, place_length}
pub use Rattle.arj_law_parts.proofs.parts.Stores.{each_passes, either_none}
pub use Rattle.arj_law_parts.proofs.parts.TrueSteps.{true_query, true_records, well_acked, well_acts, well_again, well_heard, work_there}
pub use Rattle.arj_law_parts.specs.moves.Keeps.{IsAtStarts, Keeps, is_act}
pub use Rattle.arj_law_parts.specs.moves.Seen.{AreQuiet, Within, at, down, given, is_quiet_line, posted, said, up}
pub use Rattle.arj_law_parts.specs.moves.Walks.{Stops, Up, Walks, halted}
pub use Rattle.arj_law_parts.specs.parts.Actions.{Action, AreBegun, MayBegin, Stands, act_of, action_of, owner_in, owners_of, paths_of}
pub use Rattle.arj_law_parts.specs.parts.Claims.{AreTrue, GoesOn, IsSettled}
pub use Rattle.arj_law_parts.specs.parts.Coords.{IsAsking, IsBusy, IsGoodCoord, IsVoting}
pub use Rattle.arj_law_parts.specs.parts.Copies.{IsLowest, IsTree, Paths}
pub use Rattle.arj_law_parts.specs.parts.Ends.{IsSure}
pub use Rattle.arj_protocol.specs.Follow.{ends_in}
pub use Rattle.arj_law_parts.specs.parts.Frames.{outs_of}
pub use Rattle.arj_law_parts.specs.parts.Messages.{FitsAsk, FitsAsked, FitsMessage, IsAsker, IsTopAction}
pub use Rattle.arj_law_parts.specs.parts.Objects.{IsGoodObject, IsToldOf, IsUnrecorded, Untold}
pub use Rattle.arj_law_parts.specs.parts.Requests.{AreNumbered, IsNumbered}
pub use Rattle.arj_law_parts.specs.parts.Rows.{AreGoodRows, Told}
pub use Rattle.arj_law_parts.specs.parts.Servers.{has_end_of}
pub use Rattle.arj_law_parts.specs.parts.Tops.{Fits, IsHolder, IsTop, Owners}
pub use Rattle.arj_law_parts.specs.parts.Trees.{HasLists, MayStand}
pub use Rattle.arj_law_runs.proofs.addresses.BindPlans.{counted_said, plan_keeps, retained, surviving}
pub use Rattle.arj_law_runs.proofs.addresses.BindRuns.{answers_fit, binds_keep}
pub use Rattle.arj_law_runs.proofs.addresses.Lists.{all_append, all_filter, all_key, all_with, all_without, never, some_is}
pub use Rattle.arj_law_runs.proofs.calls.CoordCalls.{heard_keeping, not_idle, step_is, went_keeping}
pub use Rattle.arj_law_runs.proofs.calls.CoordCommits.{not_calling}
pub use Rattle.arj_law_runs.proofs.calls.CoordKnown.{doing_here, loose_of, went_said}
pub use Rattle.arj_law_runs.proofs.calls.CoordOuts.{acked_so, acts_so, again_so, again_work, heard_so, query_so, tolds_so}
pub use Rattle.arj_law_runs.proofs.calls.CoordSends.{AllQuiet, AllSo, IsSentBy, SendsSo}
pub use Rattle.arj_law_runs.proofs.calls.Given.{KeepsGiven, kept_both}
pub use Rattle.arj_law_runs.proofs.calls.WorldSteps.{no_answer, no_request, reads_back}
pub use Rattle.arj_law_runs.proofs.coordinators.CoordUses.{on_cases, on_roots}
pub use Rattle.arj_law_runs.proofs.journal.Models.{named_in}
pub use Rattle.arj_law_runs.proofs.kept.Begins.{begin_good}
pub use Rattle.arj_law_runs.proofs.kept.Handled.{own_of_disk, tops_of_disk}
pub use Rattle.arj_law_runs.proofs.kept.Starts.{first_at, first_up, live_first}
pub use Rattle.arj_law_runs.proofs.kept.Walked.{other_number, same_number}
pub use Rattle.arj_law_runs.specs.addresses.Addresses.{IsEntry}
pub use Rattle.arj_law_runs.specs.addresses.Binds.{AnswersAt, AnswersWaiting, BindsAreKnown, IsThere, KnowsBinds}
pub use Rattle.arj_law_runs.specs.calls.Bindings.{AreSaid}
pub use Rattle.arj_law_runs.specs.calls.Coords.{IsOfStep, IsSpent, bare}
pub use Rattle.arj_law_runs.specs.calls.Lived.{HasGiven}
pub use Rattle.arj_law_runs.specs.calls.Runs.{KnowsFew}
pub use Rattle.arj_law_runs.specs.journal.Laws.{AreDistinct, called_of}
pub use Rattle.arj_law_runs.specs.kept.Worlds.{IsGoodOf, IsUp}
pub use Rattle.arj_model.specs.Actions.{Begun, Halt, Placed, act_in, acts, acts_after, begun_of, committed_of, ended_of, halt_of}
pub use Rattle.arj_model.specs.Actions.{numbered, put, read, recovered, recovered_of}
pub use Rattle.arj_model.specs.Serial.{Values}
pub use Rattle.arj_start.specs.Start.{Marks}
pub use Rattle.arj_protocol.specs.Commit.{answered, given_up}
pub use Rattle.arj_protocol.specs.Effect.{moved}
pub use Rattle.arj_protocol.specs.Server.{kept_after, taken_end}
pub use Rattle.arj_protocol.specs.Step.{disk_by, entry_by}
pub use Rattle.std.specs.Option.{option_map}
pub use Rattle.arj_journal.specs.declared.body.Body.TheVariants as body
pub use Rattle.arj_law_lock.specs.machine.Machine as machine_run
pub use Rattle.arj_law_lock.specs.machine.State as machine
pub use Rattle.arj_law_lock.specs.machine.Steps as event
pub use Rattle.arj_law_parts.proofs.parts.Keys as keys
pub use Rattle.arj_law_parts.proofs.parts.SaidIncs as each
pub use Rattle.arj_law_parts.specs.moves.Seen as seen
pub use Rattle.arj_law_runs.specs.addresses.Binds as binds
pub use Rattle.arj_model.specs.Actions as model
