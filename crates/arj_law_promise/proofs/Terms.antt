-- What the proofs of this crate name of its own definitions and of the crates below, passed on from one place.
-- Declares nothing.
pub use Rattle.arj_journal.specs.ScriptForm.{ObjectLineInForm}
pub use Rattle.arj_promise.specs.Runs.{HeaderFits}
pub use Rattle.arj_law_disk_view.proofs.running.Lists.{all_each}
pub use Rattle.arj_law_runs.proofs.kept.Starts.{first_at, first_up, live_first}
pub use Rattle.arj_law_disk_view.proofs.view.Frames.{node_here}
pub use Rattle.arj_law_disk_view.proofs.view.HeardWalks.{is_say}
pub use Rattle.arj_law_disk_view.proofs.view.Marks.{has_without}
pub use Rattle.arj_law_disk_view.proofs.view.Planned.{has_set, has_with}
pub use Rattle.arj_law_disk_view.proofs.view.ServedWalks.{bind_says, note_says}
pub use Rattle.arj_law_disk_view.specs.running.Places.{HasNaming, IsSince}
pub use Rattle.arj_law_disk_view.specs.running.Records.{AreRecorded, IsRecorded, IsRooted}
pub use Rattle.arj_law_disk_view.specs.running.States.{Fits, NowIsSo, Own, OwnOf}
pub use Rattle.arj_law_disk_view.specs.view.Sees.{is_awaited_by}
pub use Rattle.arj_law_lock_view.proofs.facts.Acts.{kept_of}
pub use Rattle.arj_law_lock_view.proofs.facts.Asked.{waiting_acked, waiting_acts, waiting_again, waiting_begins, waiting_heard, waiting_new}
pub use Rattle.arj_law_lock_view.proofs.facts.CommitCoords.{AreAt, IsNext, at_again, at_begins, at_heard}
pub use Rattle.arj_law_lock_view.proofs.facts.CoordRuns.{IsKeptBy, PlaceAt, Sender, coords_keep, coords_plain}
pub use Rattle.arj_law_lock_view.proofs.facts.Kept.{Place}
pub use Rattle.arj_law_lock_view.proofs.facts.PartSends.{AllSeek}
pub use Rattle.arj_law_lock_view.proofs.facts.PartSteps.{has_in}
pub use Rattle.arj_law_lock_view.proofs.facts.Requests.{requests_keep}
pub use Rattle.arj_law_lock_view.proofs.records.Quiet.{AllQuiet}
pub use Rattle.arj_law_lock_view.specs.facts.Acts.{KeepsOf}
pub use Rattle.arj_law_lock_view.specs.facts.Entries.{HasObject}
pub use Rattle.arj_law_lock_view.specs.facts.Parted.{IsPart, KnowsParted, KnowsParts, asks_part}
pub use Rattle.arj_law_lock_view.specs.facts.Requests.{AreAsked, IsAskedBy, RequestsAreKnown}
pub use Rattle.arj_law_lock_view.specs.facts.Uppers.{IsTopOf, ObjectsAreHeld}
pub use Rattle.arj_law_lock_view.specs.facts.Worlds.{WorksAreKnown}
pub use Rattle.arj_law_parts.proofs.moves.Happens.{keeps_asked}
pub use Rattle.arj_law_parts.proofs.moves.Moving.{move_asked, moves_asked}
pub use Rattle.arj_law_parts.proofs.moves.Together.{walks_both, walks_to}
pub use Rattle.arj_law_parts.proofs.parts.Begun.{begun_tree, on_own, one_action, path_found, serial_alone, where_stands}
pub use Rattle.arj_law_parts.proofs.parts.CoordInputs.{named_found, off}
pub use Rattle.arj_law_parts.proofs.parts.GoodCoords.{actor_is, doing_by, doomed_same}
pub use Rattle.arj_law_parts.proofs.parts.GoodTrees.{found_by}
pub use Rattle.arj_law_parts.proofs.parts.Keys.{at_in, in_at, order_exact, put_cases, put_other, put_same, with_on, without_cases}
pub use Rattle.arj_law_parts.proofs.parts.Keys.{without_other}
pub use Rattle.arj_law_parts.proofs.parts.LivesNamed.{all_at, all_put, keyed_each, keyed_found, keyed_put}
pub use Rattle.arj_law_parts.proofs.parts.SaidIncs.{all_both, all_flat, all_map}
pub use Rattle.arj_law_parts.proofs.parts.Settled.{node_on}
pub use Rattle.arj_law_parts.proofs.parts.Tellings.{asks_telling, doing_telling, ended_telling}
pub use Rattle.arj_law_parts.proofs.parts.TrueSteps.{true_query, well_acked, well_acts, well_again, well_heard, work_there}
pub use Rattle.arj_law_parts.specs.moves.Keeps.{Holds, IsAtStarts, Keeps, KeepsAsked, is_act}
pub use Rattle.arj_law_parts.specs.moves.Seen.{AreQuiet, In, at, down, given, is_quiet_line, posted, said, up}
pub use Rattle.arj_law_parts.specs.moves.Walks.{Up, Walks, halted}
pub use Rattle.arj_law_parts.specs.parts.Actions.{Action, AreBegun, Stands, act_of, action_of, paths_of}
pub use Rattle.arj_law_parts.specs.parts.AskedObjects.{IsUsedIn}
pub use Rattle.arj_law_parts.specs.parts.Claims.{AreTrue, GoesOn, IsSettled, is_of_coord}
pub use Rattle.arj_law_parts.specs.parts.Coords.{IsAsking, IsBusy, IsCommitting, IsGoodCoord, IsVoting}
pub use Rattle.arj_law_parts.specs.parts.Copies.{IsTree, Paths}
pub use Rattle.arj_law_parts.specs.parts.Ends.{told_by}
pub use Rattle.arj_law_parts.specs.parts.Messages.{AreOfTops, IsDecided}
pub use Rattle.arj_law_parts.specs.parts.Objects.{AreSorted}
pub use Rattle.arj_law_parts.specs.parts.Requests.{AreNumbered, AreOnce, IsNumbered}
pub use Rattle.arj_law_promise.specs.settling.Prepared.{AskersAreSettled, AsksForItself, HasPrepared, IsAskedNode, IsForItself, MeansAsked}
pub use Rattle.arj_law_promise.specs.settling.Prepared.{PreparedWereAsked, WasAsked, preparer, preparer_in}
pub use Rattle.arj_law_promise.specs.settling.Settled.{AskersSettle, DisksAreKnown, KnowsPrepared}
pub use Rattle.arj_law_promise.specs.waiting.Asked.{ActivateNamed, Claims, HasMade, HaveForms, IsAnsweredBy, MadeWasSaid, NamedAt}
pub use Rattle.arj_law_promise.specs.waiting.Asked.{NamedWasSaid, ReplyWasAsked, ServerWasAsked, StandsIn, StepsNamed}
pub use Rattle.arj_law_promise.specs.waiting.Asked.{WasBrought, WasMade, WasNamed, WereAsked}
pub use Rattle.arj_law_promise.specs.waiting.Waits.{HasStored, LoadsFind, WaitsAreKnown}
pub use Rattle.arj_law_promise.specs.waiting.Writers.{AnsweredIsBy, ArePastWriters, AreSince, AskIsBy, AskedIsBy, CoordIsBy, EffectIsBy}
pub use Rattle.arj_law_promise.specs.waiting.Writers.{IsBy}
pub use Rattle.arj_law_promise.specs.waiting.Writers.{IsOwnOrBy, IsPastWriter, NowIsBy, PairIsBy, PlanIsBy, ReplyIsBy, RootIsBy}
pub use Rattle.arj_law_runs.proofs.addresses.BindRuns.{answers_fit}
pub use Rattle.arj_law_runs.proofs.addresses.Lists.{all_append, all_at_uid, all_filter, all_some, all_without, some_is}
pub use Rattle.arj_law_runs.proofs.addresses.Runs.{kept}
pub use Rattle.arj_law_runs.proofs.calls.CoordOuts.{acked_so, acts_so, again_so, heard_so, query_so, tolds_so}
pub use Rattle.arj_law_runs.proofs.calls.CoordSends.{AllSo, IsSentBy, SendsSo, so_both}
pub use Rattle.arj_law_runs.proofs.calls.Given.{KeepsGiven, given_more, keeps_given, kept_both}
pub use Rattle.arj_law_runs.proofs.calls.WorldSteps.{no_answer, no_request}
pub use Rattle.arj_law_runs.proofs.coordinators.CoordUses.{on_cases}
pub use Rattle.arj_law_runs.proofs.journal.Books.{Later, book_more, later_from, named_is}
pub use Rattle.arj_law_runs.proofs.journal.Models.{named_in}
pub use Rattle.arj_law_runs.proofs.journal.Paths.{IsPathedOf}
pub use Rattle.arj_law_runs.proofs.journal.Runs.{lines_keep}
pub use Rattle.arj_law_runs.proofs.journal.Tops.{is_sound}
pub use Rattle.arj_law_runs.proofs.kept.AllRuns.{all_keep}
pub use Rattle.arj_law_runs.proofs.kept.Handled.{good_coord, it, own_of_disk, tops_of_disk}
pub use Rattle.arj_law_runs.proofs.kept.Walked.{other_number, same_number}
pub use Rattle.arj_law_runs.proofs.resting.GiveUps.{over_before}
pub use Rattle.arj_law_runs.proofs.resting.Quiesces.{asked_both, keeps_good}
pub use Rattle.arj_law_runs.specs.addresses.Addresses.{AreAddressed, IsNode}
pub use Rattle.arj_law_runs.specs.addresses.Binds.{AnswersWaiting, BindsAreKnown}
pub use Rattle.arj_law_runs.specs.calls.Coords.{IsOfStep, bare}
pub use Rattle.arj_law_runs.specs.journal.Book.{Book, book, book_from, is_decided, is_top, new_book, turned, uid_in}
pub use Rattle.arj_law_runs.specs.journal.Knows.{IsKept, IsKnown, KnowsNode}
pub use Rattle.arj_law_runs.specs.journal.Paths.{IsAlikeOf}
pub use Rattle.arj_law_runs.specs.journal.Right.{AreRight, IsSaid, Right}
pub use Rattle.arj_law_runs.specs.kept.Worlds.{IsGood, IsGoodOf, IsMemory, IsUp}
pub use Rattle.arj_law_runs.specs.resting.Quiet.{SettlesAll}
pub use Rattle.arj_law_runs.specs.resting.Rounds.{AnswersWaits, IsVoid}
pub use Rattle.arj_law_serial.proofs.joint.ByMessage.{by_coord, by_message}
pub use Rattle.arj_law_serial.proofs.joint.Called.{right_front}
pub use Rattle.arj_law_serial.proofs.joint.Comes.{IsAt, came_acts, waits_not}
pub use Rattle.arj_law_serial.proofs.joint.FormRuns.{kept_forms}
pub use Rattle.arj_law_serial.proofs.joint.Mute.{AllSilent, restart_silent}
pub use Rattle.arj_law_serial.proofs.joint.Restarting.{restart_each, restart_said}
pub use Rattle.arj_law_serial.proofs.past.Past.{past_keep}
pub use Rattle.arj_law_serial.proofs.whole.Of.{of_both, of_more}
pub use Rattle.arj_law_serial.proofs.whole.Whole.{records_of}
pub use Rattle.arj_law_serial.specs.joint.Forms.{AreSo, kind_of, stored}
pub use Rattle.arj_law_serial.specs.past.Told.{ArePastIn, EndsArePast, IsClosedAt, IsPast, live_in}
pub use Rattle.arj_law_serial.specs.whole.Aborts.{IsPartAsked}
pub use Rattle.arj_law_serial.specs.whole.Acks.{AcksAreKnown, HasAcked, IsDemanded, IsPartOf, WasRecorded, acked_in, records_in}
pub use Rattle.arj_law_serial.specs.whole.Called.{UsesOf}
pub use Rattle.arj_model.specs.Actions.{Act, act_in, acts}
pub use Rattle.arj_model.specs.Last.{first_values}
pub use Rattle.arj_start.specs.Start.{Mark, Marks}
pub use Rattle.arj_promise.specs.Starts.{IsOlder, next_inc}
pub use Rattle.arj_protocol.specs.Step.{disk_by, entries_from, entry_by, older_at, state_by, states_from}
pub use Rattle.arj_model.specs.Outcome.{may_abort, was_excluded}
pub use Rattle.arj_protocol.specs.Effect.{moved}
pub use Rattle.arj_protocol.specs.Ending.{is_over}
pub use Rattle.std.proofs.Common.{flat_map}
pub use Rattle.arj_base.specs.declared.mode.End.TheVariants as ending
pub use Rattle.arj_journal.specs.declared.body.Body.TheVariants as body
pub use Rattle.arj_journal.specs.declared.body.Role.TheVariants as role
pub use Rattle.arj_law_disk_view.proofs.view.Keys as keys
pub use Rattle.arj_law_parts.specs.parts.Objects as objects
