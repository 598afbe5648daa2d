-- The words of std, of the messages and of the protocol that the laws' proofs use, passed on from one place.
-- Declares nothing.
pub use Rattle.arj_base.proofs.Paths.{last_taken}
pub use Rattle.arj_base.proofs.Uids.{uid_cases, uid_is, uid_isnt, uid_other, uid_same}
pub use Rattle.arj_base.specs.Mode.{conflicting, stronger, strongest}
pub use Rattle.arj_base.specs.Order.{uid_order}
pub use Rattle.arj_base.specs.Path.{before_last, top_uid}
pub use Rattle.arj_base.specs.Rows.{front, goes_to, handed_on, has_any, has_row, is_against, is_heir, is_row_of, mode_of, passed, renamed}
pub use Rattle.arj_base.specs.Rows.{strengthened}
pub use Rattle.arj_base.specs.State.{is_object_class, state_bytes}
pub use Rattle.arj_base.specs.Uid.{nobody}
pub use Rattle.arj_base.specs.contracts.uid.UidOrd.TheImpl.Laws.{total-law}
pub use Rattle.arj_base.specs.declared.mode.Mode.TheVariants.{Exclude, Read, Write}
pub use Rattle.arj_base.specs.declared.state.Class.{Class}
pub use Rattle.arj_class.specs.Forms.{PairsFit, ValueInForm}
pub use Rattle.arj_class.specs.Keys.{KeysRise}
pub use Rattle.arj_class.specs.Table.{has_op, is_full_for, is_value_of, is_write, own_class, put_pair}
pub use Rattle.arj_class.specs.declared.value.Value.{Value}
pub use Rattle.arj_class.specs.declared.value.Value.TheVariants.{Account, Counter, Queue, Register, Table}
pub use Rattle.arj_lock.proofs.Leaves.{gone_any, grant_any, grant_clear, grant_each, kept_any, kept_from}
pub use Rattle.arj_lock.proofs.Members.{In, in_filter, in_filter_map, in_find, in_find_none, in_from, in_map, in_to}
pub use Rattle.arj_lock.proofs.OneEach.{none_in, one_each_filter, one_each_grant, one_each_map}
pub use Rattle.arj_lock.proofs.PassLeaves.{came_by, only_found, pass_fewer, pass_mode, stays_in, which}
pub use Rattle.arj_lock.proofs.Passes.{in_left, in_right}
pub use Rattle.arj_lock.proofs.Paths.{heir_is, on_front, on_last, on_parts}
pub use Rattle.arj_lock.proofs.Uniqueness.{one_each_pass}
pub use Rattle.arj_lock.specs.Exclusion.{IsOneEach}
pub use Rattle.arj_lock.specs.Passing.{CameBy, passed_on, passing, passing_mode, stayed}
pub use Rattle.arj_msg.proofs.PathLaws.{path_is}
pub use Rattle.arj_promise.specs.Disks.{DisksAre, IsReadingOf, pair_in, record_of}
pub use Rattle.arj_promise.specs.Excluded.{DiskIsInTime, DiskTakesOut, DisksAreInTime, HasPrepared, IsNew, Wrote, lines_before, uid_of}
pub use Rattle.arj_promise.specs.Held.{HoldsEach, IsWrittenIn, caller_at, is_number, is_upper_of, joins_top, joins_with, locks_call}
pub use Rattle.arj_promise.specs.Held.{locks_entry, writes_entry}
pub use Rattle.arj_promise.specs.Outcome.{ShowsOneOutcome, each_behind}
pub use Rattle.arj_promise.specs.Promise.{EndsAtRest}
pub use Rattle.arj_promise.specs.Resting.{AreGivenUp, AreIdle, AreQuiet, AreUp, EndsQuiet, HoldAllStates, NobodyWaits}
pub use Rattle.arj_promise.specs.Runs.{AreEventsInForm, AreMovesInForm, AreStopsInForm, IsInForm, Move, Post, Seen, all_moved, as_moves}
pub use Rattle.arj_promise.specs.Runs.{journal_by, most_events, moved, see, world_by}
pub use Rattle.arj_promise.specs.Serial.{IsSerialBy}
pub use Rattle.arj_promise.specs.Waiting.{HasAnswer, IsAnswerTo, IsOvertaken, IsPlainIn, IsSaid, IsSameWork, IsToSettle, StillWaits}
pub use Rattle.arj_promise.specs.Waiting.{WaitsOvertaken, coord_in, coord_of, is_plain, is_refusal}
pub use Rattle.arj_start.specs.Start.{Start}
pub use Rattle.arj_promise.specs.Starts.{IsFormed}
pub use Rattle.arj_protocol.proofs.CoordSays.{acked_own, acts_own, again_own, heard_own, map_own, query_own, tolds_again_own}
pub use Rattle.arj_protocol.proofs.Maps.{place_other, put_other, put_same}
pub use Rattle.arj_protocol.proofs.Messages.{request_reads_back, response_reads_back}
pub use Rattle.arj_protocol.proofs.Numbers.{number_tells}
pub use Rattle.arj_protocol.proofs.PartSays.{activate_own, all_both, all_flat, all_if, bind_own, confirm_own, ends_own, invoke_own}
pub use Rattle.arj_protocol.proofs.PartSays.{note_own, told_own, vote_own}
pub use Rattle.arj_protocol.proofs.Payloads.{entry_back, value_back}
pub use Rattle.arj_protocol.proofs.States.{made_over}
pub use Rattle.arj_protocol.proofs.Quiet.{Quiet, all_quiet, coord_quiet}
pub use Rattle.arj_protocol.proofs.RowSteps.{after_both, one_or_two, same_number}
pub use Rattle.arj_protocol.proofs.Steps.{steps_lines}
pub use Rattle.arj_protocol.proofs.Taken.{taken_took}
pub use Rattle.arj_protocol.specs.Ask.{Reply, actor, answers, ask_kind, asked_by, differs, frame_kind, last_end, reply_kind, response}
pub use Rattle.arj_protocol.specs.Ask.{top_of, top_path}
pub use Rattle.arj_protocol.specs.Asking.{again_all, again_now, asks_all, asks_machine, asks_node, asks_step, began_line, begin_action}
pub use Rattle.arj_protocol.specs.Asking.{call, call_steps, commit_action, commit_open, commit_top, commits_in, doomed_by, end_line}
pub use Rattle.arj_protocol.specs.Asking.{ends_call, gaveup_lines, give_up, give_up_call, give_up_doing, given_away, gives_up, goes_on}
pub use Rattle.arj_protocol.specs.Asking.{granted_by, heard, heard_by, heard_call, heard_doing, heard_none, heard_now, include, is_ended}
pub use Rattle.arj_protocol.specs.Asking.{is_invoke_ask, keeps_after, kept_at, known_at_start, last_req, mark_lines, moved_commit}
pub use Rattle.arj_protocol.specs.Asking.{next_req, notes_grant, renewed, root_heard, root_lost, root_moved, same_kept, step_call}
pub use Rattle.arj_protocol.specs.Asking.{step_commit, store_of, waits_for_call, waits_for_commit, was_named}
pub use Rattle.arj_protocol.specs.Call.{Answered, At, AtActivate, AtBind, AtInvoke, AtLoad, AtNote, CallEnd, CallStep, Changed, Conflict}
pub use Rattle.arj_protocol.specs.Call.{Ended, Goal, Include, Included, Known, Lost, Moved, On, Run, Steps, activated_by, answered, ask_at}
pub use Rattle.arj_protocol.specs.Call.{bound_answer, bound_by, finds, given_up, has_changed, invoked_answer, is_include, is_invoke}
pub use Rattle.arj_protocol.specs.Call.{live_known, load_from, loaded_answer, loaded_state, made_by, made_known, moves, named_again}
pub use Rattle.arj_protocol.specs.Call.{next_ask, next_node, node_at, or_lost, other_binding, recorded_answer, recorded_kept, same_binding}
pub use Rattle.arj_protocol.specs.Call.{spoils, start, start_at, two_bindings, two_incs, with_inc, write_known}
pub use Rattle.arj_protocol.specs.Commit.{Aborts, Asks, CommitStep, Confirming, Decides, Machine, Marked, Plan, Preparing, Stays, Used}
pub use Rattle.arj_protocol.specs.Commit.{Voting, ask_of, begin_confirm, begin_prepare, begin_vote, changed_of, confirm_ask, first_of}
pub use Rattle.arj_protocol.specs.Commit.{further, has_record, included_of, is_at_server, is_marked, joins_left, least_of}
pub use Rattle.arj_protocol.specs.Commit.{left_of, marks_at, marks_store, marks_stores, naming_node, nodes_given_up, participants, plainly}
pub use Rattle.arj_protocol.specs.Commit.{plan_of, servers_of, state_by, state_for, states_for, stores_by, stores_left, targets_of}
pub use Rattle.arj_protocol.specs.Commit.{vote_ask, votes_left, waiting, with_mark, with_marks, with_state, with_states}
pub use Rattle.arj_protocol.specs.Confirm.{Grants, Marks, adds_store, back_lines, checked, confirm, confirm_entries, confirm_new, confirms}
pub use Rattle.arj_protocol.specs.Confirm.{conflict_in, entries_after, entry_after, entry_state, first_of_each, has_all, is_bare, is_there}
pub use Rattle.arj_protocol.specs.Confirm.{is_wanted, lock_all, lock_in, marked, mode_back, named_back, other_grant, pending_of}
pub use Rattle.arj_protocol.specs.Confirm.{prepared_by, recovered_lines, recovered_naming, refused_exclude, rows_back, same_nodes}
pub use Rattle.arj_protocol.specs.Confirm.{stores_after, wanted, wants_lock, with_stores, without_stores}
pub use Rattle.arj_protocol.specs.Coord.{Calling, Committing, Coord, Doing, Grant, Idle, Joined, Keeping, Now, Root, Said, Went}
pub use Rattle.arj_protocol.specs.Coord.{branch_calls, calls_now, calls_on, change_doing, counts, counts_grant, doing_of, granted_with}
pub use Rattle.arj_protocol.specs.Coord.{is_call, is_called, is_constituent_branch, is_free, is_grant_of, is_kept_top, is_retained}
pub use Rattle.arj_protocol.specs.Coord.{joined_in, joined_with, joins_on, keeping_of, kept_of, known_for, later_state, latest_of}
pub use Rattle.arj_protocol.specs.Coord.{least_grant, loaded_for, named_last, new_coord, no_keeping, no_root, nodes_sent, nothing_known}
pub use Rattle.arj_protocol.specs.Coord.{number_of, objects_in, of_root, on_doing, on_root, or_kept_state, others_call, plan_for}
pub use Rattle.arj_protocol.specs.Coord.{retained_in, retains, root_at, said_in, said_of, same_join, same_said, same_went, second_uid}
pub use Rattle.arj_protocol.specs.Coord.{servers_told, set_doing, survives, top_uses, uid_at, used_of, used_with, with_grant, with_join}
pub use Rattle.arj_protocol.specs.Coord.{with_keeping, with_said, with_went}
pub use Rattle.arj_protocol.specs.Copy.{Base, Copy, Over, ask_copy, changed_state, current, end_copy, folded, grant_lines, invoke_copy}
pub use Rattle.arj_protocol.specs.Copy.{is_granted, is_of, is_top_in, is_top_over, over_of, overs_committed, raised, row_for, rows_asked}
pub use Rattle.arj_protocol.specs.Copy.{run_copy, settled, state_over, taken_copy, undone, written}
pub use Rattle.arj_protocol.specs.Effect.{Abort, After, Already, Before, Commit, Did, Disk, Do, Effect, InDoubt, InPart, Intent, Look, Old}
pub use Rattle.arj_protocol.specs.Effect.{Pair, Prep, Prepare, PutInc, PutIntent, Ready, RemoveIntent, Say, Send, Served, Stop, Work}
pub use Rattle.arj_protocol.specs.Effect.{by_holder, did_nothing, either, first_refusal, held_at, holder_of, in_part, is_old, is_prepared}
pub use Rattle.arj_protocol.specs.Effect.{moved_some, names_object, new_states, pair_aborted, pair_committed, pair_in_part, pair_prepared}
pub use Rattle.arj_protocol.specs.Effect.{prepare_answer, refusal_in, refusal_of, reply, state_eq, stopped, void, worked}
pub use Rattle.arj_protocol.specs.Ending.{abort_action, aborts_with, acked, acked_by, acked_left, all_aborted, answer_decided, answer_query}
pub use Rattle.arj_protocol.specs.Ending.{answer_recorded, decide, decided, decided_told, ended, ends_with, is_deferred, is_kept_commit}
pub use Rattle.arj_protocol.specs.Ending.{is_member_of, keeping_after, kept_after, let_go, list_after, record_work, root_after}
pub use Rattle.arj_protocol.specs.Ending.{root_or_self, say_for, says, states_after, tell, tell_all, tolds_by, tolds_let_go, tolds_of}
pub use Rattle.arj_protocol.specs.Ending.{tolds_of_branch, took_part, up_to}
pub use Rattle.arj_protocol.specs.Follow.{AreEntries, FitsPath, NamingFollows, TablesFollow, ends_in, tick_outs}
pub use Rattle.arj_protocol.specs.Laws.{AreOfActions, Holders, effects_of, effects_of_node, effects_until, names_grant, rows_after, rows_by}
pub use Rattle.arj_protocol.specs.Laws.{rows_in_copy, rows_in_named, server_rows}
pub use Rattle.arj_protocol.specs.Named.{Counted, Live, Made, Named, bind_call, bind_made, bind_named, bound_new, conflict_on, end_named}
pub use Rattle.arj_protocol.specs.Named.{entry_row, hello_named, in_use, include_asked, is_lowered, is_write_row, live_above}
pub use Rattle.arj_protocol.specs.Named.{live_after, live_asked, lock_lines, locked, lower_lines, lowered, made_above, make_asked}
pub use Rattle.arj_protocol.specs.Named.{next_server, note_made, note_named, note_other, unnamed}
pub use Rattle.arj_protocol.specs.Naming.{Naming, bind, end_entries, end_lines, end_locks, end_orphans, entry_of, has_locks, hello, is_over}
pub use Rattle.arj_protocol.specs.Naming.{listed_entry, loses, loses_row, note, on_counted, on_named, orphans, own_entries, taken_end}
pub use Rattle.arj_protocol.specs.Naming.{told_new}
pub use Rattle.arj_protocol.specs.Node.{Handled, Here, Parts, Ran, Took, Void, ack_told, answer_is_meant, are_of_objects, ask_is_meant}
pub use Rattle.arj_protocol.specs.Node.{asked_is_meant, by_reply, coord_heard, copy_has_op, end_states, first_done, first_queued, handle}
pub use Rattle.arj_protocol.specs.Node.{handle_all, handle_answer, handle_ask, handle_ends, handle_hello, handle_other, handle_told}
pub use Rattle.arj_protocol.specs.Node.{holders, if_naming, is_earlier, is_loaded_for, is_loaded_in, is_meant, is_object, load_by}
pub use Rattle.arj_protocol.specs.Node.{load_held, locks_of, most_rounds, naming_hello, naming_told, next_round, prepare_by, prepare_states}
pub use Rattle.arj_protocol.specs.Node.{prepared_actions, query_about, ran, ran_handled, reply_is_meant, rounds, sends_answer, serve}
pub use Rattle.arj_protocol.specs.Node.{served, stand_once, store_told, taken, whole, with_coord, with_naming, with_server}
pub use Rattle.arj_start.specs.Limits.{most_actions, most_frames, most_labels}
pub use Rattle.arj_start.specs.Kinds.{is_constituent, is_serial}
pub use Rattle.arj_protocol.specs.Order.{is_binding, is_empty}
pub use Rattle.arj_protocol.specs.Order.{at_number, at_uid, binding_eq, binding_less, binding_number, drop_uid, each, has, next_version}
pub use Rattle.arj_protocol.specs.Order.{number_set, put_number, put_uid, uid_number, uid_set, unbound, with_number, with_uid}
pub use Rattle.arj_protocol.specs.Order.{without_number, without_uid}
pub use Rattle.arj_protocol.specs.Says.{AreAll, is_coord_effect, is_coord_line, is_names_work, is_naming_effect, is_naming_line}
pub use Rattle.arj_protocol.specs.Says.{is_server_effect, is_server_line}
pub use Rattle.arj_protocol.specs.Server.{Kept, Server, activate, active_binding, apply_ends, binding_of, changed_by, changed_copy}
pub use Rattle.arj_protocol.specs.Server.{changed_states, end_new, end_one, first_unbound, has_ended, invoke, invoke_kept, invoke_new}
pub use Rattle.arj_protocol.specs.Server.{invoke_now, is_below, is_told, is_top, keeps, new_server, on_copy, other_inc, row_top}
pub use Rattle.arj_protocol.specs.Server.{server_holders, told, took_copy, vote, vote_now}
pub use Rattle.arj_protocol.specs.Step.{Begin, Call, Crash, GiveUp, Input, Node, Restart, Show, Step, Tick, abort_reasons, acts}
pub use Rattle.arj_protocol.specs.Step.{begin_reasons, begin_refusal, branch_named, branch_numbered, call_reasons, class_at, class_in}
pub use Rattle.arj_protocol.specs.Step.{commit_reasons, coord_did, copy_line, entries_at, entry_line, first_disk, first_entry, first_node}
pub use Rattle.arj_protocol.specs.Step.{node_by}
pub use Rattle.arj_protocol.specs.Step.{first_reason, first_state, frame_step, giveup_reasons, handled_step, hello_to}
pub use Rattle.arj_protocol.specs.Step.{include_reasons, is_below_16, is_committing, is_committing_now, is_idle, is_sibling, is_waiting}
pub use Rattle.arj_protocol.specs.Step.{is_waiting_now, lacks_op, naming_at, naming_back, node_did, numbers_to, on_branch, only_says}
pub use Rattle.arj_protocol.specs.Step.{parent_of, parts_in, put_states, recovered_records, refusal, refusal_at, refusal_up, refused_by}
pub use Rattle.arj_protocol.specs.Step.{restart_outs, show_entry, show_outs, shown, sibling_waits, step, step_down, step_of, step_unless}
pub use Rattle.arj_protocol.specs.Step.{step_up, tick_step, tolds_again, void_step, waits, waits_above, waits_below}
pub use Rattle.arj_protocol.specs.Tree.{Branch, Family, Tree, at_place, begun, begun_by, behind, branch_of, doomed_at, doomed_branch}
pub use Rattle.arj_protocol.specs.Tree.{ended_at, ended_branch, ended_so, ends_of, family_of, has_end, has_many_objects, has_open_child}
pub use Rattle.arj_protocol.specs.Tree.{is_aborted, is_committed, is_merged, is_nested, is_open, is_open_below}
pub use Rattle.arj_protocol.specs.Tree.{is_open_branch, is_own, is_parent, is_spent, latest_first, listed_end}
pub use Rattle.arj_protocol.specs.Tree.{new_tree, next_uid, no_family, open_below, path_below, root_of, set_place, uses_object, with_family}
pub use Rattle.arj_protocol.specs.Values.{gone_class, state_entry, state_value, value_in}
pub use Rattle.arj_protocol.specs.Words.{Answer, Ask, Asked, Binding, Body, BoundReply, Cause, ConfirmedReply, End, Entry, Event, FrameNo}
pub use Rattle.arj_protocol.specs.Words.{Head, Header, InvokedReply, Kind, Label, Line, LoadedReply, Message, Mode, ObjectLine, ObjectState}
pub use Rattle.arj_protocol.specs.Words.{Op, Part, Path, PreparedReply, RecordedReply, Role, Row, Uid, VotedReply, What, answer_of}
pub use Rattle.arj_protocol.specs.Words.{answer_text, asks, class_code_of, class_of, drop_rows, entry, first_conflict, first_uid, grant_row}
pub use Rattle.arj_protocol.specs.Words.{is_held_by, is_listed, is_on, label_cmp, last_uid, lower_row, mode_code, name, object, op_mode}
pub use Rattle.arj_protocol.specs.Words.{pass_rows, path_of, payload_of, request, tops_of, uid_eq, uids_of, value_after, with_store}
pub use Rattle.arj_protocol.specs.Words.{without_store, writes}
pub use Rattle.arj_protocol.specs.World.{Arm, Cut, Frame, Giving, Labelled, World, armed, as_delivered, as_lost, begins, begins_any, bodies}
pub use Rattle.arj_protocol.specs.World.{change_frame, count_works, counted, cut, deliver, deliver_frame, disarmed, done_step, format}
pub use Rattle.arj_protocol.specs.World.{world_from}
pub use Rattle.arj_protocol.specs.World.{frame_number, frames_with, gives_label, giving, halted_at, halted_outs, happens, is_frame}
pub use Rattle.arj_protocol.specs.World.{is_given, is_known, was_given, is_node, is_open_frame, is_quiet, is_up, is_up_at}
pub use Rattle.arj_protocol.specs.World.{junk, junk_fits}
pub use Rattle.arj_protocol.specs.World.{kind_below, labelled, labels_unless, lacks_labels, limited, lose, lose_frame, lowest, lowest_from}
pub use Rattle.arj_protocol.specs.World.{new_frame, no_labels, node_in, node_numbers, node_of, numbered, put}
pub use Rattle.arj_protocol.specs.World.{quiesce, quiet_line, reasons, refused_at, run_all, run_event, run_unless, sends, sent_line}
pub use Rattle.arj_protocol.specs.World.{set_node, settle, settle_for, show_all, show_up, step_node, step_with, steps, tick_all, tick_up}
pub use Rattle.std.proofs.Common.{Bool, Contains, List, None, Option, Some, [], ap, append-nil, arith, cond, eq-eqb, eqb-true, false}
pub use Rattle.std.proofs.Common.{filter, find, inl, inr, length, lt_irrefl, lt_trans, ltb-true, map, max, min, nat_lt, not, refl, reverse}
pub use Rattle.std.proofs.Common.{rules, subst, suc, suc-le-suc, sym, take, true, zero, zero-lt-suc, ℕ, ⊎_elim, ◌&&◌, ◌*◌, ◌++◌, ◌+◌, ◌-◌}
pub use Rattle.std.proofs.Common.{◌<◌, ◌==◌, ◌||◌, ◌∙◌, ◌∷◌, ◌≡◌, ◌≢◌, ◌≤◌, ◌⊎◌}
pub use Rattle.std.proofs.lemmas.Bool.{and_parts, false_from_ne_true, leb-true, or_cases, or_left, or_parts, or_right}
pub use Rattle.std.proofs.lemmas.Bool.Decides.{nat_tests}
pub use Rattle.std.proofs.lemmas.Cmp.{tied_itself}
pub use Rattle.std.proofs.lemmas.List.{append_assoc, length-append, length-map, length-take-le, map-append, reverse-append, take-append-le}
pub use Rattle.std.proofs.lemmas.List.Elements.{filter-append}
pub use Rattle.std.proofs.lemmas.List.Folds.{list_any-append}
pub use Rattle.std.proofs.lemmas.Slice.Eq.{bytes_eq-Decides}
pub use Rattle.std.specs.BTreeMap.{insert_entry, is_at}
pub use Rattle.std.specs.Cmp.Lexicographic.{slice_cmp}
pub use Rattle.std.specs.FinMap.{nat_cmp-IsAntisymmetric}
pub use Rattle.std.specs.List.{AllByRecursion, cons_option, filter_map, flat_map, list_all, list_any}
pub use Rattle.std.specs.Map.{lookup}
pub use Rattle.std.specs.Ordering.{is_eq, match_ordering, nat_cmp}
pub use Rattle.std.specs.Prelude.{IfSome, if◌then◌else◌, is_some, nat_le, option_map, slice_get, slice_index_or, slice_set, unwrap_or, ⊤}
pub use Rattle.std.specs.Str.{bytes_eq}
pub use Rattle.std.specs.declared.cmp.Ordering.{Ordering}
pub use Rattle.std.specs.declared.cmp.Ordering.TheVariants.{Equal, Greater, Less}
pub use Rattle.arj_base.specs.declared.state.Class.TheVariants as class
pub use Rattle.arj_class.specs.declared.value.Value.TheVariants as value
pub use Rattle.arj_lock.proofs.Members as list
pub use Rattle.arj_protocol.proofs.Maps as maps
pub use Rattle.arj_protocol.specs.Call as calls
pub use Rattle.arj_protocol.specs.Commit as commit
pub use Rattle.arj_protocol.specs.Coord as coord
pub use Rattle.arj_protocol.specs.Effect as effect
pub use Rattle.arj_protocol.specs.Follow as follow
pub use Rattle.arj_protocol.specs.Named as naming_named
pub use Rattle.arj_protocol.specs.Naming as naming
pub use Rattle.arj_protocol.specs.Order as order
pub use Rattle.arj_protocol.specs.Server as server
pub use Rattle.arj_protocol.specs.Step as input
pub use Rattle.arj_protocol.specs.Words as words
pub use Rattle.arj_protocol.specs.Words.ask
pub use Rattle.arj_protocol.specs.Words.body
pub use Rattle.arj_protocol.specs.Words.bound
pub use Rattle.arj_protocol.specs.Words.cause
pub use Rattle.arj_protocol.specs.Words.confirmed
pub use Rattle.arj_protocol.specs.Words.ending
pub use Rattle.arj_protocol.specs.Words.event
pub use Rattle.arj_protocol.specs.Words.frame
pub use Rattle.arj_protocol.specs.Words.frame_no
pub use Rattle.arj_protocol.specs.Words.invoked
pub use Rattle.arj_protocol.specs.Words.kind
pub use Rattle.arj_protocol.specs.Words.loaded
pub use Rattle.arj_protocol.specs.Words.message
pub use Rattle.arj_protocol.specs.Words.mode
pub use Rattle.arj_protocol.specs.Words.part
pub use Rattle.arj_protocol.specs.Words.prepared
pub use Rattle.arj_protocol.specs.Words.recorded
pub use Rattle.arj_protocol.specs.Words.role
pub use Rattle.arj_protocol.specs.Words.voted
pub use Rattle.arj_protocol.specs.Words.what
pub use Rattle.arj_protocol.specs.World as world
