-- Further wrong lines, each against one condition of its cause.
use Rattle.std.specs.Prelude.{◌≡◌, refl, [], ◌∷◌, ◌++◌, true, None, replicate}
use Rattle.arj_base.specs.declared.mode.Mode.TheVariants.{Read, Write}
use Rattle.arj_base.specs.declared.mode.End.TheVariants.{Abort}
use Rattle.arj_class.specs.declared.op.Op.TheVariants as op
use Rattle.arj_journal.specs.declared.body.Body.TheVariants as body
use Rattle.arj_journal.specs.declared.body.Cause.TheVariants as cause
use Rattle.arj_journal.specs.declared.body.Difference.TheVariants as difference
use Rattle.arj_journal.specs.declared.body.FrameKind.TheVariants as frame
use Rattle.arj_journal.specs.declared.body.Kind.TheVariants as kind
use Rattle.arj_journal.specs.declared.body.Part.TheVariants as part
use Rattle.arj_journal.specs.declared.body.Role.TheVariants as role
use Rattle.arj_journal.specs.declared.event.Event.TheVariants as event
use Rattle.arj_journal.specs.declared.event.FrameNo.TheVariants.{Number}
use Rattle.arj_cause_tests.proofs.Words.{after, b, instead, l, lacking, of_other_event, run, u, without}
use Rattle.arj_cause_tests.proofs.Worked.{conflict, exclusion, lost_lock, nested_abort, rebinding}
use Rattle.arj_cause_tests.proofs.Rare.{aborted_lost, changed_bind_naming}
use Rattle.arj_cause_tests.proofs.Rarer.{changed_inc_server, conflict_pending}
use Rattle.arj_cause_tests.proofs.WrongEvents.{begins, two_nodes}

-- Locks: for another action than the one that called, for another object, for one that asked nothing.

granted_to_other : lacking (instead 32 (body.Granted 3 (u 1 1 1) (u 0 0 1) Write) rebinding) ≡ 32 ∷ 35 ∷ 41 ∷ []
granted_to_other = refl

granted_on_other : lacking (after 6 (body.Granted 1 (u 1 1 1) (u 0 0 2) Write ∷ []) conflict) ≡ 7 ∷ []
granted_on_other = refl

entry_to_other : lacking (after 8 (body.Granted 1 (u 1 1 2) (u 0 1 1) Read ∷ []) conflict) ≡ 9 ∷ 10 ∷ []
entry_to_other = refl

other_entry : lacking (after 2 (body.Granted 1 (u 1 1 1) (u 0 1 2) Write ∷ []) conflict) ≡ 3 ∷ []
other_entry = refl

lowered_elsewhere : lacking (instead 5 (body.Lowered 2 (u 1 1 1) (u 0 1 1)) conflict) ≡ 5 ∷ 9 ∷ []
lowered_elsewhere = refl

lowered_object : lacking (after 6 (body.Lowered 1 (u 1 1 1) (u 0 0 1) ∷ []) conflict) ≡ 7 ∷ 11 ∷ []
lowered_object = refl

bound_other : lacking (after 3 (body.Bound 2 (b 1 2) 0 ∷ []) conflict) ≡ 4 ∷ []
bound_other = refl

active_other : lacking (after 4 (body.Active 1 2 (b 1 1) ∷ []) conflict) ≡ 5 ∷ []
active_other = refl

told_twice : lacking (after 12 (body.Told 1 (u 1 1 2) Abort part.Server ∷ []) nested_abort) ≡ 13 ∷ []
told_twice = refl

-- States: before the commit, and found at another node than the action's.

prepared_early : lacking (after 11 (body.Prepared 2 (u 1 1 1) role.Store ∷ []) exclusion) ≡ 12 ∷ []
prepared_early = refl

recovered_elsewhere : lacking (after 25 (body.Recovered 1 (u 2 1 1) ∷ []) conflict_pending) ≡ 26 ∷ 59 ∷ 61 ∷ []
recovered_elsewhere = refl

-- Frames: to or from no node, junk of a node or from nobody, a message from nobody, junk that is taken, and events that deliver or
-- lose nothing.

sent_nowhere : lacking (instead 7 (body.Sent 2 2 9 frame.Activated) lost_lock) ≡ 7 ∷ []
sent_nowhere = refl

sent_by_none : lacking (after 15 (body.Sent 5 9 1 frame.Hello ∷ []) lost_lock) ≡ 16 ∷ 19 ∷ []
sent_by_none = refl

junk_of_node : lacking (after 15 (body.Sent 5 2 1 frame.Junk ∷ []) lost_lock) ≡ 16 ∷ 19 ∷ []
junk_of_node = refl

junk_of_nobody : lacking (after 15 (body.Sent 5 0 1 frame.Junk ∷ []) lost_lock) ≡ 16 ∷ 19 ∷ []
junk_of_nobody = refl

message_of_nobody : lacking (run two_nodes ((event.Junk 1 (255 ∷ []), body.Sent 1 0 1 frame.Hello ∷ []) ∷ [])) ≡ 1 ∷ []
message_of_nobody = refl

junk_taken : lacking (run two_nodes ((event.Junk 1 (255 ∷ []), body.Sent 1 0 1 frame.Junk ∷ []) ∷ (event.Deliver (Number 1), body.Got 1 ∷ []) ∷ [])) ≡ 2 ∷ []
junk_taken = refl

void_elsewhere : lacking (after 17 (body.Void 4 ∷ []) lost_lock) ≡ 18 ∷ []
void_elsewhere = refl

dropped_none : lacking (run two_nodes ((event.Lose (Number 9), body.Dropped 9 ∷ []) ∷ [])) ≡ 1 ∷ []
dropped_none = refl

-- What is told of the run: a refusal as doomed where a lower cause holds, rest with a node down, another server, payload or node.

refused_lower : lacking (of_other_event 9 (event.Include (l 78) 1 9) rebinding) ≡ 16 ∷ []
refused_lower = refl

quiet_down : lacking (run two_nodes ((event.Crash 1, body.Halted 1 ∷ []) ∷ (event.Quiesce, body.Quiet true ∷ []) ∷ [])) ≡ 2 ∷ []
quiet_down = refl

entry_of_others : lacking (instead 35 (body.Entry 1 1 (2 ∷ []) (2 ∷ [])) exclusion) ≡ 35 ∷ []
entry_of_others = refl

copy_of_other : lacking (instead 36 (body.Copy 2 1 1 (u 1 1 1) (replicate 7 0 ++ 2 ∷ [])) exclusion) ≡ 36 ∷ []
copy_of_other = refl

copy_down : lacking (run two_nodes ((event.Crash 1, body.Halted 1 ∷ []) ∷ (event.Show 1, body.Copy 1 1 0 (u 0 0 0) (replicate 8 0) ∷ []) ∷ [])) ≡ 2 ∷ []
copy_down = refl

-- Answers: lost twice, no difference, a binding that was never made, calls of another object or root.

lost_twice : lacking (after 15 (body.GaveUp (l 78) 2 ∷ body.Lost (l 78) 2 ∷ []) rebinding) ≡ 16 ∷ 17 ∷ []
lost_twice = refl

same_inc : lacking (instead 18 (body.Changed (l 65) 2 (difference.Inc 2 2)) (after 17 (body.Active 2 1 (b 1 2) ∷ []) changed_inc_server)) ≡ 18 ∷ 19 ∷ []
same_inc = refl

never_bound : lacking (instead 27 (body.Changed (l 68) 1 (difference.Bind (b 1 2) (b 2 1))) changed_bind_naming) ≡ 27 ∷ []
never_bound = refl

other_object : lacking (of_other_event 3 (event.Call (l 69) 2 op.Get) changed_bind_naming) ≡ 5 ∷ 27 ∷ 34 ∷ []
other_object = refl

other_root : lacking (instead 2 (body.Began (l 69) kind.Top (u 2 1 2) None) changed_bind_naming) ≡ 27 ∷ []
other_root = refl

-- Ends: twice aborted, twice given up, a commit that wasn't called, and an action that isn't serializing. A doomed nested action may commit,
-- by the causes of its lines.

aborted_twice : lacking (after 11 (body.Aborted (l 78) cause.Asked ∷ []) nested_abort) ≡ 12 ∷ []
aborted_twice = refl

gaveup_twice : lacking (after 20 (body.GaveUp (l 65) 3 ∷ []) exclusion) ≡ 21 ∷ []
gaveup_twice = refl

doomed_commits : lacking (instead 17 (body.Committed (l 78)) rebinding) ≡ []
doomed_commits = refl

lost_uncalled : lacking (without 12 aborted_lost) ≡ 12 ∷ 14 ∷ 15 ∷ []
lost_uncalled = refl

serial_ends : lacking (run two_nodes ((event.Serial (l 83) 1, body.Began (l 83) kind.Serial (u 1 1 1) None ∷ []) ∷ (event.Commit (l 83), body.Ended (l 83) ∷ []) ∷ [])) ≡ []
serial_ends = refl

serial_aborts : lacking (run two_nodes ((event.Serial (l 83) 1, body.Began (l 83) kind.Serial (u 1 1 1) None ∷ []) ∷ (event.Abort (l 83), body.Ended (l 83) ∷ []) ∷ [])) ≡ 2 ∷ []
serial_aborts = refl

top_ends : lacking (run two_nodes (begins ∷ (event.Commit (l 65), body.Ended (l 65) ∷ []) ∷ [])) ≡ 2 ∷ []
top_ends = refl
