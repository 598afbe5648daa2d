-- Wrong work of nodes, and of the world: in each run one line is changed, and lines lack their cause.
use Rattle.std.specs.Prelude.{◌≡◌, refl, [], ◌∷◌, true}
use Rattle.arj_base.specs.declared.mode.Mode.TheVariants.{Read, Exclude, Write}
use Rattle.arj_base.specs.declared.mode.End.TheVariants.{Abort, Commit}
use Rattle.arj_journal.specs.declared.body.Body.TheVariants as body
use Rattle.arj_journal.specs.declared.body.FrameKind.TheVariants as frame
use Rattle.arj_journal.specs.declared.body.Part.TheVariants as part
use Rattle.arj_journal.specs.declared.body.Role.TheVariants as role
use Rattle.arj_cause_tests.proofs.Words.{u, b, lacking, without, instead, after}
use Rattle.arj_cause_tests.proofs.Worked.{conflict, exclusion, independent, lost_lock, naming_stopped, nested_abort, no_store_left}
use Rattle.arj_cause_tests.proofs.Worked.{rebinding, stop_at_decision_done}
use Rattle.arj_cause_tests.proofs.Rarer.{conflict_pending}

-- `granted`: against another lock, raising nothing, or for nobody.

granted_1 : lacking (without 21 exclusion) ≡ 21 ∷ 22 ∷ 23 ∷ 34 ∷ 36 ∷ []
granted_1 = refl

granted_2 : lacking (instead 9 (body.Granted 1 (u 1 1 2) (u 0 1 1) Write) independent) ≡ 9 ∷ []
granted_2 = refl

granted_3 : lacking (instead 17 (body.Granted 1 (u 1 1 2) (u 0 0 1) Exclude) conflict) ≡ 17 ∷ 18 ∷ []
granted_3 = refl

granted_4 : lacking (instead 9 (body.Granted 1 (u 1 1 2) (u 0 1 1) Write) conflict) ≡ 9 ∷ []
granted_4 = refl

granted_5 : lacking (after 6 (body.Granted 1 (u 1 1 1) (u 0 0 1) Write ∷ []) conflict) ≡ 7 ∷ []
granted_5 = refl

granted_6 : lacking (instead 9 (body.Granted 1 (u 1 1 2) (u 0 1 1) Write) nested_abort) ≡ 9 ∷ 10 ∷ 12 ∷ []
granted_6 = refl

granted_7 : lacking (after 17 (body.Granted 2 (u 1 1 1) (u 0 0 1) Read ∷ []) lost_lock) ≡ 18 ∷ []
granted_7 = refl

granted_8 : lacking (instead 32 (body.Granted 1 (u 2 1 1) (u 0 1 2) Exclude) naming_stopped) ≡ 32 ∷ []
granted_8 = refl

-- `lowered`: no write lock, or no copy.

lowered_1 : lacking (after 5 (body.Lowered 1 (u 1 1 1) (u 0 1 1) ∷ []) conflict) ≡ 6 ∷ []
lowered_1 = refl

lowered_2 : lacking (without 6 lost_lock) ≡ 8 ∷ 24 ∷ []
lowered_2 = refl

-- `bound`: not the next binding, not the server in turn, or no write lock.

bound_1 : lacking (instead 3 (body.Bound 1 (b 1 2) 1) conflict) ≡ 3 ∷ 4 ∷ []
bound_1 = refl

bound_2 : lacking (instead 22 (body.Bound 1 (b 1 2) 2) rebinding) ≡ 22 ∷ 26 ∷ []
bound_2 = refl

bound_3 : lacking (without 21 rebinding) ≡ 21 ∷ 28 ∷ []
bound_3 = refl

-- `active`: never bound so, or not newer.

active_1 : lacking (instead 4 (body.Active 1 1 (b 1 2)) conflict) ≡ 4 ∷ []
active_1 = refl

active_2 : lacking (instead 26 (body.Active 2 1 (b 1 2)) rebinding) ≡ 26 ∷ []
active_2 = refl

active_3 : lacking (after 4 (body.Active 1 1 (b 1 1) ∷ []) conflict) ≡ 5 ∷ []
active_3 = refl

-- `told commit`: it isn't committed.

told_commit_1 : lacking (instead 41 (body.Told 3 (u 1 1 1) Commit part.Server) rebinding) ≡ 41 ∷ []
told_commit_1 = refl

-- `told abort`: it is open.

told_abort_1 : lacking (instead 12 (body.Told 1 (u 1 1 1) Abort part.Server) nested_abort) ≡ 12 ∷ 13 ∷ 19 ∷ []
told_abort_1 = refl

-- `told`: no lock is left there.

told_1 : lacking (after 26 (body.Told 2 (u 1 1 1) Abort part.Server ∷ []) lost_lock) ≡ 27 ∷ []
told_1 = refl

told_2 : lacking (without 15 (after 16 (body.Told 1 (u 1 1 1) Commit part.Server ∷ []) conflict)) ≡ 16 ∷ []
told_2 = refl

-- `prepared`: its commit wasn't called, or it changes nothing there.

prepared_1 : lacking (after 4 (body.Prepared 2 (u 1 1 1) role.Store ∷ []) (without 17 exclusion)) ≡ 5 ∷ 24 ∷ []
prepared_1 = refl

prepared_2 : lacking (after 20 (body.Prepared 1 (u 1 1 1) role.Store ∷ []) lost_lock) ≡ 21 ∷ []
prepared_2 = refl

prepared_3 : lacking (without 21 (without 22 exclusion)) ≡ 21 ∷ 22 ∷ 33 ∷ 35 ∷ []
prepared_3 = refl

prepared_4 : lacking (instead 33 (body.Prepared 2 (u 2 1 1) role.Names) naming_stopped) ≡ 33 ∷ []
prepared_4 = refl

-- `done commit`: it isn't committed.

done_commit_1 : lacking (after 17 (body.Done 2 (u 1 1 1) role.Store Commit ∷ []) exclusion) ≡ 18 ∷ []
done_commit_1 = refl

done_commit_2 : lacking (after 23 (body.Done 2 (u 1 1 1) role.Store Commit ∷ []) no_store_left) ≡ 24 ∷ []
done_commit_2 = refl

done_commit_3 : lacking (without 26 stop_at_decision_done) ≡ 31 ∷ 34 ∷ 42 ∷ 43 ∷ []
done_commit_3 = refl

-- `done abort`: it hasn't ended, or is committed and the store not excluded.

done_abort_1 : lacking (after 17 (body.Done 2 (u 1 1 1) role.Store Abort ∷ []) exclusion) ≡ 18 ∷ []
done_abort_1 = refl

done_abort_2 : lacking (instead 31 (body.Done 2 (u 1 1 1) role.Store Abort) exclusion) ≡ 31 ∷ []
done_abort_2 = refl

-- `up`: no greater incarnation, or another node.

up_1 : lacking (instead 48 (body.Up 1 1) naming_stopped) ≡ 48 ∷ []
up_1 = refl

up_2 : lacking (instead 17 (body.Up 1 2) lost_lock) ≡ 17 ∷ 18 ∷ 22 ∷ 23 ∷ 25 ∷ 27 ∷ 28 ∷ []
up_2 = refl

-- `recovered`: not in its restart, or its commit wasn't called.

recovered_1 : lacking (after 17 (body.Recovered 2 (u 1 1 1) ∷ []) lost_lock) ≡ 18 ∷ []
recovered_1 = refl

recovered_2 : lacking (without 12 stop_at_decision_done) ≡ 16 ∷ 19 ∷ 25 ∷ []
recovered_2 = refl

recovered_3 : lacking (after 24 (body.Recovered 1 (u 1 1 1) ∷ []) stop_at_decision_done) ≡ 25 ∷ []
recovered_3 = refl

-- `sent`: not the next number, or from a node that is down.

sent_1 : lacking (instead 7 (body.Sent 3 2 1 frame.Activated) lost_lock) ≡ 7 ∷ 8 ∷ 10 ∷ []
sent_1 = refl

sent_2 : lacking (after 16 (body.Sent 5 2 1 frame.Hello ∷ []) (without 18 lost_lock)) ≡ 17 ∷ []
sent_2 = refl

-- `got`: not sent yet, its receiver down, or out of order.

got_1 : lacking (instead 5 (body.Got 2) lost_lock) ≡ 5 ∷ 8 ∷ 11 ∷ 14 ∷ 21 ∷ 22 ∷ 24 ∷ 28 ∷ []
got_1 = refl

got_2 : lacking (instead 42 (body.Got 12) naming_stopped) ≡ 42 ∷ []
got_2 = refl

got_3 : lacking (instead 30 (body.Got 8) (instead 33 (body.Got 7) conflict_pending)) ≡ 30 ∷ []
got_3 = refl

-- `void`: the node is up, and takes it.

void_1 : lacking (instead 43 (body.Void 13) naming_stopped) ≡ 43 ∷ []
void_1 = refl

-- `dropped`: not sent yet.

dropped_1 : lacking (instead 15 (body.Dropped 5) exclusion) ≡ 15 ∷ 19 ∷ 30 ∷ 33 ∷ 34 ∷ []
dropped_1 = refl

-- `quiet`: something is open, or the event is another.

quiet_1 : lacking (without 62 conflict_pending) ≡ 62 ∷ []
quiet_1 = refl

quiet_2 : lacking (without 47 conflict_pending) ≡ 62 ∷ []
quiet_2 = refl

quiet_3 : lacking (instead 47 (body.Quiet true) naming_stopped) ≡ 47 ∷ 60 ∷ 62 ∷ 63 ∷ 64 ∷ 65 ∷ 69 ∷ 70 ∷ []
quiet_3 = refl

-- `entry`: not as the journal says, or in another event.

entry_1 : lacking (instead 35 (body.Entry 1 0 (1 ∷ []) (2 ∷ [])) exclusion) ≡ 35 ∷ []
entry_1 = refl

entry_2 : lacking (instead 35 (body.Entry 1 1 (1 ∷ []) (2 ∷ 3 ∷ [])) exclusion) ≡ 35 ∷ []
entry_2 = refl

entry_3 : lacking (instead 34 (body.Entry 1 1 (1 ∷ []) (2 ∷ [])) exclusion) ≡ 34 ∷ []
entry_3 = refl

-- `copy`: another version or writer than the last one.

copy_1 : lacking (instead 36 (body.Copy 2 1 2 (u 1 1 1) (0 ∷ 0 ∷ 0 ∷ 0 ∷ 0 ∷ 0 ∷ 0 ∷ 1 ∷ [])) exclusion) ≡ 36 ∷ []
copy_1 = refl

copy_2 : lacking (instead 36 (body.Copy 2 1 1 (u 0 0 0) (0 ∷ 0 ∷ 0 ∷ 0 ∷ 0 ∷ 0 ∷ 0 ∷ 1 ∷ [])) exclusion) ≡ 36 ∷ []
copy_2 = refl
