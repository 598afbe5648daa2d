-- Wrong answers of calls and includes: in each run one line is changed, and lines lack their cause.
use Rattle.std.specs.Prelude.{◌≡◌, refl, [], ◌∷◌, codes}
use Rattle.arj_base.specs.declared.mode.Mode.TheVariants.{Read, Exclude, Write}
use Rattle.arj_base.specs.declared.mode.End.TheVariants.{Abort}
use Rattle.arj_class.specs.declared.op.Op.TheVariants as op
use Rattle.arj_class.specs.declared.value.Value.TheVariants as value
use Rattle.arj_journal.specs.declared.body.Body.TheVariants as body
use Rattle.arj_journal.specs.declared.body.Cause.TheVariants as cause
use Rattle.arj_journal.specs.declared.body.Difference.TheVariants as difference
use Rattle.arj_journal.specs.declared.body.FrameKind.TheVariants as frame
use Rattle.arj_journal.specs.declared.body.Role.TheVariants as role
use Rattle.arj_cause_tests.proofs.Words.{l, u, b, lacking, without, instead, after, before}
use Rattle.arj_cause_tests.proofs.Worked.{conflict, gone, inclusion, independent, lost_lock, naming_stopped, nested_abort, rebinding}
use Rattle.arj_cause_tests.proofs.Worked.{sibling_waits}
use Rattle.arj_cause_tests.proofs.Rare.{aborted_listed, changed_bind_naming}
use Rattle.arj_cause_tests.proofs.Rarer.{changed_bind_server, changed_inc_naming, changed_inc_server, conflict_pending}

-- `ok`: the lock isn't there where the answer was given, or it answers something else.

ok_1 : lacking (without 32 rebinding) ≡ 34 ∷ 40 ∷ 52 ∷ []
ok_1 = refl

ok_2 : lacking (instead 12 (body.Granted 2 (u 1 1 1) (u 0 1 1) Read) lost_lock) ≡ 12 ∷ 15 ∷ []
ok_2 = refl

ok_3 : lacking (instead 13 (body.Ok (l 65) 1 (op.Add 4) (codes "done")) nested_abort) ≡ 13 ∷ []
ok_3 = refl

ok_4 : lacking (instead 17 (body.Granted 1 (u 1 1 2) (u 0 0 1) Read) conflict) ≡ 17 ∷ 18 ∷ []
ok_4 = refl

ok_5 : lacking (after 18 (body.Ok (l 66) 1 (op.Add 3) (codes "done") ∷ []) conflict) ≡ 19 ∷ 27 ∷ []
ok_5 = refl

ok_6 : lacking (instead 33 (body.Sent 8 3 2 frame.Invoked) rebinding) ≡ 35 ∷ []
ok_6 = refl

ok_7 : lacking (instead 10 (body.Ok (l 65) 1 (op.Create (value.Counter 8)) (codes "done")) gone) ≡ 10 ∷ 24 ∷ []
ok_7 = refl

-- `includes`: another store, or no write lock on the entry.

includes_1 : lacking (instead 44 (body.Includes (l 73) 1 2) inclusion) ≡ 44 ∷ 62 ∷ 78 ∷ []
includes_1 = refl

includes_2 : lacking (without 39 inclusion) ≡ 43 ∷ 55 ∷ []
includes_2 = refl

includes_3 : lacking (instead 3 (body.Granted 1 (u 1 1 2) (u 0 1 1) Read) aborted_listed) ≡ 4 ∷ []
includes_3 = refl

-- `conflict` at a server or at naming: not the first lock that stands against it, or nobody waits.

conflict_1 : lacking (instead 10 (body.Conflict (l 66) (u 1 1 2) Write 1) conflict) ≡ 10 ∷ []
conflict_1 = refl

conflict_2 : lacking (instead 10 (body.Conflict (l 66) (u 1 1 1) Exclude 1) conflict) ≡ 10 ∷ []
conflict_2 = refl

conflict_3 : lacking (instead 10 (body.Conflict (l 66) (u 1 1 1) Write 2) conflict) ≡ 10 ∷ []
conflict_3 = refl

conflict_4 : lacking (instead 32 (body.Conflict (l 75) (u 1 1 1) Write 2) sibling_waits) ≡ 32 ∷ []
conflict_4 = refl

conflict_5 : lacking (instead 32 (body.Conflict (l 75) (u 1 1 3) Write 2) sibling_waits) ≡ 32 ∷ []
conflict_5 = refl

conflict_6 : lacking (instead 59 (body.Conflict (l 66) (u 2 1 1) Exclude 2) naming_stopped) ≡ 59 ∷ []
conflict_6 = refl

conflict_7 : lacking (instead 10 (body.Conflict (l 84) (u 1 1 2) Read 1) independent) ≡ 10 ∷ []
conflict_7 = refl

conflict_8 : lacking (without 49 naming_stopped) ≡ 58 ∷ 66 ∷ []
conflict_8 = refl

conflict_9 : lacking (after 8 (body.Conflict (l 66) (u 1 1 1) Write 1 ∷ []) conflict) ≡ 9 ∷ 11 ∷ 19 ∷ []
conflict_9 = refl

conflict_10 : lacking (instead 22 (body.Sent 7 2 3 frame.Invoked) (instead 24 (body.Sent 8 2 3 frame.Invoked) (instead 27 (body.Sent 9 2 3 frame.Invoked) sibling_waits))) ≡ 29 ∷ 32 ∷ []
conflict_10 = refl

-- `conflict` at a store: no state of that top may be prepared there.

conflict_pending_1 : lacking (without 31 conflict_pending) ≡ 46 ∷ []
conflict_pending_1 = refl

conflict_pending_2 : lacking (instead 47 (body.Conflict (l 66) (u 2 1 1) Write 1) conflict_pending) ≡ 47 ∷ []
conflict_pending_2 = refl

conflict_pending_3 : lacking (instead 47 (body.Conflict (l 66) (u 2 1 1) Exclude 3) conflict_pending) ≡ 47 ∷ []
conflict_pending_3 = refl

conflict_pending_4 : lacking (instead 31 (body.Prepared 3 (u 2 1 1) role.Names) conflict_pending) ≡ 31 ∷ 47 ∷ []
conflict_pending_4 = refl

conflict_pending_5 : lacking (before 28 (body.Prepared 3 (u 2 1 1) role.Store ∷ body.Aborted (l 65) (cause.Changed 1 (difference.Inc 1 2)) ∷ body.Done 3 (u 2 1 1) role.Store Abort ∷ []) (without 31 (without 51 conflict_pending))) ≡ 29 ∷ 49 ∷ []
conflict_pending_5 = refl

conflict_pending_6 : lacking (without 20 conflict_pending) ≡ 30 ∷ 33 ∷ 46 ∷ 50 ∷ []
conflict_pending_6 = refl

conflict_pending_7 : lacking (after 23 (body.Halted 4 ∷ []) (without 34 (instead 47 (body.Conflict (l 66) (u 2 1 1) Write 4) conflict_pending))) ≡ 24 ∷ 34 ∷ 35 ∷ 38 ∷ 47 ∷ 59 ∷ 63 ∷ []
conflict_pending_7 = refl

-- `lost`: not what this event gave up.

lost_1 : lacking (instead 15 (body.Lost (l 78) 3) rebinding) ≡ 15 ∷ 16 ∷ 17 ∷ []
lost_1 = refl

lost_2 : lacking (without 14 rebinding) ≡ 14 ∷ []
lost_2 = refl

lost_3 : lacking (after 13 (body.GaveUp (l 77) 2 ∷ body.Lost (l 77) 2 ∷ []) (without 14 (without 15 sibling_waits))) ≡ 14 ∷ 15 ∷ []
lost_3 = refl

-- `gaveup`: of an action or a node that isn't waited for.

gaveup_1 : lacking (instead 14 (body.GaveUp (l 65) 2) rebinding) ≡ 14 ∷ 15 ∷ []
gaveup_1 = refl

gaveup_2 : lacking (instead 14 (body.GaveUp (l 78) 3) rebinding) ≡ 14 ∷ 15 ∷ []
gaveup_2 = refl

-- `changed inc`: no such incarnations.

changed_inc_1 : lacking (instead 18 (body.Changed (l 65) 2 (difference.Inc 2 1)) changed_inc_server) ≡ 18 ∷ []
changed_inc_1 = refl

changed_inc_2 : lacking (instead 18 (body.Changed (l 65) 2 (difference.Inc 1 3)) changed_inc_server) ≡ 18 ∷ []
changed_inc_2 = refl

changed_inc_3 : lacking (without 9 changed_inc_server) ≡ 9 ∷ 14 ∷ 15 ∷ 17 ∷ []
changed_inc_3 = refl

changed_inc_4 : lacking (without 6 changed_inc_server) ≡ 11 ∷ 17 ∷ []
changed_inc_4 = refl

changed_inc_5 : lacking (instead 18 (body.Changed (l 65) 1 (difference.Inc 1 2)) changed_inc_server) ≡ 18 ∷ []
changed_inc_5 = refl

changed_inc_6 : lacking (without 4 (without 14 (without 18 changed_inc_naming))) ≡ 4 ∷ 16 ∷ 17 ∷ 18 ∷ 21 ∷ 23 ∷ 24 ∷ []
changed_inc_6 = refl

-- `changed bind`: no such copies or bindings.

changed_bind_1 : lacking (instead 27 (body.Changed (l 68) 1 (difference.Bind (b 2 1) (b 1 1))) changed_bind_naming) ≡ 27 ∷ []
changed_bind_1 = refl

changed_bind_2 : lacking (instead 27 (body.Changed (l 68) 1 (difference.Bind (b 1 1) (b 2 2))) changed_bind_naming) ≡ 27 ∷ []
changed_bind_2 = refl

changed_bind_3 : lacking (instead 27 (body.Changed (l 68) 2 (difference.Bind (b 1 1) (b 2 1))) changed_bind_naming) ≡ 27 ∷ []
changed_bind_3 = refl

changed_bind_4 : lacking (instead 34 (body.Changed (l 69) 2 (difference.Bind (b 1 1) (b 2 1))) changed_bind_naming) ≡ 34 ∷ []
changed_bind_4 = refl

changed_bind_5 : lacking (instead 53 (body.Changed (l 84) 2 (difference.Bind (b 2 1) (b 1 1))) changed_bind_server) ≡ 53 ∷ []
changed_bind_5 = refl

changed_bind_6 : lacking (instead 53 (body.Changed (l 84) 3 (difference.Bind (b 1 1) (b 2 1))) changed_bind_server) ≡ 53 ∷ []
changed_bind_6 = refl

changed_bind_7 : lacking (instead 53 (body.Changed (l 84) 1 (difference.Bind (b 1 1) (b 2 1))) changed_bind_server) ≡ 53 ∷ []
changed_bind_7 = refl

changed_bind_8 : lacking (without 46 changed_bind_server) ≡ 52 ∷ 54 ∷ 59 ∷ []
changed_bind_8 = refl

-- `changed` of an include.

changed_1 : lacking (instead 4 (body.Changed (l 67) 1 (difference.Inc 1 2)) aborted_listed) ≡ 4 ∷ 6 ∷ 7 ∷ []
changed_1 = refl
