-- Wrong ends of actions, and wrong exclusions: in each run one line is changed, and lines lack their cause.
use Rattle.std.specs.Prelude.{◌≡◌, refl, [], ◌∷◌}
use Rattle.arj_base.specs.declared.mode.Mode.TheVariants.{Read, Exclude, Write}
use Rattle.arj_journal.specs.declared.body.Body.TheVariants as body
use Rattle.arj_journal.specs.declared.body.Cause.TheVariants as cause
use Rattle.arj_journal.specs.declared.body.Difference.TheVariants as difference
use Rattle.arj_journal.specs.declared.body.FrameKind.TheVariants as frame
use Rattle.arj_cause_tests.proofs.Words.{l, u, b, lacking, without, instead, after, before}
use Rattle.arj_cause_tests.proofs.Worked.{exclusion, inclusion, lost_lock, nested_abort, no_store_left, rebinding, sibling_waits}
use Rattle.arj_cause_tests.proofs.Rare.{aborted_changed_bind, aborted_conflict, aborted_doomed, aborted_lost, aborted_old, restarted_naming}
use Rattle.arj_cause_tests.proofs.Rarer.{excluded_pending}

-- `aborted asked`: the script doesn't abort it.

aborted_asked_1 : lacking (instead 11 (body.Aborted (l 65) cause.Asked) nested_abort) ≡ 11 ∷ 12 ∷ 13 ∷ 16 ∷ []
aborted_asked_1 = refl

aborted_asked_2 : lacking (instead 16 (body.Aborted (l 78) cause.Asked) sibling_waits) ≡ 16 ∷ 29 ∷ []
aborted_asked_2 = refl

-- `aborted doomed`: no call of it was lost behind an Invoke.

aborted_doomed_1 : lacking (without 12 rebinding) ≡ 12 ∷ 15 ∷ 16 ∷ 17 ∷ []
aborted_doomed_1 = refl

aborted_doomed_2 : lacking (instead 12 (body.Sent 3 1 3 frame.Invoke) rebinding) ≡ 16 ∷ 17 ∷ []
aborted_doomed_2 = refl

aborted_doomed_3 : lacking (instead 11 (body.Sent 3 1 2 frame.Activate) aborted_doomed) ≡ 14 ∷ []
aborted_doomed_3 = refl

-- `refused 12`: it isn't doomed.

refused_12_1 : lacking (without 15 rebinding) ≡ 15 ∷ 16 ∷ []
refused_12_1 = refl

-- `aborted lost`: not what this event gave up.

aborted_lost_1 : lacking (instead 16 (body.Aborted (l 73) (cause.Lost 2)) aborted_lost) ≡ 16 ∷ []
aborted_lost_1 = refl

aborted_lost_2 : lacking (without 15 aborted_lost) ≡ 15 ∷ []
aborted_lost_2 = refl

-- `aborted conflict`: not the first lock that stands against the exclusion.

aborted_conflict_1 : lacking (instead 76 (body.Aborted (l 66) (cause.Conflict (u 2 1 1) Write 1)) aborted_conflict) ≡ 76 ∷ []
aborted_conflict_1 = refl

aborted_conflict_2 : lacking (instead 76 (body.Aborted (l 66) (cause.Conflict (u 3 1 1) Read 1)) aborted_conflict) ≡ 76 ∷ []
aborted_conflict_2 = refl

aborted_conflict_3 : lacking (instead 76 (body.Aborted (l 66) (cause.Conflict (u 2 1 1) Exclude 2)) aborted_conflict) ≡ 76 ∷ []
aborted_conflict_3 = refl

aborted_conflict_4 : lacking (without 67 aborted_conflict) ≡ 75 ∷ []
aborted_conflict_4 = refl

aborted_conflict_5 : lacking (instead 73 (body.Sent 25 1 2 frame.Confirmed) aborted_conflict) ≡ 76 ∷ []
aborted_conflict_5 = refl

-- `aborted changed inc`: no such incarnations, or nothing used.

aborted_changed_inc_1 : lacking (instead 25 (body.Aborted (l 65) (cause.Changed 2 (difference.Inc 1 3))) lost_lock) ≡ 25 ∷ []
aborted_changed_inc_1 = refl

aborted_changed_inc_2 : lacking (instead 25 (body.Aborted (l 65) (cause.Changed 2 (difference.Inc 0 2))) lost_lock) ≡ 25 ∷ []
aborted_changed_inc_2 = refl

aborted_changed_inc_3 : lacking (without 15 lost_lock) ≡ 24 ∷ []
aborted_changed_inc_3 = refl

aborted_changed_inc_4 : lacking (instead 50 (body.Aborted (l 84) (cause.Changed 3 (difference.Inc 1 2))) restarted_naming) ≡ 50 ∷ []
aborted_changed_inc_4 = refl

aborted_changed_inc_5 : lacking (before 3 (body.Committing (l 84) ∷ []) (without 28 (after 29 (body.Aborted (l 84) (cause.Changed 1 (difference.Inc 5 9)) ∷ []) (without 50 restarted_naming)))) ≡ 3 ∷ 30 ∷ []
aborted_changed_inc_5 = refl

aborted_changed_inc_6 : lacking (instead 23 (body.Sent 7 2 1 frame.Invoked) lost_lock) ≡ 25 ∷ []
aborted_changed_inc_6 = refl

-- `aborted changed bind`: no such copies, or nothing used.

aborted_changed_bind_1 : lacking (instead 25 (body.Aborted (l 65) (cause.Changed 2 (difference.Bind (b 1 1) (b 1 2)))) lost_lock) ≡ 25 ∷ []
aborted_changed_bind_1 = refl

aborted_changed_bind_2 : lacking (instead 69 (body.Aborted (l 84) (cause.Changed 2 (difference.Bind (b 2 1) (b 1 1)))) aborted_changed_bind) ≡ 69 ∷ []
aborted_changed_bind_2 = refl

aborted_changed_bind_3 : lacking (instead 69 (body.Aborted (l 84) (cause.Changed 1 (difference.Bind (b 1 1) (b 2 1)))) aborted_changed_bind) ≡ 69 ∷ []
aborted_changed_bind_3 = refl

aborted_changed_bind_4 : lacking (without 27 aborted_changed_bind) ≡ 31 ∷ 68 ∷ []
aborted_changed_bind_4 = refl

aborted_changed_bind_5 : lacking (without 50 aborted_changed_bind) ≡ 54 ∷ 59 ∷ 68 ∷ []
aborted_changed_bind_5 = refl

-- `aborted old`: not so many writers, or naming never restarted.

aborted_old_1 : lacking (instead 111 (body.Aborted (l 76) (cause.Old 4 1 2)) aborted_old) ≡ 111 ∷ []
aborted_old_1 = refl

aborted_old_2 : lacking (instead 111 (body.Aborted (l 76) (cause.Old 4 1 0)) aborted_old) ≡ 111 ∷ []
aborted_old_2 = refl

aborted_old_3 : lacking (without 25 aborted_old) ≡ 25 ∷ 26 ∷ 27 ∷ 28 ∷ 38 ∷ 40 ∷ 41 ∷ 54 ∷ 56 ∷ 80 ∷ 83 ∷ 90 ∷ 93 ∷ 110 ∷ 114 ∷ 118 ∷ []
aborted_old_3 = refl

aborted_old_4 : lacking (instead 86 (body.Aborted (l 87) (cause.Old 4 1 1)) aborted_old) ≡ 86 ∷ 92 ∷ 93 ∷ 96 ∷ 99 ∷ 111 ∷ []
aborted_old_4 = refl

aborted_old_5 : lacking (instead 108 (body.Sent 41 5 2 frame.Prepared) aborted_old) ≡ 111 ∷ []
aborted_old_5 = refl

-- `aborted nostores`: a store is left.

aborted_nostores_1 : lacking (without 18 no_store_left) ≡ 18 ∷ []
aborted_nostores_1 = refl

aborted_nostores_2 : lacking (instead 19 (body.Aborted (l 65) (cause.NoStores 2)) no_store_left) ≡ 19 ∷ []
aborted_nostores_2 = refl

-- `aborted listed`: the store wasn't included, or isn't listed.

aborted_listed_1 : lacking (instead 78 (body.Aborted (l 74) (cause.Listed 1 2)) inclusion) ≡ 78 ∷ []
aborted_listed_1 = refl

aborted_listed_2 : lacking (without 71 inclusion) ≡ 74 ∷ 77 ∷ []
aborted_listed_2 = refl

aborted_listed_3 : lacking (instead 52 (body.Aborted (l 73) (cause.Listed 1 3)) inclusion) ≡ 52 ∷ 55 ∷ 56 ∷ 59 ∷ 62 ∷ 78 ∷ []
aborted_listed_3 = refl

aborted_listed_4 : lacking (after 77 (body.Excluded (l 74) 1 3 ∷ []) inclusion) ≡ 78 ∷ 79 ∷ []
aborted_listed_4 = refl

aborted_listed_5 : lacking (without 52 (instead 78 (body.Aborted (l 74) (cause.Listed 1 3)) inclusion)) ≡ 54 ∷ 55 ∷ 58 ∷ 61 ∷ 77 ∷ []
aborted_listed_5 = refl

-- `excluded`: the store answered, or the top changes nothing there.

excluded_1 : lacking (instead 21 (body.Excluded (l 65) 1 2) exclusion) ≡ 21 ∷ 24 ∷ 35 ∷ 37 ∷ []
excluded_1 = refl

excluded_2 : lacking (without 20 exclusion) ≡ 20 ∷ []
excluded_2 = refl

excluded_3 : lacking (without 11 exclusion) ≡ 16 ∷ 20 ∷ 35 ∷ []
excluded_3 = refl

excluded_4 : lacking (instead 71 (body.Excluded (l 85) 1 3) excluded_pending) ≡ 71 ∷ 80 ∷ []
excluded_4 = refl

excluded_5 : lacking (without 43 excluded_pending) ≡ 70 ∷ []
excluded_5 = refl

excluded_6 : lacking (instead 66 (body.Sent 22 4 1 frame.Prepared) excluded_pending) ≡ 71 ∷ []
excluded_6 = refl

excluded_7 : lacking (instead 14 (body.Sent 4 1 3 frame.Vote) exclusion) ≡ 21 ∷ []
excluded_7 = refl

-- `committed`: a listed store hasn't prepared.

committed_1 : lacking (without 17 exclusion) ≡ 23 ∷ []
committed_1 = refl
