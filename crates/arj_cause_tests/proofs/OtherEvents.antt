-- Lines that another kind of event wrote: in each run one event is changed, and its lines are kept.
use Rattle.std.specs.Prelude.{◌≡◌, refl, [], ◌∷◌}
use Rattle.arj_class.specs.declared.op.Op.TheVariants as op
use Rattle.arj_journal.specs.declared.event.Event.TheVariants as event
use Rattle.arj_journal.specs.declared.event.FrameNo.TheVariants.{Number}
use Rattle.arj_cause_tests.proofs.Words.{l, lacking, of_other_event}
use Rattle.arj_cause_tests.proofs.Worked.{conflict, exclusion, inclusion, naming_stopped, nested_abort, rebinding, serializing}
use Rattle.arj_cause_tests.proofs.Worked.{sibling_waits, stop_at_decision_done}
use Rattle.arj_cause_tests.proofs.Rare.{aborted_lost, changed_bind_naming}
use Rattle.arj_cause_tests.proofs.Rarer.{changed_inc_server}

-- nobody is given up, and nothing is lost
no_giveup : lacking (of_other_event 8 event.Settle rebinding) ≡ 14 ∷ 15 ∷ []
no_giveup = refl

other_giveup : lacking (of_other_event 8 (event.GiveUp (l 65)) rebinding) ≡ 14 ∷ 15 ∷ []
other_giveup = refl

no_giveup_of_commit : lacking (of_other_event 5 event.Settle aborted_lost) ≡ 15 ∷ 16 ∷ []
no_giveup_of_commit = refl

-- no commit is called
no_commit : lacking (of_other_event 5 event.Settle conflict) ≡ 11 ∷ []
no_commit = refl

no_nested_commit : lacking (of_other_event 15 event.Settle rebinding) ≡ 36 ∷ []
no_nested_commit = refl

no_doomed_commit : lacking (of_other_event 10 event.Settle rebinding) ≡ 17 ∷ []
no_doomed_commit = refl

-- no abort is asked for, or that of another action
no_abort : lacking (of_other_event 5 event.Settle nested_abort) ≡ 11 ∷ []
no_abort = refl

no_abort_above : lacking (of_other_event 9 (event.Abort (l 75)) sibling_waits) ≡ 16 ∷ []
no_abort_above = refl

-- no node is restarted, or another one
no_restart : lacking (of_other_event 12 event.Settle naming_stopped) ≡ 48 ∷ []
no_restart = refl

other_restart : lacking (of_other_event 7 (event.Restart 2) stop_at_decision_done) ≡ 25 ∷ 26 ∷ []
other_restart = refl

-- no frame is lost, or another one
no_loss : lacking (of_other_event 5 event.Settle exclusion) ≡ 15 ∷ []
no_loss = refl

other_loss : lacking (of_other_event 5 (event.Lose (Number 3)) exclusion) ≡ 15 ∷ []
other_loss = refl

-- another frame is delivered than the one that is asked for
other_delivery : lacking (of_other_event 5 (event.Deliver (Number 2)) rebinding) ≡ 7 ∷ []
other_delivery = refl

-- nothing is shown, armed or brought to rest
nothing_shown : lacking (of_other_event 9 event.Settle exclusion) ≡ 35 ∷ 36 ∷ 37 ∷ []
nothing_shown = refl

nothing_armed : lacking (of_other_event 5 event.Settle stop_at_decision_done) ≡ 15 ∷ []
nothing_armed = refl

no_quiesce : lacking (of_other_event 8 event.Settle stop_at_decision_done) ≡ 41 ∷ []
no_quiesce = refl

-- no action begins
no_beginning : lacking (of_other_event 1 event.Settle conflict) ≡ 1 ∷ []
no_beginning = refl

-- another call, or an include in its stead
read_asked : lacking (of_other_event 2 (event.Call (l 65) 1 op.Get) conflict) ≡ 6 ∷ 7 ∷ []
read_asked = refl

store_asked : lacking (of_other_event 2 (event.Include (l 65) 1 2) changed_inc_server) ≡ 18 ∷ []
store_asked = refl

call_asked : lacking (of_other_event 11 (event.Call (l 73) 1 op.Get) inclusion) ≡ 44 ∷ []
call_asked = refl

-- the root has no other call of the object
no_other_call : lacking (of_other_event 3 (event.Include (l 69) 1 2) changed_bind_naming) ≡ 27 ∷ 34 ∷ []
no_other_call = refl

-- a serializing action is committed, that is aborted
no_end : lacking (of_other_event 10 (event.Commit (l 83)) serializing) ≡ 26 ∷ []
no_end = refl
