-- Journals that don't follow their events, each for the reason that is said of it, beside one that does.
use Rattle.std.specs.Prelude.{◌<◌, ◌^◌, ◌≡◌, refl, ◌∷◌, ◌++◌, [], codes, false, true, None, take, drop}
use Rattle.std.proofs.Common.{arith, sym, ◌∙◌}
use Rattle.arj_class.specs.declared.op.Op.TheVariants as op
use Rattle.arj_class.specs.declared.value.Value.TheVariants as value
use Rattle.arj_journal.specs.LineForm.{BodyInForm}
use Rattle.arj_journal.specs.declared.body.Body.TheVariants as body
use Rattle.arj_journal.specs.declared.body.FrameKind.TheVariants as frame
use Rattle.arj_journal.specs.declared.body.Kind.TheVariants as kind
use Rattle.arj_journal.specs.declared.event.Event.TheVariants as event
use Rattle.arj_journal.specs.declared.event.FrameNo.TheVariants.{Number}
use Rattle.arj_msg.specs.Fields.{node, number4}
use Rattle.arj_msg.specs.Format.{byte}
use Rattle.arj_msg.specs.Layout.{hello, message}
use Rattle.arj_model.specs.Follows.{Follows}
use Rattle.arj_start.specs.Start.{fresh}
use Rattle.arj_cause_tests.specs.Followed.{follows}
use Rattle.arj_cause_tests.proofs.Followed.{follows_decides}
use Rattle.arj_cause_tests.proofs.Words.{Run, after, before, events, instead, is_followed, journal, l, run, u}
use Rattle.arj_cause_tests.proofs.Worked.{gone}
use Rattle.arj_cause_tests.proofs.WrongEvents.{begins, increment, two_nodes}

-- what the test says is so
accepted : (r : Run) → is_followed r ≡ true → Follows r.header fresh (events r) (journal r)
accepted r is = (follows_decides r.header fresh (events r) (journal r)).0 is

refused : (r : Run) → is_followed r ≡ false → Follows r.header fresh (events r) (journal r) → ⊥
refused r is so = let no_way : true ≡ false = sym ((follows_decides r.header fresh (events r) (journal r)).1 so) ∙ is in cc no_way

-- one increment, committed: three events, whose lines are the first, seven, and six
followed : is_followed increment ≡ true
followed = refl

followed_so : Follows increment.header fresh (events increment) (journal increment)
followed_so = accepted increment followed

-- each event writes a line
no_lines : follows two_nodes fresh (events increment) [] ≡ false
no_lines = refl

-- a bad line stands behind the lines of all events, with their count
lone_bad_line : follows two_nodes fresh (events increment) (record { event = 0; body = body.Bad 3 } ∷ []) ≡ false
lone_bad_line = refl

bad_line_behind : follows two_nodes fresh (events increment) (journal increment ++ record { event = 3; body = body.Bad 9 } ∷ []) ≡ true
bad_line_behind = refl

bad_line_early : follows two_nodes fresh (events increment) (journal increment ++ record { event = 2; body = body.Bad 9 } ∷ []) ≡ false
bad_line_early = refl

-- the first action of a node has the number 1
late_uid : is_followed (instead 1 (body.Began (l 65) kind.Top (u 1 1 2) None) increment) ≡ false
late_uid = refl

-- a used Uid
used_uid : is_followed (run two_nodes (begins ∷ (event.Begin (l 66) 1, body.Began (l 66) kind.Top (u 1 1 1) None ∷ []) ∷ [])) ≡ false
used_uid = refl

next_uid : is_followed (run two_nodes (begins ∷ (event.Begin (l 66) 1, body.Began (l 66) kind.Top (u 1 1 2) None ∷ []) ∷ [])) ≡ true
next_uid = refl

-- another node than the event's, and another kind
other_node : is_followed (instead 1 (body.Began (l 65) kind.Top (u 2 1 1) None) increment) ≡ false
other_node = refl

other_kind : is_followed (instead 1 (body.Began (l 65) kind.Nested (u 1 1 1) None) increment) ≡ false
other_kind = refl

-- another operation than was called, and no answer of an addition
other_operation : is_followed (instead 7 (body.Ok (l 65) 1 (op.Add 2) (codes "done")) increment) ≡ false
other_operation = refl

other_answer : is_followed (instead 7 (body.Ok (l 65) 1 (op.Add 1) (codes "00ff")) increment) ≡ false
other_answer = refl

-- an answer for which nobody waits
second_answer : is_followed (before 8 (body.Ok (l 65) 1 (op.Add 1) (codes "done") ∷ []) increment) ≡ false
second_answer = refl

answer_in_commit : is_followed (after 8 (body.Ok (l 65) 1 (op.Add 1) (codes "done") ∷ []) increment) ≡ false
answer_in_commit = refl

-- a halt before the event's lines: its node does nothing behind it
halt_first : is_followed (before 2 (body.Halted 1 ∷ []) increment) ≡ false
halt_first = refl

-- an event begins with its own line
end_first : is_followed (before 8 (body.Committed (l 65) ∷ []) increment) ≡ false
end_first = refl

-- an action ends once
second_end : is_followed (after 10 (body.Committed (l 65) ∷ []) increment) ≡ false
second_end = refl

-- an action that doesn't wait isn't refused as one that does (7), nor one without a lost call as doomed (12); an unknown object comes
-- before an operation that it lacks (13 and 14)
call_refused : is_followed (run two_nodes (begins ∷ (event.Call (l 65) 1 (op.Add 1), body.Refused 7 ∷ []) ∷ [])) ≡ false
call_refused = refl

call_doomed : is_followed (run two_nodes (begins ∷ (event.Call (l 65) 1 (op.Add 1), body.Refused 12 ∷ []) ∷ [])) ≡ false
call_doomed = refl

call_unknown : is_followed (run two_nodes (begins ∷ (event.Call (l 65) 2 op.Get, body.Refused 14 ∷ []) ∷ [])) ≡ false
call_unknown = refl

unknown_first : is_followed (run two_nodes (begins ∷ (event.Call (l 65) 2 op.Get, body.Refused 13 ∷ []) ∷ [])) ≡ true
unknown_first = refl

-- bytes that are a message are refused (18), and others aren't
message_sent : is_followed (run two_nodes ((event.Junk 1 (20 ∷ 2 ∷ 0 ∷ 0 ∷ 0 ∷ 3 ∷ []), body.Sent 1 0 1 frame.Junk ∷ []) ∷ [])) ≡ false
unfolding message hello node number4 byte
message_sent = refl

junk_refused : is_followed (run two_nodes ((event.Junk 1 (255 ∷ []), body.Refused 18 ∷ []) ∷ [])) ≡ false
unfolding message hello node number4 byte
junk_refused = refl

junk_sent : is_followed (run two_nodes ((event.Junk 1 (255 ∷ []), body.Sent 1 0 1 frame.Junk ∷ []) ∷ [])) ≡ true
unfolding message hello node number4 byte
junk_sent = refl

-- numbers of events don't fall: the commit's lines before those of the call
commit_before : follows two_nodes fresh (events increment)
    (take 1 (journal increment) ++ (drop 7 (journal increment) ++ take 6 (drop 1 (journal increment)))) ≡ false
commit_before = refl

-- another node than the one that crashes, and an incarnation that isn't above the one before
crash_of_other : is_followed (run two_nodes ((event.Crash 1, body.Halted 2 ∷ []) ∷ [])) ≡ false
crash_of_other = refl

up_again : is_followed (run two_nodes ((event.Crash 1, body.Halted 1 ∷ []) ∷ (event.Restart 1, body.Up 1 1 ∷ []) ∷ [])) ≡ false
up_again = refl

up_above : is_followed (run two_nodes ((event.Crash 1, body.Halted 1 ∷ []) ∷ (event.Restart 1, body.Up 1 2 ∷ []) ∷ [])) ≡ true
up_above = refl

-- the first frame has the number 1, and one that wasn't sent isn't delivered
second_frame : is_followed (run two_nodes ((event.Settle, body.Sent 2 1 2 frame.Bind ∷ []) ∷ [])) ≡ false
second_frame = refl

unsent_frame : is_followed (run two_nodes ((event.Deliver (Number 1), body.Got 1 ∷ []) ∷ [])) ≡ false
unsent_frame = refl

-- no disk works as an action begins, so no node stops
halt_behind : is_followed
    (run two_nodes ((event.Begin (l 65) 1, body.Began (l 65) kind.Top (u 1 1 1) None ∷ body.Halted 1 ∷ []) ∷ [])) ≡ false
halt_behind = refl

-- a number that has no 64 bits isn't in form
too_great : BodyInForm (body.Ok (l 65) 1 (op.Add 18446744073709551616) (codes "done")) → ⊥
too_great f = let less : 18446744073709551616 < 2 ^ 64 = f.2 in omega (arith, less)

-- An object comes and goes. It comes with no value of another class, with the value that was called, and says of itself there or done.
gone_followed : is_followed gone ≡ true
gone_followed = refl

other_class : is_followed (instead 8 (body.Ok (l 65) 1 (op.Create (value.Queue (1 ∷ []))) (codes "done")) gone) ≡ false
other_class = refl

other_value : is_followed (instead 10 (body.Ok (l 65) 1 (op.Create (value.Counter 8)) (codes "done")) gone) ≡ false
other_value = refl

no_create_is_gone : is_followed (instead 10 (body.Ok (l 65) 1 (op.Create (value.Counter 7)) (codes "gone")) gone) ≡ false
no_create_is_gone = refl

no_destroy_is_there : is_followed (instead 13 (body.Ok (l 78) 1 op.Destroy (codes "there")) gone) ≡ false
no_destroy_is_there = refl
