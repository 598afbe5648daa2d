-- What quiesces must not do: leave a call, an include or a commit waiting, as where a tick forgets one kind of request; lose a call; or say
-- that something is left to do where nothing is. Also how many frames an event must not send, and that few meet no limit.
use Rattle.std.specs.Prelude.{◌≡◌, ◌≤◌, ◌+◌, ℕ, zero, suc, refl, List, [], ◌∷◌, ◌++◌, true, false}
use Rattle.std.proofs.Common.{arith, sym, ⊎_elim}
use Rattle.arj_class.specs.declared.op.Op.TheVariants as op
use Rattle.arj_class.specs.declared.value.Value.TheVariants as value
use Rattle.arj_journal.specs.declared.body.Body.{Body}
use Rattle.arj_journal.specs.declared.body.Body.TheVariants as body
use Rattle.arj_journal.specs.declared.body.Cause.TheVariants as cause
use Rattle.arj_journal.specs.declared.body.Difference.TheVariants as difference
use Rattle.arj_journal.specs.declared.body.FrameKind.TheVariants as frame
use Rattle.arj_journal.specs.declared.body.Line.{Line}
use Rattle.arj_journal.specs.declared.body.Which.TheVariants as which
use Rattle.arj_journal.specs.declared.event.Event.TheVariants as event
use Rattle.arj_journal.specs.declared.event.FrameNo.TheVariants.{Number}
use Rattle.arj_journal.specs.declared.header.Header.{Header}
use Rattle.arj_model.specs.Past.{Past, nothing_yet}
use Rattle.arj_law_cause.specs.rounds.Alone.{AloneStep}
use Rattle.arj_law_cause.specs.rounds.Fits.{AddedFit, LightFit}
use Rattle.arj_law_cause.specs.rounds.Quiesces.{IsWhole, QuiescesStep}
use Rattle.arj_law_cause.specs.rounds.Sends.{SendsStep}
use Rattle.arj_text.specs.Label.{name}
use Rattle.arj_cause_tests.proofs.Words.{Wrote, b, end_from, l, nodes, object_line}
use Rattle.arj_cause_tests.proofs.WrongEvents.{begins, two_nodes}

-- the lines of a run
abbrev lines_of : List Wrote → List Line
lines_of wrote = let p = end_from nothing_yet wrote in p.lines

-- an action that asked, whose request was lost
abbrev asking : Wrote → Past
asking asked = end_from nothing_yet (begins ∷ asked ∷ (event.Lose (Number 1), body.Dropped 1 ∷ []) ∷ [])

-- a quiesce that asks nothing again
abbrev pub silent : List Body
silent = body.Quiet false ∷ []

never_on : {A : Type 0} → false ≡ true → A
never_on is = absurd (cc is)

-- it leaves a call waiting
call_left : QuiescesStep two_nodes (asking (event.Call (l 65) 1 (op.Add 1), body.Sent 1 1 2 frame.Bind ∷ [])) event.Quiesce silent → ⊥
call_left s = ⊎_elim (λ still. never_on still.1) (λ answered. never_on answered)
    ((s (record { quiesces = refl; up = refl; whole = refl })).calls (name (l 65)) (event.Call (l 65) 1 (op.Add 1)) refl)

-- an include
include_left : QuiescesStep two_nodes (asking (event.Include (l 65) 1 2, body.Sent 1 1 2 frame.Bind ∷ [])) event.Quiesce silent → ⊥
include_left s = ⊎_elim (λ still. never_on still.1) (λ answered. never_on answered)
    ((s (record { quiesces = refl; up = refl; whole = refl })).calls (name (l 65)) (event.Include (l 65) 1 2) refl)

-- or a commit
commit_left : QuiescesStep two_nodes (asking (event.Commit (l 65), body.Committing (l 65) ∷ body.Sent 1 1 2 frame.Vote ∷ [])) event.Quiesce
    silent → ⊥
commit_left s = never_on ((s (record { quiesces = refl; up = refl; whole = refl })).commits (name (l 65)) refl)

-- a call may be lost in a giveup alone
lost : QuiescesStep two_nodes (asking (event.Call (l 65) 1 (op.Add 1), body.Sent 1 1 2 frame.Bind ∷ [])) event.Quiesce
    (body.Lost (l 65) 2 ∷ silent) → ⊥
lost s = never_on (sym (s (record { quiesces = refl; up = refl; whole = refl })).nothing)

-- where nobody waits all is quiet
pub quiet_said : (front : List Body) → silent ≡ front ++ body.Quiet true ∷ [] → ⊥
quiet_said [] is = absurd (cc is)
quiet_said (b ∷ []) is = absurd (cc is)
quiet_said (b ∷ c ∷ rest) is = absurd (cc is)

not_quiet : QuiescesStep two_nodes (end_from nothing_yet (begins ∷ [])) event.Quiesce silent → ⊥
not_quiet s = let q = (s (record { quiesces = refl; up = refl; whole = refl })).calm refl refl in quiet_said q.0 q.1

-- A quiesce in which a node is down, or halts, may leave all of this.
down_free : IsWhole two_nodes (end_from nothing_yet (begins ∷ (event.Crash 2, body.Halted 2 ∷ []) ∷ [])) event.Quiesce silent → ⊥
down_free w = never_on w.up

halt_free : IsWhole two_nodes (end_from nothing_yet (begins ∷ [])) event.Quiesce (body.Halted 2 ∷ silent) → ⊥
halt_free w = never_on (sym w.whole)

-- ---- on one node

abbrev one_node : Header
one_node = nodes 1 (object_line 1 (value.Counter 0) (1 ∷ []) (1 ∷ []) ∷ [])

-- what an event asks may not wait behind it: a call
call_waits : AloneStep one_node (end_from nothing_yet (begins ∷ [])) (event.Call (l 65) 1 (op.Add 1)) (body.Bound 1 (b 1 1) 1 ∷ []) → ⊥
call_waits s = never_on (sym (s refl (name (l 65)) refl refl))

-- also where two bindings of its object were made
call_overtaken : AloneStep one_node (end_from nothing_yet (begins
    ∷ (event.Call (l 65) 1 (op.Add 1), body.Bound 1 (b 1 1) 1 ∷ body.Changed (l 65) 1 (difference.Bind (b 1 1) (b 1 2)) ∷ []) ∷ []))
    (event.Call (l 65) 1 (op.Add 1)) (body.Bound 1 (b 1 2) 1 ∷ []) → ⊥
call_overtaken s = never_on (sym (s refl (name (l 65)) refl refl))

-- an include
include_waits : AloneStep one_node (end_from nothing_yet (begins ∷ [])) (event.Include (l 65) 1 1) [] → ⊥
include_waits s = never_on (sym (s refl (name (l 65)) refl refl))

-- or a commit
commit_waits : AloneStep one_node (end_from nothing_yet (begins ∷ [])) (event.Commit (l 65)) (body.Committing (l 65) ∷ []) → ⊥
commit_waits s = never_on (sym (s refl (name (l 65)) refl refl))

-- where there are two nodes they may
two_wait : AloneStep two_nodes (end_from nothing_yet (begins ∷ [])) (event.Call (l 65) 1 (op.Add 1)) (body.Sent 1 1 2 frame.Bind ∷ [])
two_wait two = let no_way : 2 ≡ 1 = two in absurd (omega (arith, no_way))

-- ---- how many frames are sent

abbrev two_binds : List Body
two_binds = body.Sent 1 1 2 frame.Bind ∷ body.Sent 2 1 2 frame.Bind ∷ []

-- a call sends no second one
call_twice : SendsStep two_nodes (end_from nothing_yet (begins ∷ [])) (event.Call (l 65) 1 (op.Add 1)) two_binds → ⊥
call_twice s = let no_way : 2 ≤ 1 = s in absurd (omega (arith, no_way))

-- nor does an include
include_twice : SendsStep two_nodes (end_from nothing_yet (begins ∷ [])) (event.Include (l 65) 1 2) two_binds → ⊥
include_twice s = let no_way : 2 ≤ 1 = s in absurd (omega (arith, no_way))

-- or whoever is asked
abbrev binding : Past
binding = end_from nothing_yet (begins ∷ (event.Call (l 65) 1 (op.Add 1), body.Sent 1 1 2 frame.Bind ∷ []) ∷ [])

answer_twice : SendsStep two_nodes binding (event.Deliver (Number 1))
    (body.Got 1 ∷ body.Sent 2 2 1 frame.Bound ∷ body.Sent 3 2 1 frame.Bound ∷ []) → ⊥
answer_twice s = let no_way : 3 ≤ 2 = s in absurd (omega (arith, no_way))

-- also in a commit
abbrev voting : Past
voting = end_from nothing_yet (begins ∷ (event.Commit (l 65), body.Committing (l 65) ∷ body.Sent 1 1 2 frame.Vote ∷ []) ∷ [])

vote_twice : SendsStep two_nodes voting (event.Deliver (Number 1))
    (body.Got 1 ∷ body.Sent 2 2 1 frame.Voted ∷ body.Sent 3 2 1 frame.Voted ∷ []) → ⊥
vote_twice s = let no_way : 3 ≤ 2 = s in absurd (omega (arith, no_way))

-- who begins sends none
begin_once : SendsStep two_nodes (end_from nothing_yet (begins ∷ [])) (event.Begin (l 66) 1) (body.Sent 1 1 2 frame.Bind ∷ []) → ⊥
begin_once s = let no_way : 1 ≤ 0 = s in absurd (omega (arith, no_way))

-- One is sent, and one to answer it.
call_once : SendsStep two_nodes (end_from nothing_yet (begins ∷ [])) (event.Call (l 65) 1 (op.Add 1)) (body.Sent 1 1 2 frame.Bind ∷ [])
call_once = omega arith

answer_once : SendsStep two_nodes binding (event.Deliver (Number 1)) (body.Got 1 ∷ body.Sent 2 2 1 frame.Bound ∷ [])
answer_once = omega arith

-- ---- and to each other node

-- so many frames to the other node, behind those that were sent
abbrev sent_from : ℕ → ℕ → List Body
sent_from k zero = []
sent_from k (suc n) = body.Sent (k + 1) 1 2 frame.Told ∷ sent_from (k + 1) n

-- a commit sends no fifth one
commit_more : SendsStep two_nodes (end_from nothing_yet (begins ∷ [])) (event.Commit (l 65)) (body.Committing (l 65) ∷ sent_from 0 5) → ⊥
commit_more s = let no_way : 5 ≤ 4 = s in absurd (omega (arith, no_way))

commit_four : SendsStep two_nodes (end_from nothing_yet (begins ∷ [])) (event.Commit (l 65)) (body.Committing (l 65) ∷ sent_from 0 4)
commit_four = omega arith

-- an answer to a Vote no fourth
abbrev voted : Past
voted = end_from voting ((event.Deliver (Number 1), body.Got 1 ∷ body.Sent 2 2 1 frame.Voted ∷ []) ∷ [])

voted_more : SendsStep two_nodes voted (event.Deliver (Number 2)) (body.Got 2 ∷ sent_from 2 4) → ⊥
voted_more s = let no_way : 6 ≤ 5 = s in absurd (omega (arith, no_way))

-- an answer to a Prepare no third
abbrev prepared : Past
prepared = end_from nothing_yet (begins ∷ (event.Commit (l 65), body.Committing (l 65) ∷ body.Sent 1 1 2 frame.Prepare ∷ [])
    ∷ (event.Deliver (Number 1), body.Got 1 ∷ body.Sent 2 2 1 frame.Prepared ∷ []) ∷ [])

prepared_more : SendsStep two_nodes prepared (event.Deliver (Number 2)) (body.Got 2 ∷ sent_from 2 3) → ⊥
prepared_more s = let no_way : 5 ≤ 4 = s in absurd (omega (arith, no_way))

-- an acknowledgement no second
abbrev acked : Past
acked = end_from nothing_yet (begins ∷ (event.Commit (l 65), body.Committing (l 65) ∷ body.Sent 1 1 2 frame.Told ∷ [])
    ∷ (event.Deliver (Number 1), body.Got 1 ∷ body.Sent 2 2 1 frame.Acked ∷ []) ∷ [])

acked_more : SendsStep two_nodes acked (event.Deliver (Number 2)) (body.Got 2 ∷ sent_from 2 2) → ⊥
acked_more s = let no_way : 4 ≤ 3 = s in absurd (omega (arith, no_way))

-- a giveup no third
giveup_more : SendsStep two_nodes voting (event.GiveUp (l 65)) (body.GaveUp (l 65) 2 ∷ sent_from 1 3) → ⊥
giveup_more s = let no_way : 4 ≤ 3 = s in absurd (omega (arith, no_way))

-- an abort of one action no second
abort_more : SendsStep two_nodes (end_from nothing_yet (begins ∷ [])) (event.Abort (l 65))
    (body.Aborted (l 65) cause.Asked ∷ sent_from 0 2) → ⊥
abort_more s = let no_way : 2 ≤ 1 = s in absurd (omega (arith, no_way))

-- a hello none where no action began
abbrev greeted : Past
greeted = end_from nothing_yet ((event.Crash 1, body.Halted 1 ∷ [])
    ∷ (event.Restart 1, body.Up 1 2 ∷ body.Sent 1 1 2 frame.Hello ∷ []) ∷ [])

hello_more : SendsStep two_nodes greeted (event.Deliver (Number 1)) (body.Got 1 ∷ sent_from 1 1) → ⊥
hello_more s = let no_way : 2 ≤ 1 = s in absurd (omega (arith, no_way))

-- a tick no eighth for one action, a restart no fifth, and a tick none where no action began
tick_more : SendsStep two_nodes (end_from nothing_yet (begins ∷ [])) (event.Tick 1) (sent_from 0 8) → ⊥
tick_more s = let no_way : 8 ≤ 7 = s in absurd (omega (arith, no_way))

tick_seven : SendsStep two_nodes (end_from nothing_yet (begins ∷ [])) (event.Tick 1) (sent_from 0 7)
tick_seven = omega arith

restart_more : SendsStep two_nodes (end_from nothing_yet (begins ∷ (event.Crash 2, body.Halted 2 ∷ []) ∷ [])) (event.Restart 2)
    (body.Up 2 2 ∷ sent_from 0 5) → ⊥
restart_more s = let no_way : 5 ≤ 4 = s in absurd (omega (arith, no_way))

tick_none : SendsStep two_nodes nothing_yet (event.Tick 1) (sent_from 0 1) → ⊥
tick_none s = let no_way : 1 ≤ 0 = s in absurd (omega (arith, no_way))

-- nor do a settle and a quiesce where nothing is open
settle_none : SendsStep two_nodes nothing_yet event.Settle (sent_from 0 1) → ⊥
settle_none s = let no_way : 1 ≤ 0 = s in absurd (omega (arith, no_way))

quiesce_none : SendsStep two_nodes nothing_yet event.Quiesce (sent_from 0 1 ++ body.Quiet true ∷ []) → ⊥
quiesce_none s = let no_way : 1 ≤ 0 = s in absurd (omega (arith, no_way))

-- a settle no fifth for an open frame
abbrev opened : Past
opened = end_from nothing_yet ((event.Junk 1 [], body.Sent 1 0 1 frame.Junk ∷ []) ∷ [])

settle_more : SendsStep two_nodes opened event.Settle (body.Void 1 ∷ sent_from 1 5) → ⊥
settle_more s = let no_way : 6 ≤ 5 = s in absurd (omega (arith, no_way))

settle_four : SendsStep two_nodes opened event.Settle (body.Void 1 ∷ sent_from 1 4)
settle_four = omega arith

-- and none for one that was delivered
settle_shut : SendsStep two_nodes (end_from nothing_yet ((event.Junk 1 [], body.Sent 1 0 1 frame.Junk ∷ [])
    ∷ (event.Deliver (Number 1), body.Void 1 ∷ []) ∷ [])) event.Settle (sent_from 1 1) → ⊥
settle_shut s = let no_way : 2 ≤ 1 = s in absurd (omega (arith, no_way))

-- For an action that waits for nothing a settle sends none, and a quiesce no thirty-ninth.
settle_idle : SendsStep two_nodes (end_from nothing_yet (begins ∷ [])) event.Settle (sent_from 0 1) → ⊥
settle_idle s = let no_way : 1 ≤ 0 = s in absurd (omega (arith, no_way))

quiesce_more : SendsStep two_nodes (end_from nothing_yet (begins ∷ [])) event.Quiesce (sent_from 0 39 ++ body.Quiet false ∷ []) → ⊥
quiesce_more s = let no_way : 39 ≤ 38 = s in absurd (omega (arith, no_way))

-- for one that waits, with its request open, no twenty-fifth
settle_at_work : SendsStep two_nodes binding event.Settle (body.Got 1 ∷ sent_from 1 25) → ⊥
settle_at_work s = let no_way : 26 ≤ 25 = s in absurd (omega (arith, no_way))

settle_so_many : SendsStep two_nodes binding event.Settle (body.Got 1 ∷ sent_from 1 24)
settle_so_many = omega arith

-- ---- the limit of frames

-- Few events don't meet it, where none of them is a tick, a restart, a settle or a quiesce.
limit_early : LightFit (event.Begin (l 65) 1 ∷ event.Commit (l 65) ∷ [])
    (lines_of (begins ∷ (event.Commit (l 65), body.Committing (l 65) ∷ body.Limit which.Frames ∷ []) ∷ [])) → ⊥
limit_early f = let no_way : true ≡ false = f refl (omega arith) in absurd (cc no_way)

-- Of a tick that isn't said.
tick_free : LightFit (event.Begin (l 65) 1 ∷ event.Tick 1 ∷ [])
    (lines_of (begins ∷ (event.Tick 1, body.Limit which.Frames ∷ []) ∷ []))
tick_free light few = absurd (cc light)

-- Nor do events of any kind that add few: a tick, a restart, a settle and a quiesce among them.
limit_added : AddedFit two_nodes (event.Begin (l 65) 1 ∷ event.Crash 2 ∷ event.Restart 2 ∷ event.Tick 1 ∷ event.Settle ∷ event.Quiesce ∷ [])
    (lines_of (begins ∷ (event.Crash 2, body.Halted 2 ∷ []) ∷ (event.Restart 2, body.Up 2 2 ∷ []) ∷ (event.Tick 1, [])
    ∷ (event.Settle, []) ∷ (event.Quiesce, body.Limit which.Frames ∷ []) ∷ [])) → ⊥
limit_added f = let no_way : true ≡ false = f (omega arith) in absurd (cc no_way)
