-- Small wrong journals that the definitions refuse, each beside a right one.
use Rattle.std.specs.List.{list_all}
use Rattle.std.specs.Prelude.{◌≡◌, ◌⊎◌, refl, ℕ, ◌+◌, List, [], ◌∷◌, ◌++◌, map, take, replicate, get_or, codes, Bool, true, false, cond}
use Rattle.std.specs.Prelude.{not, ◌==◌, nat_lt, Some, None}
use Rattle.std.proofs.Common.{arith, inl, inr, ap, ◌∙◌}
use Rattle.arj_base.specs.declared.state.Class.TheVariants as class
use Rattle.arj_base.specs.declared.state.Format.TheVariants as format
use Rattle.arj_base.specs.Uid.{object}
use Rattle.arj_base.specs.declared.uid.Uid.{Uid}
use Rattle.arj_class.specs.declared.op.Op.TheVariants.{Get, Add}
use Rattle.arj_class.specs.declared.op.Answer.TheVariants.{Done, Over}
use Rattle.arj_class.specs.declared.value.Value.{Value}
use Rattle.arj_class.specs.declared.value.Value.TheVariants.{Counter, Register, Account, Queue, Table, Gone}
use Rattle.arj_class.specs.Table.{own_class, has_op, answer_of}
use Rattle.arj_journal.specs.declared.body.Body.{Body}
use Rattle.arj_journal.specs.declared.body.Body.TheVariants as body
use Rattle.arj_journal.specs.declared.body.Cause.TheVariants as cause
use Rattle.arj_journal.specs.declared.body.FrameKind.TheVariants as frame
use Rattle.arj_journal.specs.declared.body.Line.{Line}
use Rattle.arj_journal.specs.declared.body.Kind.TheVariants as kind
use Rattle.arj_journal.specs.declared.body.Which.TheVariants as which
use Rattle.arj_journal.specs.declared.event.Event.TheVariants as event
use Rattle.arj_journal.specs.declared.event.FrameNo.TheVariants.{Number}
use Rattle.arj_text.specs.Label.{name}
use Rattle.arj_text.specs.Words.{answer_text}
use Rattle.arj_model.specs.Actions.{acts, act_in}
use Rattle.arj_model.specs.Past.{Past, at_start, block, nothing_yet}
use Rattle.arj_start.specs.Start.{fresh}
use Rattle.arj_model.specs.Refusals.{next_uid, refusal}
use Rattle.arj_model.specs.Own.{Begins, aborted_of, may_stand, halts_fit}
use Rattle.arj_model.specs.Follows.{Step, Accepted, AnswerFits, AreEnding, IsAnswerOf, IsRefusedDoomed}
use Rattle.arj_model.specs.Clean.{undecided, next_state}
use Rattle.arj_model.proofs.Journals.{A, B, C, D, N, S, T, uid, began, counter, lines_of, one_node, three_nodes, nested_abort_bodies, sent}
use Rattle.arj_model.proofs.Journals.{stop_at_decision_done_bodies, to_prepares}
use Rattle.arj_model.proofs.Rows.{past_from}
use Rattle.arj_model.proofs.NodeRows.{exclusion_events}

-- An addition isn't answered by bytes.
no_such_answer : IsAnswerOf (Add 5) (codes "00ff") → ⊥
no_such_answer f = by f.0 f.1 f.2
  where
    which : (b : Bool) → codes "00ff" ≡ answer_text (cond b Done Over) → ⊥
    which true is = let h : 48 ≡ 100 = ap (λ bs. get_or bs 0 0) is in omega (arith, h)
    which false is = let h : 48 ≡ 111 = ap (λ bs. get_or bs 0 0) is in omega (arith, h)

    by : (v : Value) → has_op (own_class v) (Add 5) ≡ true → codes "00ff" ≡ answer_text (answer_of (Add 5) v) → ⊥
    by (Counter m) has is = which (nat_lt (m + 5) 18446744073709551616) is
    by (Register bytes) has is = cc
    by (Account m) has is = cc
    by (Queue ns) has is = cc
    by (Table ps) has is = cc
    by (Gone c) has is = let h : 48 ≡ 103 = ap (λ bs. get_or bs 0 0) is in omega (arith, h)

-- one action of node 1 began
abbrev begun : Past
begun = past_from nothing_yet (event.Begin A 1 ∷ []) ((began A kind.Top 1 None ∷ []) ∷ [])

-- A commit begins with its own line, and not with a halt.
no_halt_first : Accepted (one_node 0) begun (event.Commit A) (body.Halted 1 ∷ body.Committing A ∷ []) → ⊥
no_halt_first a = by a.begins
  where
    by : Begins (one_node 0) begun (event.Commit A) a.own → ⊥
    by (inl e) = let h : body.Halted 1 ∷ body.Committing A ∷ [] ≡ (body.Committing A ∷ []) ++ (a.others ++ a.last) =
        a.parts ∙ ap (λ (own : List Body). own ++ (a.others ++ a.last)) e in cc
    by (inr e) = let h : body.Halted 1 ∷ body.Committing A ∷ [] ≡ (body.Aborted A cause.Doomed ∷ []) ++ (a.others ++ a.last) =
        a.parts ∙ ap (λ (own : List Body). own ++ (a.others ++ a.last)) e.0 in cc

-- The halt is that of the action's node, and nothing stands behind it.
commit_halts : map (halts_fit begun.lines (event.Commit A)) ((body.Halted 1 ∷ []) ∷ (body.Halted 2 ∷ []) ∷ (body.Halted 1 ∷ body.Committed A ∷ []) ∷ []) ≡ true ∷ false ∷ false ∷ []
commit_halts = refl

-- A delivery halts the node that the frame is for; a settle may halt any, and goes on.
delivery_halts :
    map (halts_fit (lines_of to_prepares) (event.Deliver (Number 3))) ((body.Halted 2 ∷ []) ∷ (body.Halted 1 ∷ []) ∷ [])
    ++ map (halts_fit (lines_of to_prepares) event.Settle) ((body.Halted 2 ∷ body.Got 4 ∷ []) ∷ []) ≡ true ∷ false ∷ true ∷ []
delivery_halts = refl

-- A node that is down doesn't halt again.
no_second_halt : AnswerFits fresh [] (begun.lines ++ block 2 (body.Halted 1 ∷ [])) (body.Halted 1) → ⊥
no_second_halt h = cc

-- Lines in an event of another kind.
no_foreign_lines :
    map (may_stand (event.Begin A 1)) (body.Halted 1 ∷ body.Committing A ∷ []) ++ map (may_stand (event.Call A 1 Get)) (body.Lost A 1 ∷ body.Up 1 2 ∷ body.Sent 1 0 1 frame.Junk ∷ [])
    ++ map (may_stand (event.GiveUp A)) (body.Lost B 1 ∷ body.Aborted B (cause.Lost 1) ∷ body.Got 1 ∷ []) ++ map (may_stand (event.Restart 2)) (body.Recovered 1 (uid 1) ∷ [])
    ++ map (may_stand (event.Show 1)) (body.Entry 2 0 [] [] ∷ body.Got 1 ∷ [])
    ≡ replicate 11 false
no_foreign_lines = refl

-- A commit of a serializing action isn't called, it ends; a nested one's isn't called either.
abbrev nested : Past
nested = past_from nothing_yet
    (event.Serial S 1 ∷ event.BeginIn D S ∷ event.BeginIn N D ∷ event.BeginIn C N ∷ event.Top T D ∷ [])
    ((began S kind.Serial 1 None ∷ []) ∷ (began D kind.Constituent 2 (Some S) ∷ []) ∷ (began N kind.Nested 3 (Some D) ∷ []) ∷ (began C kind.Nested 4 (Some N) ∷ [])
    ∷ (began T kind.Independent 5 (Some D) ∷ []) ∷ [])

commits_begin :
    Begins (one_node 0) nested (event.Commit S) (body.Ended S ∷ []) × Begins (one_node 0) nested (event.Commit D) (body.Committing D ∷ [])
    × Begins (one_node 0) nested (event.Commit N) (body.Committed N ∷ []) × Begins (one_node 0) nested (event.Commit T) (body.Committing T ∷ [])
commits_begin = (inl refl, inl refl, inl refl, inl refl)

no_call_of_serial : Begins (one_node 0) nested (event.Commit S) (body.Committing S ∷ []) → ⊥
no_call_of_serial (inl e) = cc
no_call_of_serial (inr e) = let h = e.0 in cc

no_call_of_nested : Begins (one_node 0) nested (event.Commit N) (body.Committing N ∷ []) → ⊥
no_call_of_nested (inl e) = cc
no_call_of_nested (inr e) = let h = e.0 in cc

-- An abort ends the action with all below it, the latest first, and no independent one.
abort_ends : map (λ a. a.label) (aborted_of nested.lines (act_in (acts nested.lines) (name D))) ≡ name C ∷ name N ∷ name D ∷ []
abort_ends = refl

aborts_begin : Begins (one_node 0) nested (event.Abort D) (body.Aborted C cause.Asked ∷ body.Aborted N cause.Asked ∷ body.Aborted D cause.Asked ∷ [])
aborts_begin = (refl, (refl, (refl, tt)))

no_child_left : Begins (one_node 0) nested (event.Abort D) (body.Aborted D cause.Asked ∷ []) → ⊥
no_child_left h = let same : 68 ≡ 67 = ap (λ bs. get_or bs 0 0) h.0 in omega (arith, same)

-- A top that a restart found committed isn't undecided; before that it was.
decided : map (λ n. undecided (lines_of (take n stop_at_decision_done_bodies))) (4 ∷ 6 ∷ 7 ∷ []) ≡ (0 ∷ []) ∷ (0 ∷ []) ∷ [] ∷ []
decided = refl

-- What an undecided top would put has nothing of its aborted nested actions.
next_without_aborted :
    next_state (one_node 0) (lines_of (take 6 nested_abort_bodies ++ (body.Committing A ∷ body.Halted 1 ∷ []) ∷ [])) 0 1
    ≡ record { uid = object 1; class = class.Counter; version = 1; writer = uid 1; payload = counter 4; format = format.Two }
next_without_aborted = refl

-- The limit of labels is tested behind the causes 1 to 5 and before all others: A's node has halted.
abbrev full : Past
full = record {
  start = fresh;
  count = 4096;
  accepted = [];
  lines =
      block 1 (replicate 4095 (began B kind.Top 2 None) ++ began A kind.Top 1 None ∷ body.Halted 1 ∷ []);
}

late_causes :
    map (refusal (one_node 0) full) (event.Begin C 1 ∷ event.Serial C 2 ∷ event.BeginIn C A ∷ event.Top C A ∷ event.BeginIn A A ∷ event.BeginIn C D ∷ [])
    ≡ Some 2 ∷ Some 1 ∷ Some 6 ∷ Some 6 ∷ Some 4 ∷ Some 5 ∷ []
late_causes = refl

-- Causes of events by what waits: a call of A, and then its commit.
abbrev asking : Past
asking = past_from nothing_yet (take 2 exclusion_events) (take 2 to_prepares)

abbrev called : Past
called = past_from nothing_yet (take 4 exclusion_events) to_prepares

waiting_causes :
    map (refusal three_nodes asking) (event.Call A 1 Get ∷ event.Include A 1 2 ∷ event.Commit A ∷ event.Abort A ∷ event.BeginIn N A ∷ event.Top T A ∷ event.GiveUp A ∷ event.Deliver (Number 2) ∷ [])
    ++ map (refusal three_nodes called) (event.Call A 1 Get ∷ event.Commit A ∷ event.Abort A ∷ event.GiveUp A ∷ event.Deliver (Number 4) ∷ [])
    ≡ Some 7 ∷ Some 7 ∷ Some 7 ∷ Some 7 ∷ Some 7 ∷ Some 7 ∷ None ∷ Some 17 ∷ Some 7 ∷ Some 7 ∷ Some 7 ∷ None ∷ None ∷ []
waiting_causes = refl

-- and by their kinds: S is serializing with D in it, N below D and C below N, and T is independent.
kind_causes :
    map (refusal (one_node 0) nested) (event.Commit S ∷ event.Commit D ∷ event.Commit N ∷ event.Commit C ∷ event.Call S 1 Get ∷ event.Top A S ∷ event.Top A D ∷ event.BeginIn A S ∷ event.GiveUp T
    ∷ event.Restart 1 ∷ event.Tick 2 ∷ event.Show 9 ∷ event.Abort D ∷ [])
    ≡ Some 9 ∷ Some 9 ∷ Some 9 ∷ None ∷ Some 11 ∷ Some 10 ∷ None ∷ None ∷ Some 8 ∷ Some 3 ∷ Some 1 ∷ Some 13 ∷ None ∷ []
kind_causes = refl

-- the Uid of the action that the first of these lines begins
abbrev uid_first : List Body → Uid
uid_first (body.Began l k u p ∷ rest) = u
uid_first _ = uid 0

abbrev num_first : List Body → ℕ
num_first bodies = (uid_first bodies).num

abbrev node_first : List Body → ℕ
node_first bodies = (uid_first bodies).node

-- A beginning has its one line: with the next Uid of the node, of the event's own kind, and nothing behind it.
begins_so : (bodies : List Body) → Step (one_node 0) nothing_yet (event.Begin A 1) bodies → bodies ≡ began A kind.Top 1 None ∷ []
begins_so bodies s = by s.lines
  where
    alone : (own others last : List Body) → list_all (may_stand (event.Begin A 1)) others ≡ true → last ≡ [] →
        own ≡ began A kind.Top 1 None ∷ []
        → bodies ≡ own ++ (others ++ last) → bodies ≡ began A kind.Top 1 None ∷ []
    alone own [] last only ends begins parts =
        parts ∙ (ap (λ (o : List Body). o ++ last) begins ∙ ap (λ (o : List Body). began A kind.Top 1 None ∷ o) ends)
    alone own (b ∷ bs) last only ends begins parts = cc

    by : (Accepted (one_node 0) nothing_yet (event.Begin A 1) bodies ⊎ IsRefusedDoomed (one_node 0) nothing_yet (event.Begin A 1) bodies) →
        bodies ≡ began A kind.Top 1 None ∷ []
    by (inl a) = alone a.own a.others a.last a.only a.ends a.begins a.parts
    by (inr d) = let e = d.about in cc

-- so not without a line, and with no other Uid, node or kind, and no halt
no_silent_begin : Step (one_node 0) nothing_yet (event.Begin A 1) [] → ⊥
no_silent_begin s = let h = begins_so [] s in cc

no_later_uid : Step (one_node 0) nothing_yet (event.Begin A 1) (began A kind.Top 2 None ∷ []) → ⊥
no_later_uid s = let h : 2 ≡ 1 = ap num_first (begins_so (began A kind.Top 2 None ∷ []) s) in omega (arith, h)

no_other_node : Step (one_node 0) nothing_yet (event.Begin A 1) (body.Began A kind.Top (record { node = 2; inc = 1; num = 1 }) None ∷ []) →
    ⊥
no_other_node s =
    let h : 2 ≡ 1 = ap node_first (begins_so (body.Began A kind.Top (record { node = 2; inc = 1; num = 1 }) None ∷ []) s) in omega (arith, h)

no_other_kind : Step (one_node 0) nothing_yet (event.Begin A 1) (began A kind.Nested 1 None ∷ []) → ⊥
no_other_kind s = let h = begins_so (began A kind.Nested 1 None ∷ []) s in cc

no_halt_behind : Step (one_node 0) nothing_yet (event.Begin A 1) (began A kind.Top 1 None ∷ body.Halted 1 ∷ []) → ⊥
no_halt_behind s = let h = begins_so (began A kind.Top 1 None ∷ body.Halted 1 ∷ []) s in cc

-- A line that can't be read is told with the number of the events that were run.
no_early_end : AreEnding 3 (record { event = 0; body = body.Bad 3 } ∷ []) → ⊥
no_early_end h = let e : 0 ≡ 3 = h.0 in omega (arith, e)

-- Behind the limit of frames no event is run.
no_event_behind : (bodies : List Body) →
    Step (one_node 0) (record begun { lines = begun.lines ++ block 2 (body.Limit which.Frames ∷ []) }) (event.Begin B 1) bodies → ⊥
no_event_behind bodies s = let h : true ≡ false = s.goes_on in cc

-- A run that goes on where another ended: node 2 is down, nodes had three incarnations before, and A was a label of that run.
abbrev later : Past
later = at_start (record fresh { up = λ n. not (n == 2); incs = λ n. 3; given = A ∷ [] })

later_refusals :
    map (refusal three_nodes later) (
    event.Begin A 1 ∷ event.Begin B 1 ∷ event.Begin B 2 ∷ event.Call A 1 Get ∷ event.Commit B ∷ event.BeginIn B A ∷ event.Restart 1 ∷ event.Restart 2 ∷ event.Crash 2 ∷ [])
    ≡ Some 4 ∷ None ∷ Some 2 ∷ Some 6 ∷ Some 5 ∷ Some 6 ∷ Some 3 ∷ None ∷ Some 2 ∷ []
later_refusals = refl

later_uid : next_uid later.start later.lines 1 ≡ record { node = 1; inc = 4; num = 1 }
later_uid = refl

-- A frame that is sent has the next number, and a settle delivers the first that is open.
no_other_frame : AnswerFits fresh [] [] (sent 2 1 2 frame.Bind) → ⊥
no_other_frame is = let h : 2 ≡ 1 = is in omega (arith, h)

abbrev two_open : List Line
two_open = block 1 (sent 1 1 2 frame.Bind ∷ sent 2 1 3 frame.Load ∷ [])

no_later_frame : AnswerFits fresh [] two_open (body.Got 2) → ⊥
no_later_frame is = let h : false ≡ true = is in cc

no_closed_frame : AnswerFits fresh [] (two_open ++ block 1 (body.Got 1 ∷ [])) (body.Void 1) → ⊥
no_closed_frame is = let h : false ≡ true = is in cc

next_frame : AnswerFits fresh [] (two_open ++ block 1 (body.Dropped 1 ∷ [])) (body.Got 2)
next_frame = refl
