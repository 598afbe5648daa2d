-- A protocol whose tick forgets one kind of message, tried on what a quiesce answers and leaves: for each kind that a tick sends again
-- there is a run that is refused. A call waits for ever, or a commit, or something is left where nobody waits.
use Rattle.std.specs.Prelude.{◌≡◌, ℕ, Bool, true, false, not, ◌&&◌, List, [], ◌∷◌, ◌++◌, length, map, filter, drop, Option, Some, None}
use Rattle.std.specs.Prelude.{refl}
use Rattle.std.specs.List.{list_any}
use Rattle.std.proofs.Common.{sym, ◌∙◌, ⊎_elim}
use Rattle.std.proofs.lemmas.Bool.{and_parts}
use Rattle.arj_class.specs.declared.op.Op.TheVariants as op
use Rattle.arj_journal.specs.declared.body.Body.{Body}
use Rattle.arj_journal.specs.declared.body.FrameKind.{FrameKind}
use Rattle.arj_journal.specs.declared.body.FrameKind.TheVariants as frame
use Rattle.arj_journal.specs.declared.body.Line.{Line}
use Rattle.arj_journal.specs.declared.event.Event.{Event}
use Rattle.arj_journal.specs.declared.event.Event.TheVariants as event
use Rattle.arj_journal.specs.declared.event.FrameNo.TheVariants.{Number}
use Rattle.arj_model.specs.CauseSpans.{holds_in, same_frame}
use Rattle.arj_model.specs.Past.{Past, next, nothing_yet}
use Rattle.arj_model.specs.Refusals.{is_committing, waits_for}
use Rattle.arj_protocol.specs.Ask.{frame_kind}
use Rattle.arj_protocol.specs.Asking.{again_all}
use Rattle.arj_protocol.specs.Effect.{Before, Effect, Send}
use Rattle.arj_protocol.specs.Node.{Parts, holders, query_about, with_coord}
use Rattle.arj_protocol.specs.Step.{Node, Step, node_did, tolds_again}
use Rattle.arj_protocol.specs.Tree.{at_place}
use Rattle.arj_protocol.specs.World.{World, counted, done_step, format, node_numbers, quiesce, quiet_line, run_event, settle}
use Rattle.arj_law_cause.specs.rounds.Quiesces.{IsWhole, QuiescesStep, answers_call, answers_commit, are_up, cuts_short, is_overtaken}
use Rattle.arj_text.specs.Label.{name}
use Rattle.arj_cause_tests.proofs.Words.{l}
use Rattle.arj_cause_tests.proofs.WrongEvents.{two_nodes}
use Rattle.arj_cause_tests.proofs.WrongQuiesces.{quiet_said}

-- ---- a tick that forgets

-- the effect is no message of this kind
abbrev is_kept : FrameKind → Effect → Bool
is_kept what (Send to m) = not (same_frame (frame_kind m) what)
is_kept what e = true

-- a tick of the protocol, but that it sends no message of this kind
abbrev forgetful_step : FrameKind → Node → Parts → Step
forgetful_step what n t =
    let d = again_all t.coord.doings t.coord in
    node_did n [] (with_coord t d.part)
    (filter (is_kept what) (d.outs ++ tolds_again t.coord.telling ++ map query_about (holders n.disk t)))

-- a node that is up takes such a tick
abbrev tick_of : FrameKind → ℕ → World → World
tick_of what n w = elim (at_place n w.nodes) [
  | None ↦ w
  | Some a ↦ elim a.live [ None ↦ w | Some t ↦ done_step n (forgetful_step what a t) w ]
]

-- these nodes do, one after another
abbrev ticks_of : FrameKind → List ℕ → World → World
ticks_of what [] w = w
ticks_of what (n ∷ ns) w = ticks_of what ns (tick_of what n w)

-- a quiesce of the protocol, but with such ticks
abbrev quiesce_of : FrameKind → World → World
quiesce_of what w = quiet_line (settle (ticks_of what (node_numbers w) (settle w)))

-- ---- runs

-- a run so far: the world behind it, and its events with their lines
abbrev Ran : Type 0
Ran = World × Past

-- the lines of an event between two worlds
abbrev wrote : World → World → List Body
wrote w v = map (λ (line : Line). line.body) (drop (length w.lines) v.lines)

-- one event of the protocol, into which no stop falls
abbrev goes : Ran → Event → Ran
goes r e = let w = run_event (record { event = e; arm = record { works = 1; how = Before } }) r.0 in (w, next r.1 e (wrote r.0 w))

-- these events
abbrev all_go : Ran → List Event → Ran
all_go r [] = r
all_go r (e ∷ es) = all_go (goes r e) es

-- the lines of a quiesce behind it, where ticks forget messages of this kind
abbrev quiesced : FrameKind → Ran → List Body
quiesced what r = wrote r.0 (quiesce_of what (counted r.0))

-- what that quiesce does isn't what one has to do
abbrev IsRefused : FrameKind → Ran → Type 0
IsRefused what r = QuiescesStep two_nodes r.1 event.Quiesce (quiesced what r) → ⊥

-- ---- what is refused

-- action A
abbrev asker : List ℕ
asker = name (l 65)

-- nothing cuts the quiesce short
abbrev is_whole : Past → List Body → Bool
is_whole p bs = are_up two_nodes p.start p.lines && not (list_any cuts_short bs)

-- A waits for a call that isn't overtaken, and no line of the quiesce answers it
abbrev leaves_call : Past → List Body → Bool
leaves_call p bs = is_whole p bs
    && (holds_in (λ e. not (is_overtaken (next p event.Quiesce bs).lines (Some e))) (waits_for p.accepted p.lines asker)
    && not (list_any (answers_call asker) bs))

-- it waits for its commit, and none ends that
abbrev leaves_commit : Past → List Body → Bool
leaves_commit p bs = is_whole p bs && (is_committing p.lines asker && not (list_any (answers_commit asker) bs))

is_off : (b : Bool) → not b ≡ true → b ≡ false
is_off false is = refl
is_off true is = absurd (cc is)

never_on : {A : Type 0} (b : Bool) → b ≡ true → b ≡ false → A
never_on b on off = let no_way : true ≡ false = sym on ∙ off in absurd (cc no_way)

whole_so : (p : Past) (bs : List Body) → is_whole p bs ≡ true → IsWhole two_nodes p event.Quiesce bs
whole_so p bs is = let q = and_parts (are_up two_nodes p.start p.lines) (not (list_any cuts_short bs)) is in
    record { quiesces = refl; up = q.0; whole = is_off (list_any cuts_short bs) q.1 }

call_refused : (p : Past) (bs : List Body) → leaves_call p bs ≡ true → QuiescesStep two_nodes p event.Quiesce bs → ⊥
call_refused p bs is s = by (waits_for p.accepted p.lines asker) refl b.0
  where
    a : (is_whole p bs ≡ true) × ((holds_in (λ e. not (is_overtaken (next p event.Quiesce bs).lines (Some e)))
        (waits_for p.accepted p.lines asker) && not (list_any (answers_call asker) bs)) ≡ true)
    a = and_parts (is_whole p bs) _ is

    b : (holds_in (λ e. not (is_overtaken (next p event.Quiesce bs).lines (Some e))) (waits_for p.accepted p.lines asker) ≡ true)
        × (not (list_any (answers_call asker) bs) ≡ true)
    b = and_parts _ (not (list_any (answers_call asker) bs)) a.1

    by : (o : Option Event) → waits_for p.accepted p.lines asker ≡ o →
        holds_in (λ e. not (is_overtaken (next p event.Quiesce bs).lines (Some e))) o ≡ true → ⊥
    by None none off = absurd (cc off)
    by (Some e) found calm = ⊎_elim
        (λ still. never_on (is_overtaken (next p event.Quiesce bs).lines (Some e)) still.1
        (is_off (is_overtaken (next p event.Quiesce bs).lines (Some e)) calm))
        (λ answered. never_on (list_any (answers_call asker) bs) answered (is_off (list_any (answers_call asker) bs) b.1))
        ((s (whole_so p bs a.0)).calls asker e found)

commit_refused : (p : Past) (bs : List Body) → leaves_commit p bs ≡ true → QuiescesStep two_nodes p event.Quiesce bs → ⊥
commit_refused p bs is s =
    let a = and_parts (is_whole p bs) (is_committing p.lines asker && not (list_any (answers_commit asker) bs)) is in
    let b = and_parts (is_committing p.lines asker) (not (list_any (answers_commit asker) bs)) a.1 in
    never_on (list_any (answers_commit asker) bs) ((s (whole_so p bs a.0)).commits asker b.0)
    (is_off (list_any (answers_commit asker) bs) b.1)

-- ---- what is asked for a call of A, at node 2, of an object at node 1

abbrev deliver : ℕ → Event
deliver k = event.Deliver (Number k)

abbrev lose : ℕ → Event
lose k = event.Lose (Number k)

abbrev called : Ran
called = all_go (format two_nodes, nothing_yet) (event.Begin (l 65) 2 ∷ event.Call (l 65) 1 (op.Add 1) ∷ [])

abbrev bind_lost : Ran
bind_lost = goes called (lose 1)

bind_forgotten : IsRefused frame.Bind bind_lost
bind_forgotten = call_refused bind_lost.1 (quiesced frame.Bind bind_lost) refl

abbrev bound : Ran
bound = all_go called (deliver 1 ∷ deliver 2 ∷ [])

abbrev load_lost : Ran
load_lost = goes bound (lose 3)

load_forgotten : IsRefused frame.Load load_lost
load_forgotten = call_refused load_lost.1 (quiesced frame.Load load_lost) refl

abbrev loaded : Ran
loaded = all_go bound (deliver 3 ∷ deliver 4 ∷ [])

abbrev activate_lost : Ran
activate_lost = goes loaded (lose 5)

activate_forgotten : IsRefused frame.Activate activate_lost
activate_forgotten = call_refused activate_lost.1 (quiesced frame.Activate activate_lost) refl

abbrev activated : Ran
activated = all_go loaded (deliver 5 ∷ deliver 6 ∷ [])

abbrev record_lost : Ran
record_lost = goes activated (lose 7)

record_forgotten : IsRefused frame.Record record_lost
record_forgotten = call_refused record_lost.1 (quiesced frame.Record record_lost) refl

abbrev recorded : Ran
recorded = all_go activated (deliver 7 ∷ deliver 8 ∷ [])

abbrev invoke_lost : Ran
invoke_lost = goes recorded (lose 9)

invoke_forgotten : IsRefused frame.Invoke invoke_lost
invoke_forgotten = call_refused invoke_lost.1 (quiesced frame.Invoke invoke_lost) refl

-- ---- and for its commit

abbrev committing : Ran
committing = all_go recorded (deliver 9 ∷ deliver 10 ∷ event.Commit (l 65) ∷ [])

abbrev vote_lost : Ran
vote_lost = goes committing (lose 11)

vote_forgotten : IsRefused frame.Vote vote_lost
vote_forgotten = commit_refused vote_lost.1 (quiesced frame.Vote vote_lost) refl

abbrev voted : Ran
voted = all_go committing (deliver 11 ∷ deliver 12 ∷ [])

abbrev prepare_lost : Ran
prepare_lost = goes voted (lose 13)

prepare_forgotten : IsRefused frame.Prepare prepare_lost
prepare_forgotten = commit_refused prepare_lost.1 (quiesced frame.Prepare prepare_lost) refl

abbrev prepared : Ran
prepared = goes voted (deliver 13)

abbrev confirm_lost : Ran
confirm_lost = all_go prepared (deliver 14 ∷ lose 15 ∷ [])

confirm_forgotten : IsRefused frame.Confirm confirm_lost
confirm_forgotten = commit_refused confirm_lost.1 (quiesced frame.Confirm confirm_lost) refl

-- ---- where nobody waits

-- The acknowledgement of its end is lost: the record stays where the end isn't told again.
abbrev acked_lost : Ran
acked_lost = all_go prepared (deliver 14 ∷ deliver 15 ∷ deliver 16 ∷ deliver 17 ∷ lose 18 ∷ [])

told_forgotten : IsRefused frame.Told acked_lost
told_forgotten s = let q = (s (whole_so acked_lost.1 (quiesced frame.Told acked_lost) refl)).calm refl refl in quiet_said q.0 q.1

-- Node 2 crashed in the commit, and its hello is lost: what is prepared stays where it isn't asked about.
abbrev hello_lost : Ran
hello_lost = all_go prepared (lose 14 ∷ event.Crash 2 ∷ event.Restart 2 ∷ lose 15 ∷ [])

query_forgotten : IsRefused frame.Query hello_lost
query_forgotten s = let q = (s (whole_so hello_lost.1 (quiesced frame.Query hello_lost) refl)).calm refl refl in quiet_said q.0 q.1

-- A tick that forgets what none sends is the protocol's own: what it does in such a run is a line for each message, and the answer.
own_tick : quiesced frame.Hello bind_lost ≡ wrote bind_lost.0 (quiesce (counted bind_lost.0))
own_tick = refl

bind_repeated : list_any (answers_call asker) (quiesced frame.Hello bind_lost) ≡ true
bind_repeated = refl
