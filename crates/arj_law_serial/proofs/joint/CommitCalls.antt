-- A commit call is the first line of its event.
use Rattle.arj_law_parts.proofs.Words
use Words.{Start, world_from}
use Words.{◌≡◌, ◌≢◌, ◌≤◌, ◌<◌, ◌⊎◌, ◌+◌, ◌++◌, ◌==◌, ◌∙◌, ℕ, zero, suc, Bool, true, false, cond, not, List, [], ◌∷◌, Option, Some, None}
use Words.{append-nil, append_assoc, ap, arith, inl, inr, length, refl, subst, sym, ◌||◌, ◌-◌, nat_le, nat_lt, AllByRecursion, map-append}
use Words.{and_parts, nat_tests, steps_lines, taken_took, again_all, end_line, CallEnd, Goal, Include, Run, Doing, doing_of, Disk, Do}
use Words.{Effect, Pair, Say, Send, Stop, held_at, holder_of, worked, say_for, says as says_of, tick_outs, effects_of, effects_of_node}
use Words.{effects_until, Handled, Here, Parts, Ran, Took, Void, first_done, first_queued, handle_all, most_rounds, next_round, ran}
use Words.{ran_handled, rounds, taken, whole, with_coord, at_number, Input, Node, Step, acts, copy_line, entry_line, first_reason}
use Words.{frame_step, handled_step, node_did, parts_in, refusal, restart_outs, show_entry, show_outs, shown, step, step_down, step_of}
use Words.{step_unless, step_up, void_step, at_place, Body, Event, Header, Kind, Label, Line, Message, ObjectState, Uid, entry, object}
use Words.{frame_kind, Arm, Frame, Giving, World, as_delivered, as_lost, armed, begins, begins_any, bodies, change_frame, count_works}
use Words.{counted, cut, deliver, deliver_frame, disarmed, done_step, frame_number, giving, gives_label, halted_at, halted_outs}
use Words.{happens, is_quiet, is_up_at, junk_fits, labels_unless, lacks_labels, limited, lose_frame, lowest, new_frame}
use Words.{no_labels, node_numbers, node_of, numbered, quiesce, reasons, refused_at, run_event, run_unless, sent_line, settle, settle_for}
use Words.{show_all, show_up, step_node, step_with, steps, tick_all, tick_up, Move, all_moved, moved, journal_by}
use Words.{world_by, most_frames}
use Words.calls
use Words.commit
use Words.input
use Words.body
use Words.event
use Words.frame
use Rattle.arj_law_serial.proofs.Terms
use Terms.{all_append, SayOf, Asked, says, AreLooks, LooksAlone, taken_looks}
use Terms.which
use Rattle.arj_law_serial.proofs.whole.CalledSays.{acts_fine, calls_commit, is_apart, message_fine, restart_fine, tick_fine}
use Rattle.arj_law_serial.specs.joint.Excluded.{NeverFall, RunsBeginWithCalls}
use Rattle.arj_promise.specs.Runs.{Run as RunOf}

-- ---- effects

-- the line calls no commit
abbrev pub NoCall : Body → Type 0
NoCall b = calls_commit b ≡ false

pub no_call : (b : Body) → is_apart b ≡ false → NoCall b
no_call (body.Committing l) none = absurd (cc none)
no_call b none = refl

pub marks_quiet : (d : Doing) (marks : List (ℕ × ℕ)) → AllByRecursion (λ (z : ℕ × ℕ). NoCall (body.Excluded d.label z.0 z.1)) marks
marks_quiet d [] = tt
marks_quiet d (z ∷ marks) = (refl, marks_quiet d marks)

abbrev Quiet : List Effect → Type 0
Quiet outs = AllByRecursion (SayOf NoCall) outs

-- no effect calls a commit, or the first alone where it may
abbrev Calls : Bool → List Effect → Type 0
Calls may outs = Quiet outs ⊎ ((may ≡ true) × (l : Label) × (rest : List Effect) × (outs ≡ Say (body.Committing l) ∷ rest) × Quiet rest)

quiet_of : (outs : List Effect) → Calls false outs → Quiet outs
quiet_of outs (inl q) = q
quiet_of outs (inr c) = let no_way : false ≡ true = c.0 in absurd (cc no_way)

calls_behind : (may : Bool) (es fs : List Effect) → Calls may es → Quiet fs → Calls may (es ++ fs)
calls_behind may es fs (inl q) r = inl (all_append (SayOf NoCall) es fs q r)
calls_behind may es fs (inr (ok, l, rest, is, q)) r = inr (ok, l, rest ++ fs, ap (λ z. z ++ fs) is, all_append (SayOf NoCall) rest fs q r)

-- how a call ends isn't one
pub end_quiet : (x : ℕ) (g : Goal) (e : CallEnd) (l : Label) → NoCall (end_line x g e l)
end_quiet x (Run o) (calls.Answered a) l = refl
end_quiet x (Include s) (calls.Answered a) l = refl
end_quiet x g (calls.Included st) l = refl
end_quiet x g (calls.Conflict h m n) l = refl
end_quiet x g (calls.Changed n w) l = refl
end_quiet x g (calls.Lost n b) l = refl

ran_quiet : (n : ℕ) (t : Parts) (es : List Effect) (d : Disk) → Quiet es → Quiet (ran n t es d).outs
ran_quiet n t [] d q = tt
ran_quiet n t (Say b ∷ es) d q = (q.0, ran_quiet n t es d q.1)
ran_quiet n t (Do w ∷ es) d q = (tt, ran_quiet n t es (worked w d) q.1)
ran_quiet n t (Send to m ∷ es) d q = by (to == n) (ran_quiet n t es d q.1)
  where
    by : (b : Bool) → Quiet (ran n t es d).outs →
        Quiet (cond b (first_queued m (ran n t es d)) (first_done (Send to m) (ran n t es d))).outs
    by true rest = rest
    by false rest = (tt, rest)

ran_calls : (may : Bool) (n : ℕ) (t : Parts) (es : List Effect) (d : Disk) → Calls may es → Calls may (ran n t es d).outs
ran_calls may n t es d (inl q) = inl (ran_quiet n t es d q)
ran_calls may n t es d (inr (ok, l, rest, is, q)) =
    inr (ok, l, (ran n t rest d).outs, ap (λ z. (ran n t z d).outs) is, ran_quiet n t rest d q)

looks_quiet : (outs : List Effect) → AreLooks outs → Quiet outs
looks_quiet [] looks = tt
looks_quiet (Do w ∷ es) looks = (tt, looks_quiet es (and_parts _ _ looks).1)
looks_quiet (Send to m ∷ es) looks = absurd (cc looks)
looks_quiet (Say b ∷ es) looks = absurd (cc looks)

taken_quiet : (n from : ℕ) (d : Disk) (t : Parts) (m : Message) → (v : Handled) → LooksAlone v → taken n d t from m ≡ v →
    Quiet (elim v [ Void outs ↦ outs | Took u outs ↦ outs ])
taken_quiet n from d t m (Void outs) looks is = looks_quiet outs looks
taken_quiet n from d t m (Took u outs) looks is = message_fine NoCall no_call n d t u from m outs (taken_took n d t u from m outs is)
    (λ a r q s of found now its e ends l. end_quiet s.x s.goal e l) (λ a r q c of found now. marks_quiet q (commit.answered from c r).marks)

handled_quiet : (n : ℕ) (h : Here) (v : Handled) → Quiet (elim v [ Void outs ↦ outs | Took u outs ↦ outs ]) → Quiet (ran_handled n h v).outs
handled_quiet n h (Void outs) q = ran_quiet n h.parts outs h.disk q
handled_quiet n h (Took u outs) q = ran_quiet n u outs h.disk q

all_quiet : (n : ℕ) (ms : List Message) (h : Here) → Quiet (handle_all n ms h).outs
all_quiet n [] h = tt
all_quiet n (m ∷ ms) h =
    let v = taken n h.disk h.parts n m in
    let r = ran_handled n h v in
    all_append (SayOf NoCall) r.outs (handle_all n ms r.here).outs
    (handled_quiet n h v (taken_quiet n n h.disk h.parts m v (taken_looks n h.disk h.parts n m) refl)) (all_quiet n ms r.here)

rounds_calls : (may : Bool) (n k : ℕ) (r : Ran) → Calls may r.outs → Calls may (rounds n k r).outs
rounds_calls may n zero r c = c
rounds_calls may n (suc k) r c = by r.queue
    (rounds_calls may n k (next_round n r) (calls_behind may r.outs (handle_all n r.queue r.here).outs c (all_quiet n r.queue r.here)))
  where
    by : (q : List Message) → Calls may (rounds n k (next_round n r)).outs →
        Calls may (let z : Ran = elim q [ [] ↦ r | m ∷ ms ↦ rounds n k (next_round n r) ] in z.outs)
    by [] more = c
    by (m ∷ ms) more = more

whole_calls : (may : Bool) (n : ℕ) (t : Parts) (es : List Effect) (d : Disk) → Calls may es → Calls may (whole n t es d).outs
whole_calls may n t es d c = rounds_calls may n most_rounds (ran n t es d) (ran_calls may n t es d c)

-- ---- steps

-- the input is a commit
abbrev is_commit : Input → Bool
is_commit (input.Commit l) = true
is_commit _ = false

abbrev Both : Bool → Step → Type 0
Both may s = Calls may s.outs × Calls may s.halting

did_both : (may : Bool) (n : Node) (t : Parts) (outs : List Effect) → Calls may outs → Both may (node_did n [] t outs)
did_both may n t outs c = let w = whole_calls may n.number t outs n.disk c in (w, w)

void_both : (may : Bool) (k : ℕ) (n : Node) (outs : List Effect) → Quiet outs → Both may (void_step k n outs)
void_both may k n outs q = (inl (all_append (SayOf NoCall) outs (Say (body.Void k) ∷ []) q (refl, tt)), inl (refl, q))

frame_both : (k from : ℕ) (n : Node) (t : Parts) (m : Option Message) → Both false (frame_step k from n t m)
frame_both k from n t None = void_both false k n [] tt
frame_both k from n t (Some m) = let v = taken n.number n.disk t from m in
    by v (taken_quiet n.number from n.disk t m v (taken_looks n.number n.disk t from m) refl)
  where
    by : (v : Handled) → Quiet (elim v [ Void outs ↦ outs | Took u outs ↦ outs ]) → Both false (handled_step k n v)
    by (Void outs) q = void_both false k n outs q
    by (Took u outs) q = let w : Calls false (Say (body.Got k) ∷ (whole n.number u outs n.disk).outs) = inl
        (refl, quiet_of _ (whole_calls false n.number u outs n.disk (inl q))) in (w, w)

acts_both : (n : Node) (t : Parts) (i : Input) → Both (is_commit i) (input.coord_did n t (acts i n.disk.intents t.coord))
acts_both n t i = let a = acts i n.disk.intents t.coord in did_both (is_commit i) n (with_coord t a.part) a.outs (by i refl)
  where
    called : (j : Input) → is_commit j ≡ true → (u : Uid) (es : List Effect) → Quiet es →
        Calls (is_commit j) (says_of u body.Committing t.coord ++ es)
    called j is u es q = one (doing_of u t.coord)
      where
        one : (o : Option Doing) → Calls (is_commit j) (say_for body.Committing o ++ es)
        one None = inl q
        one (Some d) = inr (is, d.label, es, refl, q)

    other : (j : Input) → ((l : Label) (q : Kind) (parent : Option Label) → j ≢ input.Begin l q parent) →
        Calls (is_commit j) (let a = acts j n.disk.intents t.coord in a.outs)
    other j apart =
        acts_fine NoCall no_call (Calls (is_commit j)) (λ es q. inl q) t.coord j n.disk.intents apart (λ u d s found is e ends l. end_quiet
        s.x s.goal e l) (λ u d m found is. marks_quiet d (commit.given_up m).marks) (λ l same u es q. called j (ap is_commit same) u es q)

    by : (j : Input) → i ≡ j → Calls (is_commit j) (let a = acts j n.disk.intents t.coord in a.outs)
    by (input.Begin l q parent) is = inl (refl, tt)
    by (input.Call l x o) is = other (input.Call l x o) (λ m q p no_way. cc no_way)
    by (input.Include l x s) is = other (input.Include l x s) (λ m q p no_way. cc no_way)
    by (input.Commit l) is = other (input.Commit l) (λ m q p no_way. cc no_way)
    by (input.Abort l) is = other (input.Abort l) (λ m q p no_way. cc no_way)
    by (input.GiveUp l) is = other (input.GiveUp l) (λ m q p no_way. cc no_way)
    by _ is = inl tt

show_quiet : (n x : ℕ) (d : Disk) → Quiet (show_outs n x d)
show_quiet n x d = all_append (SayOf NoCall) (show_entry n x d.names)
    (shown (copy_line n x) (object x) d.store (holder_of (object x) d.store)) (by (n == 1)) (looked (copy_line n x) (object x) d.store copy)
  where
    looked : (line : Option ObjectState → List Effect) (u : Uid) (p : Pair) → ((s : Option ObjectState) → Quiet (line s)) →
        Quiet (shown line u p (holder_of u p))
    looked line u p each = one (holder_of u p)
      where
        one : (o : Option Uid) → Quiet (shown line u p o)
        one (Some holder) = tt
        one None = (tt, each (held_at u p))

    copy : (s : Option ObjectState) → Quiet (copy_line n x s)
    copy None = tt
    copy (Some s) = (refl, tt)

    line : (s : Option ObjectState) → Quiet (entry_line x s)
    line None = tt
    line (Some s) = (refl, tt)

    by : (b : Bool) → Quiet (cond b (shown (entry_line x) (entry x) d.names (holder_of (entry x) d.names)) [])
    by true = looked (entry_line x) (entry x) d.names line
    by false = tt

up_both : (n : Node) (t : Parts) (i : Input) → Both (is_commit i) (step_up i n t)
up_both n t (input.Frame k from m) = frame_both k from n t m
up_both n t input.Tick = did_both false n (with_coord t (let a = again_all t.coord.doings t.coord in a.part)) (tick_outs n t)
    (inl (tick_fine NoCall no_call n t))
up_both n t input.Restart = (inl tt, inl tt)
up_both n t input.Crash = (inl (refl, tt), inl (refl, tt))
up_both n t (input.Show x) = (inl (show_quiet n.number x n.disk), inl (show_quiet n.number x n.disk))
up_both n t (input.Begin l k p) = acts_both n t (input.Begin l k p)
up_both n t (input.Call l x o) = acts_both n t (input.Call l x o)
up_both n t (input.Include l x s) = acts_both n t (input.Include l x s)
up_both n t (input.Commit l) = acts_both n t (input.Commit l)
up_both n t (input.Abort l) = acts_both n t (input.Abort l)
up_both n t (input.GiveUp l) = acts_both n t (input.GiveUp l)

down_both : (hd : Header) (n : Node) (i : Input) → Both (is_commit i) (step_down hd i n)
down_both hd n (input.Frame k from m) = void_both false k n [] tt
down_both hd n input.Restart = did_both false n (parts_in n.number (n.disk.inc + 1) n.disk)
    (restart_outs hd n.number (n.disk.inc + 1) n.disk) (inl (restart_fine NoCall no_call hd n.number (n.disk.inc + 1) n.disk))
down_both hd n i = (inl tt, inl tt)

step_both : (hd : Header) (n : Node) (i : Input) → Both (is_commit i) (step hd n i)
step_both hd n i = by (refusal hd i n)
  where
    live : (o : Option Parts) → Both (is_commit i) (step_of hd i n o)
    live None = down_both hd n i
    live (Some t) = up_both n t i

    by : (r : Option ℕ) → Both (is_commit i) (step_unless hd i n r)
    by (Some c) = (inl (refl, tt), inl (refl, tt))
    by None = live n.live

-- ---- stops

cut_quiet : (k : ℕ) (how : Stop) (outs : List Effect) (d : Disk) → Quiet outs → Quiet (cut k how outs d).outs
cut_quiet k how [] d q = tt
cut_quiet zero how (Do w ∷ es) d q = tt
cut_quiet (suc k) how (Do w ∷ es) d q = (tt, cut_quiet k how es (worked w d) q.1)
cut_quiet k how (Say b ∷ es) d q = (q.0, cut_quiet k how es d q.1)
cut_quiet k how (Send to m ∷ es) d q = (tt, cut_quiet k how es d q.1)

cut_calls : (may : Bool) (k : ℕ) (how : Stop) (outs : List Effect) (d : Disk) → Calls may outs → Calls may (cut k how outs d).outs
cut_calls may k how outs d (inl q) = inl (cut_quiet k how outs d q)
cut_calls may k how outs d (inr (ok, l, rest, is, q)) =
    inr (ok, l, (cut k how rest d).outs, ap (λ z. (cut k how z d).outs) is, cut_quiet k how rest d q)

effects_call : (k : ℕ) (i : Input) (w : World) → Calls (is_commit i) (effects_of k i w)
effects_call k i w = by (at_place k w.nodes)
  where
    by : (o : Option Node) → Calls (is_commit i) (effects_of_node k i w o)
    by None = inl tt
    by (Some n) = one (at_number k w.arms)
      where
        s : Step
        s = step w.header n i

        one : (a : Option Arm) → Calls (is_commit i) (effects_until k n s a)
        one None = (step_both w.header n i).0
        one (Some a) = two (nat_lt (count_works s.halting) a.works)
          where
            two : (b : Bool) → Calls (is_commit i) (cond b s.outs (halted_outs k (cut (a.works - 1) a.how s.halting n.disk)))
            two true = (step_both w.header n i).0
            two false = calls_behind (is_commit i) (cut (a.works - 1) a.how s.halting n.disk).outs (Say (body.Halted k) ∷ [])
                (cut_calls (is_commit i) (a.works - 1) a.how s.halting n.disk (step_both w.header n i).1) (refl, tt)

-- ---- lines

-- no line calls a commit, or the first alone where it may
abbrev CallsIn : Bool → List Body → Type 0
CallsIn may bs = AllByRecursion NoCall bs
    ⊎ ((may ≡ true) × (l : Label) × (rest : List Body) × (bs ≡ body.Committing l ∷ rest) × AllByRecursion NoCall rest)

none_in : (bs : List Body) → CallsIn false bs → AllByRecursion NoCall bs
none_in bs (inl q) = q
none_in bs (inr c) = let no_way : false ≡ true = c.0 in absurd (cc no_way)

in_behind : (may : Bool) (bs more : List Body) → CallsIn may bs → AllByRecursion NoCall more → CallsIn may (bs ++ more)
in_behind may bs more (inl q) r = inl (all_append NoCall bs more q r)
in_behind may bs more (inr (ok, l, rest, is, q)) r = inr (ok, l, rest ++ more, ap (λ z. z ++ more) is, all_append NoCall rest more q r)

bodies_quiet : (n k : ℕ) (es : List Effect) → Quiet es → AllByRecursion NoCall (bodies n k es)
bodies_quiet n k [] q = tt
bodies_quiet n k (Say b ∷ es) q = (q.0, bodies_quiet n k es q.1)
bodies_quiet n k (Do w ∷ es) q = bodies_quiet n k es q.1
bodies_quiet n k (Send to m ∷ es) q = all_append NoCall (sent_line (k + 1) n to (frame_kind m)) (bodies n (k + 1) es)
    (by (nat_le (k + 1) most_frames)) (bodies_quiet n (k + 1) es q.1)
  where
    by : (b : Bool) → AllByRecursion NoCall (cond b (body.Sent (k + 1) n to (frame_kind m) ∷ []) [])
    by true = (refl, tt)
    by false = tt

bodies_call : (may : Bool) (n k : ℕ) (es : List Effect) → Calls may es → CallsIn may (bodies n k es)
bodies_call may n k es (inl q) = inl (bodies_quiet n k es q)
bodies_call may n k es (inr (ok, l, rest, is, q)) = inr (ok, l, bodies n k rest, ap (bodies n k) is, bodies_quiet n k rest q)

-- ---- worlds

-- The lines that come, in this event.
record Adds (may : Bool) (w v : World) : Type 0 where
  said : List Body
  lines : v.lines ≡ w.lines ++ numbered w.event said
  event : v.event ≡ w.event
  calls : CallsIn may said

nothing_adds : (may : Bool) (w v : World) → v.lines ≡ w.lines → v.event ≡ w.event → Adds may w v
nothing_adds may w v lines same = record { said = []; lines = lines ∙ sym (append-nil w.lines); event = same; calls = inl tt }

numbered_on : (e : ℕ) (bs more : List Body) → numbered e (bs ++ more) ≡ numbered e bs ++ numbered e more
numbered_on e bs more = map-append (λ (b : Body). record { event = e; body = b }) bs more

adds_behind : (may : Bool) (u v w : World) → Adds may u v → Adds false v w → Adds may u w
adds_behind may u v w a b = record {
  said = a.said ++ b.said;
  lines = b.lines ∙ (λ i. a.lines i ++ numbered (a.event i) b.said) ∙ append_assoc u.lines (numbered u.event a.said)
      (numbered u.event b.said) ∙ ap (λ z. u.lines ++ z) (sym (numbered_on u.event a.said b.said));
  event = b.event ∙ a.event;
  calls = in_behind may a.said b.said a.calls (none_in b.said b.calls);
}

says_adds : (bs : List Body) (w v : World) → AllByRecursion NoCall bs → v.lines ≡ w.lines → v.event ≡ w.event → Adds false w (says bs v)
says_adds bs w v quiet lines same = record { said = bs; lines = λ i. lines i ++ numbered (same i) bs; event = same; calls = inl quiet }

either_adds : (may b : Bool) (w v u : World) → Adds may w v → Adds may w u → Adds may w (cond b v u)
either_adds may true w v u a c = a
either_adds may false w v u a c = c

steps_event : (k : ℕ) (i : Input) (w : World) → (steps k i w).event ≡ w.event
steps_event k i w = by (at_place k w.nodes)
  where
    by : (o : Option Node) → (step_node k i w o).event ≡ w.event
    by None = refl
    by (Some n) = one (at_number k w.arms)
      where
        s : Step
        s = step w.header n i

        one : (a : Option Arm) → (step_with k n s w a).event ≡ w.event
        one None = refl
        one (Some a) = two (nat_lt (count_works s.halting) a.works)
          where
            two : (b : Bool) → (cond b (done_step k s (armed k (record a { works = a.works - count_works s.halting }) w))
                (halted_at k n (cut (a.works - 1) a.how s.halting n.disk) (disarmed k w))).event ≡ w.event
            two true = refl
            two false = refl

steps_add : (k : ℕ) (i : Input) (w : World) → Adds (is_commit i) w (steps k i w)
steps_add k i w = record {
  said = bodies k (length w.frames) (effects_of k i w);
  lines = steps_lines k i w;
  event = steps_event k i w;
  calls = bodies_call (is_commit i) k (length w.frames) (effects_of k i w) (effects_call k i w);
}

delivered_adds : (k : ℕ) (w : World) (o : Option Frame) → Adds false w (deliver_frame k w o)
delivered_adds k w None = nothing_adds false w w refl refl
delivered_adds k w (Some f) =
    let v = change_frame k as_delivered f w in
    adds_behind false w v (deliver_frame k w (Some f)) (nothing_adds false w v refl refl)
    (steps_add f.to (input.Frame k f.from f.message) v)

lost_adds : (k : ℕ) (w : World) (o : Option Frame) → Adds false w (lose_frame k w o)
lost_adds k w None = nothing_adds false w w refl refl
lost_adds k w (Some f) = says_adds (body.Dropped k ∷ []) w (change_frame k as_lost f w) (refl, tt) refl refl

settled_adds : (fuel : ℕ) (w : World) → Adds false w (settle_for fuel w)
settled_adds zero w = nothing_adds false w w refl refl
settled_adds (suc fuel) w = by (lowest w) (settled_adds fuel)
  where
    by : (o : Option ℕ) → ((v : World) → Adds false v (settle_for fuel v)) →
        Adds false w (elim o [ None ↦ w | Some k ↦ settle_for fuel (deliver k w) ])
    by None rest = nothing_adds false w w refl refl
    by (Some k) rest =
        adds_behind false w (deliver k w) (settle_for fuel (deliver k w)) (delivered_adds k w (at_place k w.frames)) (rest (deliver k w))

settle_adds : (w : World) → Adds false w (settle w)
settle_adds w = settled_adds most_frames w

ticks_add : (ns : List ℕ) (w : World) → Adds false w (tick_all ns w)
ticks_add [] w = nothing_adds false w w refl refl
ticks_add (n ∷ ns) w = adds_behind false w (tick_up n w) (tick_all ns (tick_up n w)) (either_adds false (w.full || not (is_up_at n w)) w w
    (steps n input.Tick w) (nothing_adds false w w refl refl) (steps_add n input.Tick w)) (ticks_add ns (tick_up n w))

quiesce_adds : (w : World) → Adds false w (quiesce w)
quiesce_adds w =
    let a = settle w in
    let b = tick_all (node_numbers w) a in
    let c = settle b in
    adds_behind false w c (quiesce w)
    (adds_behind false w b c (adds_behind false w a b (settle_adds w) (ticks_add (node_numbers w) a)) (settle_adds b))
    (either_adds false c.full c c (says (body.Quiet (is_quiet c) ∷ []) c) (nothing_adds false c c refl refl)
    (says_adds (body.Quiet (is_quiet c) ∷ []) c c (refl, tt) refl refl))

shows_add : (x : ℕ) (ns : List ℕ) (w : World) → Adds false w (show_all x ns w)
shows_add x [] w = nothing_adds false w w refl refl
shows_add x (n ∷ ns) w = adds_behind false w (show_up x n w) (show_all x ns (show_up x n w)) (either_adds false (is_up_at n w) w
    (steps n (input.Show x) w) w (steps_add n (input.Show x) w) (nothing_adds false w w refl refl)) (shows_add x ns (show_up x n w))

junk_adds : (n : ℕ) (w : World) (b : Bool) → Adds false w (junk_fits n w b)
junk_adds n w true = says_adds (body.Sent (length w.frames + 1) 0 n frame.Junk ∷ []) w
    (record w { frames = w.frames ++ new_frame 0 n None ∷ [] }) (refl, tt) refl refl
junk_adds n w false = nothing_adds false w (junk_fits n w false) refl refl

begins_add : (w : World) (o : Option Giving) (e : Event) → Adds false w (begins_any e w o)
begins_add w None e = nothing_adds false w w refl refl
begins_add w (Some g) e =
    let i = input.Begin g.label g.kind g.parent in
    let v = labels_unless g w (refused_at i w (at_place g.node w.nodes)) in
    adds_behind false w v (begins g w) (by (refused_at i w (at_place g.node w.nodes))) (steps_add g.node i v)
  where
    by : (r : Option ℕ) → Adds false w (labels_unless g w r)
    by None = nothing_adds false w (gives_label g w) refl refl
    by (Some c) = nothing_adds false w w refl refl

-- the event is a commit
abbrev is_commit_event : Event → Bool
is_commit_event (event.Commit l) = true
is_commit_event _ = false

happens_adds : (e : Event) (a : Arm) (w : World) → Adds (is_commit_event e) w (happens e a w)
happens_adds (event.Begin l n) a w = begins_add w (giving (event.Begin l n) w) (event.Begin l n)
happens_adds (event.Serial l n) a w = begins_add w (giving (event.Serial l n) w) (event.Serial l n)
happens_adds (event.BeginIn l p) a w = begins_add w (giving (event.BeginIn l p) w) (event.BeginIn l p)
happens_adds (event.Top l p) a w = begins_add w (giving (event.Top l p) w) (event.Top l p)
happens_adds (event.Call l x o) a w = steps_add (node_of l w) (input.Call l x o) w
happens_adds (event.Include l x n) a w = steps_add (node_of l w) (input.Include l x n) w
happens_adds (event.Commit l) a w = steps_add (node_of l w) (input.Commit l) w
happens_adds (event.Abort l) a w = steps_add (node_of l w) (input.Abort l) w
happens_adds (event.GiveUp l) a w = steps_add (node_of l w) (input.GiveUp l) w
happens_adds (event.Deliver k) a w = delivered_adds (frame_number k w) w (at_place (frame_number k w) w.frames)
happens_adds (event.Lose k) a w = lost_adds (frame_number k w) w (at_place (frame_number k w) w.frames)
happens_adds (event.Tick n) a w = steps_add n input.Tick w
happens_adds event.Settle a w = settle_adds w
happens_adds event.Quiesce a w = quiesce_adds w
happens_adds (event.Crash n) a w = steps_add n input.Crash w
happens_adds (event.Restart n) a w = steps_add n input.Restart w
happens_adds (event.Stop n c how) a w = says_adds (body.Armed n ∷ []) w (armed n a w) (refl, tt) refl refl
happens_adds (event.Junk n bytes) a w = junk_adds n w (nat_lt (length w.frames) most_frames)
happens_adds (event.Show x) a w = shows_add x (node_numbers w) w

limited_adds : (may : Bool) (w v : World) → Adds may w v → Adds may w (limited v)
limited_adds may w v a = either_adds may v.full w (says (body.Limit which.Frames ∷ []) (record v { over = true })) v
    (adds_behind may w v (says (body.Limit which.Frames ∷ []) (record v { over = true })) a
    (says_adds (body.Limit which.Frames ∷ []) v (record v { over = true }) (refl, tt) refl refl)) a

-- ---- runs

-- Lines are of events up to the last one, in order, and no line of its event stands before a commit call.
record AreFirst (w : World) : Type 0 where
  past : AllByRecursion (λ (k : Line). k.event ≤ w.event) w.lines
  order : NeverFall 0 w.lines
  calls : (before : List Line) (line : Line) (behind : List Line) (l : Label) → w.lines ≡ before ++ line ∷ behind →
      line.body ≡ body.Committing l → AllByRecursion (λ (k : Line). k.event < line.event) before

-- where a list of two parts is split: in the first part, or behind it
data SplitsIn (xs ys before : List Line) (line : Line) (behind : List Line) : Type 0 where
  InFirst : (more : List Line) → xs ≡ before ++ line ∷ more → SplitsIn xs ys before line behind
  InSecond : (more : List Line) → before ≡ xs ++ more → ys ≡ more ++ line ∷ behind → SplitsIn xs ys before line behind

splits_in : (xs ys before : List Line) (line : Line) (behind : List Line) → xs ++ ys ≡ before ++ line ∷ behind →
    SplitsIn xs ys before line behind
splits_in [] ys before line behind is = InSecond before refl is
splits_in (x ∷ xs) ys [] line behind is = let same : x ≡ line = cc is in InFirst xs (λ i. same i ∷ xs)
splits_in (x ∷ xs) ys (b ∷ before) line behind is =
    let same : x ≡ b = cc is in
    let rest : xs ++ ys ≡ before ++ line ∷ behind = cc is in
    by (splits_in xs ys before line behind rest) same
  where
    by : SplitsIn xs ys before line behind → x ≡ b → SplitsIn (x ∷ xs) ys (b ∷ before) line behind
    by (InFirst more at) same = InFirst more (λ i. same i ∷ at i)
    by (InSecond more at at_it) same = InSecond more (λ i. sym same i ∷ at i) at_it

-- a line among those of an event
record IsAmong (e : ℕ) (bs : List Body) (line : Line) : Type 0 where
  number : line.event ≡ e
  quiet : AllByRecursion NoCall bs → NoCall line.body

among : (e : ℕ) (bs : List Body) (more : List Line) (line : Line) (behind : List Line) → numbered e bs ≡ more ++ line ∷ behind →
    IsAmong e bs line
among e [] [] line behind is = absurd (cc is)
among e [] (m ∷ more) line behind is = absurd (cc is)
among e (b ∷ bs) [] line behind is = let same : record { event = e; body = b } ≡ line = cc is in
    record { number = ap (λ (k : Line). k.event) (sym same); quiet = λ q. subst (λ (k : Line). NoCall k.body) same q.0 }
among e (b ∷ bs) (m ∷ more) line behind is = let r = among e bs more line behind (cc is) in
    record { number = r.number; quiet = λ q. r.quiet q.1 }

all_numbered : (e m : ℕ) (bs : List Body) → e ≤ m → AllByRecursion (λ (k : Line). k.event ≤ m) (numbered e bs)
all_numbered e m [] le = tt
all_numbered e m (b ∷ bs) le = (le, all_numbered e m bs le)

falls_less : (e m : ℕ) (ls : List Line) → e ≤ m → NeverFall m ls → NeverFall e ls
falls_less e m [] le order = tt
falls_less e m (k ∷ ls) le order = let first = order.0 in (omega (arith, le, first), order.1)

falls_numbered : (m e : ℕ) (bs : List Body) → m ≤ e → NeverFall m (numbered e bs)
falls_numbered m e [] le = tt
falls_numbered m e (b ∷ bs) le = (le, falls_numbered e e bs (omega arith))

-- behind lines of events up to this one
falls_behind : (e m : ℕ) (xs ys : List Line) → e ≤ m → NeverFall e xs → AllByRecursion (λ (k : Line). k.event ≤ m) xs → NeverFall m ys →
    NeverFall e (xs ++ ys)
falls_behind e m [] ys le order past rest = falls_less e m ys le rest
falls_behind e m (x ∷ xs) ys le order past rest = (order.0, falls_behind x.event m xs ys past.0 order.1 past.1 rest)

all_to : (P Q : Line → Type 0) (ls : List Line) → ((k : Line) → P k → Q k) → AllByRecursion P ls → AllByRecursion Q ls
all_to P Q [] f all = tt
all_to P Q (k ∷ ls) f all = (f k all.0, all_to P Q ls f all.1)

is_less : (a b : ℕ) → nat_lt a b ≡ true → a < b
is_less a b is = grind (arith, nat_tests, is)

module _ (w v : World) (first : AreFirst w) (said : List Body) (e : ℕ) (lines : v.lines ≡ w.lines ++ numbered e said) (same : v.event ≡ e)
    (later : w.event ≤ e) where
  goes_on : CallsIn (nat_lt w.event e) said → AreFirst v
  goes_on calls = record {
    past = subst (λ ls. AllByRecursion (λ (k : Line). k.event ≤ v.event) ls) (sym lines)
        (all_append (λ (k : Line). k.event ≤ v.event) w.lines (numbered e said) (all_to (λ (k : Line). k.event ≤ w.event)
        (λ (k : Line). k.event ≤ v.event) w.lines (λ k le. omega (arith, le, later, same)) first.past)
        (all_numbered e v.event said (omega (arith, same))));
    order = subst (NeverFall 0) (sym lines)
        (falls_behind 0 w.event w.lines (numbered e said) (omega arith) first.order first.past (falls_numbered w.event e said later));
    calls = λ before line behind l is called.
        by before line behind l called (splits_in w.lines (numbered e said) before line behind (sym lines ∙ is));
  }
    where
      by : (before : List Line) (line : Line) (behind : List Line) (l : Label) → line.body ≡ body.Committing l →
          SplitsIn w.lines (numbered e said) before line behind → AllByRecursion (λ (k : Line). k.event < line.event) before
      by before line behind l called (InFirst more is) = first.calls before line more l is called
      by before line behind l called (InSecond more at is) = one calls
        where
          it : IsAmong e said line
          it = among e said more line behind is

          never_quiet : NoCall line.body → AllByRecursion (λ (k : Line). k.event < line.event) before
          never_quiet q = let no_way : true ≡ false = ap calls_commit (sym called) ∙ q in absurd (cc no_way)

          one : CallsIn (nat_lt w.event e) said → AllByRecursion (λ (k : Line). k.event < line.event) before
          one (inl q) = never_quiet (it.quiet q)
          one (inr (ok, m, rest, are, q)) = two more at is
            where
              two : (more : List Line) → before ≡ w.lines ++ more → numbered e said ≡ more ++ line ∷ behind →
                  AllByRecursion (λ (k : Line). k.event < line.event) before
              two [] at is = subst (λ ls. AllByRecursion (λ (k : Line). k.event < line.event) ls) (sym (at ∙ append-nil w.lines))
                  (all_to (λ (k : Line). k.event ≤ w.event) (λ (k : Line). k.event < line.event) w.lines (λ k le. let n = it.number in
                  let less = is_less w.event e ok in omega (arith, le, n, less)) first.past)
              two (z ∷ more) at is = let tail : numbered e rest ≡ more ++ line ∷ behind = cc (ap (numbered e) (sym are) ∙ is) in
                  never_quiet ((among e rest more line behind tail).quiet q)

event_first : (e : Asked) (w : World) → AreFirst w → AreFirst (run_event e w)
event_first e w first = by w.over
  where
    some : (n : ℕ) → nat_lt n (n + 1) ≡ true
    some n = grind (arith, nat_tests)

    by : (b : Bool) → AreFirst (cond b w (run_unless e.event e.arm w (first_reason (reasons e.event w))))
    by true = first
    by false = one (first_reason (reasons e.event w))
      where
        one : (r : Option ℕ) → AreFirst (run_unless e.event e.arm w r)
        one (Some c) = goes_on w (says (body.Refused c ∷ []) (counted w)) first (body.Refused c ∷ []) (w.event + 1) refl refl (omega arith)
            (inl (refl, tt))
        one None = two (lacks_labels (giving e.event w) w)
          where
            two : (b : Bool) → AreFirst (cond b (no_labels w) (limited (happens e.event e.arm (counted w))))
            two true = goes_on w (no_labels w) first (body.Limit which.Labels ∷ []) w.event refl refl (omega arith) (inl (refl, tt))
            two false =
                let a = limited_adds (is_commit_event e.event) (counted w) (happens e.event e.arm (counted w))
                (happens_adds e.event e.arm (counted w)) in
                goes_on w (limited (happens e.event e.arm (counted w))) first a.said (w.event + 1) a.lines a.event (omega arith)
                (may a.said a.calls)
              where
                may : (bs : List Body) → CallsIn (is_commit_event e.event) bs → CallsIn (nat_lt w.event (w.event + 1)) bs
                may bs (inl q) = inl q
                may bs (inr (ok, l, rest, is, q)) = inr (some w.event, l, rest, is, q)

-- which stops may fall is nothing to that
with_arms : (arms : List (ℕ × Arm)) (w : World) → AreFirst w → AreFirst (record w { arms = arms })
with_arms arms w first = record { past = first.past; order = first.order; calls = first.calls }

moves_first : (ms : List Move) (w : World) → AreFirst w → AreFirst (all_moved ms w)
moves_first [] w first = first
moves_first (m ∷ ms) w first = moves_first ms (moved m w) (with_arms [] (run_event m.asked (record w { arms = m.falls }))
    (event_first m.asked (record w { arms = m.falls }) (with_arms m.falls w first)))

-- where a run begins there are no lines
none_first : (hd : Header) (st : Start) → AreFirst (world_from hd st)
none_first hd st = record { past = tt; order = tt; calls = λ before line behind l is called. by before line behind is }
  where
    by : (before : List Line) (line : Line) (behind : List Line) → [] ≡ before ++ line ∷ behind →
        AllByRecursion (λ (k : Line). k.event < line.event) before
    by [] line behind is = absurd (cc is)
    by (b ∷ before) line behind is = absurd (cc is)

-- the lines of a run stand in order of events
pub events_never_fall : (hd : Header) (r : RunOf hd) → NeverFall 0 (journal_by hd r)
events_never_fall hd r = (moves_first r.moves (world_from hd r.start) (none_first hd r.start)).order

pub commits_begin : RunsBeginWithCalls
commits_begin hd r before line behind l is called =
    let first = moves_first r.moves (world_from hd r.start) (none_first hd r.start) in
    let w = world_by hd r in
    let le : line.event ≤ w.event = at before line behind (λ (k : Line). k.event ≤ w.event)
    (subst (λ ls. AllByRecursion (λ (k : Line). k.event ≤ w.event) ls) is first.past) in
    all_to (λ (k : Line). k.event < line.event) (λ (k : Line). k.event < w.event) before (λ k less. omega (arith, less, le))
    (first.calls before line behind l is called)
  where
    at : (before : List Line) (line : Line) (behind : List Line) (P : Line → Type 0) → AllByRecursion P (before ++ line ∷ behind) → P line
    at [] line behind P all = all.0
    at (b ∷ before) line behind P all = at before line behind P all.1
