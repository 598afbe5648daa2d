-- What a whole step of a node weighs, with all messages to itself.
use Rattle.arj_law_parts.proofs.Words
use Words.{◌≡◌, ◌≤◌, ◌==◌, ◌+◌, ℕ, zero, suc, Bool, true, false, cond, List, [], ◌∷◌, ◌++◌, length, map, Option, Some, None, refl, sym, ◌∙◌}
use Words.{ap, subst, arith, Uid, Header, Message, ObjectState, entry, object, again_all, back_lines, Disk, Do, Effect, Intent, Look, Pair}
use Words.{PutInc, Say, Send, holder_of, held_at, worked, Named, Naming, Handled, Here, Parts, Ran, Took, Void, first_done, first_queued}
use Words.{handle_all, holders, most_rounds, next_round, prepared_actions, query_about, ran, ran_handled, rounds, taken, whole, with_coord}
use Words.{uid_set, without_number, Begin, Call, Crash, GiveUp, Input, Node, Restart, Show, Step, Tick, acts, copy_line, coord_did}
use Words.{entry_line, frame_step, handled_step, hello_to, naming_at, naming_back, node_did, numbers_to, parts_in, recovered_records}
use Words.{refusal, restart_outs, show_entry, show_outs, shown, step_down, step_of, step_unless, step_up, tick_step, tolds_again, void_step}
use Words.body
use Words.input as step
use Rattle.arj_law_runs.proofs.Terms.{Frame, bound_by}
use Rattle.arj_law_runs.proofs.bindings
use bindings.{Handled.outs_of, Handled.taken_weigh}
use bindings.CoordBinds.{acts_weigh, again_weigh, at_naming, tolds_light}
use bindings.Weights.{AllLight, IsLight, binds, binds_few, every_both, every_flat, every_map, light_weighs, weigh, weigh_both, weighs_less}
use Rattle.arj_protocol.specs.Step.{Abort, Commit, Include}

-- ---- messages to itself

abbrev queued : List Message → ℕ
queued [] = 0
queued (m ∷ ms) = binds m + queued ms

queued_both : (xs ys : List Message) → queued (xs ++ ys) ≡ queued xs + queued ys
queued_both [] ys = none (queued ys)
  where
    none : (k : ℕ) → k ≡ 0 + k
    none k = omega arith
queued_both (x ∷ xs) ys = ap (λ k. binds x + k) (queued_both xs ys) ∙ three (binds x) (queued xs) (queued ys)
  where
    three : (a b c : ℕ) → a + (b + c) ≡ a + b + c
    three a b c = omega arith

abbrev all_of : ℕ → Ran → ℕ
all_of n r = weigh n r.outs + queued r.queue

shift : (w a b c : ℕ) → a + b ≡ c → w + a + b ≡ w + c
shift w a b c is = omega (arith, is)

-- what is sent to the node itself waits, and weighs as much there
ran_weigh : (n : ℕ) (t : Parts) (es : List Effect) (d : Disk) → all_of n (ran n t es d) ≡ weigh n es
ran_weigh n t [] d = refl
ran_weigh n t (Say b ∷ es) d =
    shift (bound_by b) (weigh n (ran n t es d).outs) (queued (ran n t es d).queue) (weigh n es) (ran_weigh n t es d)
ran_weigh n t (Do w ∷ es) d =
    shift 0 (weigh n (ran n t es (worked w d)).outs) (queued (ran n t es (worked w d)).queue) (weigh n es) (ran_weigh n t es (worked w d))
ran_weigh n t (Send to m ∷ es) d = by (to == n) refl (ran_weigh n t es d)
  where
    waits : (w a b c : ℕ) → a + b ≡ c → a + (w + b) ≡ w + c
    waits w a b c is = omega (arith, is)

    by : (q : Bool) → (to == n) ≡ q → all_of n (ran n t es d) ≡ weigh n es →
        all_of n (cond q (first_queued m (ran n t es d)) (first_done (Send to m) (ran n t es d))) ≡ cond q (binds m) 0 + weigh n es
    by true is rest = waits (binds m) (weigh n (ran n t es d).outs) (queued (ran n t es d).queue) (weigh n es) rest
    by false is rest = (λ i. cond (is i) (binds m) 0 + weigh n (ran n t es d).outs + queued (ran n t es d).queue)
        ∙ shift 0 (weigh n (ran n t es d).outs) (queued (ran n t es d).queue) (weigh n es) rest

handled_weigh : (n : ℕ) (h : Here) (v : Handled) → all_of n (ran_handled n h v) ≡ weigh n (outs_of v)
handled_weigh n h (Void outs) = ran_weigh n h.parts outs h.disk
handled_weigh n h (Took t outs) = ran_weigh n t outs h.disk

messages_weigh : (n : ℕ) (ms : List Message) (h : Here) → all_of n (handle_all n ms h) ≤ queued ms
messages_weigh n [] h = omega arith
messages_weigh n (m ∷ ms) h =
    let v = taken n h.disk h.parts n m in
    let r = ran_handled n h v in
    let t = handle_all n ms r.here in
    more (weigh n (r.outs ++ t.outs)) (queued (r.queue ++ t.queue)) (weigh n r.outs) (queued r.queue) (weigh n t.outs) (queued t.queue)
    (weigh n (outs_of v)) (binds m) (queued ms)
    (weigh_both n r.outs t.outs) (queued_both r.queue t.queue) (handled_weigh n h v) (taken_weigh n h.disk h.parts n m)
    (messages_weigh n ms r.here)
  where
    more : (o q a b c e v m k : ℕ) → o ≡ a + c → q ≡ b + e → a + b ≡ v → v ≤ m → c + e ≤ k → o + q ≤ m + k
    more o q a b c e v m k x y z le rest = omega (arith, x, y, z, le, rest)

round_weigh : (n : ℕ) (r : Ran) → all_of n (next_round n r) ≤ all_of n r
round_weigh n r = let t = handle_all n r.queue r.here in more (weigh n (r.outs ++ t.outs)) (weigh n r.outs) (weigh n t.outs)
    (queued t.queue) (queued r.queue) (weigh_both n r.outs t.outs) (messages_weigh n r.queue r.here)
  where
    more : (o a b c q : ℕ) → o ≡ a + b → b + c ≤ q → o + c ≤ a + q
    more o a b c q is le = omega (arith, is, le)

rounds_weigh : (n k : ℕ) (r : Ran) → all_of n (rounds n k r) ≤ all_of n r
rounds_weigh n zero r = same (all_of n r)
  where
    same : (a : ℕ) → a ≤ a
    same a = omega arith
rounds_weigh n (suc k) r = by r.queue (within (all_of n (rounds n k (next_round n r))) (all_of n (next_round n r)) (all_of n r)
    (rounds_weigh n k (next_round n r)) (round_weigh n r))
  where
    within : (a b c : ℕ) → a ≤ b → b ≤ c → a ≤ c
    within a b c x y = omega (arith, x, y)

    same : (a : ℕ) → a ≤ a
    same a = omega arith

    after : List Message → Ran
    after q = elim q [ [] ↦ r | m ∷ ms ↦ rounds n k (next_round n r) ]

    by : (q : List Message) → all_of n (rounds n k (next_round n r)) ≤ all_of n r → all_of n (after q) ≤ all_of n r
    by [] more = same (all_of n r)
    by (m ∷ ms) more = more

whole_weigh : (n : ℕ) (t : Parts) (outs : List Effect) (d : Disk) → weigh n (whole n t outs d).outs ≤ weigh n outs
whole_weigh n t outs d = front (weigh n (whole n t outs d).outs) (queued (whole n t outs d).queue) (all_of n (ran n t outs d))
    (weigh n outs) (rounds_weigh n most_rounds (ran n t outs d)) (ran_weigh n t outs d)
  where
    front : (a b c w : ℕ) → a + b ≤ c → c ≡ w → a ≤ w
    front a b c w le is = omega (arith, le, is)

-- ---- a step

-- a tick weighs as many as there are actions at work, at naming's node
abbrev pub tick_cost : ℕ → Option Parts → ℕ
tick_cost k None = 0
tick_cost k (Some t) = at_naming k (length (let c = t.coord in c.doings))

-- what a step may weigh
abbrev pub cost : Input → Node → ℕ
cost Tick n = tick_cost n.number n.live
cost (Show x) n = 0
cost _ n = 1

-- both of a step
abbrev Both : ℕ → ℕ → Step → Type 0
Both n c s = (weigh n s.outs ≤ c) × (weigh n s.halting ≤ c)

light_step : (n c : ℕ) (s : Step) → AllLight s.outs → AllLight s.halting → Both n c s
light_step n c s a b = (weighs_less n c s.outs a, weighs_less n c s.halting b)

did_both : (c : ℕ) (n : Node) (before : List Effect) (t : Parts) (outs : List Effect) → AllLight before → weigh n.number outs ≤ c →
    Both n.number c (node_did n before t outs)
did_both c n before t outs first le = (all, all)
  where
    within : (a b w o c : ℕ) → a ≡ b + w → b ≡ 0 → w ≤ o → o ≤ c → a ≤ c
    within a b w o c is none less le = omega (arith, is, none, less, le)

    all : weigh n.number (before ++ (whole n.number t outs n.disk).outs) ≤ c
    all = within (weigh n.number (before ++ (whole n.number t outs n.disk).outs)) (weigh n.number before) (weigh n.number
        (whole n.number t outs n.disk).outs) (weigh n.number outs) c (weigh_both n.number before (whole n.number t outs n.disk).outs)
        (light_weighs n.number before first) (whole_weigh n.number t outs n.disk) le

void_both : (c k : ℕ) (n : Node) (outs : List Effect) → weigh n.number outs ≤ c → Both n.number c (void_step k n outs)
void_both c k n outs le = (
  behind (weigh n.number (outs ++ Say (body.Void k) ∷ [])) (weigh n.number outs) c (weigh_both n.number outs (Say (body.Void k) ∷ [])) le,
  before (weigh n.number outs) c le,
)
  where
    behind : (a b c : ℕ) → a ≡ b + (0 + 0) → b ≤ c → a ≤ c
    behind a b c is le = omega (arith, is, le)

    before : (b c : ℕ) → b ≤ c → 0 + b ≤ c
    before b c le = omega (arith, le)

frame_both : (k from : ℕ) (n : Node) (t : Parts) (m : Option Message) → Both n.number 1 (frame_step k from n t m)
frame_both k from n t None = void_both 1 k n [] (omega arith)
frame_both k from n t (Some m) = by (taken n.number n.disk t from m)
    (within (weigh n.number (outs_of (taken n.number n.disk t from m))) (binds m) (taken_weigh n.number n.disk t from m) (binds_few m))
  where
    within : (a b : ℕ) → a ≤ b → b ≤ 1 → a ≤ 1
    within a b x y = omega (arith, x, y)

    by : (v : Handled) → weigh n.number (outs_of v) ≤ 1 → Both n.number 1 (handled_step k n v)
    by (Void outs) le = void_both 1 k n outs le
    by (Took u outs) le = did_both 1 n (Say (body.Got k) ∷ []) u outs (refl, tt) le

tick_both : (n : Node) (t : Parts) → Both n.number (at_naming n.number (length t.coord.doings)) (tick_step n t)
tick_both n t =
    let d = again_all t.coord.doings t.coord in
    let tolds = tolds_again t.coord.telling in
    let asks = map query_about (holders n.disk t) in
    did_both (at_naming n.number (length t.coord.doings)) n [] (with_coord t d.part) (d.outs ++ tolds ++ asks) tt
    (within (weigh n.number (d.outs ++ tolds ++ asks)) (weigh n.number (d.outs ++ tolds)) (weigh n.number d.outs) (weigh n.number tolds)
    (weigh n.number asks) (at_naming n.number (length t.coord.doings))
    (weigh_both n.number (d.outs ++ tolds) asks) (weigh_both n.number d.outs tolds) (light_weighs n.number tolds
    (tolds_light t.coord.telling)) (light_weighs n.number asks (every_map IsLight query_about (holders n.disk t) (λ u. refl)))
    (again_weigh n.number t.coord.doings t.coord))
  where
    within : (a b d t q c : ℕ) → a ≡ b + q → b ≡ d + t → t ≡ 0 → q ≡ 0 → d ≤ c → a ≤ c
    within a b d t q c x y z w le = omega (arith, x, y, z, w, le)

acts_both : (n : Node) (t : Parts) (i : Input) → Both n.number 1 (coord_did n t (acts i n.disk.intents t.coord))
acts_both n t i = did_both 1 n [] (with_coord t (acts i n.disk.intents t.coord).part) (acts i n.disk.intents t.coord).outs tt
    (acts_weigh n.number i n.disk.intents t.coord)

show_light : (n x : ℕ) (d : Disk) → AllLight (show_outs n x d)
show_light n x d = every_both IsLight (show_entry n x d.names) (shown (copy_line n x) (object x) d.store (holder_of (object x) d.store))
    (by (n == 1)) (one (copy_line n x) (object x) d.store copy (holder_of (object x) d.store))
  where
    one : (line : Option ObjectState → List Effect) (u : Uid) (d : Pair) → ((s : Option ObjectState) → AllLight (line s)) →
        (o : Option Uid) → AllLight (shown line u d o)
    one line u d each (Some holder) = tt
    one line u d each None = (tt, each (held_at u d))

    copy : (s : Option ObjectState) → AllLight (copy_line n x s)
    copy None = tt
    copy (Some s) = (refl, tt)

    line : (s : Option ObjectState) → AllLight (entry_line x s)
    line None = tt
    line (Some s) = (refl, tt)

    by : (b : Bool) → AllLight (cond b (shown (entry_line x) (entry x) d.names (holder_of (entry x) d.names)) [])
    by true = one (entry_line x) (entry x) d.names line (holder_of (entry x) d.names)
    by false = tt

back_light : (o : Option Naming) → AllLight (naming_back o)
back_light None = tt
back_light (Some o) = every_flat IsLight (λ (e : ℕ × Named). back_lines e.1) o.objects (λ e. every_map IsLight _ e.1.rows (λ r. refl))

restart_light : (hd : Header) (n inc : ℕ) (d : Disk) → AllLight (restart_outs hd n inc d)
restart_light hd n inc d =
    let back = naming_back (naming_at n inc d.names) in
    let records = Do Look ∷ recovered_records n d.intents in
    let asks = map query_about (uid_set (prepared_actions d.store ++ prepared_actions d.names)) in
    let hellos = map (hello_to n inc) (without_number n (numbers_to hd.nodes)) in
    let first = Do Look ∷ Do (PutInc inc) ∷ Say (body.Up n inc) ∷ Do Look ∷ back in
    every_both IsLight (first ++ records ++ tolds_again d.intents ++ asks) hellos
    (every_both IsLight (first ++ records ++ tolds_again d.intents) asks
    (every_both IsLight (first ++ records) (tolds_again d.intents)
    (every_both IsLight first records (tt, (tt, (refl, (tt, back_light (naming_at n inc d.names)))))
    (tt, every_map IsLight (λ (e : Uid × Intent). Say (body.Recovered n e.0)) d.intents (λ e. refl)))
    (tolds_light d.intents))
    (every_map IsLight query_about (uid_set (prepared_actions d.store ++ prepared_actions d.names)) (λ u. refl)))
    (every_map IsLight (hello_to n inc) (without_number n (numbers_to hd.nodes)) (λ m. refl))

up_both : (n : Node) (t : Parts) (i : Input) → n.live ≡ Some t → Both n.number (cost i n) (step_up i n t)
up_both n t (Frame k from m) is = frame_both k from n t m
up_both n t Tick is = subst (λ o. Both n.number (tick_cost n.number o) (tick_step n t)) (sym is) (tick_both n t)
up_both n t Restart is = light_step n.number 1 (step_up Restart n t) tt tt
up_both n t Crash is = light_step n.number 1 (step_up Crash n t) (refl, tt) (refl, tt)
up_both n t (Show x) is = light_step n.number 0 (step_up (Show x) n t) (show_light n.number x n.disk) (show_light n.number x n.disk)
up_both n t (Begin l k p) is = acts_both n t (Begin l k p)
up_both n t (Call l x o) is = acts_both n t (Call l x o)
up_both n t (Include l x s) is = acts_both n t (Include l x s)
up_both n t (Commit l) is = acts_both n t (Commit l)
up_both n t (Abort l) is = acts_both n t (Abort l)
up_both n t (GiveUp l) is = acts_both n t (GiveUp l)

down_both : (hd : Header) (n : Node) (i : Input) → Both n.number (cost i n) (step_down hd i n)
down_both hd n (Frame k from m) = void_both 1 k n [] (omega arith)
down_both hd n Restart = did_both 1 n [] (parts_in n.number (n.disk.inc + 1) n.disk) (restart_outs hd n.number (n.disk.inc + 1) n.disk) tt
    (weighs_less n.number 1 (restart_outs hd n.number (n.disk.inc + 1) n.disk) (restart_light hd n.number (n.disk.inc + 1) n.disk))
down_both hd n Tick = light_step n.number (cost Tick n) (step_down hd Tick n) tt tt
down_both hd n Crash = light_step n.number 1 (step_down hd Crash n) tt tt
down_both hd n (Show x) = light_step n.number 0 (step_down hd (Show x) n) tt tt
down_both hd n (Begin l k p) = light_step n.number 1 (step_down hd (Begin l k p) n) tt tt
down_both hd n (Call l x o) = light_step n.number 1 (step_down hd (Call l x o) n) tt tt
down_both hd n (Include l x s) = light_step n.number 1 (step_down hd (Include l x s) n) tt tt
down_both hd n (Commit l) = light_step n.number 1 (step_down hd (Commit l) n) tt tt
down_both hd n (Abort l) = light_step n.number 1 (step_down hd (Abort l) n) tt tt
down_both hd n (GiveUp l) = light_step n.number 1 (step_down hd (GiveUp l) n) tt tt

pub step_weigh : (hd : Header) (n : Node) (i : Input) →
    (weigh n.number (step.step hd n i).outs ≤ cost i n) × (weigh n.number (step.step hd n i).halting ≤ cost i n)
step_weigh hd n i = by (refusal hd i n)
  where
    live : (o : Option Parts) → n.live ≡ o → Both n.number (cost i n) (step_of hd i n o)
    live None is = down_both hd n i
    live (Some t) is = up_both n t i is

    by : (r : Option ℕ) → Both n.number (cost i n) (step_unless hd i n r)
    by (Some c) = light_step n.number (cost i n) (step_unless hd i n (Some c)) (refl, tt) (refl, tt)
    by None = live n.live refl
