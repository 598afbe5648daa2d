-- How many frames an event adds to the world, and by its journal.
use Rattle.arj_law_parts.proofs.Words
use Words.{◌≡◌, ◌≤◌, ◌∙◌, ◌+◌, ◌-◌, ◌==◌, ◌++◌, ℕ, zero, suc, Bool, true, false, cond, List, [], ◌∷◌, length, take, refl, sym, ap, subst}
use Words.{arith, ◌&&◌, ◌||◌, ◌*◌, not, and_parts, actor, is_some, name, open_below}
use Words.{nat_lt, Option, Some, None, IfSome, length-append, Body, Event, FrameNo, Header, Kind, Label, Message, ObjectState, Uid}
use Words.{begin_action, Did, Disk, Do, Effect, Pair, Say, Send, Stop, held_at, holder_of, worked, Handled, Parts, Took, Void, taken}
use Words.{whole, with_coord}
use Words.{entry, object, Input, Node, Step, acts, branch_named, copy_line, coord_did, entry_line, first_reason, handled_step, on_branch}
use Words.{parent_of, refusal, refused_at, show_entry, shown, step, step_down, step_of, step_unless, step_up, at_place, at_number, Arm}
use Words.{Frame, Giving}
use Words.{World, armed, as_delivered, as_lost, begins, change_frame, count_works, counted, cut, deliver, deliver_frame, disarmed}
use Words.{done_step, frame_number, giving, halted_at, halted_outs, happens, junk, junk_fits, labels_unless, lacks_labels, limited, lose}
use Words.{lose_frame}
use Words.{most_frames, new_frame, no_labels, node_numbers, node_of, put, reasons, run_unless, sends, show_all, show_up, is_up_at}
use Words.{step_node, see}
use Words.{step_with, steps, Move, moved, world_by, frame_kind, Branch}
use Words.body
use Words.event
use Words.frame_no
use Words.input
use Words.message
use Rattle.arj_journal.specs.declared.body.FrameKind.{FrameKind}
use Rattle.arj_law_parts.proofs.Terms.{says as world_says}
use Rattle.arj_law_parts.proofs.moves.Places.{set_long}
use Rattle.arj_law_runs.proofs.bindings.Handled.{outs_of}
use Rattle.arj_law_runs.proofs.follow.Along.{event_of}
use Rattle.arj_law_runs.proofs.follow.Telling.{Tells, carried_by, frame_test}
use Rattle.arj_model.specs.CausePends.{frame_is}
use Rattle.arj_model.specs.Past.{Past, next}
use Rattle.arj_model.specs.Refusals.{last_frame}
use Rattle.arj_model.specs.Refusals as model
use Rattle.arj_promise.specs.Runs.{HeaderFits, Run}
use Rattle.arj_law_cause.proofs.quiesces.Answered.{Kept}
use Rattle.arj_law_cause.proofs.quiesces.Sends
use Sends.{SendsOne, count_both, count_sent, goes_one, of_call, taken_one, whole_sent}
use Rattle.arj_law_cause.proofs.quiesces.Ties as ties
use Rattle.arj_law_cause.proofs.quiesces.Walked as walked
use Rattle.arj_law_cause.proofs.quiesces.Back.{SendsBack, is_back, taken_back, whole_back}
use Rattle.arj_law_parts.proofs.moves.{Happens.keeps_asked, Moving.move_asked, Moving.moves_asked}
use Rattle.arj_law_runs.proofs.Terms as terms
use Rattle.arj_law_runs.proofs.Terms.{Holds, act_in}
use Rattle.arj_law_runs.proofs.follow.Shorts as shorts
use Rattle.arj_model.specs.Own.{aborted_of}
use Rattle.arj_law_runs.proofs.addresses.Runs.{kept, within_of}
use Rattle.arj_law_runs.specs.addresses.Addresses.{AreAddressed, GoWithin, IsNode}
use Rattle.arj_law_cause.proofs.follow.lines.{Aborts.abort_many, Adding.count_so, Numbers.AreInTurn}
use Rattle.arj_law_cause.proofs.follow.lines.Events as lines
use Rattle.arj_law_cause.proofs.leading.Settles.{KnownUp, known_up}
use Rattle.arj_law_cause.proofs.leading.Bounds.{IsSettling, quiesce_adds, settle_adds, settling_of, settling_on}
use Rattle.arj_law_cause.proofs.sending.Begun.{FewAt, Known, few_at, known_kept}
use Rattle.arj_law_cause.proofs.sending.Counted.{each, each_is}
use Rattle.arj_law_cause.proofs.sending.Events.{abort_adds, acked_adds, commit_adds, giveup_adds, hello_adds, other_adds, prepared_adds}
use Rattle.arj_law_cause.proofs.sending.Events.{restart_adds, tick_adds}
use Rattle.arj_law_cause.proofs.sending.Ordered.{AllUp, UpNode, ordered_keep}
use Rattle.arj_law_cause.specs.rounds.Sends.{RunsSendFew, SendsStep, carries, is_acked, is_answered, is_answered_frame, is_call_frame}
use Rattle.arj_law_cause.specs.rounds.Sends.{is_hello, is_of_call, is_prepared, most_delivered, most_sent, others}

-- ---- effects as frames

sends_long : (n : ℕ) (outs : List Effect) → length (sends n outs) ≡ count_sent outs
sends_long n [] = refl
sends_long n (Send to m ∷ es) = more (length (sends n es)) (count_sent es) (sends_long n es)
  where
    more : (a b : ℕ) → a ≡ b → suc a ≡ 1 + b
    more a b is = omega (arith, is)
sends_long n (Say b ∷ es) = sends_long n es
sends_long n (Do w ∷ es) = sends_long n es

take_short : {A : Type 0} (n : ℕ) (xs : List A) → length (take n xs) ≤ length xs
take_short zero [] = omega arith
take_short zero (x ∷ xs) = omega arith
take_short (suc n) [] = omega arith
take_short (suc n) (x ∷ xs) = more (length (take n xs)) (length xs) (take_short n xs)
  where
    more : (a b : ℕ) → a ≤ b → suc a ≤ suc b
    more a b le = omega (arith, le)

put_frames : (c k : ℕ) (outs : List Effect) (w : World) → count_sent outs ≤ c → length (put k outs w).frames ≤ length w.frames + c
put_frames c k outs w le = more (length (put k outs w).frames) (length w.frames) (length (take (most_frames - length w.frames)
    (sends k outs)))
    (length (sends k outs)) (count_sent outs) c (length-append w.frames (take (most_frames - length w.frames) (sends k outs)))
    (take_short (most_frames - length w.frames) (sends k outs)) (sends_long k outs) le
  where
    more : (a f t s o c : ℕ) → a ≡ f + t → t ≤ s → s ≡ o → o ≤ c → a ≤ f + c
    more a f t s o c is x y z = omega (arith, is, x, y, z)

cut_sent : (k : ℕ) (how : Stop) (outs : List Effect) (d : Disk) → count_sent (cut k how outs d).outs ≤ count_sent outs
cut_sent k how [] d = omega arith
cut_sent zero how (Do w ∷ es) d = least (count_sent es)
  where
    least : (a : ℕ) → 0 ≤ a
    least a = omega arith
cut_sent (suc k) how (Do w ∷ es) d = cut_sent k how es (worked w d)
cut_sent zero how (Say b ∷ es) d = cut_sent zero how es d
cut_sent (suc k) how (Say b ∷ es) d = cut_sent (suc k) how es d
cut_sent zero how (Send to m ∷ es) d = more (count_sent (cut zero how es d).outs) (count_sent es) (cut_sent zero how es d)
  where
    more : (a b : ℕ) → a ≤ b → 1 + a ≤ 1 + b
    more a b le = omega (arith, le)
cut_sent (suc k) how (Send to m ∷ es) d = more (count_sent (cut (suc k) how es d).outs) (count_sent es) (cut_sent (suc k) how es d)
  where
    more : (a b : ℕ) → a ≤ b → 1 + a ≤ 1 + b
    more a b le = omega (arith, le)

-- ---- a step of a node

-- it sends so many at most, also where it is stopped
abbrev Few : ℕ → Step → Type 0
Few c s = (count_sent s.outs ≤ c) × (count_sent s.halting ≤ c)

steps_at : (c k : ℕ) (i : Input) (w : World) → ((n : Node) → at_place k w.nodes ≡ Some n → Few c (step w.header n i)) →
    length (steps k i w).frames ≤ length w.frames + c
steps_at c k i w few = node (at_place k w.nodes) refl
  where
    stays : (a b : ℕ) → a ≤ a + b
    stays a b = omega arith

    done : (n : Node) → Few c (step w.header n i) → length (done_step k (step w.header n i) w).frames ≤ length w.frames + c
    done n its = put_frames c k (step w.header n i).outs w its.0

    halted : (n : Node) → Few c (step w.header n i) → (j : ℕ) (a : Arm) →
        length (halted_at k n (cut j a.how (step w.header n i).halting n.disk) (disarmed k w)).frames ≤ length w.frames + c
    halted n its j a =
        let q = cut j a.how (step w.header n i).halting n.disk in
        put_frames c k (halted_outs k q) w (less (count_sent (halted_outs k q)) (count_sent q.outs) (count_sent
        (step w.header n i).halting) c
        (count_both q.outs (Say (body.Halted k) ∷ [])) (cut_sent j a.how (step w.header n i).halting n.disk) its.1)
      where
        less : (a b s c : ℕ) → a ≡ b + 0 → b ≤ s → s ≤ c → a ≤ c
        less a b s c is x y = omega (arith, is, x, y)

    with_arm : (n : Node) → Few c (step w.header n i) → (a : Arm) (b : Bool) → length (cond b
        (done_step k (step w.header n i) (armed k (record a { works = a.works - count_works (step w.header n i).halting }) w))
        (halted_at k n (cut (a.works - 1) a.how (step w.header n i).halting n.disk) (disarmed k w))).frames ≤ length w.frames + c
    with_arm n its a true = done n its
    with_arm n its a false = halted n its (a.works - 1) a

    arms : (n : Node) → Few c (step w.header n i) → (o : Option Arm) → length (step_with k n
        (step w.header n i) w o).frames ≤ length w.frames + c
    arms n its None = done n its
    arms n its (Some a) = with_arm n its a (nat_lt (count_works (step w.header n i).halting) a.works)

    node : (o : Option Node) → at_place k w.nodes ≡ o → length (step_node k i w o).frames ≤ length w.frames + c
    node None there = stays (length w.frames) c
    node (Some n) there = arms n (few n there) (at_number k w.arms)

steps_frames : (c k : ℕ) (i : Input) (w : World) → ((n : Node) → Few c (step w.header n i)) →
    length (steps k i w).frames ≤ length w.frames + c
steps_frames c k i w few = steps_at c k i w (λ n there. few n)

step_header : (hd : Header) (c : ℕ) (i : Input) (n : Node) → Few c (step_down hd i n) → ((t : Parts) → Few c (step_up i n t)) →
    Few c (step hd n i)
step_header hd c i n down up = by (refusal hd i n)
  where
    least : (a : ℕ) → 0 ≤ a
    least a = omega arith

    live : (o : Option Parts) → Few c (step_of hd i n o)
    live None = down
    live (Some t) = up t

    by : (r : Option ℕ) → Few c (step_unless hd i n r)
    by (Some k) = (least c, least c)
    by None = live n.live

steps_header : (hd : Header) (c : ℕ) (i : Input) → ((n : Node) → Few c (step_down hd i n)) → ((n : Node) (t : Parts) →
    Few c (step_up i n t)) →
    (n : Node) → Few c (step hd n i)
steps_header hd c i down up n = step_header hd c i n (down n) (up n)

-- a coordinator that sends one message of a call at most
did_few : (n : Node) (t : Parts) (d : Did Words.Coord) (c : ℕ) → (count_sent d.outs ≤ c) × Sends.AllCalls d.outs → Few c (coord_did n t d)
did_few n t d c its = (all, all)
  where
    within : (a b c : ℕ) → a ≤ b → b ≤ c → a ≤ c
    within a b c x y = omega (arith, x, y)

    all : count_sent (whole n.number (with_coord t d.part) d.outs n.disk).outs ≤ c
    all = within (count_sent (whole n.number (with_coord t d.part) d.outs n.disk).outs) (count_sent d.outs) c
        (whole_sent n.number (with_coord t d.part) d.outs n.disk its.1) its.0

nothing : (n : Node) → Few 0 (Words.input.does_nothing n)
nothing n = (omega arith, omega arith)

nothing_one : (n : Node) → Few 1 (Words.input.does_nothing n)
nothing_one n = (omega arith, omega arith)

call_few : (hd : Header) (l : Label) (x : ℕ) (o : Words.Op) (n : Node) → Few 1 (step hd n (input.Call l x o))
call_few hd l x o = steps_header hd 1 (input.Call l x o) nothing_one (λ n t.
    did_few n t (acts (input.Call l x o) (let d = n.disk in d.intents) t.coord) 1 (by (branch_named l t.coord) t.coord))
  where
    by : (b : Option Branch) (c : Words.Coord) → SendsOne (on_branch (λ f. Words.call f.path x o c) c b).outs
    by None c = (omega arith, refl)
    by (Some b) c = goes_one (Words.call_steps b.path x o (Words.next_req (Words.actor b.path) c) (Words.root_at
        (Words.root_of b.path) c) c (kept b c))
        (Words.on_root (Words.root_of b.path) (Words.with_keeping x (kept b c)) (record c { tree = Words.uses_object b.path x c.tree }))
      where
        kept : Branch → Words.Coord → Words.Keeping
        kept b c = Words.renewed (Words.is_free (Words.root_of b.path) (Words.actor b.path) x c) (Words.keeping_of x (Words.root_at
            (Words.root_of b.path) c))
            (let k = Words.keeping_of x (Words.root_at (Words.root_of b.path) c) in k.kept)

include_few : (hd : Header) (l : Label) (x s : ℕ) (n : Node) → Few 1 (step hd n (input.Include l x s))
include_few hd l x s = steps_header hd 1 (input.Include l x s) nothing_one (λ n t.
    did_few n t (acts (input.Include l x s) (let d = n.disk in d.intents) t.coord) 1 (by (branch_named l t.coord) t.coord))
  where
    by : (b : Option Branch) (c : Words.Coord) → SendsOne (on_branch (λ f. Words.include f.path x s c) c b).outs
    by None c = (omega arith, refl)
    by (Some b) c = goes_one (Words.start b.path x (Words.Include s) None Words.unbound (Words.next_req (Words.actor b.path) c))
        (record c { tree = Words.uses_object b.path x c.tree })

begin_few : (hd : Header) (l : Label) (how : Kind) (parent : Option Label) (n : Node) → Few 0 (step hd n (input.Begin l how parent))
begin_few hd l how parent = steps_header hd 0 (input.Begin l how parent) nothing
    (λ n t. did_few n t (begin_action l how parent (parent_of parent t.coord) t.coord) 0 (omega arith, refl))

crash_few : (hd : Header) (n : Node) → Few 0 (step hd n input.Crash)
crash_few hd = steps_header hd 0 input.Crash nothing (λ n t. (omega arith, omega arith))

-- what is shown is no frame
pub shown_few : (x k : ℕ) (d : Disk) → count_sent (Words.input.show_outs k x d) ≤ 0
shown_few x k d = low (count_sent (Words.input.show_outs k x d)) (count_sent (show_entry k x d.names))
    (count_sent (shown (copy_line k x) (object x) d.store (holder_of (object x) d.store)))
    (count_both (show_entry k x d.names) (shown (copy_line k x) (object x) d.store (holder_of (object x) d.store)))
    (first (k == 1)) (shown_none (copy_line k x) copy_none (object x) d.store (holder_of (object x) d.store))
  where
    low : (a b c : ℕ) → a ≡ b + c → b ≡ 0 → c ≡ 0 → a ≤ 0
    low a b c is x y = omega (arith, is, x, y)

    entry_none : (o : Option ObjectState) → count_sent (entry_line x o) ≡ 0
    entry_none None = refl
    entry_none (Some s) = refl

    copy_none : (o : Option ObjectState) → count_sent (copy_line k x o) ≡ 0
    copy_none None = refl
    copy_none (Some s) = refl

    shown_none : (line : Option ObjectState → List Effect) → ((o : Option ObjectState) → count_sent (line o) ≡ 0) → (u : Uid) (d : Pair)
        (o : Option Uid) → count_sent (shown line u d o) ≡ 0
    shown_none line each u d (Some holder) = refl
    shown_none line each u d None = each (held_at u d)

    first : (b : Bool) → count_sent (cond b (shown (entry_line x) (entry x) d.names (holder_of (entry x) d.names)) []) ≡ 0
    first true = shown_none (entry_line x) entry_none (entry x) d.names (holder_of (entry x) d.names)
    first false = refl

show_few : (hd : Header) (x : ℕ) (n : Node) → Few 0 (step hd n (input.Show x))
show_few hd x = steps_header hd 0 (input.Show x) nothing (λ n t. (shown_few x n.number n.disk, shown_few x n.number n.disk))

frame_few : (hd : Header) (k from : ℕ) (m : Message) → of_call m ≡ true → (n : Node) → Few 1 (step hd n (input.Frame k from (Some m)))
frame_few hd k from m is = steps_header hd 1 (input.Frame k from (Some m)) (λ n. (omega arith, omega arith)) taken_few
  where
    taken_few : (n : Node) (t : Parts) → Few 1 (step_up (input.Frame k from (Some m)) n t)
    taken_few n t = by (taken n.number n.disk t from m) (taken_one n.number n.disk t from m is)
      where
        one : (a b : ℕ) → a ≡ b + 0 → b ≤ 1 → a ≤ 1
        one a b is low = omega (arith, is, low)

        within : (a b : ℕ) → a ≤ b → b ≤ 1 → a ≤ 1
        within a b x y = omega (arith, x, y)

        by : (r : Handled) → SendsOne (outs_of r) → Few 1 (handled_step k n r)
        by (Void outs) its = (
          one (count_sent (outs ++ Say (body.Void k) ∷ [])) (count_sent outs) (count_both outs (Say
              (body.Void k) ∷ [])) its.0,
          its.0,
        )
        by (Took v outs) its =
            let le = within (count_sent (whole n.number v outs n.disk).outs) (count_sent outs)
            (whole_sent n.number v outs n.disk its.1) its.0 in (le, le)

back_few : (hd : Header) (k from : ℕ) (m : Message) → is_back m ≡ true → (n : Node) → (from == n.number) ≡ false →
    Few 1 (step hd n (input.Frame k from (Some m)))
back_few hd k from m is n apart = step_header hd 1 (input.Frame k from (Some m)) n (omega arith, omega arith) taken_few
  where
    taken_few : (t : Parts) → Few 1 (step_up (input.Frame k from (Some m)) n t)
    taken_few t = by (taken n.number n.disk t from m) (taken_back from n.number n.disk t m is)
      where
        one : (a b : ℕ) → a ≡ b + 0 → b ≤ 1 → a ≤ 1
        one a b is low = omega (arith, is, low)

        by : (r : Handled) → SendsBack from (outs_of r) → Few 1 (handled_step k n r)
        by (Void outs) its = (
          one (count_sent (outs ++ Say (body.Void k) ∷ [])) (count_sent outs) (count_both outs (Say (body.Void k) ∷ [])) its.0,
          its.0,
        )
        by (Took v outs) its = let le = whole_back n.number from apart v outs n.disk its in (le, le)

-- ---- events

abbrev Adds : ℕ → World → World → Type 0
Adds c w v = length v.frames ≤ length w.frames + c

begins_frames : (g : Giving) (w : World) → Adds 0 w (begins g w)
begins_frames g w = by (refused_at (input.Begin g.label g.kind g.parent) w (at_place g.node w.nodes))
  where
    by : (o : Option ℕ) → Adds 0 w (steps g.node (input.Begin g.label g.kind g.parent) (labels_unless g w o))
    by None = steps_frames 0 g.node (input.Begin g.label g.kind g.parent) (labels_unless g w None)
        (begin_few w.header g.label g.kind g.parent)
    by (Some c) = steps_frames 0 g.node (input.Begin g.label g.kind g.parent) w (begin_few w.header g.label g.kind g.parent)

show_frames : (x : ℕ) (ns : List ℕ) (w : World) → Adds 0 w (show_all x ns w)
show_frames x [] w = none (length w.frames)
  where
    none : (a : ℕ) → a ≤ a + 0
    none a = omega arith
show_frames x (n ∷ ns) w = both (length (show_all x ns (show_up x n w)).frames) (length (show_up x n w).frames) (length w.frames)
    (show_frames x ns (show_up x n w)) (one (is_up_at n w))
  where
    both : (a b c : ℕ) → a ≤ b + 0 → b ≤ c + 0 → a ≤ c + 0
    both a b c x y = omega (arith, x, y)

    none : (a : ℕ) → a ≤ a + 0
    none a = omega arith

    one : (b : Bool) → length (cond b (steps n (input.Show x) w) w).frames ≤ length w.frames + 0
    one true = steps_frames 0 n (input.Show x) w (show_few w.header x)
    one false = none (length w.frames)

lose_frames : (k : ℕ) (w : World) → Adds 0 w (lose k w)
lose_frames k w = by (at_place k w.frames)
  where
    same : (a b : ℕ) → a ≡ b → a ≤ b + 0
    same a b is = omega (arith, is)

    by : (o : Option Frame) → Adds 0 w (lose_frame k w o)
    by None = same (length w.frames) (length w.frames) refl
    by (Some f) = same (length (change_frame k as_lost f w).frames) (length w.frames) (set_long k (as_lost f) w.frames)

junk_frames : (n : ℕ) (w : World) → Adds 1 w (junk n w)
junk_frames n w = by (nat_lt (length w.frames) most_frames)
  where
    one : (a b : ℕ) → a ≡ b + 1 → a ≤ b + 1
    one a b is = omega (arith, is)

    none : (a : ℕ) → a ≤ a + 1
    none a = omega arith

    by : (b : Bool) → Adds 1 w (junk_fits n w b)
    by true = one (length (w.frames ++ new_frame 0 n None ∷ [])) (length w.frames) (length-append w.frames (new_frame 0 n None ∷ []))
    by false = none (length w.frames)

deliver_frames : (k : ℕ) (w : World) → frame_test (λ from to what. is_of_call what) (at_place k w.frames) ≡ true → Adds 1 w (deliver k w)
deliver_frames k w = by (at_place k w.frames)
  where
    kind_of : (m : Message) → is_of_call (frame_kind m) ≡ true → of_call m ≡ true
    kind_of (message.Bind m) is = refl
    kind_of (message.Bound m) is = refl
    kind_of (message.Load m) is = refl
    kind_of (message.Loaded m) is = refl
    kind_of (message.Activate m) is = refl
    kind_of (message.Activated m) is = refl
    kind_of (message.RecordMsg m) is = refl
    kind_of (message.Recorded m) is = refl
    kind_of (message.Invoke m) is = refl
    kind_of (message.Invoked m) is = refl
    kind_of (message.Vote m) is = absurd (cc is)
    kind_of (message.Voted m) is = absurd (cc is)
    kind_of (message.Prepare m) is = absurd (cc is)
    kind_of (message.Prepared m) is = absurd (cc is)
    kind_of (message.Confirm m) is = absurd (cc is)
    kind_of (message.Confirmed m) is = absurd (cc is)
    kind_of (message.Told m) is = absurd (cc is)
    kind_of (message.Acked m) is = absurd (cc is)
    kind_of (message.Query m) is = absurd (cc is)
    kind_of (message.Hello m) is = absurd (cc is)

    carried : (f : Frame) (o : Option Message) → is_of_call (carried_by o) ≡ true →
        Adds 1 w (steps f.to (input.Frame k f.from o) (change_frame k as_delivered f w))
    carried f None is = absurd (cc is)
    carried f (Some m) is = subst (λ j. length (steps f.to (input.Frame k f.from (Some m))
        (change_frame k as_delivered f w)).frames ≤ j + 1)
        (set_long k (as_delivered f) w.frames)
        (steps_frames 1 f.to (input.Frame k f.from (Some m)) (change_frame k as_delivered f w) (frame_few w.header k f.from m
        (kind_of m is)))

    by : (o : Option Frame) → frame_test (λ from to what. is_of_call what) o ≡ true → Adds 1 w (deliver_frame k w o)
    by None is = absurd (cc is)
    by (Some f) is = carried f f.message is

deliver_back : (k : ℕ) (w : World) → ((n : ℕ) (x : Node) → at_place n w.nodes ≡ Some x → x.number ≡ n) →
    frame_test (λ from to what. is_answered what && not (from == to)) (at_place k w.frames) ≡ true → Adds 1 w (deliver k w)
deliver_back k w numbers = by (at_place k w.frames)
  where
    kind_of : (m : Message) → is_answered (frame_kind m) ≡ true → is_back m ≡ true
    kind_of (message.Bind m) is = absurd (cc is)
    kind_of (message.Bound m) is = absurd (cc is)
    kind_of (message.Load m) is = absurd (cc is)
    kind_of (message.Loaded m) is = absurd (cc is)
    kind_of (message.Activate m) is = absurd (cc is)
    kind_of (message.Activated m) is = absurd (cc is)
    kind_of (message.RecordMsg m) is = absurd (cc is)
    kind_of (message.Recorded m) is = absurd (cc is)
    kind_of (message.Invoke m) is = absurd (cc is)
    kind_of (message.Invoked m) is = absurd (cc is)
    kind_of (message.Vote m) is = refl
    kind_of (message.Voted m) is = absurd (cc is)
    kind_of (message.Prepare m) is = refl
    kind_of (message.Prepared m) is = absurd (cc is)
    kind_of (message.Confirm m) is = refl
    kind_of (message.Confirmed m) is = absurd (cc is)
    kind_of (message.Told m) is = refl
    kind_of (message.Acked m) is = absurd (cc is)
    kind_of (message.Query m) is = refl
    kind_of (message.Hello m) is = absurd (cc is)

    differ : (b : Bool) → not b ≡ true → b ≡ false
    differ true is = absurd (cc is)
    differ false is = refl

    carried : (f : Frame) (o : Option Message) → is_answered (carried_by o) ≡ true → (f.from == f.to) ≡ false →
        Adds 1 w (steps f.to (input.Frame k f.from o) (change_frame k as_delivered f w))
    carried f None is apart = absurd (cc is)
    carried f (Some m) is apart = subst (λ j. length (steps f.to (input.Frame k f.from (Some m))
        (change_frame k as_delivered f w)).frames ≤ j + 1)
        (set_long k (as_delivered f) w.frames)
        (steps_at 1 f.to (input.Frame k f.from (Some m)) (change_frame k as_delivered f w) (λ n there. back_few w.header k f.from m
        (kind_of m is) n (ap (λ x. f.from == x) (numbers f.to n there) ∙ apart)))

    by : (o : Option Frame) → frame_test (λ from to what. is_answered what && not (from == to)) o ≡ true → Adds 1 w (deliver_frame k w o)
    by None is = absurd (cc is)
    by (Some f) is =
        let p = and_parts (is_answered (carried_by f.message)) (not (f.from == f.to)) is in
        carried f f.message p.0 (differ (f.from == f.to) p.1)

-- of each event for which there is a bound
module _ (hd : Header) (q : Past) (w : World) (last : last_frame q.lines ≡ length w.frames)
    (frames : (test : ℕ → ℕ → FrameKind → Bool) (k : ℕ) → frame_is test q.lines k ≡ frame_test test (at_place k w.frames))
    (numbers : (n : ℕ) (x : Node) → at_place n w.nodes ≡ Some x → x.number ≡ n)
    (nodes : (n : ℕ) (x : Node) → at_place n w.nodes ≡ Some x → IsNode hd n)
    (ups : (n : ℕ) (x : Node) → at_place n w.nodes ≡ Some x → UpNode x)
    (ends : (l : Label) (x : Node) (t : Parts) (b : Branch) → at_place (node_of l w) w.nodes ≡ Some x → x.live ≡ Some t →
    branch_named l t.coord ≡ Some b → is_some b.ended ≡ false →
    length (open_below (actor b.path) t.coord.tree ++ actor b.path ∷ []) ≤ length (aborted_of q.lines (act_in (terms.acts q.lines) (name
    l))))
    (few : (n : ℕ) (x : Node) → at_place n w.nodes ≡ Some x → FewAt (length (terms.acts q.lines)) x)
    (world : IsSettling hd q w) where
  abbrev Bound : Event → Type 0
  Bound e = (a : Arm) → GoWithin hd.nodes (happens e a w) → IfSome (most_sent hd q e) (λ k. Adds k w (happens e a w))

  none : (a : ℕ) → a ≤ a + 0
  none a = omega arith

  number_is : (k : FrameNo) → model.frame_no q.lines k ≡ frame_number k w
  number_is (frame_no.Number j) = refl
  number_is frame_no.Last = last

  -- so many to each other node
  times : (c : ℕ) (v : World) → length v.frames ≤ length w.frames + each c (hd.nodes - 1) → Adds (c * others hd) w v
  times c v le = subst (λ a. length v.frames ≤ length w.frames + a) (each_is c (hd.nodes - 1)) le

  test_is : (test : FrameKind → Bool) (b : Bool) (k : FrameNo) → carries test q.lines (model.frame_no q.lines k) ≡ b →
      frame_test (λ from to what. test what) (at_place (frame_number k w) w.frames) ≡ b
  test_is test b k is = sym (frames (λ from to what. test what) (frame_number k w)) ∙ ap (carries test q.lines) (sym (number_is k)) ∙ is

  abbrev Delivers : FrameNo → Option ℕ → Type 0
  Delivers k most = GoWithin hd.nodes (deliver (frame_number k w) w) → IfSome most (λ j. Adds j w (deliver (frame_number k w) w))

  other_so : (k : FrameNo) (b : Bool) → carries is_hello q.lines (model.frame_no q.lines k) ≡ b →
      Delivers k (cond b (Some (length (terms.acts q.lines) * others hd)) (Some (3 * others hd)))
  other_so k true is within = times (length (terms.acts q.lines)) (deliver (frame_number k w) w)
      (hello_adds hd w nodes numbers ups (frame_number k w) (length (terms.acts q.lines)) (test_is is_hello true k is)
      (λ n x t there live. let f = few n x there in f.asked t live) within)
  other_so k false is within = times 3 (deliver (frame_number k w) w)
      (other_adds hd w nodes numbers ups (frame_number k w) (test_is is_hello false k is) within)

  prepared_so : (k : FrameNo) (b : Bool) → carries is_prepared q.lines (model.frame_no q.lines k) ≡ b → (rest : Option ℕ) →
      Delivers k rest →
      Delivers k (cond b (Some (2 * others hd)) rest)
  prepared_so k true is rest other within = times 2 (deliver (frame_number k w) w)
      (prepared_adds hd w nodes numbers ups (frame_number k w) (test_is is_prepared true k is) within)
  prepared_so k false is rest other within = other within

  acked_so : (k : FrameNo) (b : Bool) → carries is_acked q.lines (model.frame_no q.lines k) ≡ b → (rest : Option ℕ) → Delivers k rest →
      Delivers k (cond b (Some (others hd)) rest)
  acked_so k true is rest other within = one (length (deliver (frame_number k w) w).frames) (length w.frames) (each 1 (hd.nodes - 1))
      (hd.nodes - 1) (each_is 1 (hd.nodes - 1)) (acked_adds hd w nodes numbers ups (frame_number k w) (test_is is_acked true k is) within)
    where
      one : (a b c n : ℕ) → c ≡ 1 * n → a ≤ b + c → a ≤ b + n
      one a b c n is le = omega (arith, is, le)
  acked_so k false is rest other within = other within

  called_so : (k : FrameNo) (b c : Bool) → is_call_frame q.lines (model.frame_no q.lines k) ≡ b →
      is_answered_frame q.lines (model.frame_no q.lines k) ≡ c →
      (rest : Option ℕ) → Delivers k rest → Delivers k (cond (b || c) (Some 1) rest)
  called_so k true c is back rest other within = deliver_frames (frame_number k w) w (test_is is_of_call true k is)
  called_so k false true is back rest other within = deliver_back (frame_number k w) w numbers
      (sym (frames (λ from to what. is_answered what && not (from == to)) (frame_number k w))
      ∙ ap (is_answered_frame q.lines) (sym (number_is k)) ∙ back)
  called_so k false false is back rest other within = other within

  delivered : (k : FrameNo) → Delivers k (most_delivered hd q.lines (model.frame_no q.lines k))
  delivered k =
      let i = model.frame_no q.lines k in
      let late = cond (carries is_hello q.lines i) (Some (length (terms.acts q.lines) * others hd)) (Some (3 * others hd)) in
      let more = cond (carries is_prepared q.lines i) (Some (2 * others hd)) late in
      called_so k (is_call_frame q.lines i) (is_answered_frame q.lines i) refl refl (cond (carries is_acked q.lines i) (Some (others
      hd)) more)
      (acked_so k (carries is_acked q.lines i) refl more (prepared_so k (carries is_prepared q.lines i) refl late
      (other_so k (carries is_hello q.lines i) refl)))

  pub bounded : (e : Event) → Bound e
  bounded (event.Call l x op) a within = steps_frames 1 (node_of l w) (input.Call l x op) w (call_few w.header l x op)
  bounded (event.Include l x n) a within = steps_frames 1 (node_of l w) (input.Include l x n) w (include_few w.header l x n)
  bounded (event.Deliver k) a within = delivered k within
  bounded (event.Junk n bytes) a within = junk_frames n w
  bounded (event.Commit l) a within = times 4 (steps (node_of l w) (input.Commit l) w) (commit_adds hd w nodes numbers ups l within)
  bounded (event.Abort l) a within =
      let c = length (aborted_of q.lines (act_in (terms.acts q.lines) (name l))) in
      times c (steps (node_of l w) (input.Abort l) w) (abort_adds hd w nodes numbers ups l c (ends l) within)
  bounded (event.GiveUp l) a within = times 2 (steps (node_of l w) (input.GiveUp l) w) (giveup_adds hd w nodes numbers ups l within)
  bounded (event.Tick n) a within = times (7 * length (terms.acts q.lines)) (steps n input.Tick w)
      (tick_adds hd w nodes numbers ups n (length (terms.acts q.lines)) (few n) within)
  bounded (event.Restart n) a within = times (3 * length (terms.acts q.lines) + 1) (steps n input.Restart w)
      (restart_adds hd w nodes numbers ups n (length (terms.acts q.lines)) (few n) within)
  bounded event.Settle a within = settle_adds hd q w world within
  bounded event.Quiesce a within = quiesce_adds hd q w world within
  bounded (event.Begin l n) a within = begins_frames (record { label = l; kind = Words.kind.Top; parent = None; node = n }) w
  bounded (event.Serial l n) a within = begins_frames (record { label = l; kind = Words.kind.Serial; parent = None; node = n }) w
  bounded (event.BeginIn l p) a within =
      begins_frames (record { label = l; kind = Words.kind_below p w; parent = Some p; node = node_of p w }) w
  bounded (event.Top l p) a within = begins_frames
      (record { label = l; kind = Words.kind.Independent; parent = Some p; node = node_of p w }) w
  bounded (event.Lose k) a within = lose_frames (frame_number k w) w
  bounded (event.Crash n) a within = steps_frames 0 n input.Crash w (crash_few w.header)
  bounded (event.Stop n c how) a within = none (length w.frames)
  bounded (event.Show x) a within = show_frames x (node_numbers w) w

-- ---- in a run

if_less : (o : Option ℕ) (P Q : ℕ → Type 0) → ((k : ℕ) → P k → Q k) → IfSome o P → IfSome o Q
if_less None P Q less its = tt
if_less (Some k) P Q less its = less k its

if_all : (o : Option ℕ) (P : ℕ → Type 0) → ((k : ℕ) → P k) → IfSome o P
if_all None P each = tt
if_all (Some k) P each = each k

-- an event that is refused, or not run, sends none
module _ (hd : Header) (q : Past) (w : World) (last : last_frame q.lines ≡ length w.frames)
    (frames : (test : ℕ → ℕ → FrameKind → Bool) (k : ℕ) → frame_is test q.lines k ≡ frame_test test (at_place k w.frames))
    (numbers : (n : ℕ) (x : Node) → at_place n w.nodes ≡ Some x → x.number ≡ n)
    (nodes : (n : ℕ) (x : Node) → at_place n w.nodes ≡ Some x → IsNode hd n)
    (ups : (n : ℕ) (x : Node) → at_place n w.nodes ≡ Some x → UpNode x)
    (ends : (l : Label) (x : Node) (t : Parts) (b : Branch) → at_place (node_of l w) w.nodes ≡ Some x → x.live ≡ Some t →
    branch_named l t.coord ≡ Some b → is_some b.ended ≡ false →
    length (open_below (actor b.path) t.coord.tree ++ actor b.path ∷ [])
    ≤ length (aborted_of q.lines (act_in (terms.acts q.lines) (name l))))
    (few : (n : ℕ) (x : Node) → at_place n w.nodes ≡ Some x → FewAt (length (terms.acts q.lines)) x)
    (world : IsSettling hd q w)
    (m : Move) where
  abbrev In : World → Type 0
  In v = GoWithin hd.nodes v → IfSome (most_sent hd q (event_of m)) (λ k. Adds k w v)

  stays : (a b : ℕ) → a ≤ a + b
  stays a b = omega arith

  as_it_is : (v : World) → v.frames ≡ w.frames → In v
  as_it_is v same within = if_all (most_sent hd q (event_of m)) (λ k. Adds k w v)
      (λ k. subst (λ fs. length fs ≤ length w.frames + k) (sym same) (stays (length w.frames) k))

  abbrev u : World
  u = record w { arms = m.falls }

  fits : (b : Bool) → let v = happens (event_of m) (let a = m.asked in a.arm) (counted (record w { arms = m.falls })) in
      In (record (cond b (world_says (body.Limit Words.words.which.Frames ∷ []) (record v { over = true })) v) { arms = [] })
  fits true = bounded hd q (counted (record w { arms = m.falls })) last frames numbers nodes ups ends few (settling_on hd q w m.falls
      world) (event_of m)
      (let a = m.asked in a.arm)
  fits false = bounded hd q (counted (record w { arms = m.falls })) last frames numbers nodes ups ends few (settling_on hd q w m.falls
      world) (event_of m)
      (let a = m.asked in a.arm)

  accepted : (lacks : Bool) → In (record (cond lacks (no_labels (record w { arms = m.falls }))
      (limited (happens (event_of m) (let a = m.asked in a.arm) (counted (record w { arms = m.falls }))))) { arms = [] })
  accepted true = as_it_is (record (no_labels (record w { arms = m.falls })) { arms = [] }) refl
  accepted false = fits (let v = happens (event_of m) (let a = m.asked in a.arm) (counted (record w { arms = m.falls })) in v.full)

  asked : (r : Option ℕ) → In (record (run_unless (event_of m) (let a = m.asked in a.arm) (record w { arms = m.falls }) r) { arms = [] })
  asked (Some c) = as_it_is (record (world_says (body.Refused c ∷ []) (counted (record w { arms = m.falls }))) { arms = [] }) refl
  asked None = accepted (lacks_labels (giving (event_of m) (record w { arms = m.falls })) (record w { arms = m.falls }))

  pub moved_few : In (moved m w)
  moved_few = by w.over
    where
      by : (over : Bool) → In (record (cond over (record w { arms = m.falls })
          (run_unless (event_of m) (let a = m.asked in a.arm) (record w { arms = m.falls })
          (first_reason (reasons (event_of m) (record w { arms = m.falls }))))) { arms = [] })
      by true = as_it_is (record (record w { arms = m.falls }) { arms = [] }) refl
      by false = asked (first_reason (reasons (event_of m) (record w { arms = m.falls })))

module _ (hd : Header) (form : HeaderFits hd) (front : Run hd) (m : Move) (p : Past) (bodies : List Body) (s : Kept hd form p
    (world_by hd front))
    (after : Kept hd form (next p (event_of m) bodies) (moved m (world_by hd front))) where
  before_tells : Tells p.start p.lines (let w = world_by hd front in w.frames) (let w = world_by hd front in w.nodes)
  before_tells = let t = ties.told hd form p (world_by hd front) s.all in t.tells

  pub behind_tells : Tells p.start (let q = next p (event_of m) bodies in q.lines) (let v = moved m (world_by hd front) in v.frames)
      (let v = moved m (world_by hd front) in v.nodes)
  behind_tells = let t = ties.told hd form (next p (event_of m) bodies) (moved m (world_by hd front)) after.all in t.tells

  numbers : (n : ℕ) (x : Node) → at_place n (let w = world_by hd front in w.nodes) ≡ Some x → x.number ≡ n
  numbers n x there = let t = ties.told hd form p (world_by hd front) s.all in (t.placed.nodes n x there).1

  nodes : (n : ℕ) (x : Node) → at_place n (let w = world_by hd front in w.nodes) ≡ Some x → IsNode hd n
  nodes n x there = let t = ties.told hd form p (world_by hd front) s.all in (t.placed.nodes n x there).0

  ups : (n : ℕ) (x : Node) → at_place n (let w = world_by hd front in w.nodes) ≡ Some x → UpNode x
  ups n x there =
      let h : Holds hd AllUp (world_by hd front) = moves_asked hd AllUp (keeps_asked hd AllUp (ordered_keep hd)) front in h.holds n x there

  pub ends : (l : Label) (x : Node) (t : Parts) (b : Branch) → at_place (node_of l (world_by hd front))
      (let w = world_by hd front in w.nodes) ≡ Some x → x.live ≡ Some t → branch_named l t.coord ≡ Some b → is_some b.ended ≡ false →
      length (open_below (actor b.path) t.coord.tree ++ actor b.path ∷ [])
      ≤ length (aborted_of p.lines (act_in (terms.acts p.lines) (name l)))
  ends l x t b there live named opened =
      let turned : lines.Turned hd form p (world_by hd front) = s.all.0.0.0 in
      let base : shorts.Stands hd form p (world_by hd front) = turned.base in
      let same = ties.same_lines hd form p (world_by hd front) s.all in
      is_less (length (open_below (actor b.path) t.coord.tree ++ actor b.path ∷ []))
      (length (aborted_of p.lines (act_in (terms.acts p.lines) (name l))))
      (abort_many hd (world_by hd front) base.base.halts base.base.finds (node_of l (world_by hd front)) x there t live l b named opened
      (subst (λ ls. AreInTurn (terms.acts ls)) same turned.turn)
      (count_so hd (world_by hd front) base.next (node_of l (world_by hd front)) x there t live)
      ∙ ap (λ ls. length (aborted_of ls (act_in (terms.acts ls) (name l)))) (sym same))
    where
      is_less : (a b : ℕ) → a ≡ b → a ≤ b
      is_less a b is = omega (arith, is)

  few : (n : ℕ) (x : Node) → at_place n (let w = world_by hd front in w.nodes) ≡ Some x → FewAt (length (terms.acts p.lines)) x
  few n x there =
      let h : Holds hd Known (world_by hd front) = moves_asked hd Known (known_kept hd) front in
      subst (λ ls. FewAt (length (terms.acts ls)) x) (sym (ties.same_lines hd form p (world_by hd front) s.all))
      (few_at hd (see h.sent (world_by hd front)) h.holds n x there)

  settles : IsSettling hd p (world_by hd front)
  settles =
      let h : Holds hd KnownUp (world_by hd front) = moves_asked hd KnownUp (known_up hd) front in
      settling_of hd form p (world_by hd front) s.all h before_tells.pending (before_tells.frames (λ from to what. is_hello what))

  pub within : GoWithin hd.nodes (moved m (world_by hd front))
  within = within_of hd form (moved m (world_by hd front)) (move_asked hd (AreAddressed hd) (kept hd form) m (world_by hd front)
      (moves_asked hd (AreAddressed hd) (kept hd form) front))

  pub sends_few : SendsStep hd p (event_of m) bodies
  sends_few = if_less (most_sent hd p (event_of m)) (λ k. Adds k (world_by hd front) (moved m (world_by hd front)))
      (λ k. last_frame (let q = next p (event_of m) bodies in q.lines) ≤ last_frame p.lines + k)
      (λ k le. subst (λ n. n ≤ last_frame p.lines + k) (sym behind_tells.last)
      (subst (λ n. length (let v = moved m (world_by hd front) in v.frames) ≤ n + k) (sym before_tells.last) le))
      (moved_few hd p (world_by hd front) before_tells.last before_tells.frames numbers nodes ups ends few settles m within)

-- so it is of each event of a run
pub runs_send_few : RunsSendFew
runs_send_few hd r its = walked.runs_so hd its.header (SendsStep hd)
    (λ front m p bodies few s on step after. sends_few hd its.header front m p bodies s after) r its
