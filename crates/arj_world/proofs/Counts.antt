-- What an event does leaves header and number, and adds lines of this number.
use Rattle.std.proofs.Common.{◌≡◌, ℕ, zero, suc, ◌+◌, ◌-◌, ◌≤◌, List, [], ◌∷◌, ◌++◌, Bool, true, false, ◌&&◌, ◌||◌, refl, sym, ◌∙◌, ap}
use Rattle.std.proofs.Common.{subst, length, append_assoc, append-nil, Option, Some, None, arith}
use Rattle.std.specs.Prelude.{⊤, nat_le, nat_lt, not, if◌then◌else◌}
use Rattle.std.specs.List.{list_all}
use Rattle.std.proofs.lemmas.Bool.{and_parts}
use Rattle.std.proofs.lemmas.List.{map-append}
use Rattle.std.proofs.lemmas.List.Folds.{list_all-append}
use Rattle.arj_core.specs.declared.node.Core.{Ghosts}
use Rattle.arj_disk.specs.FileMap.{FileMap}
use Rattle.arj_journal.specs.declared.body.Line.{Line}
use Rattle.arj_protocol.specs.Ask.{frame_kind}
use Rattle.arj_protocol.specs.Effect.{Effect, Say, Send, Do}
use Rattle.arj_protocol.specs.Words.{Body, Event, Header}
use Rattle.arj_protocol.specs.Words.body
use Rattle.arj_protocol.specs.Words.event
use Rattle.arj_protocol.specs.Words.frame
use Rattle.arj_protocol.specs.Words.which
use Rattle.arj_protocol.specs.Order.{at_number}
use Rattle.arj_protocol.specs.Tree.{at_place}
use Rattle.arj_protocol.specs.Step.{Node, Input, Step, first_reason, step}
use Rattle.arj_protocol.specs.Step as input
use Rattle.arj_protocol.specs.World.{Arm, Asked, Cut, Frame, Giving, World, armed, as_delivered, as_lost, begins, begins_any, bodies}
use Rattle.arj_protocol.specs.World.{change_frame, count_works, counted, cut, deliver, deliver_frame, disarmed, done_step, frame_number}
use Rattle.arj_protocol.specs.World.{giving, halted_at, happens, is_quiet, is_up_at, junk_fits, labels_unless, lacks_labels, limited}
use Rattle.arj_protocol.specs.World.{lose_frame, lowest, new_frame, no_labels, node_numbers, node_of, numbered, quiesce, quiet_line}
use Rattle.arj_protocol.specs.World.{reasons, refused_at, run_event, run_unless, says, sent_line, settle, settle_for, show_all, show_up}
use Rattle.arj_protocol.specs.World.{step_node, step_with, steps, tick_all, tick_up}
use Rattle.arj_protocol.proofs.Growth.{event_grows}
use Rattle.arj_world.specs.Happens.{HappensTo, RunsOver, RunsTo, done}
use Rattle.arj_world.specs.Stands.{Hand, StandsSome}
use Rattle.arj_world.specs.Turns.{Turn, asked, turned, with_arms}
use Rattle.arj_world.proofs.Runs.{counted_hand, counted_stands}
use Rattle.arj_world.proofs.Tells.{cut_all}
use Rattle.arj_start.specs.Limits.{most_frames}

-- A world that goes on so: its header and number stay, and the lines that came are of this number, and this test holds of what each says.
pub record Adds (test : Body → Bool) (w v : World) : Type 0 where
  pub header : v.header ≡ w.header
  pub event : v.event ≡ w.event
  pub said : List Body
  pub lines : v.lines ≡ w.lines ++ numbered w.event said
  pub all : list_all test said ≡ true

-- the lines of the world's own, but for those of arms
abbrev pub is_own : Body → Bool
is_own (body.Sent k from to what) = true
is_own (body.Dropped k) = true
is_own (body.Halted n) = true
is_own (body.Refused c) = true
is_own (body.Quiet q) = true
is_own (body.Limit l) = true
is_own _ = false

-- the test, of effects
abbrev pub on : (Body → Bool) → Effect → Bool
on test (Say b) = test b
on test _ = true

-- of each step's effects it holds, and of each of those that a stop cuts
abbrev pub OfSteps : (Body → Bool) → Type 0
OfSteps test =
    (hd : Header) (n : Node) (i : Input) → (list_all (on test) (step hd n i).outs ≡ true) × (list_all (on test) (step hd n i).halting ≡ true)

-- the test holds of the line of an arm, where the event arms a disk
abbrev pub MayArm : (Body → Bool) → Event → Type 0
MayArm test (event.Stop n calls kind) = test (body.Armed n) ≡ true
MayArm test _ = ⊤

module _ (test : Body → Bool) where
  adds_none : (w v : World) → v.header ≡ w.header → v.event ≡ w.event → v.lines ≡ w.lines → Adds test w v
  adds_none w v header event lines =
      record { header = header; event = event; said = []; lines = lines ∙ sym (append-nil w.lines); all = refl }

  adds_on : (u v w : World) → Adds test u v → Adds test v w → Adds test u w
  adds_on u v w a b = record {
    header = b.header ∙ a.header;
    event = b.event ∙ a.event;
    said = a.said ++ b.said;
    lines = b.lines ∙ (λ i. a.lines i ++ numbered (a.event i) b.said) ∙ append_assoc u.lines (numbered u.event a.said) (numbered u.event b.said) ∙ ap (λ ls. u.lines ++ ls) (sym (map-append (λ (b : Body). record { event = u.event; body = b }) a.said b.said));
    all = list_all-append test a.said b.said ∙ (λ i. a.all i && b.all i);
  }

  either : (w x y : World) (b : Bool) → Adds test w x → Adds test w y → Adds test w (if b then x else y)
  either w x y true a b = a
  either w x y false a b = b

  module _ (own : (b : Body) → is_own b ≡ true → test b ≡ true) (asked : OfSteps test) where
    says_adds : (b : Body) (w v : World) → v.header ≡ w.header → v.event ≡ w.event → v.lines ≡ w.lines → test b ≡ true →
        Adds test w (says (b ∷ []) v)
    says_adds b w v header event lines is =
        record { header = header; event = event; said = b ∷ []; lines = λ i. lines i ++ numbered (event i) (b ∷ []); all = λ i. is i && true }

    bodies_all : (k j : ℕ) (es : List Effect) → list_all (on test) es ≡ true → list_all test (bodies k j es) ≡ true
    bodies_all k j [] all = refl
    bodies_all k j (Say b ∷ es) all =
        let parts = and_parts (test b) (list_all (on test) es) all in λ i. parts.0 i && bodies_all k j es parts.1 i
    bodies_all k j (Do w ∷ es) all = bodies_all k j es all
    bodies_all k j (Send to m ∷ es) all =
        list_all-append test (sent_line (j + 1) k to (frame_kind m)) (bodies k (j + 1) es) ∙ (λ i. sent (nat_le (j + 1) most_frames) i && bodies_all k (j + 1) es all i)
      where
        sent : (b : Bool) → list_all test (if b then body.Sent (j + 1) k to (frame_kind m) ∷ [] else []) ≡ true
        sent true = λ i. own (body.Sent (j + 1) k to (frame_kind m)) refl i && true
        sent false = refl

    done_adds : (k : ℕ) (s : Step) (w v : World) → v.header ≡ w.header → v.event ≡ w.event → v.lines ≡ w.lines →
        list_all (on test) s.outs ≡ true → Adds test w (done_step k s v)
    done_adds k s w v header event lines all =
        record {
          header = header;
          event = event;
          said = bodies k (length v.frames) s.outs;
          lines =
              λ i. lines i ++ numbered (event i) (bodies k (length v.frames) s.outs);
          all = bodies_all k (length v.frames) s.outs all;
        }

    halted_adds : (k : ℕ) (n : Node) (c : Cut) (w v : World) → v.header ≡ w.header → v.event ≡ w.event → v.lines ≡ w.lines →
        list_all (on test) c.outs ≡ true → Adds test w (halted_at k n c v)
    halted_adds k n c w v header event lines all =
        let outs = c.outs ++ Say (body.Halted k) ∷ [] in
        record {
          header = header;
          event = event;
          said = bodies k (length v.frames) outs;
          lines = λ i. lines i ++ numbered (event i) (bodies k (length v.frames) outs);
          all = bodies_all k (length v.frames) outs (list_all-append (on test) c.outs (Say (body.Halted k) ∷ []) ∙ (λ i. all i && (own (body.Halted k) refl i && true)));
        }

    with_adds : (k : ℕ) (n : Node) (i : Input) (w : World) (a : Option Arm) → Adds test w (step_with k n (step w.header n i) w a)
    with_adds k n i w None = done_adds k (step w.header n i) w w refl refl refl (asked w.header n i).0
    with_adds k n i w (Some a) =
        let s = step w.header n i in
        let less = armed k (record a { works = a.works - count_works s.halting }) w in
        either w (done_step k s less) (halted_at k n (cut (a.works - 1) a.how s.halting n.disk) (disarmed k w)) (nat_lt (count_works s.halting) a.works)
        (done_adds k s w less refl refl refl (asked w.header n i).0)
        (halted_adds k n (cut (a.works - 1) a.how s.halting n.disk) w (disarmed k w) refl refl refl (cut_all (on test) (a.works - 1) a.how s.halting n.disk (asked w.header n i).1))

    node_adds : (k : ℕ) (i : Input) (w : World) (n : Option Node) → Adds test w (step_node k i w n)
    node_adds k i w None = adds_none w w refl refl refl
    node_adds k i w (Some n) = with_adds k n i w (at_number k w.arms)

    steps_adds : (k : ℕ) (i : Input) (w : World) → Adds test w (steps k i w)
    steps_adds k i w = node_adds k i w (at_place k w.nodes)

    delivered_adds : (k : ℕ) (w : World) (o : Option Frame) → Adds test w (deliver_frame k w o)
    delivered_adds k w None = adds_none w w refl refl refl
    delivered_adds k w (Some f) =
        let v = change_frame k as_delivered f w in
        adds_on w v (deliver_frame k w (Some f)) (adds_none w v refl refl refl) (steps_adds f.to (input.Frame k f.from f.message) v)

    deliver_adds : (k : ℕ) (w : World) → Adds test w (deliver k w)
    deliver_adds k w = delivered_adds k w (at_place k w.frames)

    lost_adds : (k : ℕ) (w : World) (o : Option Frame) → Adds test w (lose_frame k w o)
    lost_adds k w None = adds_none w w refl refl refl
    lost_adds k w (Some f) = says_adds (body.Dropped k) w (change_frame k as_lost f w) refl refl refl (own (body.Dropped k) refl)

    settled_adds : (fuel : ℕ) (w : World) → Adds test w (settle_for fuel w)
    settled_adds zero w = adds_none w w refl refl refl
    settled_adds (suc fuel) w = by (lowest w) (λ k. settled_adds fuel (deliver k w))
      where
        by : (o : Option ℕ) → ((k : ℕ) → Adds test (deliver k w) (settle_for fuel (deliver k w))) →
            Adds test w (elim o [ None ↦ w | Some k ↦ settle_for fuel (deliver k w) ])
        by None later = adds_none w w refl refl refl
        by (Some k) later = adds_on w (deliver k w) (settle_for fuel (deliver k w)) (deliver_adds k w) (later k)

    settle_adds : (w : World) → Adds test w (settle w)
    settle_adds w = settled_adds most_frames w

    ticked_adds : (n : ℕ) (w : World) → Adds test w (tick_up n w)
    ticked_adds n w =
        either w w (steps n input.Tick w) (w.full || not (is_up_at n w)) (adds_none w w refl refl refl) (steps_adds n input.Tick w)

    ticks_add : (ns : List ℕ) (w : World) → Adds test w (tick_all ns w)
    ticks_add [] w = adds_none w w refl refl refl
    ticks_add (n ∷ ns) w = adds_on w (tick_up n w) (tick_all ns (tick_up n w)) (ticked_adds n w) (ticks_add ns (tick_up n w))

    quiet_adds : (w : World) → Adds test w (quiet_line w)
    quiet_adds w =
        either w w (says (body.Quiet (is_quiet w) ∷ []) w) w.full (adds_none w w refl refl refl) (says_adds (body.Quiet (is_quiet w)) w w refl refl refl (own (body.Quiet (is_quiet w)) refl))

    quiesce_adds : (w : World) → Adds test w (quiesce w)
    quiesce_adds w =
        let a = settle w in
        let b = tick_all (node_numbers w) a in
        let c = settle b in
        adds_on w a (quiesce w) (settle_adds w) (adds_on a b (quiesce w) (ticks_add (node_numbers w) a) (adds_on b c (quiesce w) (settle_adds b) (quiet_adds c)))

    shown_adds : (x n : ℕ) (w : World) → Adds test w (show_up x n w)
    shown_adds x n w = either w (steps n (input.Show x) w) w (is_up_at n w) (steps_adds n (input.Show x) w) (adds_none w w refl refl refl)

    shows_add : (x : ℕ) (ns : List ℕ) (w : World) → Adds test w (show_all x ns w)
    shows_add x [] w = adds_none w w refl refl refl
    shows_add x (n ∷ ns) w = adds_on w (show_up x n w) (show_all x ns (show_up x n w)) (shown_adds x n w) (shows_add x ns (show_up x n w))

    junked_adds : (n : ℕ) (w : World) (b : Bool) → Adds test w (junk_fits n w b)
    junked_adds n w true =
        says_adds (body.Sent (length w.frames + 1) 0 n frame.Junk) w (record w {
          frames =
              w.frames ++ new_frame 0 n None ∷ [];
        }) refl refl refl (own (body.Sent (length w.frames + 1) 0 n frame.Junk) refl)
    junked_adds n w false = adds_none w (junk_fits n w false) refl refl refl

    labelled_adds : (g : Giving) (w : World) (o : Option ℕ) → Adds test w (labels_unless g w o)
    labelled_adds g w None = adds_none w (labels_unless g w None) refl refl refl
    labelled_adds g w (Some c) = adds_none w w refl refl refl

    begins_adds : (g : Giving) (w : World) → Adds test w (begins g w)
    begins_adds g w =
        let i = input.Begin g.label g.kind g.parent in
        let o = refused_at i w (at_place g.node w.nodes) in
        adds_on w (labels_unless g w o) (begins g w) (labelled_adds g w o) (steps_adds g.node i (labels_unless g w o))

    given_adds : (e : Event) (w : World) (o : Option Giving) → Adds test w (begins_any e w o)
    given_adds e w None = adds_none w w refl refl refl
    given_adds e w (Some g) = begins_adds g w

    happens_adds : (e : Event) (a : Arm) (w : World) → MayArm test e → Adds test w (happens e a w)
    happens_adds (event.Begin l n) a w may = given_adds (event.Begin l n) w (giving (event.Begin l n) w)
    happens_adds (event.BeginIn l p) a w may = given_adds (event.BeginIn l p) w (giving (event.BeginIn l p) w)
    happens_adds (event.Top l p) a w may = given_adds (event.Top l p) w (giving (event.Top l p) w)
    happens_adds (event.Serial l n) a w may = given_adds (event.Serial l n) w (giving (event.Serial l n) w)
    happens_adds (event.Call l x o) a w may = steps_adds (node_of l w) (input.Call l x o) w
    happens_adds (event.Include l x n) a w may = steps_adds (node_of l w) (input.Include l x n) w
    happens_adds (event.Commit l) a w may = steps_adds (node_of l w) (input.Commit l) w
    happens_adds (event.Abort l) a w may = steps_adds (node_of l w) (input.Abort l) w
    happens_adds (event.GiveUp l) a w may = steps_adds (node_of l w) (input.GiveUp l) w
    happens_adds (event.Deliver k) a w may = deliver_adds (frame_number k w) w
    happens_adds (event.Lose k) a w may = lost_adds (frame_number k w) w (at_place (frame_number k w) w.frames)
    happens_adds (event.Tick n) a w may = steps_adds n input.Tick w
    happens_adds event.Settle a w may = settle_adds w
    happens_adds event.Quiesce a w may = quiesce_adds w
    happens_adds (event.Crash n) a w may = steps_adds n input.Crash w
    happens_adds (event.Restart n) a w may = steps_adds n input.Restart w
    happens_adds (event.Stop n c how) a w may = says_adds (body.Armed n) w (armed n a w) refl refl refl may
    happens_adds (event.Junk n bytes) a w may = junked_adds n w (nat_lt (length w.frames) most_frames)
    happens_adds (event.Show x) a w may = shows_add x (node_numbers w) w

    -- ---- an event that is counted

    limited_adds : (w v : World) → Adds test w v → Adds test w (limited v)
    limited_adds w v a =
        let over = says (body.Limit which.Frames ∷ []) (record v { over = true }) in
        either w over v v.full (adds_on w v over a (says_adds (body.Limit which.Frames) v (record v {
          over =
              true;
        }) refl refl refl (own (body.Limit which.Frames) refl))) a

    accepted_adds : (e : Event) (a : Arm) (w : World) → MayArm test e → (b : Bool) → (v : World) →
        v ≡ (if b then no_labels w else limited (happens e a (counted w))) → v.event ≡ w.event + 1 → Adds test (counted w) v
    accepted_adds e a w may true v is next = absurd (omega (arith, next, ap (λ u. u.event) is))
    accepted_adds e a w may false v is next =
        subst (Adds test (counted w)) (sym is) (limited_adds (counted w) (happens e a (counted w)) (happens_adds e a (counted w) may))

    unless_adds : (e : Event) (a : Arm) (w : World) → MayArm test e → (r : Option ℕ) → (run_unless e a w r).event ≡ w.event + 1 →
        Adds test (counted w) (run_unless e a w r)
    unless_adds e a w may (Some c) next = says_adds (body.Refused c) (counted w) (counted w) refl refl refl (own (body.Refused c) refl)
    unless_adds e a w may None next = accepted_adds e a w may (lacks_labels (giving e w) w) (run_unless e a w None) refl next

    pub event_adds : (e : Asked) (w : World) → MayArm test e.event → (run_event e w).event ≡ w.event + 1 →
        Adds test (counted w) (run_event e w)
    event_adds e w may next = by w.over (run_event e w) refl next
      where
        by : (b : Bool) (v : World) → v ≡ (if b then w else run_unless e.event e.arm w (first_reason (reasons e.event w))) →
            v.event ≡ w.event + 1 → Adds test (counted w) v
        by true v is next = absurd (omega (arith, next, ap (λ u. u.event) is))
        by false v is next =
            subst (Adds test (counted w)) (sym is) (unless_adds e.event e.arm w may (first_reason (reasons e.event w)) (ap (λ u. u.event) (sym is) ∙ next))

-- ---- a test that always holds

abbrev pub any : Body → Bool
any b = true

any_steps : OfSteps any
any_steps hd n i = (all (step hd n i).outs, all (step hd n i).halting)
  where
    all : (es : List Effect) → list_all (on any) es ≡ true
    all [] = refl
    all (Say b ∷ es) = all es
    all (Send to m ∷ es) = all es
    all (Do w ∷ es) = all es

any_arm : (e : Event) → MayArm any e
any_arm (event.Stop n c how) = refl
any_arm (event.Begin l n) = tt
any_arm (event.BeginIn l p) = tt
any_arm (event.Top l p) = tt
any_arm (event.Serial l n) = tt
any_arm (event.Call l x o) = tt
any_arm (event.Include l x n) = tt
any_arm (event.Commit l) = tt
any_arm (event.Abort l) = tt
any_arm (event.GiveUp l) = tt
any_arm (event.Deliver k) = tt
any_arm (event.Lose k) = tt
any_arm (event.Tick n) = tt
any_arm event.Settle = tt
any_arm event.Quiesce = tt
any_arm (event.Crash n) = tt
any_arm (event.Restart n) = tt
any_arm (event.Junk n bytes) = tt
any_arm (event.Show x) = tt

happens_any : (e : Event) (a : Arm) (w : World) → Adds any w (happens e a w)
happens_any e a w = happens_adds any (λ b is. refl) any_steps e a w (any_arm e)

-- ---- turns

-- no turn counts more than its event, nor has it another header
unless_steps : (e : Event) (a : Arm) (w : World) (r : Option ℕ) →
    ((run_unless e a w r).event ≤ w.event + 1) × ((run_unless e a w r).header ≡ w.header)
unless_steps e a w (Some c) = (omega arith, refl)
unless_steps e a w None = by (lacks_labels (giving e w) w)
  where
    made : World
    made = happens e a (counted w)

    limit : (b : Bool) →
        (let v = (if b then says (body.Limit which.Frames ∷ []) (record made {
          over =
              true;
        }) else made) in (v.event ≤ w.event + 1) × (v.header ≡ w.header))
    limit true = (omega (arith, (happens_any e a (counted w)).event), (happens_any e a (counted w)).header)
    limit false = (omega (arith, (happens_any e a (counted w)).event), (happens_any e a (counted w)).header)

    by : (b : Bool) → (let v = (if b then no_labels w else limited made) in (v.event ≤ w.event + 1) × (v.header ≡ w.header))
    by true = (omega arith, refl)
    by false = limit made.full

pub turn_steps : (t : Turn) (w : World) → ((turned t w).event ≤ w.event + 1) × ((turned t w).header ≡ w.header)
turn_steps t w = by w.over
  where
    v : World
    v = with_arms t.falls w

    by : (b : Bool) →
        (let u = (if b then v else run_unless t.event (asked t.event).arm v (first_reason (reasons t.event v))) in (u.event ≤ w.event + 1) × (u.header ≡ w.header))
    by true = (omega arith, refl)
    by false = unless_steps t.event (asked t.event).arm v (first_reason (reasons t.event v))

-- one that counts it adds lines of its number
pub turn_adds : (t : Turn) (w : World) → (turned t w).event ≡ w.event + 1 →
    (said : List Body) × ((turned t w).lines ≡ w.lines ++ numbered (w.event + 1) said)
turn_adds t w next =
    let a = event_adds any (λ b is. refl) any_steps (asked t.event) (with_arms t.falls w) (any_arm t.event) next in (a.said, a.lines)

module _ {C D : Type 0} (core : Ghosts C) (file : D → FileMap) where
  -- an accepted event is counted once
  pub counts_once : (e : Event) (old new : Hand C D) → HappensTo core file (done e) (counted_hand core file old) new →
      StandsSome core file old → new.kept.event ≡ old.kept.event + 1
  counts_once e old new to some =
      let w = some.0 in
      let h = to (counted w) (counted_stands core file old w some.1) in
      sym h.stands.event ∙ (happens_any e (asked e).arm (with_arms h.falls (counted w))).event ∙ ap (λ n. n + 1) some.1.event

  -- lines are put behind those that are there
  pub grows_so : (e : Event) (old new : Hand C D) → RunsTo core file e old new → StandsSome core file old →
      (added : List Line) × (new.journal ≡ old.journal ++ added)
  grows_so e old new runs some =
      let w = some.0 in
      let r = runs w some.1 in
      let g = event_grows (asked e) (with_arms r.falls w) in
      (g.said, sym r.stands.lines ∙ g.lines ∙ ap (λ ls. ls ++ g.said) some.1.lines)

  pub grows_over : (e : Event) (old new : Hand C D) → RunsOver core file e old new → StandsSome core file old →
      (added : List Line) × (new.journal ≡ old.journal ++ added)
  grows_over e old new runs some =
      let w = some.0 in
      let r = runs w some.1 in
      let g = event_grows (asked e) (with_arms r.falls w) in
      (g.said, sym r.stands.stands.lines ∙ g.lines ∙ ap (λ ls. ls ++ g.said) some.1.lines)
