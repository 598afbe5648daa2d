-- Whatever each handler keeps holds behind each event: actions that begin, and all that an event makes happen.
use Rattle.arj_law_parts.proofs.Words
use Words.{◌≡◌, ℕ, ◌+◌, Bool, true, false, List, [], ◌∷◌, ◌++◌, refl, sym, ◌∙◌, ap, subst, append-nil, length, map, if◌then◌else◌, nat_lt}
use Words.{nat_le, not}
use Words.{◌&&◌, Option, Some, None, is_some, is_at, label_cmp, Header, Label, Kind, Body, Line, Event, FrameNo, at_number, at_place}
use Words.{Node, Input, step_unless, refusal, refusal_at, first_reason, World, Arm, Giving, Labelled, most_frames, numbered, steps}
use Words.{step_node}
use Words.{step_with, armed, labels_unless, gives_label, refused_at, begins, giving, happens, limited, counted, no_labels, lacks_labels}
use Words.{run_unless, run_event, reasons, node_of, node_in, labelled, is_given, is_known, was_given, is_node, is_up_at, frame_number}
use Words.{node_numbers, Post, Move, moved, all_moved, world_by, world_from, is_serial}
use Words.body
use Words.kind
use Words.event
use Words.frame_no as input_frame
use Words.input
use Rattle.arj_law_parts.proofs.Terms
use Terms.{Asked, says, MayGive, label_at}
use Terms.which
use Rattle.arj_law_parts.proofs.moves
use moves.Firsts.{first_stands}
use moves.Inputs.{Goes, MayCome, begin_goes, unless_refused}
use moves.Places.{all_found, all_inserted}
use moves.Reasons.{first_not, is_new, is_there, not_not}
use moves.Worlds.{asked_none, deliver_holds, either_holds, junk_holds, lost_holds, node_is, plain_hold, quiesce_holds, same_seen, says_hold}
use moves.Worlds.{sees_node}
use moves.Worlds.{settled_holds, shows_hold, steps_hold, with_holds}
use Rattle.arj_law_parts.specs.moves.Keeps.{Stands}
use Rattle.arj_law_parts.specs.moves.Moments.{History, Moment, come, gone, is_restart, no_history}
use Rattle.arj_law_parts.specs.moves.With.{Brings, HoldsAt, HoldsWith, Closes, KeepsAll, KeepsSteps, KeepsWith, Opens, asked_at}
use Rattle.arj_law_parts.specs.moves.With.{asked_of_node, look, past_event}
use Rattle.arj_law_parts.specs.moves.With.{past_moves}
use Rattle.arj_law_parts.specs.moves.With.{past_of, past_unless, written}
use Rattle.arj_law_parts.specs.steps.Writes.{asks}
use Rattle.arj_promise.specs.Runs.{Run}
use Rattle.std.specs.Prelude.{drop}
use Rattle.arj_model.specs.Past.{Past}
use Rattle.arj_protocol.specs.{Words.read_message, World.kind_in, World.reads_whole}

-- an optional value that isn't there
none_of : {A : Type 0} (o : Option A) → is_some o ≡ false → o ≡ None
none_of None h = refl
none_of (Some a) h = absurd (cc h)

module _ (hd : Header) (P : Moment → Type 0) (keeps : KeepsSteps hd P) where
  -- ---- actions that begin

  -- the label that an event gives is new, its node is there, and the event begins the action before it has a line
  pub record Begins (b : Giving) (g : History) (w : World) : Type 0 where
    pub new : label_at b.label w.labels ≡ None
    pub may : MayGive w.labels b.node b.kind b.parent
    pub there : is_some (at_place b.node w.nodes) ≡ true
    pub brings : Brings g.event (input.Begin b.label b.kind b.parent)
    pub first : (let r = g.run in r.lines) ≡ w.lines

  labels_stand : (b : Giving) (sent : List Post) (w : World) (r : Option ℕ) → is_some (at_place b.node w.nodes) ≡ true → Stands hd sent w →
      Stands hd sent (labels_unless b w r)
  labels_stand b sent w (Some c) there s = s
  labels_stand b sent w None there s = record {
    frames = s.frames;
    junk = s.junk;
    header = s.header;
    numbers = s.numbers;
    places = s.places;
    labels = all_inserted (λ (q : Label × Labelled). is_some (at_place q.1.node w.nodes) ≡ true) b.label
        (record { node = b.node; serial = is_serial b.kind }) w.labels (λ j. there) s.labels;
  }

  abbrev Stepped : Giving → History → World → Node → Option ℕ → Type 0
  Stepped b g w n r = HoldsAt hd P g (step_with b.node n (step_unless w.header (input.Begin b.label b.kind b.parent) n r)
      (labels_unless b w r) (at_number b.node (labels_unless b w r).arms))

  abbrev Sees : Giving → History → World → List Post → Option ℕ → Moment
  Sees b g w sent r =
      unless_refused hd P keeps b.node b.label (record { node = b.node; serial = is_serial b.kind }) (look g sent w) r

  with_label : (b : Giving) (g : History) (w : World) (h : HoldsAt hd P g w) (n : Node) → at_place b.node w.nodes ≡ Some n →
      n.number ≡ b.node → (r : Option ℕ)
      → Goes hd P keeps b.node n.disk (step_unless w.header (input.Begin b.label b.kind b.parent) n r) (Sees b g w h.sent r) →
      Stepped b g w n r
  with_label b g w h n there num None goes =
      with_holds hd P keeps b.node n (step_unless w.header (input.Begin b.label b.kind b.parent) n None) g h.sent (gives_label b w)
      (at_number b.node w.arms) (labels_stand b h.sent w None (ap (λ (o : Option Node). is_some o) there) h.stands)
      (h.number, h.wrote) there num goes
  with_label b g w h n there num (Some c) goes = with_holds hd P keeps b.node n
      (step_unless w.header (input.Begin b.label b.kind b.parent) n (Some c)) g h.sent w (at_number b.node w.arms) h.stands
      (h.number, h.wrote)
      there num goes

  stepped : (b : Giving) (g : History) (w : World) (n : Node) (h : HoldsAt hd P g w) → Begins b g w → at_place b.node w.nodes ≡ Some n →
      (r : Option ℕ) → refusal_at hd (input.Begin b.label b.kind b.parent) n.live ≡ r → Stepped b g w n r
  stepped b g w n h new there r is =
      let i : Input = input.Begin b.label b.kind b.parent in
      let num : n.number ≡ b.node = h.stands.numbers b.node n there in
      let goes : Goes hd P keeps b.node n.disk (step_unless hd i (record { number = b.node; disk = n.disk; live = n.live }) r)
      (Sees b g w h.sent r) = begin_goes hd P keeps b.node b.label b.kind b.parent n.disk n.live
      (look g h.sent w) new.brings new.first new.new
      new.may (sees_node hd P keeps b.node n g h.sent w there num h.holds) r is in
      with_label b g w h n there num r
      (subst (λ x. Goes hd P keeps b.node n.disk (step_unless x i n r) (Sees b g w h.sent r)) (sym h.stands.header)
      (subst (λ x. Goes hd P keeps b.node n.disk (step_unless hd i x r) (Sees b g w h.sent r)) (node_is hd P keeps b.node n num) goes))

  by_refusal : (b : Giving) (g : History) (w : World) (n : Node) → at_place b.node w.nodes ≡ Some n → (r : Option ℕ) →
      refusal w.header (input.Begin b.label b.kind b.parent) n ≡ r → Stepped b g w n r
      → HoldsAt hd P g (steps b.node (input.Begin b.label b.kind b.parent) (labels_unless b w r))
  by_refusal b g w n there None is s =
      let i : Input = input.Begin b.label b.kind b.parent in
      subst (λ o. HoldsAt hd P g (step_node b.node i (gives_label b w) o)) (sym there)
      (subst (λ r. HoldsAt hd P g (step_with b.node n (step_unless w.header i n r) (gives_label b w) (at_number b.node w.arms))) (sym is) s)
  by_refusal b g w n there (Some c) is s =
      let i : Input = input.Begin b.label b.kind b.parent in
      subst (λ o. HoldsAt hd P g (step_node b.node i w o)) (sym there)
      (subst (λ r. HoldsAt hd P g (step_with b.node n (step_unless w.header i n r) w (at_number b.node w.arms))) (sym is) s)

  begins_hold : (b : Giving) (g : History) (w : World) → Begins b g w → HoldsAt hd P g w → HoldsAt hd P g (begins b w)
  begins_hold b g w new h = found (at_place b.node w.nodes) refl new.there
    where
      found : (o : Option Node) → at_place b.node w.nodes ≡ o → is_some (at_place b.node w.nodes) ≡ true → HoldsAt hd P g
          (steps b.node (input.Begin b.label b.kind b.parent) (labels_unless b w (refused_at (input.Begin b.label b.kind b.parent) w o)))
      found None there is = absurd (cc (sym (ap (λ (o : Option Node). is_some o) there) ∙ is))
      found (Some n) there is =
          by_refusal b g w n there (refusal w.header (input.Begin b.label b.kind b.parent) n) refl
          (stepped b g w n h new there (refusal w.header (input.Begin b.label b.kind b.parent) n)
          (ap (λ x. refusal_at x (input.Begin b.label b.kind b.parent) n.live) (sym h.stands.header)))

  -- ---- events

  -- all lines are of the run before the event
  abbrev Fresh : History → World → Type 0
  Fresh g w = (let r = g.run in r.lines) ≡ w.lines

  top_new : (l : Label) (n : ℕ) (how : Kind) (g : History) (w : World) → MayGive w.labels n how None →
      first_reason ((1, not (is_node n w)) ∷ (2, not (is_up_at n w)) ∷ (4, is_known l w) ∷ []) ≡ None →
      Brings g.event (input.Begin l how None) → Fresh g w → HoldsAt hd P g w
      → Begins (record { label = l; kind = how; parent = None; node = n }) g w
  top_new l n how g w may free brings fresh h =
      let a = first_not 1 (not (is_node n w)) ((2, not (is_up_at n w)) ∷ (4, is_known l w) ∷ []) free in
      let b = first_not 2 (not (is_up_at n w)) ((4, is_known l w) ∷ []) a.1 in
      let c = is_new l w [] b.1 in
      let node : is_node n w ≡ true = not_not (is_node n w) a.0 in
      record {
        new = none_of (labelled l w) c.0;
        may = may;
        there = h.stands.places n (subst (λ x. (nat_le 1 n && nat_le n x.nodes) ≡ true) h.stands.header node);
        brings = brings;
        first = fresh;
      }

  -- an action that begins in one with a label
  below_new : (l p : Label) (how : Kind) (g : History) (w : World) (q : Labelled) → labelled p w ≡ Some q →
      MayGive w.labels q.node how (Some p) → is_given l w ≡ false → Brings g.event (input.Begin l how (Some p)) → Fresh g w →
      HoldsAt hd P g w
      → Begins (record { label = l; kind = how; parent = Some p; node = q.node }) g w
  below_new l p how g w q is may free brings fresh h = record {
    new = none_of (labelled l w) free;
    may = may;
    there = all_found (λ (q : Labelled). is_some (at_place q.node w.nodes) ≡ true) (is_at (label_cmp p)) q w.labels h.stands.labels is;
    brings = brings;
    first = fresh;
  }

  in_new : (l p : Label) (g : History) (w : World) →
      first_reason ((4, is_known l w) ∷ (5, not (is_known p w)) ∷ (6, was_given p w) ∷ []) ≡ None → g.event ≡ event.BeginIn l p →
      Fresh g w →
      HoldsAt hd P g w
      → HoldsAt hd P g (begins (record { label = l; kind = kind_in (labelled p w); parent = Some p; node = node_in (labelled p w) }) w)
  in_new l p g w free its fresh h =
      let a = is_new l w ((5, not (is_known p w)) ∷ (6, was_given p w) ∷ []) free in
      by (labelled p w) refl a.0 (is_there p w a.1)
    where
      kinds : (q : Labelled) (b : Bool) → labelled p w ≡ Some q → q.serial ≡ b →
          MayGive w.labels q.node (if b then kind.Constituent else kind.Nested) (Some p)
      kinds q true is s = (q, is, refl, λ i. if sym s i then kind.Constituent else kind.Nested)
      kinds q false is s = (q, is, refl, λ i. if sym s i then kind.Constituent else kind.Nested)

      by : (o : Option Labelled) → labelled p w ≡ o → is_given l w ≡ false → is_some (labelled p w) ≡ true →
          HoldsAt hd P g (begins (record { label = l; kind = kind_in o; parent = Some p; node = node_in o }) w)
      by None is free there = absurd (cc (sym (ap (λ (o : Option Labelled). is_some o) is) ∙ there))
      by (Some q) is free there =
          let how : Kind = if q.serial then kind.Constituent else kind.Nested in
          begins_hold (record { label = l; kind = how; parent = Some p; node = q.node }) g w
          (below_new l p how g w q is (kinds q q.serial is refl) free
          (subst (λ (e : Event). Brings e (input.Begin l how (Some p))) (sym its) (how, refl)) fresh h) h

  apart_new : (l p : Label) (g : History) (w : World) →
      first_reason ((4, is_known l w) ∷ (5, not (is_known p w)) ∷ (6, was_given p w) ∷ []) ≡ None → g.event ≡ event.Top l p → Fresh g w →
      HoldsAt hd P g w
      → HoldsAt hd P g (begins (record { label = l; kind = kind.Independent; parent = Some p; node = node_in (labelled p w) }) w)
  apart_new l p g w free its fresh h =
      let a = is_new l w ((5, not (is_known p w)) ∷ (6, was_given p w) ∷ []) free in
      by (labelled p w) refl a.0 (is_there p w a.1)
    where
      by : (o : Option Labelled) → labelled p w ≡ o → is_given l w ≡ false → is_some (labelled p w) ≡ true →
          HoldsAt hd P g (begins (record { label = l; kind = kind.Independent; parent = Some p; node = node_in o }) w)
      by None is free there = absurd (cc (sym (ap (λ (o : Option Labelled). is_some o) is) ∙ there))
      by (Some q) is free there =
          begins_hold (record { label = l; kind = kind.Independent; parent = Some p; node = q.node }) g w
          (below_new l p kind.Independent g w q is (q, is, refl) free
          (subst (λ (e : Event). Brings e (input.Begin l kind.Independent (Some p))) (sym its) refl) fresh h) h

  -- what an event names is a node of the header
  node_of_header : (n : ℕ) (g : History) (w : World) (rs : List (ℕ × Bool)) → first_reason ((1, not (is_node n w)) ∷ rs) ≡ None →
      HoldsAt hd P g w → (nat_le 1 n && nat_le n hd.nodes) ≡ true
  node_of_header n g w rs free h =
      let first = first_not 1 (not (is_node n w)) rs free in
      subst (λ v. (nat_le 1 n && nat_le n v.nodes) ≡ true) h.stands.header (not_not (is_node n w) first.0)

  -- an action of this label is asked
  act_holds : (i : Input) (l : Label) (g : History) (w : World) (h : HoldsAt hd P g w) →
      MayCome hd P keeps (node_of l w) i (look g h.sent w)
      → HoldsAt hd P (asked_of_node (Some (node_of l w, i)) w g) (steps (node_of l w) i w)
  act_holds i l g w h may =
      subst (λ x. HoldsAt hd P (asked_at x i (at_place (node_of l w) w.nodes) g) (steps (node_of l w) i w)) (sym h.stands.header)
      (steps_hold hd P keeps (node_of l w) i g w h may)

  -- one that begins asks nothing
  begun_holds : (b : Giving) (g : History) (w v : World) → HoldsAt hd P g v →
      HoldsAt hd P (asked_of_node (Some (b.node, input.Begin b.label b.kind b.parent)) w g) v
  begun_holds b g w v h = subst (λ q. HoldsAt hd P q v)
      (sym (asked_none w.header (input.Begin b.label b.kind b.parent) (at_place b.node w.nodes) g refl)) h

  -- the event under way brings what it brings
  brought : (e : Event) (i : Input) (g : History) → g.event ≡ e → Brings e i → Brings g.event i
  brought e i g its b = subst (λ (x : Event). Brings x i) (sym its) b

  -- nor does it restart a node
  not_restart : {e : Event} (g : History) → g.event ≡ e → is_restart e ≡ false → is_restart g.event ≡ false
  not_restart g its other = ap is_restart its ∙ other

  pub happens_hold : (e : Event) (a : Arm) (g : History) (w : World) → first_reason (reasons e w) ≡ None → g.event ≡ e → Fresh g w →
      HoldsAt hd P g w → HoldsAt hd P (asked_of_node (asks e w) w g) (happens e a w)
  happens_hold (event.Begin l n) a g w free its fresh h =
      let b : Giving = record { label = l; kind = kind.Top; parent = None; node = n } in
      begun_holds b g w (begins b w) (begins_hold b g w (top_new l n kind.Top g w tt free
      (brought (event.Begin l n) (input.Begin l kind.Top None) g its refl) fresh h) h)
  happens_hold (event.Serial l n) a g w free its fresh h =
      let b : Giving = record { label = l; kind = kind.Serial; parent = None; node = n } in
      begun_holds b g w (begins b w) (begins_hold b g w (top_new l n kind.Serial g w tt free
      (brought (event.Serial l n) (input.Begin l kind.Serial None) g its refl) fresh h) h)
  happens_hold (event.BeginIn l p) a g w free its fresh h =
      let b : Giving = record { label = l; kind = kind_in (labelled p w); parent = Some p; node = node_in (labelled p w) } in
      begun_holds b g w (begins b w) (in_new l p g w free its fresh h)
  happens_hold (event.Top l p) a g w free its fresh h =
      let b : Giving = record { label = l; kind = kind.Independent; parent = Some p; node = node_in (labelled p w) } in
      begun_holds b g w (begins b w) (apart_new l p g w free its fresh h)
  happens_hold (event.Call l x o) a g w free its fresh h =
      act_holds (input.Call l x o) l g w h (brought (event.Call l x o) (input.Call l x o) g its refl, fresh, tt)
  happens_hold (event.Include l x n) a g w free its fresh h =
      act_holds (input.Include l x n) l g w h (
        brought (event.Include l x n) (input.Include l x n) g its refl,
        fresh,
        node_of_header n g w ((5, not (is_known l w)) ∷ (6, was_given l w) ∷ []) free h,
      )
  happens_hold (event.Commit l) a g w free its fresh h =
      act_holds (input.Commit l) l g w h (brought (event.Commit l) (input.Commit l) g its refl, fresh, tt)
  happens_hold (event.Abort l) a g w free its fresh h =
      act_holds (input.Abort l) l g w h (brought (event.Abort l) (input.Abort l) g its refl, fresh, tt)
  happens_hold (event.GiveUp l) a g w free its fresh h =
      act_holds (input.GiveUp l) l g w h (brought (event.GiveUp l) (input.GiveUp l) g its refl, fresh, tt)
  happens_hold (event.Deliver k) a g w free its fresh h = deliver_holds hd P keeps g (not_restart g its refl) (frame_number k w) w h
  happens_hold (event.Lose k) a g w free its fresh h =
      lost_holds hd P keeps g (frame_number k w) w (at_place (frame_number k w) w.frames) refl h
  happens_hold (event.Tick n) a g w free its fresh h = plain_hold hd P keeps n input.Tick g w refl h (not_restart g its refl)
  happens_hold event.Settle a g w free its fresh h = settled_holds hd P keeps g (not_restart g its refl) most_frames w h
  happens_hold event.Quiesce a g w free its fresh h = quiesce_holds hd P keeps g (not_restart g its refl) w h
  happens_hold (event.Crash n) a g w free its fresh h = plain_hold hd P keeps n input.Crash g w refl h tt
  happens_hold (event.Restart n) a g w free its fresh h = plain_hold hd P keeps n input.Restart g w refl h (its, fresh)
  happens_hold (event.Stop n c how) a g w free its fresh h = says_hold hd P keeps (body.Armed n ∷ []) g (armed n a w) refl
      (same_seen hd P keeps g w (armed n a w) refl refl refl refl refl refl refl h)
  happens_hold (event.Junk n bytes) a g w free its fresh h = junk_holds hd P keeps g n w (nat_lt (length w.frames) most_frames) refl
      (node_of_header n g w ((18, reads_whole (read_message bytes)) ∷ []) free h) h
  happens_hold (event.Show x) a g w free its fresh h = shows_hold hd P keeps g x (node_numbers w) w h

  limited_holds : (g : History) (w : World) → HoldsAt hd P g w → HoldsAt hd P g (limited w)
  limited_holds g w h = either_holds hd P keeps g w.full (says (body.Limit which.Frames ∷ []) (record w { over = true })) w
      (says_hold hd P keeps (body.Limit which.Frames ∷ []) g (record w { over = true }) refl
      (same_seen hd P keeps g w (record w { over = true }) refl refl refl refl refl refl refl h)) h

  -- ---- behind all that an event makes happen

  counted_free : (e : Event) (w : World) → first_reason (reasons e w) ≡ None → first_reason (reasons e (counted w)) ≡ None
  counted_free (event.Begin l n) w is = is
  counted_free (event.Serial l n) w is = is
  counted_free (event.BeginIn l p) w is = is
  counted_free (event.Top l p) w is = is
  counted_free (event.Call l x o) w is = is
  counted_free (event.Include l x n) w is = is
  counted_free (event.Commit l) w is = is
  counted_free (event.Abort l) w is = is
  counted_free (event.GiveUp l) w is = is
  counted_free (event.Deliver k) w is = by k is
    where
      by : (k : FrameNo) → first_reason (reasons (event.Deliver k) w) ≡ None →
          first_reason (reasons (event.Deliver k) (counted w)) ≡ None
      by (input_frame.Number j) is = is
      by input_frame.Last is = is
  counted_free (event.Lose k) w is = by k is
    where
      by : (k : FrameNo) → first_reason (reasons (event.Lose k) w) ≡ None → first_reason (reasons (event.Lose k) (counted w)) ≡ None
      by (input_frame.Number j) is = is
      by input_frame.Last is = is
  counted_free (event.Tick n) w is = is
  counted_free event.Settle w is = is
  counted_free event.Quiesce w is = is
  counted_free (event.Crash n) w is = is
  counted_free (event.Restart n) w is = is
  counted_free (event.Stop n c how) w is = is
  counted_free (event.Junk n bytes) w is = is
  counted_free (event.Show x) w is = is

  -- what is asked of a node doesn't look at the event's number
  same_asks : (g : History) (w : World) (e : Event) → asked_of_node (asks e (counted w)) (counted w) (come e g) ≡ asked_of_node
      (asks e w) w (come e g)
  same_asks g w (event.Begin l n) = refl
  same_asks g w (event.Serial l n) = refl
  same_asks g w (event.BeginIn l p) = refl
  same_asks g w (event.Top l p) = refl
  same_asks g w (event.Call l x o) = refl
  same_asks g w (event.Include l x n) = refl
  same_asks g w (event.Commit l) = refl
  same_asks g w (event.Abort l) = refl
  same_asks g w (event.GiveUp l) = refl
  same_asks g w (event.Deliver k) = refl
  same_asks g w (event.Lose k) = refl
  same_asks g w (event.Tick n) = refl
  same_asks g w event.Settle = refl
  same_asks g w event.Quiesce = refl
  same_asks g w (event.Crash n) = refl
  same_asks g w (event.Restart n) = refl
  same_asks g w (event.Stop n c how) = refl
  same_asks g w (event.Junk n bytes) = refl
  same_asks g w (event.Show x) = refl

  -- where the world doesn't refuse the event, and before it is over
  pub happened : (e : Event) (a : Arm) (g : History) (w : World) → first_reason (reasons e w) ≡ None →
      (let r = g.run in r.lines) ≡ w.lines → HoldsAt hd P (come e g) (counted w) →
      HoldsAt hd P (asked_of_node (asks e w) w (come e g)) (limited (happens e a (counted w)))
  happened e a g w is fresh h = limited_holds (asked_of_node (asks e w) w (come e g)) (happens e a (counted w))
      (subst (λ q. HoldsAt hd P q (happens e a (counted w))) (same_asks g w e)
      (happens_hold e a (come e g) (counted w) (counted_free e w is) refl fresh h))

-- ---- as an event comes, and as it is over

pub opens_at : (hd : Header) (P Q : Moment → Type 0) → Opens P Q → (e : Event) (g : History) (w : World) → w.over ≡ false →
    HoldsWith hd P g w → HoldsAt hd Q (come e g) (counted w)
opens_at hd P Q opens e g w over h = record {
  sent = h.now.sent;
  stands = record {
    frames = h.now.stands.frames;
    junk = h.now.stands.junk;
    header = h.now.stands.header;
    numbers = h.now.stands.numbers;
    places = h.now.stands.places;
    labels = h.now.stands.labels;
  };
  number = λ i. h.now.number i + 1;
  wrote = ([], sym (h.lines over) ∙ sym (append-nil (let r = g.run in r.lines)));
  holds = opens e (look g h.now.sent w) (h.lines over) (sym h.now.number ∙ h.count) h.now.holds;
}

-- what stands behind the lines of a world
behind_lines : (ls : List Line) (e : ℕ) (bs : List Body) → map (λ (l : Line). l.body) (drop (length ls) (ls ++ numbered e bs)) ≡ bs
behind_lines ls e bs = ap (λ xs. map (λ (l : Line). l.body) xs) (dropped ls (numbered e bs)) ∙ bodies_of bs
  where
    dropped : (xs ys : List Line) → drop (length xs) (xs ++ ys) ≡ ys
    dropped [] ys = refl
    dropped (x ∷ xs) ys = dropped xs ys

    bodies_of : (bs : List Body) → map (λ (l : Line). l.body) (numbered e bs) ≡ bs
    bodies_of [] = refl
    bodies_of (b ∷ bs) = λ i. b ∷ bodies_of bs i

pub closes_at : (hd : Header) (P Q : Moment → Type 0) → Closes P Q → (g : History) (w v : World) → (let r = g.run in r.lines) ≡ w.lines →
    g.number ≡ (let r = g.run in r.count) + 1 → HoldsAt hd P g v → HoldsWith hd Q (gone (written w v) g) v
closes_at hd P Q closes g w v fresh count h = record {
  now = record {
    sent = h.sent;
    stands = h.stands;
    number = h.number;
    wrote = ([], sym (now ∙ at_last) ∙ sym (append-nil (g.run.lines ++ numbered (g.run.count + 1) (written w v))));
    holds = closes (written w v) (look g h.sent v) (sym h.number ∙ count) all h.holds;
  };
  count = count;
  lines = λ over. now ∙ at_last;
}
  where
    bs : List Body
    bs = h.wrote.0

    same : written w v ≡ h.wrote.0
    same = (λ i. map (λ (l : Line). l.body) (drop (length (sym fresh i)) (h.wrote.1 i))) ∙ behind_lines g.run.lines v.event h.wrote.0

    all : v.lines ≡ g.run.lines ++ numbered v.event (written w v)
    all = h.wrote.1 ∙ (λ i. g.run.lines ++ numbered v.event (sym same i))

    now : g.run.lines ++ numbered (g.run.count + 1) (written w v) ≡ g.run.lines ++ numbered v.event (written w v)
    now = λ i. g.run.lines ++ numbered ((sym count ∙ h.number) i) (written w v)

    at_last : g.run.lines ++ numbered v.event (written w v) ≡ v.lines
    at_last = sym all

-- what is asked leaves the rest of the history as it is
pub same_run : (e : Event) (g : History) (w : World) (o : Option (ℕ × Input)) →
    ((let q = asked_of_node o w (come e g) in q.run) ≡ (let q = g in q.run))
    × ((let q = asked_of_node o w (come e g) in q.number) ≡ (let q = g in q.number) + 1)
same_run e g w None = (refl, refl)
same_run e g w (Some b) = at (at_place b.0 w.nodes)
  where
    at : (n : Option Node) → ((let q = asked_at w.header b.1 n (come e g) in q.run) ≡ (let q = g in q.run))
        × ((let q = asked_at w.header b.1 n (come e g) in q.number) ≡ (let q = g in q.number) + 1)
    at None = (refl, refl)
    at (Some n) = (refl, refl)

module _ (hd : Header) (P : Moment → Type 0) {F : Type 0} (keeps : KeepsWith hd F P) where
  -- ---- events of a run

  unless_holds : (e : Event) (a : Arm) (g : History) (w : World) (r : Option ℕ) → first_reason (reasons e w) ≡ r → w.over ≡ false →
      HoldsWith hd P g w → HoldsWith hd P (past_unless e w (run_unless e a w r) g r) (run_unless e a w r)
  unless_holds e a g w (Some c) is over h =
      closes_at hd P P keeps.closes (come e g) w (says (body.Refused c ∷ []) (counted w)) (h.lines over) (λ i. h.count i + 1)
      (says_hold hd P keeps.steps (body.Refused c ∷ []) (come e g) (counted w) refl (opens_at hd P P keeps.opens e g w over h))
  unless_holds e a g w None is over h = by (lacks_labels (giving e w) w)
    where
      by : (b : Bool) → HoldsWith hd P
          (let v = if b then no_labels w else limited (happens e a (counted w)) in
          if b then g else gone (written w v) (asked_of_node (asks e w) w (come e g)))
          (if b then no_labels w else limited (happens e a (counted w)))
      by true = record {
        now = says_hold hd P keeps.steps (body.Limit which.Labels ∷ []) g (record w { over = true }) refl
            (same_seen hd P keeps.steps g w (record w { over = true }) refl refl refl refl refl refl refl h.now);
        count = h.count;
        lines = λ never. absurd (cc never);
      }
      by false =
          let q = asked_of_node (asks e w) w (come e g) in
          let same = same_run e g w (asks e w) in
          closes_at hd P P keeps.closes q w (limited (happens e a (counted w))) (ap (λ (r : Past). r.lines) same.0 ∙ h.lines over)
          (same.1 ∙ (λ i. h.count i + 1) ∙ (λ i. (let r = sym same.0 i in r.count) + 1))
          (happened hd P keeps.steps e a g w is (h.lines over) (opens_at hd P P keeps.opens e g w over h))

  pub event_with : (e : Asked) (g : History) (w : World) → HoldsWith hd P g w → HoldsWith hd P (past_event e w g) (run_event e w)
  event_with e g w h = by w.over refl
    where
      r : Option ℕ
      r = first_reason (reasons e.event w)

      by : (b : Bool) → w.over ≡ b → HoldsWith hd P (if b then g else past_unless e.event w
          (if b then w else run_unless e.event e.arm w r) g r)
          (if b then w else run_unless e.event e.arm w r)
      by true over = h
      by false over = unless_holds e.event e.arm g w r refl over h

  -- ---- runs

  -- which stops are still to fall is nothing to it
  arms_with : (arms : List (ℕ × Arm)) (g : History) (w : World) → HoldsWith hd P g w → HoldsWith hd P g (record w { arms = arms })
  arms_with arms g w h = record {
    now = same_seen hd P keeps.steps g w (record w { arms = arms }) refl refl refl refl refl refl refl h.now;
    count = h.count;
    lines = h.lines;
  }

  pub move_with : (m : Move) (g : History) (w : World) → HoldsWith hd P g w →
      HoldsWith hd P (past_event m.asked (record w { arms = m.falls }) g) (moved m w)
  move_with m g w h =
      let v = record w { arms = m.falls } in
      arms_with [] (past_event m.asked v g) (run_event m.asked v) (event_with m.asked g v (arms_with m.falls g w h))

  pub moves_with : (ms : List Move) (g : History) (w : World) → HoldsWith hd P g w → HoldsWith hd P (past_moves ms w g) (all_moved ms w)
  moves_with [] g w h = h
  moves_with (m ∷ ms) g w h =
      moves_with ms (past_event m.asked (record w { arms = m.falls }) g) (moved m w) (move_with m g w h)

-- what is kept holds at first, and so behind each run
pub run_with : (hd : Header) (P : Moment → Type 0) → KeepsAll hd P → (r : Run hd) → HoldsWith hd P (past_of hd r) (world_by hd r)
run_with hd P keeps r = moves_with hd P keeps r.moves (no_history r.start) (world_from hd r.start) (record {
  now = record {
    sent = [];
    stands = first_stands hd r.start;
    number = refl;
    wrote = ([], refl);
    holds = keeps.first r.start r.formed;
  };
  count = refl;
  lines = λ over. refl;
})
