-- Event by event.
use Rattle.arj_law_parts.proofs.Words
use Words.{◌≡◌, ◌∙◌, ◌+◌, ℕ, zero, suc, Bool, true, false, not, cond, List, [], ◌∷◌, ◌++◌, length, refl, sym, ap, subst, inl, inr, Option}
use Words.{Some, None, ◌⊎◌, IfSome, is_some, nat_lt, ◌||◌, append-nil, append_assoc, is_at, AllByRecursion, lookup, steps_lines}
use Words.{begin_action, Effect, Say, Do, Look, PutInc, effects_of, Handled, Parts, Took, Void, taken, whole, with_coord, Node, Step, Input}
use Words.{first_reason, frame_step, handled_step, only_says, void_step, parent_of, parts_in, refusal, refusal_at, restart_outs, step}
use Words.{step_of, step_unless, at_place, next_uid, Body, Event, Header, Kind, Label, Line, Message, Uid, label_cmp, World, Arm, Frame}
use Words.{Giving, Labelled, as_delivered, as_lost, armed, bodies, begins, change_frame, counted, deliver, deliver_frame, giving}
use Words.{gives_label, happens, is_frame, is_given, is_known, was_given, is_node, is_quiet, is_up, is_up_at, junk, junk_fits, kind_below}
use Words.{labelled}
use Words.{labels_unless, lacks_labels, limited, lose, lose_frame, lowest, new_frame, no_labels, node_in, node_numbers}
use Words.{node_of, numbered, quiesce, quiet_line, reasons, refused_at, run_event, run_unless, settle, settle_for, steps, tick_all, tick_up}
use Words.{most_frames}
use Words.input
use Words.body
use Words.event
use Words.kind
use Words.frame
use Words.frame_no
use Rattle.arj_law_parts.proofs.Terms
use Terms.{Answers, Own, IsRefused, IsAnswered, IsDone, IsOwn, IsRun, IsWhole, asks, halts_for, node_refusal, refused_to, Asked, says}
use Terms.which
use Rattle.arj_law_parts.proofs.steps.Written.{Says, SaysFirst, Written, node_says, node_says_first, refusal_writes, says_written}
use Rattle.arj_law_parts.proofs.steps.Written.{step_writes, whole_says, first_stands, stands_behind, third_stands}
use Rattle.arj_law_parts.specs.steps.Writes.{IsFrames, IsLabels, Owes, Writes, begun_by, may_lack_frames}
use Rattle.arj_law_parts.proofs.moves.Reasons.{first_not, is_new, is_there, not_not}

-- ---- what steps say

abbrev pub unless : Header → Input → Node → Option ℕ → Option Parts → Step
unless hd i n (Some c) o = only_says n (body.Refused c)
unless hd i n None o = step_of hd i n o

pub unless_is : (hd : Header) (i : Input) (n : Node) (r : Option ℕ) → step_unless hd i n r ≡ unless hd i n r n.live
unless_is hd i n (Some c) = refl
unless_is hd i n None = refl

-- the action began
abbrev IsBegun : Label → Kind → Option Label → Body → Type 0
IsBegun l k p b = (u : Uid) × (b ≡ body.Began l k u p)

begin_says : (l : Label) (k : Kind) (p : Option Label) (hd : Header) (n : Node) → refusal hd (input.Begin l k p) n ≡ None →
    Says (IsBegun l k p) (step hd n (input.Begin l k p)).outs
begin_says l k p hd n none = subst (λ r. Says (IsBegun l k p) (step_unless hd (input.Begin l k p) n r).outs) (sym none) (by n.live none)
  where
    by : (o : Option Parts) → refusal_at hd (input.Begin l k p) o ≡ None → Says (IsBegun l k p) (step_of hd (input.Begin l k p) n o).outs
    by None down = absurd (cc down)
    by (Some t) up =
        let d = begin_action l k p (parent_of p t.coord) t.coord in
        let u = next_uid t.coord.tree in
        record {
          line = body.Began l k u p;
          stands = whole_says n.number (with_coord t d.part) d.outs n.disk (Say (body.Began l k u p))
              (first_stands (Say (body.Began l k u p)) []);
          holds = (u, refl);
        }

abbrev IsUp : ℕ → Body → Type 0
IsUp n b = (i : ℕ) × (b ≡ body.Up n i)

restart_says : (hd : Header) (n : Node) → is_some n.live ≡ false → Says (IsUp n.number) (step hd n input.Restart).outs
restart_says hd n down = subst (λ (s : Step). Says (IsUp n.number) s.outs)
    (sym (unless_is hd input.Restart n (refusal_at hd input.Restart n.live))) (by n.live down)
  where
    by : (o : Option Parts) → is_some o ≡ false → Says (IsUp n.number) (unless hd input.Restart n (refusal_at hd input.Restart o) o).outs
    by (Some t) isnt = absurd (cc isnt)
    by None isnt =
        let inc = n.disk.inc + 1 in
        record {
          line = body.Up n.number inc;
          stands = whole_says n.number (parts_in n.number inc n.disk) (restart_outs hd n.number inc n.disk) n.disk
              (Say (body.Up n.number inc)) (third_stands (Do Look) (Do (PutInc inc)) (Say (body.Up n.number inc)) _);
          holds = (inc, refl);
        }

abbrev IsHalted : ℕ → Body → Type 0
IsHalted n b = b ≡ body.Halted n

crash_says : (hd : Header) (n : Node) → is_some n.live ≡ true → Says (IsHalted n.number) (step hd n input.Crash).outs
crash_says hd n there = subst (λ (s : Step). Says (IsHalted n.number) s.outs)
    (sym (unless_is hd input.Crash n (refusal_at hd input.Crash n.live))) (by n.live there)
  where
    by : (o : Option Parts) → is_some o ≡ true → Says (IsHalted n.number) (unless hd input.Crash n (refusal_at hd input.Crash o) o).outs
    by None isnt = absurd (cc isnt)
    by (Some t) isnt = record { line = body.Halted n.number; stands = first_stands (Say (body.Halted n.number)) []; holds = refl }

-- ---- lines of the world's own

says_so : (e : Event) (w v : World) (b : Body) (over : Bool) → v.lines ≡ w.lines → Answers e w over b →
    IsAnswered e w over (says (b ∷ []) v).lines
says_so e w v b over same answers = record {
  before = [];
  line = record { event = v.event; body = b };
  after = [];
  are = ap (λ ls. ls ++ numbered v.event (b ∷ [])) same;
  answers = answers;
}

own_writes : (e : Event) (w v : World) (b : Body) → v.lines ≡ w.lines → IsDone e w → IsOwn e w b → Written e w (says (b ∷ []) v)
own_writes e w v b same done own over = says_so e w v b over same (Own done own)

limited_writes : (e : Event) (w v : World) → Written e w v → Writes e w (limited v)
limited_writes e w v written = by v.full
  where
    more : Line
    more = record { event = v.event; body = body.Limit which.Frames }

    by : (b : Bool) → Writes e w (cond b (says (body.Limit which.Frames ∷ []) (record v { over = true })) v)
    by false = written v.over
    by true = let x = written true in record {
      before = x.before;
      line = x.line;
      after = x.after ++ more ∷ [];
      are = ap (λ ls. ls ++ more ∷ []) x.are ∙ (append_assoc w.lines (x.before ++ x.line ∷ x.after) (more ∷ [])
          ∙ ap (λ ls. w.lines ++ ls) (append_assoc x.before (x.line ∷ x.after) (more ∷ [])));
      answers = x.answers;
    }

-- lines are added behind those that are there
pub record Adds (w v : World) : Type 0 where
  pub said : List Line
  pub lines : v.lines ≡ w.lines ++ said

-- where a frame didn't fit, the limit is said
full_writes : (e : Event) (w v : World) → Adds w v → v.full ≡ true → IsDone e w → may_lack_frames e w → Writes e w (limited v)
full_writes e w v adds full done lacks =
    let more : Line = record { event = v.event; body = body.Limit which.Frames } in
    let over : (limited v).over ≡ true = ap (λ b. (cond b (says (body.Limit which.Frames ∷ []) (record v { over = true })) v).over) full in
    let is : (limited v).lines ≡ v.lines ++ more ∷ [] = ap
    (λ b. (cond b (says (body.Limit which.Frames ∷ []) (record v { over = true })) v).lines) full in
    record {
      before = adds.said;
      line = more;
      after = [];
      are = is ∙ (ap (λ ls. ls ++ more ∷ []) adds.lines ∙ append_assoc w.lines adds.said (more ∷ []));
      answers = IsFrames done lacks over refl;
    }

-- ---- a quiesce

adds_none : (w v : World) → v.lines ≡ w.lines → Adds w v
adds_none w v same = record { said = []; lines = same ∙ sym (append-nil w.lines) }

adds_on : (u v w : World) → Adds u v → Adds v w → Adds u w
adds_on u v w a b =
    record { said = a.said ++ b.said; lines = b.lines ∙ (ap (λ ls. ls ++ b.said) a.lines ∙ append_assoc u.lines a.said b.said) }

steps_adds : (k : ℕ) (i : Input) (v : World) → Adds v (steps k i v)
steps_adds k i v = record { said = numbered v.event (bodies k (length v.frames) (effects_of k i v)); lines = steps_lines k i v }

deliver_adds : (k : ℕ) (w : World) → Adds w (deliver k w)
deliver_adds k w = by (at_place k w.frames)
  where
    by : (o : Option Frame) → Adds w (deliver_frame k w o)
    by None = adds_none w w refl
    by (Some f) = let a = steps_adds f.to (input.Frame k f.from f.message) (change_frame k as_delivered f w) in
        record { said = a.said; lines = a.lines }

settle_adds : (fuel : ℕ) (w : World) → Adds w (settle_for fuel w)
settle_adds zero w = adds_none w w refl
settle_adds (suc fuel) w = by (lowest w) (λ k. settle_adds fuel (deliver k w))
  where
    after : Option ℕ → World
    after o = elim o [ None ↦ w | Some k ↦ settle_for fuel (deliver k w) ]

    by : (o : Option ℕ) → ((k : ℕ) → Adds (deliver k w) (settle_for fuel (deliver k w))) → Adds w (after o)
    by None rest = adds_none w w refl
    by (Some k) rest = adds_on w (deliver k w) (settle_for fuel (deliver k w)) (deliver_adds k w) (rest k)

tick_adds : (n : ℕ) (w : World) → Adds w (tick_up n w)
tick_adds n w = by (w.full || not (is_up_at n w))
  where
    by : (b : Bool) → Adds w (cond b w (steps n input.Tick w))
    by true = adds_none w w refl
    by false = steps_adds n input.Tick w

ticks_add : (ns : List ℕ) (w : World) → Adds w (tick_all ns w)
ticks_add [] w = adds_none w w refl
ticks_add (n ∷ ns) w = adds_on w (tick_up n w) (tick_all ns (tick_up n w)) (tick_adds n w) (ticks_add ns (tick_up n w))

-- the last line of a quiesce
quiet_line_writes : (w v : World) → Adds w v → IsDone event.Quiesce w → Writes event.Quiesce w (limited (quiet_line v))
quiet_line_writes w v adds done = by v.full refl
  where
    said : Line
    said = record { event = v.event; body = body.Quiet (is_quiet v) }

    quiet : Written event.Quiesce w (says (body.Quiet (is_quiet v) ∷ []) v)
    quiet over = record {
      before = adds.said;
      line = said;
      after = [];
      are = ap (λ ls. ls ++ said ∷ []) adds.lines ∙ append_assoc w.lines adds.said (said ∷ []);
      answers = Own done (is_quiet v, refl);
    }

    by : (b : Bool) → v.full ≡ b → Writes event.Quiesce w (limited (cond v.full v (says (body.Quiet (is_quiet v) ∷ []) v)))
    by true full = subst (λ b. Writes event.Quiesce w (limited (cond b v (says (body.Quiet (is_quiet v) ∷ []) v)))) (sym full)
        (full_writes event.Quiesce w v adds full done tt)
    by false full = subst (λ b. Writes event.Quiesce w (limited (cond b v (says (body.Quiet (is_quiet v) ∷ []) v)))) (sym full)
        (limited_writes event.Quiesce w (says (body.Quiet (is_quiet v) ∷ []) v) quiet)

-- ---- why an event is refused

there_is : {A : Type 0} (o : Option A) → is_some o ≡ true → (a : A) × (o ≡ Some a)
there_is None isnt = absurd (cc isnt)
there_is (Some a) is = (a, refl)

-- ---- an action begins

-- with this label, kind and parent, at this node
begins_writes : (e : Event) (w : World) (g : Giving) → IsWhole w → is_node g.node w ≡ true → IsRun e w → asks e w ≡ begun_by (Some g) →
    halts_for e w g.node → ((b : Body) → IsBegun g.label g.kind g.parent b → IsOwn e w b) → Written e w (begins g (counted w))
begins_writes e w g whole there run asked halts own = by (refused_at i (counted w) (at_place g.node w.nodes)) refl
  where
    i : Input
    i = input.Begin g.label g.kind g.parent

    refusal_is : (r : Option ℕ) → refused_at i w (at_place g.node w.nodes) ≡ r → node_refusal e w ≡ r
    refusal_is r is = ap (refused_to w) asked ∙ is

    by : (r : Option ℕ) → refused_at i w (at_place g.node w.nodes) ≡ r → Written e w (steps g.node i (labels_unless g (counted w) r))
    by None none = step_writes e w (gives_label g (counted w)) g.node i (IsBegun g.label g.kind g.parent) refl
        (node_says (IsBegun g.label g.kind g.parent) g.node i (gives_label g (counted w)) (whole.nodes g.node there)
        (λ n is. begin_says g.label g.kind g.parent w.header n (ap (refused_at i w) (sym is) ∙ none)))
        (record { run = run; granted = refusal_is None none }) own halts
    by (Some c) some = refusal_writes e w (counted w) g.node i c refl some (inr (run, refusal_is (Some c) some))

-- the node of a label that was given
pub given_node : (w : World) (p : Label) → IsWhole w → is_given p w ≡ true → is_node (node_of p w) w ≡ true
given_node w p whole given = by (labelled p w) given (found_label w.labels (is_at (label_cmp p)) whole.labels)
  where
    found_label : (ls : List (Label × Labelled)) (test : Label → Bool) →
        AllByRecursion (λ (e : Label × Labelled). is_node e.1.node w ≡ true) ls → IfSome (lookup test ls) (λ g. is_node g.node w ≡ true)
    found_label [] test all = tt
    found_label (e ∷ es) test all = here (test e.0) (found_label es test all.1)
      where
        here : (b : Bool) → IfSome (lookup test es) (λ g. is_node g.node w ≡ true) →
            IfSome (cond b (Some e.1) (lookup test es)) (λ g. is_node g.node w ≡ true)
        here true rest = all.0
        here false rest = rest

    by : (o : Option Labelled) → is_some o ≡ true → IfSome o (λ g. is_node g.node w ≡ true) → is_node (node_in o) w ≡ true
    by None isnt good = absurd (cc isnt)
    by (Some g) is good = good

-- ---- a frame is delivered

-- got or void
abbrev IsTaken : ℕ → Body → Type 0
IsTaken k b = (b ≡ body.Got k) ⊎ (b ≡ body.Void k)

frame_says : (k from : ℕ) (m : Option Message) (hd : Header) (n : Node) →
    Says (IsTaken k) (step hd n (input.Frame k from m)).outs × SaysFirst (IsTaken k) (step hd n (input.Frame k from m)).halting
frame_says k from m hd n = subst (λ (s : Step). Says (IsTaken k) s.outs × SaysFirst (IsTaken k) s.halting)
    (sym (unless_is hd (input.Frame k from m) n (refusal_at hd (input.Frame k from m) n.live))) (by n.live)
  where
    void : (outs : List Effect) → Says (IsTaken k) (void_step k n outs).outs × SaysFirst (IsTaken k) (void_step k n outs).halting
    void outs = (
      record {
        line = body.Void k;
        stands = stands_behind (Say (body.Void k)) outs (Say (body.Void k) ∷ []) (first_stands (Say (body.Void k)) []);
        holds = inr refl;
      },
      record { line = body.Got k; rest = outs; are = refl; holds = inl refl },
    )

    taken_so : (h : Handled) → Says (IsTaken k) (handled_step k n h).outs × SaysFirst (IsTaken k) (handled_step k n h).halting
    taken_so (Void outs) = void outs
    taken_so (Took t outs) = (
      record { line = body.Got k; stands = first_stands (Say (body.Got k)) (whole n.number t outs n.disk).outs; holds = inl refl },
      record { line = body.Got k; rest = (whole n.number t outs n.disk).outs; are = refl; holds = inl refl },
    )

    read : (t : Parts) (x : Option Message) →
        Says (IsTaken k) (frame_step k from n t x).outs × SaysFirst (IsTaken k) (frame_step k from n t x).halting
    read t None = void []
    read t (Some x) = taken_so (taken n.number n.disk t from x)

    by : (o : Option Parts) → Says (IsTaken k) (unless hd (input.Frame k from m) n (refusal_at hd (input.Frame k from m) o) o).outs
        × SaysFirst (IsTaken k) (unless hd (input.Frame k from m) n (refusal_at hd (input.Frame k from m) o) o).halting
    by None = void []
    by (Some t) = read t m

-- ---- what happens

module _ (w : World) (whole : IsWhole w) (a : Arm) where
  loses : (k : ℕ) (e : Event) → is_some (at_place k w.frames) ≡ true → IsDone e w → IsOwn e w (body.Dropped k) →
      Written e w (lose k (counted w))
  loses k e is done own = by (at_place k w.frames) is
    where
      by : (o : Option Frame) → is_some o ≡ true → Written e w (lose_frame k (counted w) o)
      by None isnt = absurd (cc isnt)
      by (Some f) is = own_writes e w (change_frame k as_lost f (counted w)) (body.Dropped k) refl done own

  -- a frame that is there is got or void at its node
  delivers : (k : ℕ) (e : Event) → IfSome (at_place k w.frames) (λ (f : Frame). is_node f.to w ≡ true) →
      is_some (at_place k w.frames) ≡ true → IsDone e w → ((b : Body) → IsTaken k b → IsOwn e w b) → Written e w (deliver k (counted w))
  delivers k e its is done own = by (at_place k w.frames) its is
    where
      by : (o : Option Frame) → IfSome o (λ (f : Frame). is_node f.to w ≡ true) → is_some o ≡ true →
          Written e w (deliver_frame k (counted w) o)
      by None there isnt = absurd (cc isnt)
      by (Some f) there is =
          let v : World = change_frame k as_delivered f (counted w) in
          says_written e w v f.to (input.Frame k f.from f.message) (IsTaken k) refl
          (node_says_first (IsTaken k) f.to (input.Frame k f.from f.message) v (whole.nodes f.to there)
          (λ m at. frame_says k f.from f.message w.header m)) (λ over b taken. Own done (own b taken))

  crashes : (n : ℕ) → is_node n w ≡ true → is_up_at n w ≡ true → IsDone (event.Crash n) w →
      Written (event.Crash n) w (steps n input.Crash (counted w))
  crashes n there up done =
      let here = there_is (at_place n w.nodes) (whole.nodes n there) in
      step_writes (event.Crash n) w (counted w) n input.Crash (IsHalted n) refl
      (node_says (IsHalted n) n input.Crash (counted w) (whole.nodes n there)
      (λ m is. subst (λ j. Says (IsHalted j) (step w.header m input.Crash).outs) (whole.numbers n m is)
      (crash_says w.header m (subst (λ o. is_up o ≡ true) is up))))
      done (λ b is. is) (halted n)
    where
      halted : (n : ℕ) → halts_for (event.Crash n) w n
      halted n = refl

  restarts : (n : ℕ) → is_node n w ≡ true → is_up_at n w ≡ false → IsDone (event.Restart n) w →
      Written (event.Restart n) w (steps n input.Restart (counted w))
  restarts n there down done = step_writes (event.Restart n) w (counted w) n input.Restart (IsUp n) refl
      (node_says (IsUp n) n input.Restart (counted w) (whole.nodes n there)
      (λ m is. subst (λ j. Says (IsUp j) (step w.header m input.Restart).outs) (whole.numbers n m is)
      (restart_says w.header m (subst (λ o. is_up o ≡ false) is down))))
      done (λ b is. is) refl

  quiets : IsDone event.Quiesce w → Writes event.Quiesce w (limited (quiesce (counted w)))
  quiets done = quiet_line_writes w v adds done
    where
      first : World
      first = settle (counted w)

      v : World
      v = settle (tick_all (node_numbers (counted w)) first)

      adds : Adds w v
      adds = adds_on w (counted w) v (adds_none w (counted w) refl) (adds_on (counted w) first v (settle_adds most_frames (counted w))
          (adds_on first (tick_all (node_numbers (counted w)) first) v (ticks_add (node_numbers (counted w)) first)
          (settle_adds most_frames (tick_all (node_numbers (counted w)) first))))

  junks : (n : ℕ) (bytes : List ℕ) → IsDone (event.Junk n bytes) w → Writes (event.Junk n bytes) w (limited (junk n (counted w)))
  junks n bytes done = by (nat_lt (length w.frames) most_frames) refl
    where
      by : (b : Bool) → nat_lt (length w.frames) most_frames ≡ b → Writes (event.Junk n bytes) w (limited (junk_fits n (counted w) b))
      by true fits =
          limited_writes (event.Junk n bytes) w (junk_fits n (counted w) true) (own_writes (event.Junk n bytes) w (record (counted w)
          { frames = w.frames ++ new_frame 0 n None ∷ [] }) (body.Sent (length w.frames + 1) 0 n frame.Junk) refl done refl)
      by false full = full_writes (event.Junk n bytes) w (record (counted w) { full = true })
          (adds_none w (record (counted w) { full = true }) refl) refl done full

  -- where no node is asked, an event that is run is done
  done : (e : Event) → IsRun e w → node_refusal e w ≡ None → IsDone e w
  done e run granted = record { run = run; granted = granted }

  -- an event that is run
  happens_writes : (e : Event) → Owes e w → IsRun e w → Writes e w (limited (happens e a (counted w)))
  happens_writes (event.Begin l n) own run =
      let r = first_not 1 (not (is_node n w)) ((2, not (is_up_at n w)) ∷ (4, is_known l w) ∷ []) run.accepted in
      limited_writes (event.Begin l n) w (happens (event.Begin l n) a (counted w)) (begins_writes (event.Begin l n) w
      (record { label = l; kind = kind.Top; parent = None; node = n }) whole (not_not (is_node n w) r.0) run refl refl (λ b is. is))
  happens_writes (event.Serial l n) own run =
      let r = first_not 1 (not (is_node n w)) ((2, not (is_up_at n w)) ∷ (4, is_known l w) ∷ []) run.accepted in
      limited_writes (event.Serial l n) w (happens (event.Serial l n) a (counted w)) (begins_writes (event.Serial l n) w
      (record { label = l; kind = kind.Serial; parent = None; node = n }) whole (not_not (is_node n w) r.0) run refl refl (λ b is. is))
  happens_writes (event.BeginIn l p) own run =
      let r = is_new l w ((5, not (is_known p w)) ∷ (6, was_given p w) ∷ []) run.accepted in
      limited_writes (event.BeginIn l p) w (happens (event.BeginIn l p) a (counted w))
      (begins_writes (event.BeginIn l p) w (record { label = l; kind = kind_below p w; parent = Some p; node = node_of p w }) whole
      (given_node w p whole (is_there p w r.1)) run refl refl (λ b is. is))
  happens_writes (event.Top l p) own run =
      let r = is_new l w ((5, not (is_known p w)) ∷ (6, was_given p w) ∷ []) run.accepted in
      limited_writes (event.Top l p) w (happens (event.Top l p) a (counted w))
      (begins_writes (event.Top l p) w (record { label = l; kind = kind.Independent; parent = Some p; node = node_of p w }) whole
      (given_node w p whole (is_there p w r.1)) run refl refl (λ b is. is))
  happens_writes (event.Deliver (frame_no.Number k)) own run =
      let r = first_not 17 (not (is_frame (frame_no.Number k) w)) [] run.accepted in
      limited_writes (event.Deliver (frame_no.Number k)) w (deliver k (counted w)) (delivers k (event.Deliver (frame_no.Number k)) own
      (not_not (is_frame (frame_no.Number k) w) r.0) (done (event.Deliver (frame_no.Number k)) run refl) (λ b is. is))
  happens_writes (event.Deliver frame_no.Last) own run =
      let r = first_not 17 (not (is_frame frame_no.Last w)) [] run.accepted in
      limited_writes (event.Deliver frame_no.Last) w (deliver (length w.frames) (counted w)) (delivers (length w.frames) (event.Deliver
      frame_no.Last) own (not_not (is_frame frame_no.Last w) r.0) (done (event.Deliver frame_no.Last) run refl) (λ b is. is))
  happens_writes (event.Lose (frame_no.Number k)) own run =
      let r = first_not 17 (not (is_frame (frame_no.Number k) w)) [] run.accepted in
      limited_writes (event.Lose (frame_no.Number k)) w (lose k (counted w)) (loses k (event.Lose (frame_no.Number k))
      (not_not (is_frame (frame_no.Number k) w) r.0) (done (event.Lose (frame_no.Number k)) run refl) refl)
  happens_writes (event.Lose frame_no.Last) own run =
      let r = first_not 17 (not (is_frame frame_no.Last w)) [] run.accepted in
      limited_writes (event.Lose frame_no.Last) w (lose (length w.frames) (counted w)) (loses (length w.frames) (event.Lose frame_no.Last)
      (not_not (is_frame frame_no.Last w) r.0) (done (event.Lose frame_no.Last) run refl) refl)
  happens_writes (event.Stop n c how) own run = limited_writes (event.Stop n c how) w (says (body.Armed n ∷ []) (armed n a (counted w)))
      (own_writes (event.Stop n c how) w (armed n a (counted w)) (body.Armed n) refl (done (event.Stop n c how) run refl) refl)
  happens_writes event.Quiesce own run = quiets (done event.Quiesce run refl)
  happens_writes (event.Crash n) own run =
      let r = first_not 1 (not (is_node n w)) ((2, not (is_up_at n w)) ∷ []) run.accepted in
      let q = first_not 2 (not (is_up_at n w)) [] r.1 in
      limited_writes (event.Crash n) w (steps n input.Crash (counted w))
      (crashes n (not_not (is_node n w) r.0) (not_not (is_up_at n w) q.0) (done (event.Crash n) run refl))
  happens_writes (event.Restart n) own run =
      let r = first_not 1 (not (is_node n w)) ((3, is_up_at n w) ∷ []) run.accepted in
      let q = first_not 3 (is_up_at n w) [] r.1 in
      limited_writes (event.Restart n) w (steps n input.Restart (counted w))
      (restarts n (not_not (is_node n w) r.0) q.0 (done (event.Restart n) run refl))
  happens_writes (event.Junk n bytes) own run = junks n bytes (done (event.Junk n bytes) run refl)
  happens_writes (event.Call l x o) own run = absurd (cc own)
  happens_writes (event.Include l x n) own run = absurd (cc own)
  happens_writes (event.Commit l) own run = absurd (cc own)
  happens_writes (event.Abort l) own run = absurd (cc own)
  happens_writes (event.GiveUp l) own run = absurd (cc own)
  happens_writes (event.Tick n) own run = absurd (cc own)
  happens_writes event.Settle own run = absurd (cc own)
  happens_writes (event.Show x) own run = absurd (cc own)

pub event_writes : (e : Asked) (w : World) → IsWhole w → w.over ≡ false → Owes e.event w → Writes e.event w (run_event e w)
event_writes e w whole over own = subst (λ b. Writes e.event w (cond b w (run_unless e.event e.arm w (first_reason (reasons e.event w)))))
    (sym over) (by (first_reason (reasons e.event w)) refl)
  where
    accepted : (b : Bool) → first_reason (reasons e.event w) ≡ None → lacks_labels (giving e.event w) w ≡ b →
        Writes e.event w (cond b (no_labels w) (limited (happens e.event e.arm (counted w))))
    accepted true none full = says_so e.event w (record w { over = true }) (body.Limit which.Labels) true refl
        (IsLabels (record { accepted = none; full = full }) refl refl)
    accepted false none fits = happens_writes w whole e.arm e.event own (record { accepted = none; labels = fits })

    by : (r : Option ℕ) → first_reason (reasons e.event w) ≡ r → Writes e.event w (run_unless e.event e.arm w r)
    by (Some c) is = says_so e.event w (counted w) (body.Refused c) w.over refl (IsRefused c (inl is) refl)
    by None is = accepted (lacks_labels (giving e.event w) w) is refl
