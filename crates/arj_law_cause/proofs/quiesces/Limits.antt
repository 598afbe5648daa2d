-- A run is over exactly where its journal has a limit.
use Rattle.arj_law_parts.proofs.Words
use Words.{◌≡◌, ◌∙◌, ◌+◌, ◌-◌, ◌||◌, not, arith, ℕ, zero, suc, Bool, true, false, cond, List, [], ◌∷◌, ◌++◌, length, refl, sym, ap}
use Words.{Option, Some, None}
use Words.{AllByRecursion, list_any-append, append-nil, Body, Event, Line, Arm, World, Frame, Giving, Input, Node, Step, Move}
use Words.{at_place, at_number, armed, as_delivered, begins, change_frame, count_works, counted, cut, deliver, deliver_frame, disarmed, done_step}
use Words.{first_reason, frame_number, giving, halted_at, happens, is_quiet, is_up_at, junk_fits, labels_unless, lacks_labels, limited, lose_frame}
use Words.{lowest, most_frames, moved, nat_lt, no_labels, node_numbers, node_of, numbered, reasons, refused_at}
use Words.{run_unless, settle, settle_for, show_all, show_up, step, step_node, step_with, steps, tick_all, tick_up, kind_below}
use Words.body
use Words.event
use Words.input
use Words.kind
use Rattle.arj_law_parts.proofs.Terms.{says}
use Rattle.arj_law_parts.proofs.Terms.which
use Rattle.arj_law_parts.specs.steps.Spoken.{is_of_parts}
use Rattle.arj_law_runs.proofs.follow.Along.{event_of}
use Rattle.arj_law_cause.proofs.kinds.Filling as filling
use Rattle.arj_law_cause.proofs.kinds.Filling.{IsFilled, IsFree}
use Rattle.arj_law_cause.specs.kinds.Kinds.{is_limit}
use Rattle.arj_law_cause.specs.rounds.Known.{has_limit}

-- ---- what happens in an event doesn't end the run

with_on : (k : ℕ) (n : Node) (s : Step) (w : World) (a : Option Arm) → (step_with k n s w a).over ≡ w.over
with_on k n s w None = refl
with_on k n s w (Some a) = by (nat_lt (count_works s.halting) a.works)
  where
    by : (b : Bool) → (cond b (done_step k s (armed k (record a { works = a.works - count_works s.halting }) w))
        (halted_at k n (cut (a.works - 1) a.how s.halting n.disk) (disarmed k w))).over ≡ w.over
    by true = refl
    by false = refl

steps_on : (k : ℕ) (i : Input) (w : World) → (steps k i w).over ≡ w.over
steps_on k i w = by (at_place k w.nodes)
  where
    by : (o : Option Node) → (step_node k i w o).over ≡ w.over
    by None = refl
    by (Some n) = with_on k n (step w.header n i) w (at_number k w.arms)

deliver_on : (k : ℕ) (w : World) → (deliver k w).over ≡ w.over
deliver_on k w = by (at_place k w.frames)
  where
    by : (o : Option Frame) → (deliver_frame k w o).over ≡ w.over
    by None = refl
    by (Some f) = steps_on f.to (input.Frame k f.from f.message) (change_frame k as_delivered f w)

settle_on : (fuel : ℕ) (w : World) → (settle_for fuel w).over ≡ w.over
settle_on zero w = refl
settle_on (suc fuel) w = by (lowest w) (λ k. settle_on fuel (deliver k w) ∙ deliver_on k w)
  where
    Same : World → Type 0
    Same v = v.over ≡ w.over

    by : (o : Option ℕ) → ((k : ℕ) → Same (settle_for fuel (deliver k w))) → Same (elim o [ None ↦ w | Some k ↦ settle_for fuel (deliver k w) ])
    by None rest = refl
    by (Some k) rest = rest k

either_on : (b : Bool) (v u w : World) → v.over ≡ w.over → u.over ≡ w.over → (cond b v u).over ≡ w.over
either_on true v u w one other = one
either_on false v u w one other = other

ticks_on : (ns : List ℕ) (w : World) → (tick_all ns w).over ≡ w.over
ticks_on [] w = refl
ticks_on (n ∷ ns) w = ticks_on ns (tick_up n w)
    ∙ either_on (w.full || not (is_up_at n w)) w (steps n input.Tick w) w refl (steps_on n input.Tick w)

shows_on : (x : ℕ) (ns : List ℕ) (w : World) → (show_all x ns w).over ≡ w.over
shows_on x [] w = refl
shows_on x (n ∷ ns) w = shows_on x ns (show_up x n w)
    ∙ either_on (is_up_at n w) (steps n (input.Show x) w) w w (steps_on n (input.Show x) w) refl

inner_on : (w : World) → (settle (tick_all (node_numbers w) (settle w))).over ≡ w.over
inner_on w = settle_on most_frames (tick_all (node_numbers w) (settle w)) ∙ ticks_on (node_numbers w) (settle w) ∙ settle_on most_frames w

begins_on : (g : Giving) (w : World) → (begins g w).over ≡ w.over
begins_on g w = by (refused_at i w (at_place g.node w.nodes))
  where
    i : Input
    i = input.Begin g.label g.kind g.parent

    by : (r : Option ℕ) → (steps g.node i (labels_unless g w r)).over ≡ w.over
    by None = steps_on g.node i (labels_unless g w None)
    by (Some c) = steps_on g.node i w

junk_on : (n : ℕ) (w : World) (b : Bool) → (junk_fits n w b).over ≡ w.over
junk_on n w true = refl
junk_on n w false = refl

lose_on : (k : ℕ) (w : World) (o : Option Frame) → (lose_frame k w o).over ≡ w.over
lose_on k w None = refl
lose_on k w (Some f) = refl

happens_on : (e : Event) (a : Arm) (w : World) → (happens e a w).over ≡ w.over
happens_on (event.Call l x o) a w = steps_on (node_of l w) (input.Call l x o) w
happens_on (event.Include l x n) a w = steps_on (node_of l w) (input.Include l x n) w
happens_on (event.Commit l) a w = steps_on (node_of l w) (input.Commit l) w
happens_on (event.Abort l) a w = steps_on (node_of l w) (input.Abort l) w
happens_on (event.GiveUp l) a w = steps_on (node_of l w) (input.GiveUp l) w
happens_on (event.Deliver k) a w = deliver_on (frame_number k w) w
happens_on (event.Lose k) a w = lose_on (frame_number k w) w (at_place (frame_number k w) w.frames)
happens_on (event.Tick n) a w = steps_on n input.Tick w
happens_on event.Settle a w = settle_on most_frames w
happens_on event.Quiesce a w =
    let v = settle (tick_all (node_numbers w) (settle w)) in
    either_on v.full v (says (body.Quiet (is_quiet v) ∷ []) v) w (inner_on w) (inner_on w)
happens_on (event.Crash n) a w = steps_on n input.Crash w
happens_on (event.Restart n) a w = steps_on n input.Restart w
happens_on (event.Stop n c how) a w = refl
happens_on (event.Junk n bytes) a w = junk_on n w (nat_lt (length w.frames) most_frames)
happens_on (event.Show x) a w = shows_on x (node_numbers w) w
happens_on (event.Begin l n) a w = begins_on (record { label = l; kind = kind.Top; parent = None; node = n }) w
happens_on (event.Serial l n) a w = begins_on (record { label = l; kind = kind.Serial; parent = None; node = n }) w
happens_on (event.BeginIn l p) a w = begins_on (record { label = l; kind = kind_below p w; parent = Some p; node = node_of p w }) w
happens_on (event.Top l p) a w = begins_on (record { label = l; kind = kind.Independent; parent = Some p; node = node_of p w }) w

-- ---- lines

abbrev free : Body → Bool
free b = not (is_limit b)

parts_free : (b : Body) → is_of_parts b ≡ true → free b ≡ true
parts_free (body.Limit what) is = absurd (cc is)
parts_free b is = refl

are_free : IsFree free
are_free = record {
  parts = parts_free;
  sent = λ k from to what. refl;
  got = λ k. refl;
  void = λ k. refl;
  dropped = λ k. refl;
  armed = λ n. refl;
  halted = λ n. refl;
  refused = λ c. refl;
}

none_there : (ls : List Line) → AllByRecursion (λ (l : Line). free l.body ≡ true) ls → has_limit ls ≡ false
none_there [] all = refl
none_there (l ∷ ls) all = λ i. shut (is_limit l.body) all.0 i || none_there ls all.1 i
  where
    shut : (b : Bool) → not b ≡ true → b ≡ false
    shut false is = refl
    shut true is = absurd (cc is)

pub limit_on : (old more : List Line) → has_limit (old ++ more) ≡ has_limit old || has_limit more
limit_on old more = list_any-append (λ (l : Line). is_limit l.body) old more

either : (a b : Bool) → b ≡ true → a || b ≡ true
either true b is = refl
either false b is = is

-- ---- an event

module _ (m : Move) (w : World) (on : w.over ≡ false) (filled : IsFilled w) (before : has_limit w.lines ≡ false) where
  abbrev e : Event
  e = event_of m

  abbrev arm : Arm
  arm = let a = m.asked in a.arm

  abbrev u : World
  u = record w { arms = m.falls }

  abbrev t : World
  t = counted (record w { arms = m.falls })

  abbrev Agrees : World → Type 0
  Agrees v = v.over ≡ has_limit v.lines

  agrees_by : (x : World) → run_unless e arm u (first_reason (reasons e u)) ≡ x → Agrees x → Agrees (moved m w)
  agrees_by x is a =
      let now : moved m w ≡ record x { arms = [] } =
      ap (λ (y : World). record y { arms = [] }) ((λ i. cond (on i) u (run_unless e arm u (first_reason (reasons e u)))) ∙ is) in
      ap (λ (y : World). y.over) now ∙ a ∙ sym (ap (λ (y : World). has_limit y.lines) now)

  limit_said : (v : World) (n : ℕ) (b : Body) → is_limit b ≡ true → has_limit (v.lines ++ record { event = n; body = b } ∷ []) ≡ true
  limit_said v n b is = limit_on v.lines (record { event = n; body = b } ∷ []) ∙ either (has_limit v.lines) (is_limit b || false)
      (ap (λ x. x || false) is)

  none_more : (more : List Line) → has_limit more ≡ false → has_limit (w.lines ++ more) ≡ false
  none_more more none = limit_on w.lines more ∙ (λ i. before i || none i)

  run : (x : World) → x ≡ happens e arm t → Agrees (limited x)
  run x same = by x.full refl
    where
      so : filling.So free are_free w.lines (happens e arm t)
      so = filling.happens_so free are_free w.lines e arm t (λ b is. refl) (record {
        more = [];
        lines = sym (append-nil w.lines);
        passes = tt;
        filled = record { few = filled.few; full = filled.full };
      })

      by : (b : Bool) → x.full ≡ b → Agrees (cond b (says (body.Limit which.Frames ∷ []) (record x { over = true })) x)
      by true full = sym (limit_said x x.event (body.Limit which.Frames) refl)
      by false full = ap (λ (y : World). y.over) same ∙ happens_on e arm t ∙ on
          ∙ sym (ap (λ (y : World). has_limit y.lines) same ∙ ap has_limit so.lines ∙ none_more so.more (none_there so.more so.passes))

  pub limits_agree : (moved m w).over ≡ has_limit (moved m w).lines
  limits_agree = by (first_reason (reasons e u)) refl
    where
      labels : first_reason (reasons e u) ≡ None → (b : Bool) → lacks_labels (giving e u) u ≡ b → Agrees (moved m w)
      labels none true lacks = agrees_by (no_labels u) (ap (run_unless e arm u) none
          ∙ (λ i. cond (lacks i) (no_labels u) (limited (happens e arm t)))) (sym (limit_said u u.event (body.Limit which.Labels) refl))
      labels none false has = agrees_by (limited (happens e arm t)) (ap (run_unless e arm u) none
          ∙ (λ i. cond (has i) (no_labels u) (limited (happens e arm t)))) (run (happens e arm t) refl)

      by : (o : Option ℕ) → first_reason (reasons e u) ≡ o → Agrees (moved m w)
      by (Some c) refused = agrees_by (says (body.Refused c ∷ []) t) (ap (run_unless e arm u) refused)
          (on ∙ sym (none_more (numbered t.event (body.Refused c ∷ [])) refl))
      by None none = labels none (lacks_labels (giving e u) u) refl

  -- where no label was left nodes and frames are as they were
  last_is : (xs ys : List Line) (a b : Line) → xs ++ a ∷ [] ≡ ys ++ b ∷ [] → a ≡ b
  last_is [] [] a b is = cc is
  last_is [] (y ∷ []) a b is = absurd (cc is)
  last_is [] (y ∷ z ∷ ys) a b is = absurd (cc is)
  last_is (x ∷ []) [] a b is = absurd (cc is)
  last_is (x ∷ z ∷ xs) [] a b is = absurd (cc is)
  last_is (x ∷ xs) (y ∷ ys) a b is = last_is xs ys a b (cc is)

  abbrev Same : Type 0
  Same = ((moved m w).nodes ≡ w.nodes) × ((moved m w).frames ≡ w.frames)

  pub ended_same : (moved m w).over ≡ true → (n : ℕ) → (moved m w).lines ≡ w.lines ++ record { event = n; body = body.Limit which.Labels } ∷ [] → Same
  ended_same over n lines = by (first_reason (reasons e u)) refl
    where
      now_is : (x : World) → run_unless e arm u (first_reason (reasons e u)) ≡ x → moved m w ≡ record x { arms = [] }
      now_is x is = ap (λ (y : World). record y { arms = [] }) ((λ i. cond (on i) u (run_unless e arm u (first_reason (reasons e u)))) ∙ is)

      never : (x : World) → moved m w ≡ record x { arms = [] } → x.over ≡ false → Same
      never x is free = let no_way : true ≡ false = sym over ∙ ap (λ (y : World). y.over) is ∙ free in absurd (cc no_way)

      run_so : (x : World) → x.over ≡ false → moved m w ≡ record (limited x) { arms = [] } → (b : Bool) → x.full ≡ b → Same
      run_so x free is false fits = never x (is ∙ (λ i. record (cond (fits i) (says (body.Limit which.Frames ∷ [])
          (record x { over = true })) x) { arms = [] })) free
      run_so x free is true met =
          let its : (moved m w).lines ≡ x.lines ++ record { event = x.event; body = body.Limit which.Frames } ∷ [] =
          ap (λ (y : World). y.lines) (is ∙ (λ i. record (cond (met i) (says (body.Limit which.Frames ∷ [])
          (record x { over = true })) x) { arms = [] })) in
          let one = last_is x.lines w.lines (record { event = x.event; body = body.Limit which.Frames })
          (record { event = n; body = body.Limit which.Labels }) (sym its ∙ lines) in
          let no_way : body.Limit which.Frames ≡ body.Limit which.Labels = ap (λ (l : Line). l.body) one in absurd (cc no_way)

      labels : first_reason (reasons e u) ≡ None → (b : Bool) → lacks_labels (giving e u) u ≡ b → Same
      labels none true lacks =
          let is = now_is (no_labels u) (ap (run_unless e arm u) none
          ∙ (λ i. cond (lacks i) (no_labels u) (limited (happens e arm t)))) in (ap (λ (y : World). y.nodes) is, ap (λ (y : World). y.frames) is)
      labels none false has = run_so (happens e arm t) (happens_on e arm t ∙ on) (now_is (limited (happens e arm t)) (ap (run_unless e arm u) none
          ∙ (λ i. cond (has i) (no_labels u) (limited (happens e arm t))))) (happens e arm t).full refl

      by : (o : Option ℕ) → first_reason (reasons e u) ≡ o → Same
      by (Some c) refused = never (says (body.Refused c ∷ []) t) (now_is (says (body.Refused c ∷ []) t) (ap
          (run_unless e arm u) refused)) on
      by None none = labels none (lacks_labels (giving e u) u) refl

  -- where the event was run, and met the limit of frames, as many were sent as a run may send
  pub over_full : (moved m w).over ≡ true → (moved m w).event ≡ w.event + 1 → length (moved m w).frames ≡ most_frames
  over_full over counts = by (first_reason (reasons e u)) refl
    where
      Full : Type 0
      Full = length (moved m w).frames ≡ most_frames

      now_is : (x : World) → run_unless e arm u (first_reason (reasons e u)) ≡ x → moved m w ≡ record x { arms = [] }
      now_is x is = ap (λ (y : World). record y { arms = [] }) ((λ i. cond (on i) u (run_unless e arm u (first_reason (reasons e u)))) ∙ is)

      never : (x : World) → moved m w ≡ record x { arms = [] } → x.over ≡ false → Full
      never x is free = let no_way : true ≡ false = sym over ∙ ap (λ (y : World). y.over) is ∙ free in absurd (cc no_way)

      stays : (n : ℕ) → n ≡ n + 1 → ⊥
      stays n is = omega (arith, is)

      so : filling.So free are_free w.lines (happens e arm t)
      so = filling.happens_so free are_free w.lines e arm t (λ b is. refl) (record {
        more = [];
        lines = sym (append-nil w.lines);
        passes = tt;
        filled = record { few = filled.few; full = filled.full };
      })

      run_so : moved m w ≡ record (limited (happens e arm t)) { arms = [] } → (b : Bool) → (happens e arm t).full ≡ b → Full
      run_so is false fits = never (happens e arm t) (is ∙ (λ i. record (cond (fits i) (says (body.Limit which.Frames ∷ [])
          (record (happens e arm t) { over = true })) (happens e arm t)) { arms = [] })) (happens_on e arm t ∙ on)
      run_so is true met = ap (λ (y : World). length y.frames) (is ∙ (λ i. record (cond (met i) (says (body.Limit which.Frames ∷ [])
          (record (happens e arm t) { over = true })) (happens e arm t)) { arms = [] })) ∙ so.filled.full met

      labels : first_reason (reasons e u) ≡ None → (b : Bool) → lacks_labels (giving e u) u ≡ b → Full
      labels none true lacks = let is = now_is (no_labels u) (ap (run_unless e arm u) none
          ∙ (λ i. cond (lacks i) (no_labels u) (limited (happens e arm t)))) in
          absurd (stays w.event (sym (ap (λ (y : World). y.event) is) ∙ counts))
      labels none false has = run_so (now_is (limited (happens e arm t)) (ap (run_unless e arm u) none
          ∙ (λ i. cond (has i) (no_labels u) (limited (happens e arm t))))) (happens e arm t).full refl

      by : (o : Option ℕ) → first_reason (reasons e u) ≡ o → Full
      by (Some c) refused = never (says (body.Refused c ∷ []) t) (now_is (says (body.Refused c ∷ []) t) (ap
          (run_unless e arm u) refused)) on
      by None none = labels none (lacks_labels (giving e u) u) refl
