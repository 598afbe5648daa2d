-- An event that nobody refuses writes no refusal, and the limit of frames only where it ends the run.
use Rattle.arj_law_parts.proofs.Words
use Words.{◌≡◌, ◌∙◌, ◌+◌, ◌-◌, ◌||◌, not, ℕ, zero, suc, Bool, true, false, cond, List, [], ◌∷◌, ◌++◌, length, refl, sym, ap, Option, Some}
use Words.{None, nat_le}
use Words.{nat_lt, append_assoc, AllByRecursion, Body, Event, Header, Line, Effect, Say, Send, Do, Disk, Stop, at_number, Input, Node, Step}
use Words.{Parts, refusal, step, at_place, Arm, Frame, Giving, World, armed, as_delivered, begins, bodies, change_frame}
use Words.{count_works, cut, deliver, deliver_frame, disarmed, done_step, frame_number, halted_at, halted_outs, happens, is_quiet}
use Words.{is_up_at, junk_fits, labels_unless, limited, lose_frame, lowest, most_frames, node_numbers, node_of, numbered, put, quiesce}
use Words.{refused_at, sent_line, set_node, settle, settle_for, show_all, show_up, step_node, step_with, steps, tick_all, tick_up}
use Words.{frame_kind, kind_below, worked, Message, Start}
use Words.body
use Words.event
use Words.frame
use Words.input
use Words.kind
use Rattle.arj_law_runs.proofs.Terms.{says}
use Rattle.arj_law_runs.proofs.Terms.which
use Rattle.arj_law_parts.proofs.steps.StepLines.{OfInput, step_says}
use Rattle.arj_law_parts.specs.steps.Spoken.{SaidIn, is_of_parts}
use Rattle.arj_law_parts.specs.steps.Writes.{node_refusal}
use Rattle.arj_law_runs.proofs.addresses.Lists.{all_append}
use Rattle.arj_model.specs.Follows.{is_frame_limit, is_limited}
use Rattle.arj_protocol.specs.Step.{refusal_at}

-- the line is a refusal
abbrev pub is_refusal : Body → Bool
is_refusal (body.Refused c) = true
is_refusal _ = false

-- or says that the limit of frames was met
abbrev is_special : Body → Bool
is_special (body.Refused c) = true
is_special (body.Limit which.Frames) = true
is_special _ = false

abbrev IsNone : Body → Type 0
IsNone b = is_special b ≡ false

parts_none : (b : Body) → is_of_parts b ≡ true → IsNone b
parts_none (body.Refused c) is = absurd (cc is)
parts_none (body.Limit l) is = absurd (cc is)
parts_none b is = refl

not_refused : (b : Body) → IsNone b → is_refusal b ≡ false
not_refused (body.Refused c) none = absurd (cc none)
not_refused b none = refl

not_limited : (b : Body) → IsNone b → is_frame_limit b ≡ false
not_limited (body.Limit which.Frames) none = absurd (cc none)
not_limited (body.Limit which.Lines) none = refl
not_limited (body.Limit which.Labels) none = refl
not_limited b none = refl

pub none_limited : (ls : List Line) → AllByRecursion (λ (l : Line). IsNone l.body) ls → is_limited ls ≡ false
none_limited [] all = refl
none_limited (l ∷ ls) all = λ i. not_limited l.body all.0 i || none_limited ls all.1 i

abbrev Said : List Effect → Type 0
Said es = AllByRecursion (SaidIn IsNone) es

own_none : (n : Node) (i : Input) → OfInput IsNone parts_none n i
own_none n (input.Frame k from m) = (refl, refl)
own_none n input.Crash = refl
own_none n i = tt

cut_none : (k : ℕ) (how : Stop) (es : List Effect) (d : Disk) → Said es → Said (cut k how es d).outs
cut_none k how [] d all = tt
cut_none zero how (Do w ∷ es) d all = tt
cut_none (suc k) how (Do w ∷ es) d all = (tt, cut_none k how es (worked w d) all.1)
cut_none k how (Say b ∷ es) d all = (all.0, cut_none k how es d all.1)
cut_none k how (Send to m ∷ es) d all = (tt, cut_none k how es d all.1)

bodies_none : (n k : ℕ) (es : List Effect) → Said es → AllByRecursion IsNone (bodies n k es)
bodies_none n k [] all = tt
bodies_none n k (Say b ∷ es) all = (all.0, bodies_none n k es all.1)
bodies_none n k (Do w ∷ es) all = bodies_none n k es all.1
bodies_none n k (Send to m ∷ es) all =
    all_append IsNone (sent_line (k + 1) n to (frame_kind m)) (bodies n (k + 1) es) (by (nat_le (k + 1) most_frames))
    (bodies_none n (k + 1) es all.1)
  where
    by : (b : Bool) → AllByRecursion IsNone (cond b (body.Sent (k + 1) n to (frame_kind m) ∷ []) [])
    by true = (refl, tt)
    by false = tt

-- inputs that no node refuses
frame_free : (hd : Header) (k from : ℕ) (m : Option Message) (n : Node) → refusal hd (input.Frame k from m) n ≡ None
frame_free hd k from m n = by n.live
  where
    by : (o : Option Parts) → refusal_at hd (input.Frame k from m) o ≡ None
    by None = refl
    by (Some t) = refl

tick_free : (hd : Header) (n : Node) → refusal hd input.Tick n ≡ None
tick_free hd n = by n.live
  where
    by : (o : Option Parts) → refusal_at hd input.Tick o ≡ None
    by None = refl
    by (Some t) = refl

pub crash_free : (hd : Header) (n : Node) → refusal hd input.Crash n ≡ None
crash_free hd n = by n.live
  where
    by : (o : Option Parts) → refusal_at hd input.Crash o ≡ None
    by None = refl
    by (Some t) = refl

restart_free : (hd : Header) (n : Node) → refusal hd input.Restart n ≡ None
restart_free hd n = by n.live
  where
    by : (o : Option Parts) → refusal_at hd input.Restart o ≡ None
    by None = refl
    by (Some t) = refl

show_free : (hd : Header) (x : ℕ) (n : Node) → refusal hd (input.Show x) n ≡ None
show_free hd x n = by n.live
  where
    by : (o : Option Parts) → refusal_at hd (input.Show x) o ≡ None
    by None = refl
    by (Some t) = refl

module _ (L : List Line) (st : Start) where
  -- behind these lines, of a run that began so, there is no refusal
  pub record So (v : World) : Type 0 where
    pub start : v.start ≡ st
    pub more : List Line
    pub lines : v.lines ≡ L ++ more
    pub none : AllByRecursion (λ (l : Line). IsNone l.body) more

  adds : (w v : World) (bs : List Body) → v.start ≡ w.start → v.lines ≡ w.lines ++ numbered w.event bs → AllByRecursion IsNone bs → So w →
      So v
  adds w v bs start lines all s = record {
    start = start ∙ s.start;
    more = s.more ++ numbered w.event bs;
    lines = lines ∙ ap (λ ls. ls ++ numbered w.event bs) s.lines ∙ append_assoc L s.more (numbered w.event bs);
    none = all_append (λ (l : Line). IsNone l.body) s.more (numbered w.event bs) s.none (each bs all);
  }
    where
      each : (cs : List Body) → AllByRecursion IsNone cs → AllByRecursion (λ (l : Line). IsNone l.body) (numbered w.event cs)
      each [] all = tt
      each (c ∷ cs) all = (all.0, each cs all.1)

  same : (w v : World) → v.start ≡ w.start → v.lines ≡ w.lines → So w → So v
  same w v start lines s = record { start = start ∙ s.start; more = s.more; lines = lines ∙ s.lines; none = s.none }

  put_so : (k : ℕ) (outs : List Effect) (w : World) → Said outs → So w → So (put k outs w)
  put_so k outs w all s = adds w (put k outs w) (bodies k (length w.frames) outs) refl refl (bodies_none k (length w.frames) outs all) s

  pub steps_so : (k : ℕ) (i : Input) (w : World) → ((n : Node) → at_place k w.nodes ≡ Some n → refusal w.header i n ≡ None) → So w →
      So (steps k i w)
  steps_so k i w free s = by (at_place k w.nodes) refl
    where
      with_so : (n : Node) → refusal w.header i n ≡ None → (a : Option Arm) → So (step_with k n (step w.header n i) w a)
      with_so n none a = put_by a
        where
          x : Step
          x = step w.header n i

          said : Said x.outs × Said x.halting
          said = step_says IsNone parts_none w.header n i (own_none n i)
              (λ c is. let no_way : ◌≡◌ {A = Option ℕ} None (Some c) = sym none ∙ is in absurd (cc no_way))

          fits : (b : Bool) (arm : Arm) → So (cond b (done_step k x (armed k (record arm { works = arm.works - count_works x.halting }) w))
              (halted_at k n (cut (arm.works - 1) arm.how x.halting n.disk) (disarmed k w)))
          fits true arm = put_so k x.outs (set_node k x.after (armed k (record arm { works = arm.works - count_works x.halting }) w)) said.0
              (same w _ refl refl s)
          fits false arm =
              let c = cut (arm.works - 1) arm.how x.halting n.disk in
              put_so k (halted_outs k c) (set_node k (record n { disk = c.disk; live = None }) (disarmed k w))
              (all_append (SaidIn IsNone) c.outs (Say (body.Halted k) ∷ []) (cut_none (arm.works - 1) arm.how x.halting n.disk said.1)
              (refl, tt))
              (same w _ refl refl s)

          put_by : (a : Option Arm) → So (step_with k n x w a)
          put_by None = put_so k x.outs (set_node k x.after w) said.0 (same w _ refl refl s)
          put_by (Some arm) = fits (nat_lt (count_works x.halting) arm.works) arm

      by : (o : Option Node) → at_place k w.nodes ≡ o → So (step_node k i w o)
      by None is = s
      by (Some n) is = with_so n (free n is) (at_number k w.arms)

  deliver_so : (k : ℕ) (w : World) → So w → So (deliver k w)
  deliver_so k w s = by (at_place k w.frames)
    where
      by : (o : Option Frame) → So (deliver_frame k w o)
      by None = s
      by (Some f) = steps_so f.to (input.Frame k f.from f.message) (change_frame k as_delivered f w)
          (λ n is. frame_free w.header k f.from f.message n) (same w _ refl refl s)

  settle_so : (fuel : ℕ) (w : World) → So w → So (settle_for fuel w)
  settle_so zero w s = s
  settle_so (suc fuel) w s = by (lowest w) (λ k. settle_so fuel (deliver k w) (deliver_so k w s))
    where
      by : (o : Option ℕ) → ((k : ℕ) → So (settle_for fuel (deliver k w))) →
          So (elim o [ None ↦ w | Some k ↦ settle_for fuel (deliver k w) ])
      by None rest = s
      by (Some k) rest = rest k

  either_so : (b : Bool) (v u : World) → So v → So u → So (cond b v u)
  either_so true v u one other = one
  either_so false v u one other = other

  ticks_so : (ns : List ℕ) (w : World) → So w → So (tick_all ns w)
  ticks_so [] w s = s
  ticks_so (n ∷ ns) w s =
      ticks_so ns (tick_up n w) (either_so (w.full || not (is_up_at n w)) w (steps n input.Tick w) s (steps_so n input.Tick w
      (λ m is. tick_free w.header m) s))

  shows_so : (x : ℕ) (ns : List ℕ) (w : World) → So w → So (show_all x ns w)
  shows_so x [] w s = s
  shows_so x (n ∷ ns) w s = shows_so x ns (show_up x n w)
      (either_so (is_up_at n w) (steps n (input.Show x) w) w (steps_so n (input.Show x) w (λ m is. show_free w.header x m) s) s)

  quiesce_so : (w : World) → So w → So (quiesce w)
  quiesce_so w s =
      let v = settle (tick_all (node_numbers w) (settle w)) in
      let all = settle_so most_frames (tick_all (node_numbers w) (settle w)) (ticks_so (node_numbers w) (settle w)
      (settle_so most_frames w s)) in
      either_so v.full v (says (body.Quiet (is_quiet v) ∷ []) v) all (adds v _ (body.Quiet (is_quiet v) ∷ []) refl refl (refl, tt) all)

  -- of which no line is a refusal
  pub record Unrefused (v : World) : Type 0 where
    pub start : v.start ≡ st
    pub more : List Line
    pub lines : v.lines ≡ L ++ more
    pub none : AllByRecursion (λ (l : Line). is_refusal l.body ≡ false) more

  pub limited_so : (w : World) → So w → Unrefused (limited w)
  limited_so w s = by w.full
    where
      each : (ls : List Line) → AllByRecursion (λ (l : Line). IsNone l.body) ls →
          AllByRecursion (λ (l : Line). is_refusal l.body ≡ false) ls
      each [] all = tt
      each (l ∷ ls) all = (not_refused l.body all.0, each ls all.1)

      last : List Line
      last = numbered w.event (body.Limit which.Frames ∷ [])

      by : (b : Bool) → Unrefused (cond b (says (body.Limit which.Frames ∷ []) (record w { over = true })) w)
      by true = record {
        start = s.start;
        more = s.more ++ last;
        lines = ap (λ ls. ls ++ last) s.lines ∙ append_assoc L s.more last;
        none = all_append (λ (l : Line). is_refusal l.body ≡ false) s.more last (each s.more s.none) (refl, tt);
      }
      by false = record { start = s.start; more = s.more; lines = s.lines; none = each s.more s.none }

  begins_so : (g : Giving) (w : World) → refused_at (input.Begin g.label g.kind g.parent) w (at_place g.node w.nodes) ≡ None → So w →
      So (begins g w)
  begins_so g w none s = by (refused_at i w (at_place g.node w.nodes)) none
    where
      i : Input
      i = input.Begin g.label g.kind g.parent

      at : (o : Option Node) → refused_at i w o ≡ None → (n : Node) → o ≡ Some n → refusal w.header i n ≡ None
      at None free n is = let no_way : ◌≡◌ {A = Option Node} None (Some n) = is in absurd (cc no_way)
      at (Some m) free n is = let here : m ≡ n = cc is in ap (refusal w.header i) (sym here) ∙ free

      by : (r : Option ℕ) → r ≡ None → So (steps g.node i (labels_unless g w r))
      by None is = steps_so g.node i (labels_unless g w None) (λ n there. at (at_place g.node w.nodes) none n there) (same w _ refl refl s)
      by (Some c) is = let no_way : ◌≡◌ {A = Option ℕ} (Some c) None = is in absurd (cc no_way)

  asks_so : (k : ℕ) (i : Input) (w : World) → refused_at i w (at_place k w.nodes) ≡ None → So w → So (steps k i w)
  asks_so k i w none s = steps_so k i w (λ n is. at (at_place k w.nodes) none n is) s
    where
      at : (o : Option Node) → refused_at i w o ≡ None → (n : Node) → o ≡ Some n → refusal w.header i n ≡ None
      at None free n is = let no_way : ◌≡◌ {A = Option Node} None (Some n) = is in absurd (cc no_way)
      at (Some m) free n is = let here : m ≡ n = cc is in ap (refusal w.header i) (sym here) ∙ free

  junk_so : (n : ℕ) (w : World) (b : Bool) → So w → So (junk_fits n w b)
  junk_so n w true s = adds w _ (body.Sent (length w.frames + 1) 0 n frame.Junk ∷ []) refl refl (refl, tt) s
  junk_so n w false s = same w _ refl refl s

  lose_so : (k : ℕ) (w : World) (o : Option Frame) → So w → So (lose_frame k w o)
  lose_so k w None s = s
  lose_so k w (Some f) s = adds w _ (body.Dropped k ∷ []) refl refl (refl, tt) s

  -- an event that no node refuses
  pub happens_so : (e : Event) (a : Arm) (w : World) → node_refusal e w ≡ None → So w → So (happens e a w)
  happens_so (event.Call l x o) a w none s = asks_so (node_of l w) (input.Call l x o) w none s
  happens_so (event.Include l x n) a w none s = asks_so (node_of l w) (input.Include l x n) w none s
  happens_so (event.Commit l) a w none s = asks_so (node_of l w) (input.Commit l) w none s
  happens_so (event.Abort l) a w none s = asks_so (node_of l w) (input.Abort l) w none s
  happens_so (event.GiveUp l) a w none s = asks_so (node_of l w) (input.GiveUp l) w none s
  happens_so (event.Deliver k) a w none s = deliver_so (frame_number k w) w s
  happens_so (event.Lose k) a w none s = lose_so (frame_number k w) w (at_place (frame_number k w) w.frames) s
  happens_so (event.Tick n) a w none s = steps_so n input.Tick w (λ m is. tick_free w.header m) s
  happens_so event.Settle a w none s = settle_so most_frames w s
  happens_so event.Quiesce a w none s = quiesce_so w s
  happens_so (event.Crash n) a w none s = steps_so n input.Crash w (λ m is. crash_free w.header m) s
  happens_so (event.Restart n) a w none s = steps_so n input.Restart w (λ m is. restart_free w.header m) s
  happens_so (event.Stop n c how) a w none s = adds w _ (body.Armed n ∷ []) refl refl (refl, tt) s
  happens_so (event.Junk n bytes) a w none s = junk_so n w (nat_lt (length w.frames) most_frames) s
  happens_so (event.Show x) a w none s = shows_so x (node_numbers w) w s
  happens_so (event.Begin l n) a w none s = begins_so (record { label = l; kind = kind.Top; parent = None; node = n }) w none s
  happens_so (event.Serial l n) a w none s = begins_so (record { label = l; kind = kind.Serial; parent = None; node = n }) w none s
  happens_so (event.BeginIn l p) a w none s =
      begins_so (record { label = l; kind = kind_below p w; parent = Some p; node = node_of p w }) w none s
  happens_so (event.Top l p) a w none s =
      begins_so (record { label = l; kind = kind.Independent; parent = Some p; node = node_of p w }) w none s
