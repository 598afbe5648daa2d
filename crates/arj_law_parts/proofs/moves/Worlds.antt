-- Whatever each handler keeps, at each moment of an event: steps of nodes in their world, frames, and the world's own lines.
use Rattle.arj_law_parts.proofs.Words
use Words.{◌≡◌, ◌≢◌, ℕ, zero, suc, ◌+◌, ◌-◌, Bool, true, false, List, [], ◌∷◌, ◌++◌, refl, sym, ◌∙◌, ap, subst, inl, length}
use Words.{Option, Some, None, ◌==◌, IfSome, is_some, eqb-true, length-append, arith, if◌then◌else◌, nat_lt, nat_le, not, append_assoc}
use Words.{◌&&◌, ◌||◌, AllByRecursion, map-append, nat_tests, Header, Label, Body, Message, Line, Do, Effect, Say, Send, at_number}
use Words.{at_place}
use Words.{set_place, Node, Input, Step, step, refusal_at, World, Frame, Arm, Labelled, most_frames, sends}
use Words.{bodies, numbered, put, steps, step_node, step_with, done_step, halted_at, halted_outs, set_node, armed, disarmed, count_works}
use Words.{cut}
use Words.{change_frame, as_delivered, as_lost, deliver_frame, deliver, lose_frame, lowest, settle_for, settle, tick_up, tick_all, is_up_at}
use Words.{node_numbers, is_quiet, quiesce, show_up, show_all, junk_fits, new_frame}
use Words.{Parts, place_other, Post, see}
use Words.body
use Words.frame
use Words.input
use Rattle.arj_law_parts.proofs.Terms
use Terms.{says, In, Within, IsSent}
use Rattle.arj_law_parts.proofs.moves
use moves.Cuts.{Besides, fitting, flat_done, flat_cut, seen_as}
use moves.Inputs.{Goes, MayCome, step_goes}
use moves.Places.{all_on, all_placed, all_set, all_taken, all_to, place_same, set_long, set_there}
use Rattle.arj_law_parts.specs.moves.Keeps.{HasPlace, Stands}
use Rattle.arj_law_parts.specs.moves.Moments.{History, Moment, at, halted, is_asking, is_restart, taken_by, with_asking, with_node}
use Rattle.arj_law_parts.specs.moves.Moments.{with_sent}
use Rattle.arj_law_parts.specs.moves.With.{ArePlain, HoldsAt, KeepsSteps, Wrote, asked_at, look}

-- an input that asks nothing of an action leaves the history as it is
pub asked_none : (hd : Header) (i : Input) (o : Option Node) (g : History) → is_asking i ≡ false → asked_at hd i o g ≡ g
asked_none hd i None g none = refl
asked_none hd i (Some n) g none = by n.live (refusal_at hd i n.live)
  where
    same : (j : Input) (t : Parts) → is_asking j ≡ false →
        with_asking j t.coord (let q = g in q.run) (let q = g in q.event) (let q = g in q.askings) ≡ (let q = g in q.askings)
    same (input.Begin l k p) t none = refl
    same (input.Call l x o) t none = absurd (cc none)
    same (input.Include l x s) t none = absurd (cc none)
    same (input.Commit l) t none = absurd (cc none)
    same (input.Abort l) t none = refl
    same (input.GiveUp l) t none = refl
    same (input.Frame k from m) t none = refl
    same input.Tick t none = refl
    same input.Restart t none = refl
    same input.Crash t none = refl
    same (input.Show x) t none = refl

    by : (live : Option Parts) (r : Option ℕ) → taken_by i live r g ≡ g
    by None r = refl
    by (Some t) (Some c) = refl
    by (Some t) None = λ j. record g { askings = same i t none j }

module _ (hd : Header) (P : Moment → Type 0) (keeps : KeepsSteps hd P) where
  -- ---- a step of a node in its world

  -- a node is what stands at its place
  pub node_is : (k : ℕ) (n : Node) → n.number ≡ k → record { number = k; disk = n.disk; live = n.live } ≡ n
  node_is k n is = λ i. record { number = sym is i; disk = n.disk; live = n.live }

  pub sees_node : (k : ℕ) (n : Node) (g : History) (sent : List Post) (w : World) → at_place k w.nodes ≡ Some n → n.number ≡ k →
      P (look g sent w) → P (at k n.disk n.live (look g sent w))
  sees_node k n g sent w there is h =
      subst (λ f. P (record (look g sent w) { seen = record (see sent w) { nodes = f } })) (λ i m. same m i) h
    where
      mine : Node
      mine = record { number = k; disk = n.disk; live = n.live }

      by : (m : ℕ) (b : Bool) → (m == k) ≡ b → at_place m w.nodes ≡ (if b then Some mine else at_place m w.nodes)
      by m true e = ap (λ j. at_place j w.nodes) (eqb-true m k e) ∙ there ∙ ap Some (sym (node_is k n is))
      by m false e = refl

      same : (m : ℕ) → at_place m w.nodes ≡ (if m == k then Some mine else at_place m w.nodes)
      same m = by m (m == k) refl

  -- the world's nodes with another one at this place, in words of the world
  abbrev WithNodes : (ℕ → Option Node) → ℕ → History → List Post → List Line → World → Type 0
  WithNodes nodes f g sent lines w = P (record {
    past = record g { number = w.event; frames = f };
    seen = record { start = w.start; sent = sent; lines = lines; labels = w.labels; nodes = nodes };
  })

  sees_set : (k : ℕ) (n a : Node) (f : ℕ) (g : History) (sent : List Post) (lines : List Line) (w : World) → at_place k w.nodes ≡ Some n →
      WithNodes (λ m. if m == k then Some a else at_place m w.nodes) f g sent lines w →
      WithNodes (λ m. at_place m (set_place k a w.nodes)) f g sent lines w
  sees_set k n a f g sent lines w there h = subst (λ nodes. WithNodes nodes f g sent lines w) (λ i m. same m i) h
    where
      apart : (m : ℕ) → (m == k) ≡ false → m ≢ k
      apart m e = grind (arith, nat_tests)

      by : (m : ℕ) (b : Bool) → (m == k) ≡ b → (if b then Some a else at_place m w.nodes) ≡ at_place m (set_place k a w.nodes)
      by m true e = sym (ap (λ j. at_place j (set_place k a w.nodes)) (eqb-true m k e) ∙ place_same k a n w.nodes there)
      by m false e = sym (place_other k m a w.nodes (apart m e))

      same : (m : ℕ) → (if m == k then Some a else at_place m w.nodes) ≡ at_place m (set_place k a w.nodes)
      same m = by m (m == k) refl

  pub sent_more : (few many : List Post) → Within few many → (f : Frame) → IsSent few f → IsSent many f
  sent_more few many more f h = by f.message h
    where
      by : (m : Option Message) → IfSome m (λ x. In (record { from = f.from; to = f.to; message = x }) few) →
          IfSome m (λ x. In (record { from = f.from; to = f.to; message = x }) many)
      by None h = h
      by (Some x) h = more (record { from = f.from; to = f.to; message = x }) h

  abbrev IsPlaced : Frame → Type 0
  IsPlaced f = HasPlace hd f.to f.message

  -- what a node sends are messages
  sends_placed : (k : ℕ) (outs : List Effect) → AllByRecursion IsPlaced (sends k outs)
  sends_placed k [] = tt
  sends_placed k (Send to m ∷ es) = (tt, sends_placed k es)
  sends_placed k (Say b ∷ es) = sends_placed k es
  sends_placed k (Do w ∷ es) = sends_placed k es

  -- the event writes more
  pub writes_more : (g : History) (w : World) (bs : List Body) → Wrote g w → Wrote g (says bs w)
  writes_more g w bs h = (
    h.0 ++ bs,
    ap (λ ls. ls ++ numbered w.event bs) h.1 ∙ append_assoc (let r = g.run in r.lines) (numbered w.event h.0) (numbered w.event bs)
        ∙ ap (λ ls. (let r = g.run in r.lines) ++ ls) (sym (map-append (λ b. record { event = w.event; body = b }) h.0 bs)),
  )

  -- the history is that of the world's event
  abbrev pub Rests : History → World → Type 0
  Rests g w = (g.number ≡ w.event) × Wrote g w

  -- a node with its effects becomes a world
  put_holds : (k : ℕ) (n a : Node) (outs : List Effect) (g : History) (sent : List Post) (w : World) → Stands hd sent w → Rests g w →
      at_place k w.nodes ≡ Some n → a.number ≡ k
      → Besides (λ N. P (with_node k a N)) (sends k outs) (numbered w.event (bodies k (length w.frames) outs)) (look g sent w) →
      HoldsAt hd P g (put k outs (set_node k a w))
  put_holds k n a outs g sent w s rests there is b = record {
    sent = b.0;
    stands = record {
      frames = all_on (IsSent b.0) w.frames new (all_to (IsSent sent) (IsSent b.0) w.frames (sent_more sent b.0 b.1) s.frames) b.2;
      junk = all_on IsPlaced w.frames new s.junk
          (all_taken IsPlaced (most_frames - length w.frames) (sends k outs) (sends_placed k outs));
      header = s.header;
      numbers = λ m c. numbers m c (m == k) refl;
      places = λ m h. set_there m k a w.nodes (s.places m h);
      labels = all_to (λ (g : Label × Labelled). is_some (at_place g.1.node w.nodes) ≡ true) (λ (g : Label × Labelled).
          is_some (at_place g.1.node (set_place k a w.nodes)) ≡ true) w.labels (λ g h. set_there g.1.node k a w.nodes h) s.labels;
    };
    number = rests.0;
    wrote = writes_more g w (bodies k (length w.frames) outs) rests.1;
    holds = sees_set k n a (length (w.frames ++ new)) g b.0 lines w there
        (subst (λ f. WithNodes (λ m. if m == k then Some a else at_place m w.nodes) f g b.0 lines w)
        (sym (length-append w.frames new)) b.3);
  }
    where
      new : List Frame
      new = fitting (length w.frames) (sends k outs)

      lines : List Line
      lines = w.lines ++ numbered w.event (bodies k (length w.frames) outs)

      apart : (m : ℕ) → (m == k) ≡ false → m ≢ k
      apart m e = grind (arith, nat_tests)

      numbers : (m : ℕ) (c : Node) (t : Bool) → (m == k) ≡ t → at_place m (set_place k a w.nodes) ≡ Some c → c.number ≡ m
      numbers m c true e h =
          let same : m ≡ k = eqb-true m k e in
          let found : Some a ≡ Some c = sym (ap (λ j. at_place j (set_place k a w.nodes)) same ∙ place_same k a n w.nodes there) ∙ h in
          let it : a ≡ c = cc found in
          sym (ap (λ (x : Node). x.number) it) ∙ is ∙ sym same
      numbers m c false e h = s.numbers m c (sym (place_other k m a w.nodes (apart m e)) ∙ h)

  done_holds : (k : ℕ) (n : Node) (s : Step) (g : History) (sent : List Post) (w : World) → Stands hd sent w → Rests g w →
      at_place k w.nodes ≡ Some n → Goes hd P keeps k n.disk s (look g sent w) → HoldsAt hd P g (done_step k s w)
  done_holds k n s g sent w stands rests there goes =
      let b = flat_done P k s.outs (λ c N. P (with_node k s.after N)) n.disk (look g sent w) (length w.frames) (inl refl) goes.0 in
      put_holds k n s.after s.outs g sent w stands rests there goes.2 (b.0, b.1, b.2, b.3.1)

  halted_holds : (k : ℕ) (n : Node) (s : Step) (c : ℕ) (a : Arm) (g : History) (sent : List Post) (w : World) → Stands hd sent w →
      Rests g w → at_place k w.nodes ≡ Some n → n.number ≡ k → Goes hd P keeps k n.disk s (look g sent w)
      → HoldsAt hd P g (halted_at k n (cut c a.how s.halting n.disk) w)
  halted_holds k n s c a g sent w stands rests there is goes =
      let q = cut c a.how s.halting n.disk in
      let b = flat_cut P k s.halting (λ x N. P (halted k x N)) n.disk (look g sent w) c a.how (length w.frames) (λ d N h. h) (inl refl)
      goes.1 in
      put_holds k n (record n { disk = q.disk; live = None }) (halted_outs k q) g sent w stands rests there is (
        b.0,
        b.1,
        b.2,
        subst (λ j. P (with_node k (record { number = j; disk = q.disk; live = None }) (with_sent b.0
            (seen_as (length w.frames + length (fitting (length w.frames) (sends k (halted_outs k q))))
            (w.lines ++ numbered w.event (bodies k (length w.frames) (halted_outs k q))) (look g sent w))))) (sym is) b.3,
      )

  -- what stands is not about disks that will stop
  arms_stand : (sent : List Post) (w : World) (arms : List (ℕ × Arm)) → Stands hd sent w → Stands hd sent (record w { arms = arms })
  arms_stand sent w arms s =
      record { frames = s.frames; junk = s.junk; header = s.header; numbers = s.numbers; places = s.places; labels = s.labels }

  pub with_holds : (k : ℕ) (n : Node) (s : Step) (g : History) (sent : List Post) (w : World) (arm : Option Arm) → Stands hd sent w →
      Rests g w → at_place k w.nodes ≡ Some n → n.number ≡ k → Goes hd P keeps k n.disk s (look g sent w)
      → HoldsAt hd P g (step_with k n s w arm)
  with_holds k n s g sent w None stands rests there is goes = done_holds k n s g sent w stands rests there goes
  with_holds k n s g sent w (Some a) stands rests there is goes = by (nat_lt (count_works s.halting) a.works)
    where
      by : (b : Bool) → HoldsAt hd P g (if b then done_step k s (armed k (record a { works = a.works - count_works s.halting }) w) else
          halted_at k n (cut (a.works - 1) a.how s.halting n.disk) (disarmed k w))
      by true = let v = armed k (record a { works = a.works - count_works s.halting }) w in
          done_holds k n s g sent v (arms_stand sent w v.arms stands) rests there goes
      by false = let v = disarmed k w in
          halted_holds k n s (a.works - 1) a g sent v (arms_stand sent w v.arms stands) rests there is goes

  node_holds : (k : ℕ) (i : Input) (g : History) (w : World) (o : Option Node) → at_place k w.nodes ≡ o → (h : HoldsAt hd P g w) →
      MayCome hd P keeps k i (look g h.sent w) → HoldsAt hd P (asked_at hd i o g) (step_node k i w o)
  node_holds k i g w None there h sent = h
  node_holds k i g w (Some n) there h sent =
      let is : n.number ≡ k = h.stands.numbers k n there in
      let q : History = taken_by i n.live (refusal_at hd i n.live) g in
      let goes : Goes hd P keeps k n.disk (step hd (record { number = k; disk = n.disk; live = n.live }) i) (look q h.sent w) =
      step_goes hd P keeps k i n.disk n.live (look g h.sent w) sent (sees_node k n g h.sent w there is h.holds) in
      let mine : Goes hd P keeps k n.disk (step w.header n i) (look q h.sent w) = subst
      (λ x. Goes hd P keeps k n.disk (step x n i) (look q h.sent w)) (sym h.stands.header)
      (subst (λ x. Goes hd P keeps k n.disk (step hd x i) (look q h.sent w)) (node_is k n is) goes) in
      with_holds k n (step w.header n i) q h.sent w (at_number k w.arms) h.stands (h.number, h.wrote) there is mine

  pub steps_hold : (k : ℕ) (i : Input) (g : History) (w : World) (h : HoldsAt hd P g w) → MayCome hd P keeps k i (look g h.sent w) →
      HoldsAt hd P (asked_at hd i (at_place k w.nodes) g) (steps k i w)
  steps_hold k i g w h sent = node_holds k i g w (at_place k w.nodes) refl h sent

  pub plain_hold : (k : ℕ) (i : Input) (g : History) (w : World) → is_asking i ≡ false → (h : HoldsAt hd P g w) →
      MayCome hd P keeps k i (look g h.sent w) → HoldsAt hd P g (steps k i w)
  plain_hold k i g w none h sent =
      subst (λ q. HoldsAt hd P q (steps k i w)) (asked_none hd i (at_place k w.nodes) g none) (steps_hold k i g w h sent)

  -- ---- the world's own marks and lines

  -- the world's own marks aren't seen
  pub same_seen : (g : History) (w v : World) → v.nodes ≡ w.nodes → v.frames ≡ w.frames → v.lines ≡ w.lines → v.labels ≡ w.labels →
      v.header ≡ w.header → v.start ≡ w.start → v.event ≡ w.event → HoldsAt hd P g w → HoldsAt hd P g v
  same_seen g w v nodes frames lines labels header start number h = record {
    sent = h.sent;
    stands = record {
      frames = subst (λ fs. AllByRecursion (IsSent h.sent) fs) (sym frames) h.stands.frames;
      junk = subst (λ fs. AllByRecursion IsPlaced fs) (sym frames) h.stands.junk;
      header = header ∙ h.stands.header;
      numbers = λ k n there. h.stands.numbers k n (ap (λ ns. at_place k ns) (sym nodes) ∙ there);
      places = λ k is. ap (λ ns. is_some (at_place k ns)) nodes ∙ h.stands.places k is;
      labels = subst (λ ns. AllByRecursion (λ (g : Label × Labelled). is_some (at_place g.1.node ns) ≡ true) v.labels) (sym nodes) (subst
          (λ ls. AllByRecursion (λ (g : Label × Labelled). is_some (at_place g.1.node w.nodes) ≡ true) ls) (sym labels) h.stands.labels);
    };
    number = h.number ∙ sym number;
    wrote = (h.wrote.0, lines ∙ (h.wrote.1 ∙ (λ i. (let r = g.run in r.lines) ++ numbered (sym number i) h.wrote.0)));
    holds = subst (λ (s : Moment). P s)
        (λ i. record {
          past = record g { number = sym number i; frames = length (sym frames i) };
          seen = record {
            start = sym start i;
            sent = h.sent;
            lines = sym lines i;
            labels = sym labels i;
            nodes = λ m. at_place m (sym nodes i);
          };
        })
        h.holds;
  }

  pub either_holds : (g : History) (b : Bool) (v u : World) → HoldsAt hd P g v → HoldsAt hd P g u → HoldsAt hd P g (if b then v else u)
  either_holds g true v u a c = a
  either_holds g false v u a c = c

  pub says_hold : (bs : List Body) (g : History) (w : World) → ArePlain bs → HoldsAt hd P g w → HoldsAt hd P g (says bs w)
  says_hold bs g w plain h = record {
    sent = h.sent;
    stands = record {
      frames = h.stands.frames;
      junk = h.stands.junk;
      header = h.stands.header;
      numbers = h.stands.numbers;
      places = h.stands.places;
      labels = h.stands.labels;
    };
    number = h.number;
    wrote = writes_more g w bs h.wrote;
    holds = keeps.quiet bs (look g h.sent w) plain h.holds;
  }

  module _ (g : History) where
    -- a frame is marked
    marks_hold : (k : ℕ) (mark : Frame → Frame) (f : Frame) (w : World) → ((sent : List Post) → IsSent sent f → IsSent sent (mark f)) →
        (IsPlaced f → IsPlaced (mark f)) → at_place k w.frames ≡ Some f → HoldsAt hd P g w → HoldsAt hd P g (change_frame k mark f w)
    marks_hold k mark f w same placed there h = record {
      sent = h.sent;
      stands = record {
        frames = all_set (IsSent h.sent) k (mark f) w.frames h.stands.frames
            (same h.sent (all_placed (IsSent h.sent) k f w.frames h.stands.frames there));
        junk = all_set IsPlaced k (mark f) w.frames h.stands.junk (placed (all_placed IsPlaced k f w.frames h.stands.junk there));
        header = h.stands.header;
        numbers = h.stands.numbers;
        places = h.stands.places;
        labels = h.stands.labels;
      };
      number = h.number;
      wrote = h.wrote;
      holds = subst (λ n. P (record { past = record g { number = w.event; frames = n }; seen = see h.sent w }))
          (sym (set_long k (mark f) w.frames)) h.holds;
    }

    delivered_hold : is_restart g.event ≡ false → (k : ℕ) (w : World) (o : Option Frame) → at_place k w.frames ≡ o → HoldsAt hd P g w →
        HoldsAt hd P g (deliver_frame k w o)
    unfolding marks_hold
    delivered_hold other k w None there h = h
    delivered_hold other k w (Some f) there h =
        plain_hold f.to (input.Frame k f.from f.message) g (change_frame k as_delivered f w) refl
        (marks_hold k as_delivered f w (λ sent s. s) (λ s. s) there h)
        (all_placed (IsSent h.sent) k f w.frames h.stands.frames there, other)

    pub deliver_holds : is_restart g.event ≡ false → (k : ℕ) (w : World) → HoldsAt hd P g w → HoldsAt hd P g (deliver k w)
    deliver_holds other k w h = delivered_hold other k w (at_place k w.frames) refl h

    pub lost_holds : (k : ℕ) (w : World) (o : Option Frame) → at_place k w.frames ≡ o → HoldsAt hd P g w → HoldsAt hd P g (lose_frame k w o)
    lost_holds k w None there h = h
    lost_holds k w (Some f) there h =
        says_hold (body.Dropped k ∷ []) g (change_frame k as_lost f w) refl (marks_hold k as_lost f w (λ sent s. s) (λ s. s) there h)

    pub settled_holds : is_restart g.event ≡ false → (fuel : ℕ) (w : World) → HoldsAt hd P g w → HoldsAt hd P g (settle_for fuel w)
    settled_holds other zero w h = h
    settled_holds other (suc fuel) w h = by (lowest w) (settled_holds other fuel)
      where
        by : (o : Option ℕ) → ((v : World) → HoldsAt hd P g v → HoldsAt hd P g (settle_for fuel v)) →
            HoldsAt hd P g (elim o [ None ↦ w | Some k ↦ settle_for fuel (deliver k w) ])
        by None ih = h
        by (Some k) ih = ih (deliver k w) (deliver_holds other k w h)

    pub ticks_hold : is_restart g.event ≡ false → (ns : List ℕ) (w : World) → HoldsAt hd P g w → HoldsAt hd P g (tick_all ns w)
    ticks_hold other [] w h = h
    ticks_hold other (n ∷ ns) w h =
        ticks_hold other ns (tick_up n w) (either_holds g (w.full || not (is_up_at n w)) w (steps n input.Tick w) h
        (plain_hold n input.Tick g w refl h other))

    pub quiesce_holds : is_restart g.event ≡ false → (w : World) → HoldsAt hd P g w → HoldsAt hd P g (quiesce w)
    quiesce_holds other w h =
        let a = settle w in
        let b = tick_all (node_numbers w) a in
        let c = settle b in
        let held : HoldsAt hd P g c = settled_holds other most_frames b
        (ticks_hold other (node_numbers w) a (settled_holds other most_frames w h)) in
        either_holds g c.full c (says (body.Quiet (is_quiet c) ∷ []) c) held (says_hold (body.Quiet (is_quiet c) ∷ []) g c refl held)

    pub shows_hold : (x : ℕ) (ns : List ℕ) (w : World) → HoldsAt hd P g w → HoldsAt hd P g (show_all x ns w)
    shows_hold x [] w h = h
    shows_hold x (n ∷ ns) w h =
        shows_hold x ns (show_up x n w) (either_holds g (is_up_at n w) (steps n (input.Show x) w) w
        (plain_hold n (input.Show x) g w refl h tt) h)

    pub junk_holds : (n : ℕ) (w : World) (b : Bool) → nat_lt (length w.frames) most_frames ≡ b →
        (nat_le 1 n && nat_le n hd.nodes) ≡ true → HoldsAt hd P g w → HoldsAt hd P g (junk_fits n w b)
    junk_holds n w true fit its h = record {
      sent = h.sent;
      stands = record {
        frames = all_on (IsSent h.sent) w.frames (new_frame 0 n None ∷ []) h.stands.frames (tt, tt);
        junk = all_on IsPlaced w.frames (new_frame 0 n None ∷ []) h.stands.junk (its, tt);
        header = h.stands.header;
        numbers = h.stands.numbers;
        places = h.stands.places;
        labels = h.stands.labels;
      };
      number = h.number;
      wrote = writes_more g w (body.Sent (length w.frames + 1) 0 n frame.Junk ∷ []) h.wrote;
      holds = subst (λ f. P (record {
        past = record g { number = w.event; frames = f };
        seen = record (see h.sent w) { lines = w.lines ++ numbered w.event (body.Sent (length w.frames + 1) 0 n frame.Junk ∷ []) };
      })) (sym (length-append w.frames (new_frame 0 n None ∷ []))) (keeps.junk n (look g h.sent w) fit h.holds);
    }
    junk_holds n w false full its h = same_seen g w (junk_fits n w false) refl refl refl refl refl refl refl h
