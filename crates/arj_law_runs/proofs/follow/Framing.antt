-- What an event does: each of its lines of frames and halts fits those before it, and behind them they tell of the world that it leaves.
use Rattle.arj_law_parts.proofs.Words
use Words.{◌≡◌, ◌≢◌, ◌∙◌, ◌-◌, ◌≤◌, ◌==◌, ◌&&◌, not, ℕ, zero, suc, Bool, true, false, cond, List, [], ◌∷◌, ◌++◌, length, refl, sym, ap}
use Words.{subst, arith, Option, Some, None, is_some, nat_lt, nat_tests, AllByRecursion, at_place}
use Words.{set_place, slice_get, Node, Input, Step, step, Body, Header, Frame, Arm, World, Effect}
use Words.{armed, as_delivered, at_number, bodies, change_frame, count_works, cut, deliver, deliver_frame, disarmed}
use Words.{done_step, frames_with, halted_at, halted_outs}
use Words.{most_frames, numbered, put_number, sends}
use Words.{step_node, step_with, steps, place_other, eqb-true}
use Words.input
use Rattle.arj_law_parts.proofs.Terms.{says}
use Rattle.arj_law_parts.proofs.moves.Places.{place_same, set_there}
use Rattle.arj_law_parts.proofs.parts.LivesNamed.{all_found, all_put}
use Rattle.arj_law_parts.proofs.steps.Frames.{fits}
use Rattle.arj_law_parts.proofs.steps.Shapes.{Shape, is_frame, step_shape}
use Rattle.arj_law_parts.proofs.steps.Whole.{step_number}
use Rattle.arj_law_runs.proofs.addresses.Lists.{all_filter}
use Rattle.arj_law_runs.proofs.follow.Delivering
use Rattle.arj_law_runs.proofs.follow.Stepping
use Stepping.{Allows, and_all}
use Rattle.arj_law_runs.proofs.follow.Telling.{nothing_tells, tells_nothing}
use Rattle.arj_law_runs.proofs.follow.Walking
use Walking.{AreFor, Fit, Goes, Stays, Telling as Told, behind_all, behind_both, fit_both, lines_behind, stays_behind}
use Rattle.arj_law_runs.specs.follow.Frames.{frame_fits}
use Rattle.arj_model.specs.CauseNodes.{delivers, may_halt, restarts}
use Rattle.arj_model.specs.CauseSpans.{Here, behind}
use Rattle.arj_model.specs.Refusals.{is_node}
use Rattle.arj_promise.specs.Runs.{HasWork}

pub same_number : (k : ℕ) → (k == k) ≡ true
same_number k = grind (arith, nat_tests)

module _ (hd : Header) where
  abbrev pub HaveWork : List (ℕ × Arm) → Type 0
  HaveWork arms = AllByRecursion (λ (a : ℕ × Arm). HasWork a.1) arms

  -- the nodes stand at their numbers' places
  pub record ArePlaced (ns : List Node) : Type 0 where
    pub nodes : (n : ℕ) (m : Node) → at_place n ns ≡ Some m → (is_node hd n ≡ true) × (m.number ≡ n)
    pub places : (n : ℕ) → is_node hd n ≡ true → is_some (at_place n ns) ≡ true

  -- the place where an event's lines go on, and the world there
  pub record Base (h : Here) (w : World) : Type 0 where
    pub header : h.header ≡ hd
    pub is : w.header ≡ hd
    pub lines : h.lines ≡ w.lines
    pub number : h.number ≡ w.event
    pub few : length w.frames ≤ most_frames
    pub arms : HaveWork w.arms
    pub placed : ArePlaced w.nodes

  -- and what is told of that world
  pub record Of (h : Here) (w : World) : Type 0 where
    pub base : Base h w
    pub tells : Told h w.frames w.nodes

  -- with some lines more, which fit, this world is there
  pub record Reaches (h : Here) (v : World) : Type 0 where
    pub bodies : List Body
    pub fit : Fit h bodies
    pub of : Of (behind_all h bodies) v

  pub reach_on : (h : Here) (v u : World) → Reaches h v → ((g : Here) → Stays h g → Of g v → Reaches g u) → Reaches h u
  reach_on h v u r more =
      let s = more (behind_all h r.bodies) (stays_behind h r.bodies) r.of in
      record {
        bodies = r.bodies ++ s.bodies;
        fit = fit_both h r.bodies s.bodies r.fit s.fit;
        of = subst (λ g. Of g u) (sym (behind_both h r.bodies s.bodies)) s.of;
      }

  pub reach_here : (h : Here) (w : World) → Of h w → Reaches h w
  reach_here h w of = record { bodies = []; fit = refl; of = of }

  -- ---- a step of a node

  set_placed : (k : ℕ) (x y : Node) (ns : List Node) → at_place k ns ≡ Some y → x.number ≡ y.number → ArePlaced ns → ArePlaced
      (set_place k x ns)
  set_placed k x y ns there same p = record {
    nodes = λ n m at. by n m (n == k) refl at;
    places = λ n is. set_there n k x ns (p.places n is);
  }
    where
      apart : (n : ℕ) → (n == k) ≡ false → n ≢ k
      apart n e = grind (arith, nat_tests)

      by : (n : ℕ) (m : Node) (b : Bool) → (n == k) ≡ b → at_place n (set_place k x ns) ≡ Some m → (is_node hd n ≡ true) × (m.number ≡ n)
      by n m true e at =
          let here : n ≡ k = eqb-true n k e in
          let found : Some x ≡ Some m = sym (ap (λ j. at_place j (set_place k x ns)) here ∙ place_same k x y ns there) ∙ at in
          let it : x ≡ m = cc found in
          let old = p.nodes n y (ap (λ j. at_place j ns) here ∙ there) in
          (old.0, ap (λ (z : Node). z.number) (sym it) ∙ same ∙ old.1)
      by n m false e at = p.nodes n m (sym (place_other k n x ns (apart n e)) ∙ at)

  -- what a node did becomes a world
  module _ (h : Here) (w : World) (base : Base h w) (k : ℕ) (n : Node) (there : at_place k w.nodes ≡ Some n) where
    put_reaches : (outs : List Effect) (x : Node) (arms : List (ℕ × Arm)) (v : World) → v.header ≡ w.header → v.event ≡ w.event →
        v.lines ≡ w.lines ++ numbered w.event (bodies k (length w.frames) outs) → v.frames ≡ frames_with w.frames (sends k outs) →
        v.nodes ≡ set_place k x w.nodes → v.arms ≡ arms → HaveWork arms → x.number ≡ n.number →
        length (frames_with w.frames (sends k outs)) ≤ most_frames →
        Goes h (bodies k (length w.frames) outs) (frames_with w.frames (sends k outs)) (set_place k x w.nodes) → Reaches h v
    put_reaches outs x arms v header event lines frames nodes same_arms work num few g =
        let bs = bodies k (length w.frames) outs in
        let i = behind_all h bs in
        let s = stays_behind h bs in
        record {
          bodies = bs;
          fit = g.fit;
          of = record {
            base = record {
              header = s.header ∙ base.header;
              is = header ∙ base.is;
              lines = lines_behind h bs ∙ (λ j. base.lines j ++ numbered (base.number j) bs) ∙ sym lines;
              number = s.number ∙ base.number ∙ sym event;
              few = subst (λ fs. length fs ≤ most_frames) (sym frames) few;
              arms = subst HaveWork (sym same_arms) work;
              placed = subst ArePlaced (sym nodes) (set_placed k x n w.nodes there num base.placed);
            };
            tells = subst (λ fs. Told i fs v.nodes) (sym frames) (subst (λ ns. Told i (frames_with w.frames (sends k outs)) ns) (sym nodes)
                g.tells);
          };
        }

    few_with : (outs : List Effect) → length (frames_with w.frames (sends k outs)) ≤ most_frames
    few_with outs = fits w.frames (sends k outs) base.few

    -- whatever stop falls, its lines are these
    abbrev Leaves : List Effect → Node → Type 0
    Leaves outs x = AreFor hd (frames_with w.frames (sends k outs)) →
        Goes h (bodies k (length w.frames) outs) (frames_with w.frames (sends k outs)) (set_place k x w.nodes)

    with_reaches : (s : Step) → s.after.number ≡ n.number → Leaves s.outs s.after →
        ((c : ℕ) (a : Arm) → 1 ≤ a.works → nat_lt (count_works s.halting) a.works ≡ false →
        (let q = cut (a.works - 1) a.how s.halting n.disk in Leaves (halted_outs k q) (record n { disk = q.disk; live = None }))) →
        (o : Option Arm) → at_number k w.arms ≡ o → AreFor hd (step_with k n s w o).frames → Reaches h (step_with k n s w o)
    with_reaches s num goes stop None is for = put_reaches s.outs s.after w.arms (done_step k s w) refl refl refl refl refl refl base.arms
        num
        (few_with s.outs) (goes for)
    with_reaches s num goes stop (Some a) is for = by (nat_lt (count_works s.halting) a.works) refl for
      where
        work : HasWork a
        work = all_found HasWork k w.arms a base.arms is

        less : (c n : ℕ) → nat_lt c n ≡ true → 1 ≤ n - c
        less c n is = grind (arith, nat_tests, is)

        done : World
        done = done_step k s (armed k (record a { works = a.works - count_works s.halting }) w)

        stopped_so : World
        stopped_so = halted_at k n (cut (a.works - 1) a.how s.halting n.disk) (disarmed k w)

        by : (b : Bool) → nat_lt (count_works s.halting) a.works ≡ b → AreFor hd (cond b done stopped_so).frames → Reaches h
            (cond b done stopped_so)
        by true is for = put_reaches s.outs s.after (put_number k (record a { works = a.works - count_works s.halting }) w.arms) done
            refl refl refl refl refl refl
            (all_put HasWork k (record a { works = a.works - count_works s.halting }) w.arms (less (count_works s.halting) a.works is)
            base.arms) num
            (few_with s.outs) (goes for)
        by false is for =
            let q = cut (a.works - 1) a.how s.halting n.disk in
            put_reaches (halted_outs k q) (record n { disk = q.disk; live = None }) stopped_so.arms stopped_so refl refl refl refl refl refl
            (all_filter (λ (e : ℕ × Arm). HasWork e.1) (λ (e : ℕ × Arm). not (e.0 == k)) w.arms base.arms) refl
            (few_with (halted_outs k q)) (stop 0 a work is for)

  -- a node takes what isn't a frame
  pub steps_reach : (h : Here) (w : World) (k : ℕ) (i : Input) → Of h w → is_frame i ≡ false →
      ((is_node hd k ≡ true) → may_halt k h.event ≡ true) →
      (i ≡ input.Restart → (restarts k h.event ≡ true) × ((length h.lines == h.first) ≡ true)) → AreFor hd (steps k i w).frames → Reaches h
      (steps k i w)
  steps_reach h w k i of other may again for = by (at_place k w.nodes) refl for
    where
      by : (o : Option Node) → at_place k w.nodes ≡ o → AreFor hd (step_node k i w o).frames → Reaches h (step_node k i w o)
      by None is for = reach_here h w of
      by (Some n) is for =
          let s = step w.header n i in
          let p = of.base.placed.nodes k n is in
          let shape = subst (λ x. Shape x n i (step w.header n i)) of.base.is (step_shape w.header n i) in
          let allows : Allows hd k n w.nodes is p.0 h i = record { header = of.base.header; halts = may p.0; restart = again } in
          with_reaches h w of.base k n is s (step_number w.header n i)
          (λ all. Stepping.done hd k n w.nodes is p.0 h i allows w.frames of.base.few of.tells s other shape p.1 all)
          (λ c a work over all. Stepping.cut_done hd k n w.nodes is p.0 h i allows w.frames of.base.few of.tells s a.works a.how other
          shape p.1
          (step_number w.header n i) work over all)
          (at_number k w.arms) refl for

  -- ---- a delivery

  -- the line of a delivery is the one that the event asks for, whatever is sent before it
  abbrev pub IsAsked : Here → World → ℕ → Type 0
  IsAsked h w j = (bs : List Body) (more : List Frame) → Told (behind_all h bs) (w.frames ++ more) w.nodes →
      delivers (behind_all h bs) j h.event ≡ true

  pub deliver_reach : (h : Here) (w : World) (j : ℕ) → Of h w → ((k : ℕ) → may_halt k h.event ≡ true) → IsAsked h w j → AreFor hd
      (deliver j w).frames →
      AreFor hd w.frames → Reaches h (deliver j w)
  deliver_reach h w j of may asked for before = by (at_place j w.frames) refl for
    where
      its_node : (j : ℕ) (fs : List Frame) (f : Frame) → at_place j fs ≡ Some f → AreFor hd fs → is_node hd f.to ≡ true
      its_node zero fs f is all = let no_way : ◌≡◌ {A = Option Frame} None (Some f) = is in absurd (cc no_way)
      its_node (suc j) fs f is all = go j fs is all
        where
          go : (j : ℕ) (fs : List Frame) → slice_get fs j ≡ Some f → AreFor hd fs → is_node hd f.to ≡ true
          go j [] is all = let no_way : ◌≡◌ {A = Option Frame} None (Some f) = is in absurd (cc no_way)
          go zero (g ∷ fs) is all = let same : g ≡ f = cc is in subst (λ (x : Frame). is_node hd x.to ≡ true) same all.0
          go (suc j) (g ∷ fs) is all = go j fs is all.1

      marked : Frame → World
      marked f = change_frame j as_delivered f w

      marked_base : (f : Frame) → Base h (marked f)
      marked_base f = record {
        header = of.base.header;
        is = of.base.is;
        lines = of.base.lines;
        number = of.base.number;
        few = let same = Delivering.set_long j w.frames (as_delivered f) in let few = of.base.few in omega (arith, few, same);
        arms = of.base.arms;
        placed = of.base.placed;
      }

      taken_by : (f : Frame) → at_place j w.frames ≡ Some f → is_node hd f.to ≡ true → (o : Option Node) → at_place f.to w.nodes ≡ o →
          is_some o ≡ true → AreFor hd (step_node f.to (input.Frame j f.from f.message) (marked f) o).frames →
          Reaches h (step_node f.to (input.Frame j f.from f.message) (marked f) o)
      taken_by f at known None is some for = let no_way : false ≡ true = some in cc
      taken_by f at known (Some n) is some for =
          let i : Input = input.Frame j f.from f.message in
          let s = step w.header n i in
          let shape = subst (λ x. Shape x n i (step w.header n i)) of.base.is (step_shape w.header n i) in
          with_reaches h (marked f) (marked_base f) f.to n is s (step_number w.header n i)
          (λ all. Delivering.done hd n w.nodes j f w.frames at is known of.base.few h of.base.header (may f.to) asked of.tells s shape all)
          (λ c a work over all.
          Delivering.cut_done hd n w.nodes j f w.frames at is known of.base.few h of.base.header (may f.to) asked of.tells s a.works a.how
          shape work over all)
          (at_number f.to w.arms) refl for

      by : (o : Option Frame) → at_place j w.frames ≡ o → AreFor hd (deliver_frame j w o).frames → Reaches h (deliver_frame j w o)
      by None is for = reach_here h w of
      by (Some f) is for =
          let known = its_node j w.frames f is before in
          taken_by f is known (at_place f.to w.nodes) refl (of.base.placed.places f.to known) for

  -- ---- the world's own lines

  pub says_reach : (h : Here) (w v : World) (b : Body) → Of h w → v.header ≡ w.header → v.event ≡ w.event → v.lines ≡ w.lines →
      length v.frames ≤ most_frames → HaveWork v.arms → v.nodes ≡ w.nodes → frame_fits h b ≡ true → Told (behind h b) v.frames v.nodes →
      Reaches h (says (b ∷ []) v)
  says_reach h w v b of header event lines few arms nodes fits tells = record {
    bodies = b ∷ [];
    fit = λ i. fits i && true;
    of = record {
      base = record {
        header = of.base.header;
        is = header ∙ of.base.is;
        lines = λ j. (of.base.lines ∙ sym lines) j ++ numbered ((of.base.number ∙ sym event) j) (b ∷ []);
        number = of.base.number ∙ sym event;
        few = few;
        arms = arms;
        placed = subst ArePlaced (sym nodes) of.base.placed;
      };
      tells = tells;
    };
  }

  -- the same, where nothing but the lines changes
  pub quiet_reach : (h : Here) (w : World) (b : Body) → Of h w → frame_fits h b ≡ true → tells_nothing b ≡ true → Reaches h
      (says (b ∷ []) w)
  quiet_reach h w b of fits nothing = says_reach h w w b of refl refl refl of.base.few of.base.arms refl fits
      (nothing_tells h.start h.number h.lines w.frames w.nodes b nothing of.tells)
