-- Which lines an event writes but that of a limit: each is free of what a test looks for, where the lines of parts, of frames and of
-- stops are. And a frame that doesn't fit means that there are as many as a run may have.
use Rattle.arj_law_parts.proofs.Words
use Words.{◌≡◌, ◌∙◌, ◌+◌, ◌-◌, ◌≤◌, ◌||◌, not, ℕ, zero, suc, Bool, true, false, cond, List, [], ◌∷◌, ◌++◌, length, take, refl, sym, ap}
use Words.{subst, arith}
use Words.{nat_le, nat_lt, nat_tests, Option, Some, None, append-nil, append_assoc, length-append, length-take-le, AllByRecursion, Body}
use Words.{Event, Line}
use Words.{Effect, Say, Send, Do, Disk, Stop, at_number, Input, Node, Step, step, at_place, Arm, Frame, Giving, World, armed}
use Words.{as_delivered, as_lost}
use Words.{begins, bodies, change_frame, count_works, cut, deliver, deliver_frame, disarmed, done_step, frame_number, frames_with}
use Words.{halted_at}
use Words.{halted_outs, happens, is_quiet, is_up_at, junk_fits, labels_unless, limited, lose_frame, lowest, most_frames, new_frame}
use Words.{node_numbers}
use Words.{node_of, numbered, put, quiesce, refused_at, sends, sent_line, set_node, settle, settle_for, show_all, show_up, step_node}
use Words.{step_with}
use Words.{steps, tick_all, tick_up, frame_kind, kind_below, worked, Message}
use Words.body
use Words.event
use Words.frame
use Words.input
use Words.kind
use Rattle.arj_law_parts.proofs.Terms.{says}
use Rattle.arj_law_runs.proofs.follow.Delivering.{set_long}
use Rattle.arj_law_parts.proofs.steps.Frames.{fits}
use Rattle.arj_law_parts.proofs.steps.StepLines.{OfInput, step_says}
use Rattle.arj_law_parts.specs.steps.Spoken.{SaidIn, is_of_parts}
use Rattle.arj_law_runs.proofs.addresses.Lists.{all_append}
use Rattle.arj_model.specs.CauseNodes.{is_quiesce}
use Rattle.arj_protocol.specs.Words.{FrameKind}

-- the lines of parts pass, and those of frames, of stops and of refusals
pub record IsFree (free : Body → Bool) : Type 0 where
  pub parts : (b : Body) → is_of_parts b ≡ true → free b ≡ true
  pub sent : (k from to : ℕ) (what : FrameKind) → free (body.Sent k from to what) ≡ true
  pub got : (k : ℕ) → free (body.Got k) ≡ true
  pub void : (k : ℕ) → free (body.Void k) ≡ true
  pub dropped : (k : ℕ) → free (body.Dropped k) ≡ true
  pub armed : (n : ℕ) → free (body.Armed n) ≡ true
  pub halted : (n : ℕ) → free (body.Halted n) ≡ true
  pub refused : (c : ℕ) → free (body.Refused c) ≡ true

-- where a frame didn't fit there are as many as a run may have
pub record IsFilled (w : World) : Type 0 where
  pub few : length w.frames ≤ most_frames
  pub full : w.full ≡ true → length w.frames ≡ most_frames

module _ (free : Body → Bool) (f : IsFree free) where
  abbrev Free : Body → Type 0
  Free b = free b ≡ true

  abbrev Said : List Effect → Type 0
  Said es = AllByRecursion (SaidIn Free) es

  own_free : (n : Node) (i : Input) → OfInput Free f.parts n i
  own_free n (input.Frame k from m) = (f.got k, f.void k)
  own_free n input.Crash = f.halted n.number
  own_free n i = tt

  cut_free : (k : ℕ) (how : Stop) (es : List Effect) (d : Disk) → Said es → Said (cut k how es d).outs
  cut_free k how [] d all = tt
  cut_free zero how (Do w ∷ es) d all = tt
  cut_free (suc k) how (Do w ∷ es) d all = (tt, cut_free k how es (worked w d) all.1)
  cut_free k how (Say b ∷ es) d all = (all.0, cut_free k how es d all.1)
  cut_free k how (Send to m ∷ es) d all = (tt, cut_free k how es d all.1)

  bodies_free : (n k : ℕ) (es : List Effect) → Said es → AllByRecursion Free (bodies n k es)
  bodies_free n k [] all = tt
  bodies_free n k (Say b ∷ es) all = (all.0, bodies_free n k es all.1)
  bodies_free n k (Do w ∷ es) all = bodies_free n k es all.1
  bodies_free n k (Send to m ∷ es) all =
      all_append Free (sent_line (k + 1) n to (frame_kind m)) (bodies n (k + 1) es) (by (nat_le (k + 1) most_frames))
      (bodies_free n (k + 1) es all.1)
    where
      by : (b : Bool) → AllByRecursion Free (cond b (body.Sent (k + 1) n to (frame_kind m) ∷ []) [])
      by true = (f.sent (k + 1) n to (frame_kind m), tt)
      by false = tt

  module _ (L : List Line) where
    -- behind these lines each is free
    pub record So (v : World) : Type 0 where
      pub more : List Line
      pub lines : v.lines ≡ L ++ more
      pub passes : AllByRecursion (λ (l : Line). Free l.body) more
      pub filled : IsFilled v

    adds : (w v : World) (bs : List Body) → v.lines ≡ w.lines ++ numbered w.event bs → AllByRecursion Free bs → IsFilled v → So w → So v
    adds w v bs lines all filled s = record {
      more = s.more ++ numbered w.event bs;
      lines = lines ∙ ap (λ ls. ls ++ numbered w.event bs) s.lines ∙ append_assoc L s.more (numbered w.event bs);
      passes = all_append (λ (l : Line). Free l.body) s.more (numbered w.event bs) s.passes (each bs all);
      filled = filled;
    }
      where
        each : (cs : List Body) → AllByRecursion Free cs → AllByRecursion (λ (l : Line). Free l.body) (numbered w.event cs)
        each [] all = tt
        each (c ∷ cs) all = (all.0, each cs all.1)

    same : (w v : World) → v.lines ≡ w.lines → v.frames ≡ w.frames → v.full ≡ w.full → So w → So v
    same w v lines frames full s = record {
      more = s.more;
      lines = lines ∙ s.lines;
      passes = s.passes;
      filled = record {
        few = subst (λ fs. length fs ≤ most_frames) (sym frames) s.filled.few;
        full = λ is. ap length frames ∙ s.filled.full (sym full ∙ is);
      };
    }

    -- what a node sends
    put_filled : (fs new : List Frame) (was : Bool) → length fs ≤ most_frames → (was ≡ true → length fs ≡ most_frames) →
        (was || nat_lt most_frames (length fs + length new)) ≡ true → length (frames_with fs new) ≡ most_frames
    put_filled fs new true few full is =
        let whole = full refl in
        let none : most_frames - length fs ≡ 0 = (λ i. most_frames - whole i) ∙ nothing_left in
        length-append fs (take (most_frames - length fs) new) ∙ (λ i. whole i + length (take (none i) new)) ∙ more
      where
        nothing_left : most_frames - most_frames ≡ 0
        nothing_left = refl

        more : most_frames + length {A = Frame} (take 0 new) ≡ most_frames
        more = ap (λ (xs : List Frame). most_frames + length xs) (take_none new)
          where
            take_none : (xs : List Frame) → take 0 xs ≡ []
            take_none [] = refl
            take_none (x ∷ xs) = refl
    put_filled fs new false few full is =
        let enough = less most_frames (length fs) (length new) few is in
        length-append fs (take (most_frames - length fs) new)
        ∙ ap (λ k. length fs + k) (length-take-le (most_frames - length fs) new enough) ∙ all most_frames (length fs) few
      where
        less : (m a b : ℕ) → a ≤ m → nat_lt m (a + b) ≡ true → m - a ≤ b
        less m a b few is = let above = over m (a + b) is in omega (arith, few, above)
          where
            over : (m n : ℕ) → nat_lt m n ≡ true → m + 1 ≤ n
            over m n is = grind (arith, nat_tests, is)

        all : (m a : ℕ) → a ≤ m → a + (m - a) ≡ m
        all m a few = omega (arith, few)

    put_so : (k : ℕ) (outs : List Effect) (w : World) → Said outs → So w → So (put k outs w)
    put_so k outs w all s = adds w (put k outs w) (bodies k (length w.frames) outs) refl (bodies_free k (length w.frames) outs all)
        (record {
          few = fits w.frames (sends k outs) s.filled.few;
          full = put_filled w.frames (sends k outs) w.full s.filled.few s.filled.full;
        }) s

    pub steps_so : (k : ℕ) (i : Input) (w : World) → So w → So (steps k i w)
    steps_so k i w s = by (at_place k w.nodes)
      where
        with_so : (n : Node) (a : Option Arm) → So (step_with k n (step w.header n i) w a)
        with_so n a = put_by a
          where
            x : Step
            x = step w.header n i

            said : Said x.outs × Said x.halting
            said = step_says Free f.parts w.header n i (own_free n i) (λ c is. f.refused c)

            fits_so : (b : Bool) (arm : Arm) → So (cond b (done_step k x (armed k (record arm {
              works =
                  arm.works - count_works x.halting;
            }) w))
                (halted_at k n (cut (arm.works - 1) arm.how x.halting n.disk) (disarmed k w)))
            fits_so true arm = put_so k x.outs (set_node k x.after (armed k (record arm {
              works =
                  arm.works - count_works x.halting;
            }) w)) said.0
                (same w _ refl refl refl s)
            fits_so false arm =
                let c = cut (arm.works - 1) arm.how x.halting n.disk in
                put_so k (halted_outs k c) (set_node k (record n { disk = c.disk; live = None }) (disarmed k w))
                (all_append (SaidIn Free) c.outs (Say (body.Halted k) ∷ []) (cut_free (arm.works - 1) arm.how x.halting n.disk said.1)
                (f.halted k, tt))
                (same w _ refl refl refl s)

            put_by : (a : Option Arm) → So (step_with k n x w a)
            put_by None = put_so k x.outs (set_node k x.after w) said.0 (same w _ refl refl refl s)
            put_by (Some arm) = fits_so (nat_lt (count_works x.halting) arm.works) arm

        by : (o : Option Node) → So (step_node k i w o)
        by None = s
        by (Some n) = with_so n (at_number k w.arms)

    -- a frame is marked
    marked_so : (k : ℕ) (g : Frame) (w : World) → So w → So (record w { frames = Words.set_place k g w.frames })
    marked_so k g w s = record {
      more = s.more;
      lines = s.lines;
      passes = s.passes;
      filled = record {
        few = let long = set_long k w.frames g in let few = s.filled.few in omega (arith, long, few);
        full = λ is. set_long k w.frames g ∙ s.filled.full is;
      };
    }

    deliver_so : (k : ℕ) (w : World) → So w → So (deliver k w)
    deliver_so k w s = by (at_place k w.frames)
      where
        by : (o : Option Frame) → So (deliver_frame k w o)
        by None = s
        by (Some x) = steps_so x.to (input.Frame k x.from x.message) (change_frame k as_delivered x w) (marked_so k (as_delivered x) w s)

    settle_so : (fuel : ℕ) (w : World) → So w → So (settle_for fuel w)
    settle_so zero w s = s
    settle_so (suc fuel) w s = by (lowest w) (λ k. settle_so fuel (deliver k w) (deliver_so k w s))
      where
        by : (o : Option ℕ) → ((k : ℕ) → So (settle_for fuel (deliver k w))) →
            So (elim o [ None ↦ w | Some k ↦ settle_for fuel (deliver k w) ])
        by None rest = s
        by (Some k) rest = rest k

    either_so : (b : Bool) (v u : World) → So v → So u → So (cond b v u)
    either_so true v u one other = one
    either_so false v u one other = other

    ticks_so : (ns : List ℕ) (w : World) → So w → So (tick_all ns w)
    ticks_so [] w s = s
    ticks_so (n ∷ ns) w s =
        ticks_so ns (tick_up n w) (either_so (w.full || not (is_up_at n w)) w (steps n input.Tick w) s (steps_so n input.Tick w s))

    shows_so : (x : ℕ) (ns : List ℕ) (w : World) → So w → So (show_all x ns w)
    shows_so x [] w s = s
    shows_so x (n ∷ ns) w s = shows_so x ns (show_up x n w)
        (either_so (is_up_at n w) (steps n (input.Show x) w) w (steps_so n (input.Show x) w s) s)

    -- a quiesce, before the frames of its ticks are delivered, and but for its last line
    pub ticked_so : (w : World) → So w → So (tick_all (node_numbers w) (settle w))
    ticked_so w s = ticks_so (node_numbers w) (settle w) (settle_so most_frames w s)

    pub inner_so : (w : World) → So w → So (settle (tick_all (node_numbers w) (settle w)))
    inner_so w s = settle_so most_frames (tick_all (node_numbers w) (settle w)) (ticked_so w s)

    begins_so : (g : Giving) (w : World) → So w → So (begins g w)
    begins_so g w s = by (refused_at i w (at_place g.node w.nodes))
      where
        i : Input
        i = input.Begin g.label g.kind g.parent

        by : (r : Option ℕ) → So (steps g.node i (labels_unless g w r))
        by None = steps_so g.node i (labels_unless g w None) (same w _ refl refl refl s)
        by (Some c) = steps_so g.node i w s

    junk_so : (n : ℕ) (w : World) (b : Bool) → nat_lt (length w.frames) most_frames ≡ b → So w → So (junk_fits n w b)
    junk_so n w true is s =
        adds w _ (body.Sent (length w.frames + 1) 0 n frame.Junk ∷ []) refl (f.sent (length w.frames + 1) 0 n frame.Junk, tt) (record {
          few = let long = length-append w.frames (new_frame 0 n None ∷ []) in let less = below (length w.frames) most_frames is in
              omega (arith, long, less);
          full = λ full. absurd (never (length w.frames) most_frames is (s.filled.full full));
        }) s
      where
        below : (a m : ℕ) → nat_lt a m ≡ true → a + 1 ≤ m
        below a m is = grind (arith, nat_tests, is)

        never : (a m : ℕ) → nat_lt a m ≡ true → a ≡ m → ⊥
        never a m is same = let less = below a m is in omega (arith, less, same)
    junk_so n w false is s = record {
      more = s.more;
      lines = s.lines;
      passes = s.passes;
      filled = record { few = s.filled.few; full = λ full. most (length w.frames) most_frames s.filled.few is };
    }
      where
        most : (a m : ℕ) → a ≤ m → nat_lt a m ≡ false → a ≡ m
        most a m few is = let over = above a m is in omega (arith, few, over)
          where
            above : (a m : ℕ) → nat_lt a m ≡ false → m ≤ a
            above a m is = grind (arith, nat_tests, is)

    lose_so : (k : ℕ) (w : World) (o : Option Frame) → So w → So (lose_frame k w o)
    lose_so k w None s = s
    lose_so k w (Some x) s =
        let v = change_frame k as_lost x w in
        let marked = marked_so k (as_lost x) w s in
        adds v (says (body.Dropped k ∷ []) v) (body.Dropped k ∷ []) refl (f.dropped k, tt)
        (record { few = marked.filled.few; full = marked.filled.full }) marked

    -- all that an event makes happen, where also the last line of a quiesce passes
    pub happens_so : (e : Event) (a : Arm) (w : World) → ((b : Bool) → is_quiesce e ≡ true → free (body.Quiet b) ≡ true) → So w →
        So (happens e a w)
    happens_so (event.Call l x o) a w quiet s = steps_so (node_of l w) (input.Call l x o) w s
    happens_so (event.Include l x n) a w quiet s = steps_so (node_of l w) (input.Include l x n) w s
    happens_so (event.Commit l) a w quiet s = steps_so (node_of l w) (input.Commit l) w s
    happens_so (event.Abort l) a w quiet s = steps_so (node_of l w) (input.Abort l) w s
    happens_so (event.GiveUp l) a w quiet s = steps_so (node_of l w) (input.GiveUp l) w s
    happens_so (event.Deliver k) a w quiet s = deliver_so (frame_number k w) w s
    happens_so (event.Lose k) a w quiet s = lose_so (frame_number k w) w (at_place (frame_number k w) w.frames) s
    happens_so (event.Tick n) a w quiet s = steps_so n input.Tick w s
    happens_so event.Settle a w quiet s = settle_so most_frames w s
    happens_so event.Quiesce a w quiet s =
        let v = settle (tick_all (node_numbers w) (settle w)) in
        let all = inner_so w s in
        either_so v.full v (says (body.Quiet (is_quiet v) ∷ []) v) all
        (adds v _ (body.Quiet (is_quiet v) ∷ []) refl (quiet (is_quiet v) refl, tt)
        (record { few = all.filled.few; full = all.filled.full }) all)
    happens_so (event.Crash n) a w quiet s = steps_so n input.Crash w s
    happens_so (event.Restart n) a w quiet s = steps_so n input.Restart w s
    happens_so (event.Stop n c how) a w quiet s =
        adds w _ (body.Armed n ∷ []) refl (f.armed n, tt) (record { few = s.filled.few; full = s.filled.full }) s
    happens_so (event.Junk n bytes) a w quiet s = junk_so n w (nat_lt (length w.frames) most_frames) refl s
    happens_so (event.Show x) a w quiet s = shows_so x (node_numbers w) w s
    happens_so (event.Begin l n) a w quiet s = begins_so (record { label = l; kind = kind.Top; parent = None; node = n }) w s
    happens_so (event.Serial l n) a w quiet s = begins_so (record { label = l; kind = kind.Serial; parent = None; node = n }) w s
    happens_so (event.BeginIn l p) a w quiet s =
        begins_so (record { label = l; kind = kind_below p w; parent = Some p; node = node_of p w }) w s
    happens_so (event.Top l p) a w quiet s =
        begins_so (record { label = l; kind = kind.Independent; parent = Some p; node = node_of p w }) w s
