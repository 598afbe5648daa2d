-- Event by event: each call that waits for its operation has asked another node for it by a frame, as long as every frame fits.
use Rattle.arj_law_parts.proofs.Words
use Words.{◌≡◌, ◌∙◌, ◌==◌, ◌&&◌, ◌||◌, not, ℕ, zero, suc, Bool, true, false, cond, if◌then◌else◌, List, [], ◌∷◌, ◌++◌, length, Option, Some}
use Words.{None, refl, sym}
use Words.{ap, subst, inl, inr, nat_le, nat_lt, Asked, Event, Header, Kind, Uid, Intent, Reply, heard, Coord, Branch, Tree, begun, new_tree}
use Words.{Arm, Frame}
use Words.{Giving, Input, World, as_delivered, as_lost, at_place, begins, change_frame, deliver, deliver_frame, first_reason}
use Words.{frame_number, happens, is_node, is_quiet, is_up_at, junk_fits, kind_below, labels_unless, lose_frame, lowest, most_frames}
use Words.{new_frame}
use Words.{node_numbers, node_of, quiesce, reasons, refused_at, set_place, settle, settle_for, show_all, show_up, steps, tick_all, tick_up}
use Words.{Post}
use Words.body
use Words.event
use Words.input
use Words.kind
use Rattle.arj_law_parts.proofs.moves.{Places.all_placed, Reasons.first_not, Reasons.not_not}
use Rattle.arj_law_runs.proofs.Terms
use Terms.{Holds, IsGood, IsSent, KeepsAsked, deliver_holds, is_act, says, steps_hold}
use Rattle.arj_promise.specs.Runs.{HeaderFits}
use Rattle.arj_law_promise.proofs.settling.Waiting.{AllKnown}
use Rattle.arj_law_runs.proofs.resting.Worlds.{settle_full, steps_full}
use Rattle.arj_protocol.specs.World as world
use Rattle.arj_law_cause.proofs.waits.doomed.Asking.{AreUnderWay}
use Rattle.arj_law_cause.proofs.waits.doomed.Sending.{IsFrameOf, has_marked}
use Rattle.arj_law_cause.proofs.waits.doomed.Stepping
use Rattle.arj_law_cause.proofs.waits.doomed.Wanting.{AreAsked, asked_more}
use Stepping.{Comes, IsUnderWay, more_frames, ways_to}

-- the rest of a settling
abbrev Rest : ℕ → World → Option ℕ → World
Rest fuel w o = elim o [ None ↦ w | Some k ↦ settle_for fuel (deliver k w) ]

-- an input that asks no action
never_acts : {A : Type 0} (i : Input) → is_act i ≡ false → is_act i ≡ true → A
never_acts i off is = let no_way : true ≡ false = sym is ∙ off in absurd (cc no_way)

module _ (hd : Header) (form : HeaderFits hd) (P : Tree → Type 0) (hears : (from : ℕ) (a : Asked) (r : Reply) (intents : List (Uid ×
    Intent)) (c : Coord) → P c.tree → P (heard from a r intents c).part.tree)
    (begins_so : (how : Kind) (parent : Option Branch) (t : Tree) → P t → P (begun how parent t))
    (fresh : (n inc : ℕ) → P (new_tree n inc)) where
  abbrev pub Stands : World → Type 0
  Stands w = Stepping.Stands hd form P hears begins_so fresh w

  abbrev pub Knows : World → Type 0
  Knows w = Holds hd (λ M. AllKnown hd M × IsGood M) w

  abbrev pub MayAct : ℕ → World → Input → Type 0
  MayAct k w i = Stepping.MayAct hd form P hears begins_so fresh k w i

  pub keeps : KeepsAsked hd (λ M. AllKnown hd M × IsGood M)
  keeps = Stepping.keeps hd form P hears begins_so fresh

  -- a step of a node in its world
  step_stands : (k : ℕ) (i : Input) (w : World) (h : Knows w) → Comes hd h.sent k i → MayAct k w i → Stands w → (steps k i w).full ≡ false →
      Stands (steps k i w)
  step_stands k i w h comes may z free =
      Stepping.steps_stand hd form P hears begins_so fresh k w
      (record { sent = h.sent; header = h.stands.header; numbers = h.stands.numbers; holds = h.holds }) z i comes may free

  plain_stands : (k : ℕ) (i : Input) (w : World) (h : Knows w) → is_act i ≡ false → Comes hd h.sent k i → Stands w →
      (steps k i w).full ≡ false → Stands (steps k i w)
  plain_stands k i w h off comes z free = step_stands k i w h comes (λ a t there live is. never_acts i off is) z free

  -- the same nodes and frames
  pub same_stands : (w v : World) → v.nodes ≡ w.nodes → v.frames ≡ w.frames → Stands w → Stands v
  same_stands w v nodes frames z = record {
    calls = λ k a t there live. subst (λ fs. AreUnderWay k t.coord (IsUnderWay fs)) (sym frames)
        (z.calls k a t (ap (λ ns. at_place k ns) (sym nodes) ∙ there) live);
    trees = λ k a t there live. z.trees k a t (ap (λ ns. at_place k ns) (sym nodes) ∙ there) live;
    asked = λ k a t there live. subst (AreAsked k t.coord) (sym frames) (z.asked k a t (ap (λ ns. at_place k ns) (sym nodes) ∙ there) live);
  }

  marked_stands : (k : ℕ) (mark : Frame → Frame) (f : Frame) (w : World) → at_place k w.frames ≡ Some f →
      ((p : Post) → IsFrameOf f p → IsFrameOf (mark f) p) → Stands w → Stands (change_frame k mark f w)
  marked_stands k mark f w there same z = record {
    calls = λ j a t at live. ways_to j t.coord (IsUnderWay w.frames) (IsUnderWay (set_place k (mark f) w.frames)) under
        (z.calls j a t at live);
    trees = z.trees;
    asked = λ j a t at live x apart on. let q = z.asked j a t at live x apart on in record {
      post = q.post;
      frame = has_marked k f (mark f) w.frames q.post there (same q.post) q.frame;
      from = q.from;
      to = q.to;
      asks = q.asks;
    };
  }
    where
      under : (p : Post) → IsUnderWay w.frames p → IsUnderWay (set_place k (mark f) w.frames) p
      under p (inl x) = inl (record {
        frame = has_marked k f (mark f) w.frames p there (same p) x.frame;
        apart = x.apart;
        asked = x.asked;
        asking = x.asking;
      })
      under p (inr o) = inr o

  delivered_stands : (k : ℕ) (w : World) → Knows w → Stands w → (deliver k w).full ≡ false → Stands (deliver k w)
  delivered_stands k w h z = by (at_place k w.frames) refl
    where
      by : (o : Option Frame) → at_place k w.frames ≡ o → (deliver_frame k w o).full ≡ false → Stands (deliver_frame k w o)
      by None there free = z
      by (Some f) there free = Stepping.steps_stand hd form P hears begins_so fresh f.to (change_frame k as_delivered f w)
          (record { sent = h.sent; header = h.stands.header; numbers = h.stands.numbers; holds = h.holds })
          (marked_stands k as_delivered f w there (λ p is. is) z) (input.Frame k f.from f.message)
          (all_placed (IsSent h.sent) k f w.frames h.stands.frames there)
          (λ a t at live is. never_acts (input.Frame k f.from f.message) refl is) free

  settled_stands : (fuel : ℕ) (w : World) → Knows w → Stands w → (settle_for fuel w).full ≡ false → Stands (settle_for fuel w)
  settled_stands zero w h z free = z
  settled_stands (suc fuel) w h z free = by (lowest w) (λ k. settled_stands fuel (deliver k w)) free
    where
      by : (o : Option ℕ) → ((k : ℕ) → Knows (deliver k w) → Stands (deliver k w) → (settle_for fuel (deliver k w)).full ≡ false →
          Stands (settle_for fuel (deliver k w))) → (Rest fuel w o).full ≡ false → Stands (Rest fuel w o)
      by None ih free = z
      by (Some k) ih free = ih k (deliver_holds hd (λ M. AllKnown hd M × IsGood M) keeps k w h)
          (delivered_stands k w h z (settle_full fuel (deliver k w) free)) free

  settled_known : (fuel : ℕ) (w : World) → Knows w → Knows (settle_for fuel w)
  settled_known zero w h = h
  settled_known (suc fuel) w h = by (lowest w) (λ k. settled_known fuel (deliver k w))
    where
      by : (o : Option ℕ) → ((k : ℕ) → Knows (deliver k w) → Knows (settle_for fuel (deliver k w))) →
          Knows (elim o [ None ↦ w | Some k ↦ settle_for fuel (deliver k w) ])
      by None ih = h
      by (Some k) ih = ih k (deliver_holds hd (λ M. AllKnown hd M × IsGood M) keeps k w h)

  -- ---- ticks

  tick_full : (n : ℕ) (w : World) → (tick_up n w).full ≡ false → w.full ≡ false
  tick_full n w = by (w.full || not (is_up_at n w))
    where
      by : (b : Bool) → (cond b w (steps n input.Tick w)).full ≡ false → w.full ≡ false
      by true is = is
      by false is = steps_full n input.Tick w is

  ticks_full : (ns : List ℕ) (w : World) → (tick_all ns w).full ≡ false → w.full ≡ false
  ticks_full [] w is = is
  ticks_full (n ∷ ns) w is = tick_full n w (ticks_full ns (tick_up n w) is)

  ticks_stand : (ns : List ℕ) (w : World) → Knows w → Stands w → (tick_all ns w).full ≡ false →
      Knows (tick_all ns w) × Stands (tick_all ns w)
  ticks_stand [] w h z free = (h, z)
  ticks_stand (n ∷ ns) w h z free = let one = by (w.full || not (is_up_at n w)) (ticks_full ns (tick_up n w) free) in
      ticks_stand ns (tick_up n w) one.0 one.1 free
    where
      by : (b : Bool) → (cond b w (steps n input.Tick w)).full ≡ false →
          Knows (cond b w (steps n input.Tick w)) × Stands (cond b w (steps n input.Tick w))
      by true free = (h, z)
      by false free = (
        steps_hold hd (λ M. AllKnown hd M × IsGood M) keeps n input.Tick w h tt,
        plain_stands n input.Tick w h refl tt z free,
      )

  -- ---- events

  quiesced_stands : (w : World) → Knows w → Stands w → (quiesce w).full ≡ false → Stands (quiesce w)
  quiesced_stands w h z = by (last).full refl
    where
      ticked : World
      ticked = tick_all (node_numbers w) (settle w)

      last : World
      last = settle (tick_all (node_numbers w) (settle w))

      all : last.full ≡ false → Stands last
      all free =
          let before = settle_full most_frames ticked free in
          let first = settled_stands most_frames w h z (ticks_full (node_numbers w) (settle w) before) in
          let two = ticks_stand (node_numbers w) (settle w) (settled_known most_frames w h) first before in
          settled_stands most_frames ticked two.0 two.1 free

      by : (b : Bool) → last.full ≡ b → (cond b last (says (body.Quiet (is_quiet last) ∷ []) last)).full ≡ false →
          Stands (cond b last (says (body.Quiet (is_quiet last) ∷ []) last))
      by true full free = let no_way : true ≡ false = sym full ∙ free in absurd (cc no_way)
      by false fits free = let s = all fits in record { calls = s.calls; trees = s.trees; asked = s.asked }

  shown_stand : (x : ℕ) (ns : List ℕ) (w : World) → Knows w → Stands w → (show_all x ns w).full ≡ false → Stands (show_all x ns w)
  shown_stand x [] w h z free = z
  shown_stand x (n ∷ ns) w h z free = let one = by (is_up_at n w) (shows_full ns (show_up x n w) free) in
      shown_stand x ns (show_up x n w) one.0 one.1 free
    where
      show_full : (m : ℕ) (v : World) → (show_up x m v).full ≡ false → v.full ≡ false
      show_full m v = one (is_up_at m v)
        where
          one : (b : Bool) → (cond b (steps m (input.Show x) v) v).full ≡ false → v.full ≡ false
          one true is = steps_full m (input.Show x) v is
          one false is = is

      shows_full : (ms : List ℕ) (v : World) → (show_all x ms v).full ≡ false → v.full ≡ false
      shows_full [] v is = is
      shows_full (m ∷ ms) v is = show_full m v (shows_full ms (show_up x m v) is)

      by : (b : Bool) → (cond b (steps n (input.Show x) w) w).full ≡ false →
          Knows (cond b (steps n (input.Show x) w) w) × Stands (cond b (steps n (input.Show x) w) w)
      by true free = (
        steps_hold hd (λ M. AllKnown hd M × IsGood M) keeps n (input.Show x) w h tt,
        plain_stands n (input.Show x) w h refl tt z free,
      )
      by false free = (h, z)

  lost_stands : (k : ℕ) (w : World) → Stands w → Stands (world.lose k w)
  lost_stands k w z = by (at_place k w.frames) refl
    where
      by : (o : Option Frame) → at_place k w.frames ≡ o → Stands (lose_frame k w o)
      by None there = z
      by (Some f) there = let m = marked_stands k as_lost f w there (λ p is. is) z in record { calls = m.calls; trees = m.trees; asked = m.asked }

  junk_stands : (n : ℕ) (w : World) (b : Bool) → Stands w → Stands (junk_fits n w b)
  junk_stands n w false z = record { calls = z.calls; trees = z.trees; asked = z.asked }
  junk_stands n w true z = record {
    calls = λ j a t at live. ways_to j t.coord (IsUnderWay w.frames) (IsUnderWay (w.frames ++ new_frame 0 n None ∷ []))
        (more_frames w.frames (new_frame 0 n None ∷ [])) (z.calls j a t at live);
    trees = z.trees;
    asked = λ j a t at live. asked_more j t.coord w.frames (new_frame 0 n None ∷ []) (z.asked j a t at live);
  }

  begun_stands : (g : Giving) (w : World) → Knows w → Stands w → (begins g w).full ≡ false → Stands (begins g w)
  begun_stands g w h z = by (refused_at (input.Begin g.label g.kind g.parent) w (at_place g.node w.nodes))
    where
      by : (r : Option ℕ) → (steps g.node (input.Begin g.label g.kind g.parent) (labels_unless g w r)).full ≡ false →
          Stands (steps g.node (input.Begin g.label g.kind g.parent) (labels_unless g w r))
      by None free = Stepping.begins_stand hd form P hears begins_so fresh g.node (labels_unless g w None)
          (record { calls = z.calls; trees = z.trees; asked = z.asked })
          h.stands.header h.stands.numbers g.label g.kind g.parent free
      by (Some c) free = Stepping.begins_stand hd form P hears begins_so fresh g.node w z h.stands.header h.stands.numbers g.label g.kind g.parent free

  -- who is asked by the event
  abbrev pub Acts : Event → World → Type 0
  Acts (event.Call l x o) w = MayAct (node_of l w) w (input.Call l x o)
  Acts (event.Include l x n) w = MayAct (node_of l w) w (input.Include l x n)
  Acts (event.Commit l) w = MayAct (node_of l w) w (input.Commit l)
  Acts (event.Abort l) w = MayAct (node_of l w) w (input.Abort l)
  Acts (event.GiveUp l) w = MayAct (node_of l w) w (input.GiveUp l)
  Acts e w = Words.⊤

  pub happens_stand : (e : Event) (a : Arm) (w : World) → Knows w → first_reason (reasons e w) ≡ None → Acts e w → Stands w →
      (happens e a w).full ≡ false → Stands (happens e a w)
  happens_stand (event.Call l x o) a w h none may z free = step_stands (node_of l w) (input.Call l x o) w h tt may z free
  happens_stand (event.Include l x n) a w h none may z free = step_stands (node_of l w) (input.Include l x n) w h
      (let first = first_not 1 (not (is_node n w)) ((5, not (world.is_known l w)) ∷ (6, world.was_given l w) ∷ []) none in
      subst (λ v. (nat_le 1 n && nat_le n v.nodes) ≡ true) h.stands.header (not_not (is_node n w) first.0)) may z free
  happens_stand (event.Commit l) a w h none may z free = step_stands (node_of l w) (input.Commit l) w h tt may z free
  happens_stand (event.Abort l) a w h none may z free = step_stands (node_of l w) (input.Abort l) w h tt may z free
  happens_stand (event.GiveUp l) a w h none may z free = step_stands (node_of l w) (input.GiveUp l) w h tt may z free
  happens_stand (event.Deliver k) a w h none may z free = delivered_stands (frame_number k w) w h z free
  happens_stand (event.Lose k) a w h none may z free = lost_stands (frame_number k w) w z
  happens_stand (event.Tick n) a w h none may z free = plain_stands n input.Tick w h refl tt z free
  happens_stand event.Settle a w h none may z free = settled_stands most_frames w h z free
  happens_stand event.Quiesce a w h none may z free = quiesced_stands w h z free
  happens_stand (event.Crash n) a w h none may z free = plain_stands n input.Crash w h refl tt z free
  happens_stand (event.Restart n) a w h none may z free = plain_stands n input.Restart w h refl tt z free
  happens_stand (event.Stop n c how) a w h none may z free = record { calls = z.calls; trees = z.trees; asked = z.asked }
  happens_stand (event.Junk n bytes) a w h none may z free = junk_stands n w (nat_lt (length w.frames) most_frames) z
  happens_stand (event.Show x) a w h none may z free = shown_stand x (node_numbers w) w h z free
  happens_stand (event.Begin l n) a w h none may z free = begun_stands
      (record { label = l; kind = kind.Top; parent = None; node = n }) w h z free
  happens_stand (event.Serial l n) a w h none may z free = begun_stands
      (record { label = l; kind = kind.Serial; parent = None; node = n }) w h z free
  happens_stand (event.BeginIn l p) a w h none may z free =
      begun_stands (record { label = l; kind = kind_below p w; parent = Some p; node = node_of p w }) w h z free
  happens_stand (event.Top l p) a w h none may z free =
      begun_stands (record { label = l; kind = kind.Independent; parent = Some p; node = node_of p w }) w h z free
