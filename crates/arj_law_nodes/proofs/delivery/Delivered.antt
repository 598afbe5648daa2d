-- A frame that is delivered at a node is got or void there.
use Rattle.arj_law_parts.proofs.Words
use Words.{◌≡◌, ◌∙◌, ℕ, zero, suc, Bool, true, false, not, cond, List, [], ◌∷◌, ◌++◌, length, slice_get, refl, sym, ap, subst, inl, inr}
use Words.{Option, Some, None, ◌⊎◌, IfSome, is_some, AllByRecursion, append_assoc, steps_lines, Effect, Say, effects_of, Handled, Parts}
use Words.{Took, Void, taken, whole, Node, Step, first_reason, frame_step, handled_step, refusal_at, step, void_step, at_place, Body}
use Words.{FrameNo, Header, Line, Message, Arm, Frame, World, as_delivered, bodies, change_frame, counted, deliver, deliver_frame}
use Words.{frame_number, happens, is_frame, is_node, limited, reasons, run_event, run_unless}
use Words.input
use Words.body
use Words.event
use Words.frame_no
use Rattle.arj_law_nodes.proofs.Terms
use Terms.{IsWhole, AreForNodes, Delivers, IsTaken}
use Terms.which
use Rattle.arj_law_parts.proofs.steps
use steps.{Spoken.unless, Spoken.unless_is}
use steps.Written.{Says, SaysFirst, first_stands, node_says_first, numbered_in, said_of, stands_behind}
use Rattle.arj_protocol.specs.World.{Asked, says}

-- got or void
abbrev IsSaid : ℕ → Body → Type 0
IsSaid k b = (b ≡ body.Got k) ⊎ (b ≡ body.Void k)

frame_says : (k from : ℕ) (m : Option Message) (hd : Header) (n : Node) →
    Says (IsSaid k) (step hd n (input.Frame k from m)).outs × SaysFirst (IsSaid k) (step hd n (input.Frame k from m)).halting
frame_says k from m hd n = subst (λ (s : Step). Says (IsSaid k) s.outs × SaysFirst (IsSaid k) s.halting)
    (sym (unless_is hd (input.Frame k from m) n (refusal_at hd (input.Frame k from m) n.live))) (by n.live)
  where
    void : (outs : List Effect) → Says (IsSaid k) (void_step k n outs).outs × SaysFirst (IsSaid k) (void_step k n outs).halting
    void outs = (
      record {
        line = body.Void k;
        stands = stands_behind (Say (body.Void k)) outs (Say (body.Void k) ∷ []) (first_stands (Say (body.Void k)) []);
        holds = inr refl;
      },
      record { line = body.Got k; rest = outs; are = refl; holds = inl refl },
    )

    handled : (h : Handled) → Says (IsSaid k) (handled_step k n h).outs × SaysFirst (IsSaid k) (handled_step k n h).halting
    handled (Void outs) = void outs
    handled (Took t outs) = (
      record { line = body.Got k; stands = first_stands (Say (body.Got k)) (whole n.number t outs n.disk).outs; holds = inl refl },
      record { line = body.Got k; rest = (whole n.number t outs n.disk).outs; are = refl; holds = inl refl },
    )

    read : (t : Parts) (x : Option Message) →
        Says (IsSaid k) (frame_step k from n t x).outs × SaysFirst (IsSaid k) (frame_step k from n t x).halting
    read t None = void []
    read t (Some x) = handled (taken n.number n.disk t from x)

    by : (o : Option Parts) → Says (IsSaid k) (unless hd (input.Frame k from m) n (refusal_at hd (input.Frame k from m) o) o).outs
        × SaysFirst (IsSaid k) (unless hd (input.Frame k from m) n (refusal_at hd (input.Frame k from m) o) o).halting
    by None = void []
    by (Some t) = read t m

-- a limit's line comes behind
limited_taken : (k : ℕ) (w v : World) → IsTaken k w v → IsTaken k w (limited v)
limited_taken k w v t = by v.full
  where
    more : Line
    more = record { event = v.event; body = body.Limit which.Frames }

    by : (b : Bool) → IsTaken k w (cond b (says (body.Limit which.Frames ∷ []) (record v { over = true })) v)
    by false = t
    by true = record {
      before = t.before;
      line = t.line;
      after = t.after ++ more ∷ [];
      are = ap (λ ls. ls ++ more ∷ []) t.are ∙ (append_assoc w.lines (t.before ++ t.line ∷ t.after) (more ∷ [])
          ∙ ap (λ ls. w.lines ++ ls) (append_assoc t.before (t.line ∷ t.after) (more ∷ [])));
      taken = t.taken;
    }

-- the frame of a number, where each is for a node
its_node : (w : World) (k : ℕ) (f : Frame) → AreForNodes w → at_place k w.frames ≡ Some f → is_node f.to w ≡ true
its_node w zero f all is = let no_way : ◌≡◌ {A = Option Frame} None (Some f) = is in absurd (cc no_way)
its_node w (suc j) f all is = by w.frames j all is
  where
    by : (fs : List Frame) (i : ℕ) → AllByRecursion (λ (g : Frame). is_node g.to w ≡ true) fs → slice_get fs i ≡ Some f →
        is_node f.to w ≡ true
    by [] i q at = let no_way : ◌≡◌ {A = Option Frame} None (Some f) = at in absurd (cc no_way)
    by (g ∷ gs) zero q at = let same : g ≡ f = cc at in ap (λ (z : Frame). is_node z.to w) (sym same) ∙ q.0
    by (g ∷ gs) (suc i) q at = by gs i q.1 at

pub each_for_node : (k : FrameNo) (w : World) → AreForNodes w →
    IfSome (at_place (frame_number k w) w.frames) (λ (f : Frame). is_node f.to w ≡ true)
each_for_node k w all = by (at_place (frame_number k w) w.frames) refl
  where
    by : (o : Option Frame) → at_place (frame_number k w) w.frames ≡ o → IfSome o (λ (f : Frame). is_node f.to w ≡ true)
    by None is = tt
    by (Some f) is = its_node w (frame_number k w) f all is

module _ (w : World) (good : IsWhole w) (all : AreForNodes w) where
  taken_at : (k : ℕ) → is_some (at_place k w.frames) ≡ true → IsTaken k w (deliver k (counted w))
  taken_at k there = by (at_place k w.frames) refl there
    where
      by : (o : Option Frame) → at_place k w.frames ≡ o → is_some o ≡ true → IsTaken k w (deliver_frame k (counted w) o)
      by None at isnt = let no_way : false ≡ true = isnt in absurd (cc no_way)
      by (Some f) at is =
          let v : World = change_frame k as_delivered f (counted w) in
          let i = input.Frame k f.from f.message in
          let x = node_says_first (IsSaid k) f.to i v (good.nodes f.to (its_node w k f all at))
          (λ m it. frame_says k f.from f.message w.header m) in
          let s = numbered_in v.event x.line (bodies f.to (length v.frames) (effects_of f.to i v))
          (said_of f.to (length v.frames) x.line (effects_of f.to i v) x.stands) in
          record {
            before = s.before;
            line = record { event = v.event; body = x.line };
            after = s.after;
            are = steps_lines f.to i v ∙ ap (λ ls. w.lines ++ ls) s.are;
            taken = x.holds;
          }

  accepted : (a : Arm) (k : FrameNo) → is_frame k w ≡ true →
      IsTaken (frame_number k w) w (limited (happens (event.Deliver k) a (counted w)))
  accepted a (frame_no.Number k) is = limited_taken k w (deliver k (counted w)) (taken_at k is)
  accepted a frame_no.Last is = limited_taken (length w.frames) w (deliver (length w.frames) (counted w)) (taken_at (length w.frames) is)

  unrefused : (k : FrameNo) → is_frame k w ≡ true → first_reason (reasons (event.Deliver k) w) ≡ None
  unrefused k is = by (is_frame k w) is
    where
      by : (b : Bool) → b ≡ true → first_reason ((17, not b) ∷ []) ≡ None
      by true same = refl
      by false same = let no_way : false ≡ true = same in absurd (cc no_way)

  -- a delivery that isn't refused
  pub delivery_taken : (e : Asked) (k : FrameNo) → Delivers e.event k w → IsTaken (frame_number k w) w (run_event e w)
  delivery_taken e k d =
      subst (λ b. IsTaken (frame_number k w) w (cond b w (run_unless e.event e.arm w (first_reason (reasons e.event w))))) (sym d.running)
      (subst (λ z. IsTaken (frame_number k w) w (run_unless z e.arm w (first_reason (reasons z w)))) (sym d.delivery) (subst
      (λ r. IsTaken (frame_number k w) w (run_unless (event.Deliver k) e.arm w r)) (sym (unrefused k d.frame)) (accepted e.arm k d.frame)))
