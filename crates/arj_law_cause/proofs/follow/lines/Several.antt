-- What stands in events of several nodes: a settle, a quiesce, and ticks of all.
use Rattle.arj_law_parts.proofs.Words
use Words.{◌≡◌, ◌∙◌, ◌||◌, ◌++◌, not, ℕ, zero, suc, Bool, true, false, cond, List, [], ◌∷◌, refl, sym, ap, subst, inl, inr, Option, Some}
use Words.{None, list_all, append_assoc, append-nil, map-append, at_number, at_place, Body, Header, Node, Parts, Input, Step, World}
use Words.{Frame, Disk, as_delivered, change_frame, cut, deliver, deliver_frame, halted_outs, is_up_at, lowest, most_frames, node_numbers}
use Words.{numbered, settle, settle_for, step, step_node, steps, tick_all, tick_up, bodies}
use Words.body
use Words.input
use Rattle.arj_law_cause.proofs.follow.lines.Fitting
use Fitting.{only_goes}
use Rattle.arj_law_cause.proofs.follow.lines.Saying
use Saying.{Adds, Goes, Led, Tells, fits, is_message_line, list_both, step_adds}
use Rattle.arj_law_cause.proofs.follow.lines.Steps
use Steps.{IsTaken, Nothing, frame_tells, nothing_tells, tick_tells}
use Rattle.arj_law_cause.proofs.follow.lines.Working.{works}

-- ---- lines that stand in events of several nodes

-- a node's work, a frame, a delivery or a halt
abbrev pub stands : Body → Bool
stands (body.Got k) = true
stands (body.Void k) = true
stands (body.Halted n) = true
stands b = works b || is_message_line b

abbrev pub AllStand : List Body → Type 0
AllStand bs = list_all stands bs ≡ true

fits_stand : (b : Body) → fits works b ≡ true → stands b ≡ true
fits_stand (body.Got k) is = refl
fits_stand (body.Void k) is = refl
fits_stand (body.Halted n) is = refl
fits_stand b is = is

goes_stand : (k : ℕ) (bs : List Body) → Goes works k bs → AllStand bs
goes_stand k bs goes = only_goes works stands k bs fits_stand refl goes

led_stand : (Own : List Body → Type 0) → ((own : List Body) → Own own → AllStand own) → (k : ℕ) (bs : List Body) → Led works Own k bs →
    AllStand bs
led_stand Own so k bs l = ap (list_all stands) l.parts ∙ list_both stands l.own l.others (so l.own l.is_own) (goes_stand k l.others l.rest)

taken_stands : (j : ℕ) (own : List Body) → IsTaken j own → AllStand own
taken_stands j own (inl is) = ap (list_all stands) is
taken_stands j own (inr is) = ap (list_all stands) is

nothing_stands : (own : List Body) → Nothing own → AllStand own
nothing_stands own is = ap (list_all stands) is

-- what is said becomes another thing said
weaker : (P Q : List Body → Type 0) (k : ℕ) (d : Disk) (s : Step) → ((bs : List Body) → P bs → Q bs) → Tells P k d s → Tells Q k d s
weaker P Q k d s so t = record {
  through = λ j. so (bodies k j s.outs) (t.through j);
  halted = λ j c how. so (bodies k j (halted_outs k (cut c how s.halting d))) (t.halted j c how);
}

adds_none : (w : World) → Adds AllStand w w
adds_none w = record { added = []; lines = sym (append-nil w.lines); event = refl; has = refl }

adds_both : (w v u : World) → Adds AllStand w v → Adds AllStand v u → Adds AllStand w u
adds_both w v u a b = record {
  added = a.added ++ b.added;
  lines = b.lines ∙ (λ i. a.lines i ++ numbered (a.event i) b.added) ∙ append_assoc w.lines (numbered w.event a.added)
      (numbered w.event b.added)
      ∙ ap (λ ls. w.lines ++ ls) (sym (map-append (λ (c : Body). record { event = w.event; body = c }) a.added b.added));
  event = b.event ∙ a.event;
  has = list_both stands a.added b.added a.has b.has;
}

-- a node takes an input
pub node_adds : (P : List Body → Type 0) (k : ℕ) (i : Input) (w : World) (n : Node) → at_place k w.nodes ≡ Some n →
    Tells P k n.disk (step w.header n i) → Adds P w (steps k i w)
node_adds P k i w n there tells =
    subst (λ (o : Option Node). Adds P w (step_node k i w o)) (sym there) (step_adds P k n (step w.header n i) w (at_number k w.arms) tells)

-- ---- settles, and ticks of all nodes

pub deliver_stands : (j : ℕ) (w : World) → Adds AllStand w (deliver j w)
deliver_stands j w = by (at_place j w.frames)
  where
    at : (f : Frame) (v : World) → Adds AllStand w v → (o : Option Node) → at_place f.to v.nodes ≡ o →
        Adds AllStand v (step_node f.to (input.Frame j f.from f.message) v o)
    at f v a None is = adds_none v
    at f v a (Some n) is = step_adds AllStand f.to n (step v.header n (input.Frame j f.from f.message)) v (at_number f.to v.arms)
        (weaker (Led works (IsTaken j) f.to) AllStand f.to n.disk (step v.header n (input.Frame j f.from f.message))
        (led_stand (IsTaken j) (taken_stands j) f.to) (frame_tells f.to n j v.header f.from f.message))

    by : (o : Option Frame) → Adds AllStand w (deliver_frame j w o)
    by None = adds_none w
    by (Some f) =
        let v = change_frame j as_delivered f w in
        let a : Adds AllStand w v = record { added = []; lines = sym (append-nil w.lines); event = refl; has = refl } in
        adds_both w v (steps f.to (input.Frame j f.from f.message) v) a (at f v a (at_place f.to v.nodes) refl)

pub settle_stands : (fuel : ℕ) (w : World) → Adds AllStand w (settle_for fuel w)
settle_stands zero w = adds_none w
settle_stands (suc fuel) w = by (lowest w) (λ k. adds_both w (deliver k w) (settle_for fuel (deliver k w)) (deliver_stands k w)
    (settle_stands fuel (deliver k w)))
  where
    by : (o : Option ℕ) → ((k : ℕ) → Adds AllStand w (settle_for fuel (deliver k w))) →
        Adds AllStand w (elim o [ None ↦ w | Some k ↦ settle_for fuel (deliver k w) ])
    by None rest = adds_none w
    by (Some k) rest = rest k

-- a tick at a node that is up, or nothing
pub tick_of : (k : ℕ) (hd : Header) (n : Node) → Tells (Led works Nothing k) k n.disk (step hd n input.Tick)
tick_of k hd n = by n.live refl
  where
    by : (o : Option Parts) → n.live ≡ o → Tells (Led works Nothing k) k n.disk (step hd n input.Tick)
    by None is = subst (Tells (Led works Nothing k) k n.disk) (sym (ap (input.step_unless hd input.Tick n)
        (ap (input.refusal_at hd input.Tick) is) ∙ ap (input.step_of hd input.Tick n) is)) (nothing_tells works k n)
    by (Some t) is = subst (Tells (Led works Nothing k) k n.disk) (sym (ap (input.step_unless hd input.Tick n)
        (ap (input.refusal_at hd input.Tick) is) ∙ ap (input.step_of hd input.Tick n) is)) (tick_tells k n t)

pub ticks_stand : (ns : List ℕ) (w : World) → Adds AllStand w (tick_all ns w)
ticks_stand [] w = adds_none w
ticks_stand (k ∷ ns) w = adds_both w (tick_up k w) (tick_all ns (tick_up k w)) (by (w.full || not (is_up_at k w))) (ticks_stand ns
    (tick_up k w))
  where
    at : (o : Option Node) → at_place k w.nodes ≡ o → Adds AllStand w (step_node k input.Tick w o)
    at None is = adds_none w
    at (Some n) is = step_adds AllStand k n (step w.header n input.Tick) w (at_number k w.arms)
        (weaker (Led works Nothing k) AllStand k n.disk (step w.header n input.Tick) (led_stand Nothing nothing_stands k)
        (tick_of k w.header n))

    by : (b : Bool) → Adds AllStand w (cond b w (steps k input.Tick w))
    by true = adds_none w
    by false = at (at_place k w.nodes) refl

-- a quiesce, before its line
pub all_quiesced : (w : World) → Adds AllStand w (settle (tick_all (node_numbers w) (settle w)))
all_quiesced w =
    let v = settle w in
    let u = tick_all (node_numbers w) v in
    adds_both w u (settle u) (adds_both w v u (settle_stands most_frames w) (ticks_stand (node_numbers w) v)) (settle_stands most_frames u)
