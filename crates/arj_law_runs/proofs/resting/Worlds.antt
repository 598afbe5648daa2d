-- What answers whoever waits stays under way from frame to frame, and a tick sends it for all who wait at its node.
use Rattle.arj_law_parts.proofs.Words
use Words.{◌≡◌, ◌≢◌, ◌≤◌, ◌⊎◌, ◌∙◌, ◌+◌, ◌-◌, ℕ, zero, suc, Bool, true, false, cond, List, [], ◌∷◌, ◌++◌, refl, sym, ap, subst, inl, inr}
use Words.{⊎_elim, Option, Some, None, IfSome, eqb-true, arith, length, ◌&&◌, ◌||◌, ◌==◌, nat_le, nat_lt, slice_get, slice_set}
use Words.{if◌then◌else◌, is_some, AllByRecursion, nat_tests, in_from, in_to, in_left, in_right, place_other, taken_took, Body, Header}
use Words.{Line, Message, again_all, Disk, Do, Effect, Say, Send, tick_outs, Handled, Here, Parts, Took, Void, taken, whole, with_coord}
use Words.{at_number, Input, Node, Step, handled_step, step, at_place, set_place, Arm, Frame, World, armed, as_delivered, bodies}
use Words.{change_frame, count_works, cut, deliver, deliver_frame, disarmed, done_step, frames_with, halted_at, is_open_frame, is_up}
use Words.{is_up_at, lowest, lowest_from, new_frame, numbered, sends, sent_line, settle_for, step_node, step_with, steps, Post}
use Words.{Seen, see, IsSaid, most_frames}
use Words.list as members
use Words.body
use Words.input
use Rattle.arj_law_runs.proofs.Terms
use Terms.{HasPlace, Holds, IsSent, KeepsAsked, In, up, Up, Walks, AreLooks, LooksAlone, taken_looks, taken_meant, deliver_holds}
use Terms.{place_same}
use Rattle.arj_law_parts.proofs.steps.Frames.{IsOpenAt, lowest_open}
use Rattle.arj_law_runs.proofs.coordinators.CoordUses.{some_is}
use Rattle.arj_law_runs.proofs.resting
use resting.{Effects.looks_send, Effects.works, Ways.AllBut, Ways.Then, Ways.post_of}
use resting.Flights.{Left, MayGrow, MessagesKeep, SameWay, in_either, whole_keeps, with_here}
use Rattle.arj_protocol.specs.World.{overflows}
use Rattle.std.proofs.lemmas.List.{take_all}

-- ---- frames

-- an open frame has it
pub record Under (frames : List Frame) (p : Post) : Type 0 where
  pub frame : Frame
  pub there : members.In frame frames
  pub opened : is_open_frame frame ≡ true
  pub from : frame.from ≡ p.from
  pub to : frame.to ≡ p.to
  pub message : frame.message ≡ Some p.message

in_sliced : (k : ℕ) (f g h : Frame) (fs : List Frame) → slice_get fs k ≡ Some g → members.In f fs →
    (g ≡ f) ⊎ members.In f (slice_set fs k h)
in_sliced k f g h [] at i = absurd i
in_sliced zero f g h (e ∷ es) at (inl is) = let same : e ≡ g = cc at in inl (sym same ∙ is)
in_sliced zero f g h (e ∷ es) at (inr i) = inr (inr i)
in_sliced (suc k) f g h (e ∷ es) at (inl is) = inr (inl is)
in_sliced (suc k) f g h (e ∷ es) at (inr i) = ⊎_elim (λ a. inl a) (λ b. inr (inr b)) (in_sliced k f g h es at i)

-- a frame is delivered: what else is under way stays so
but_delivered : (k : ℕ) (f : Frame) (m : Message) (fs : List Frame) → at_place k fs ≡ Some f → f.message ≡ Some m →
    AllBut (post_of f.from f.to m) (Under fs) (Under (set_place k (as_delivered f) fs))
but_delivered zero f m fs at is p u = absurd (cc at)
but_delivered (suc k) f m fs at is p u = ⊎_elim
    (λ same. inl (λ i. record {
      from = (sym u.from ∙ ap (λ (g : Frame). g.from) (sym same)) i;
      to = (sym u.to ∙ ap (λ (g : Frame). g.to) (sym same)) i;
      message = some_is p.message m (sym u.message ∙ ap (λ (g : Frame). g.message) (sym same) ∙ is) i;
    }))
    (λ i. inr (record { frame = u.frame; there = i; opened = u.opened; from = u.from; to = u.to; message = u.message }))
    (in_sliced k u.frame f (as_delivered f) fs at u.there)

-- and it was under way before
before_delivered : (k : ℕ) (f : Frame) (fs : List Frame) (p : Post) → Under (set_place k (as_delivered f) fs) p → Under fs p
before_delivered zero f fs p u = u
before_delivered (suc k) f fs p u = ⊎_elim (λ same. let no_way : false ≡ true = ap is_open_frame same ∙ u.opened in absurd (cc no_way))
    (λ i. record { frame = u.frame; there = i; opened = u.opened; from = u.from; to = u.to; message = u.message }) (back k fs u.there)
  where
    back : (j : ℕ) (gs : List Frame) → members.In u.frame (slice_set gs j (as_delivered f)) →
        (as_delivered f ≡ u.frame) ⊎ members.In u.frame gs
    back j [] i = inr i
    back zero (g ∷ gs) (inl is) = inl is
    back zero (g ∷ gs) (inr i) = inr (inr i)
    back (suc j) (g ∷ gs) (inl is) = inr (inl is)
    back (suc j) (g ∷ gs) (inr i) = ⊎_elim (λ a. inl a) (λ b. inr (inr b)) (back j gs i)

-- bytes that are no message are under way for nobody
junk_delivered : (k : ℕ) (f : Frame) (fs : List Frame) → at_place k fs ≡ Some f → f.message ≡ None → (p : Post) → Under fs p →
    Under (set_place k (as_delivered f) fs) p
junk_delivered zero f fs at is p u = absurd (cc at)
junk_delivered (suc k) f fs at is p u = ⊎_elim
    (λ same. let no_way : ◌≡◌ {A = Option Message} None (Some p.message) = sym is ∙ ap (λ (g : Frame). g.message) same ∙ u.message in
    absurd (cc no_way))
    (λ i. record { frame = u.frame; there = i; opened = u.opened; from = u.from; to = u.to; message = u.message })
    (in_sliced k u.frame f (as_delivered f) fs at u.there)

frame_there : (k : ℕ) (f : Frame) (fs : List Frame) → at_place k fs ≡ Some f → members.In f fs
frame_there zero f fs at = absurd (cc at)
frame_there (suc k) f fs at = found k fs at
  where
    found : (j : ℕ) (gs : List Frame) → slice_get gs j ≡ Some f → members.In f gs
    found j [] at = absurd (cc at)
    found zero (g ∷ gs) at = inl (some_is g f at)
    found (suc j) (g ∷ gs) at = inr (found j gs at)

-- no frame is open: nothing is under way
pub none_under : (k : ℕ) (fs : List Frame) → lowest_from k fs ≡ None → (f : Frame) → members.In f fs → is_open_frame f ≡ true → ⊥
none_under k [] none f i opened = i
none_under k (e ∷ es) none f i opened = by (is_open_frame e) refl none i (λ low j. none_under (k + 1) es low f j opened)
  where
    by : (b : Bool) → is_open_frame e ≡ b → cond b (Some k) (lowest_from (k + 1) es) ≡ None → members.In f (e ∷ es) →
        (lowest_from (k + 1) es ≡ None → members.In f es → ⊥) → ⊥
    by true is low i rest = absurd (cc low)
    by false is low (inl same) rest = let no_way : false ≡ true = sym is ∙ ap is_open_frame same ∙ opened in absurd (cc no_way)
    by false is low (inr i) rest = rest low i

-- frames that fit
fitting : (frames new : List Frame) → overflows frames new ≡ false → frames_with frames new ≡ frames ++ new
fitting frames new fits = ap (λ xs. frames ++ xs) (take_all (most_frames - length frames) new (room (length frames) (length new) fits))
  where
    room : (a b : ℕ) → nat_lt most_frames (a + b) ≡ false → b ≤ most_frames - a
    room a b fits = grind (arith, nat_tests)

sent_frame : (n : ℕ) (outs : List Effect) (to : ℕ) (m : Message) → members.In (Send to m) outs →
    members.In (new_frame n to (Some m)) (sends n outs)
sent_frame n [] to m i = absurd i
sent_frame n (Do w ∷ es) to m (inl is) = absurd (cc is)
sent_frame n (Do w ∷ es) to m (inr i) = sent_frame n es to m i
sent_frame n (Say b ∷ es) to m (inl is) = absurd (cc is)
sent_frame n (Say b ∷ es) to m (inr i) = sent_frame n es to m i
sent_frame n (Send j x ∷ es) to m (inl is) = inl (same j to x m is)
  where
    same : (a b : ℕ) (y z : Message) → Send a y ≡ Send b z → new_frame n a (Some y) ≡ new_frame n b (Some z)
    same a b y z is = let to_is : a ≡ b = cc is in let m_is : y ≡ z = cc is in λ i. new_frame n (to_is i) (Some (m_is i))
sent_frame n (Send j x ∷ es) to m (inr i) = inr (sent_frame n es to m i)

-- what a step sends is under way, with what was
then_under : (n : ℕ) (outs : List Effect) (frames : List Frame) → overflows frames (sends n outs) ≡ false → (p : Post) →
    Then (Under frames) n outs p → Under (frames_with frames (sends n outs)) p
then_under n outs frames fits p (inl u) = record {
  frame = u.frame;
  there = subst (members.In u.frame) (sym (fitting frames (sends n outs) fits)) (in_left u.frame frames (sends n outs) u.there);
  opened = u.opened;
  from = u.from;
  to = u.to;
  message = u.message;
}
then_under n outs frames fits p (inr s) = record {
  frame = new_frame n p.to (Some p.message);
  there = subst (members.In (new_frame n p.to (Some p.message))) (sym (fitting frames (sends n outs) fits))
      (in_right (new_frame n p.to (Some p.message)) frames (sends n outs) (sent_frame n outs p.to p.message s.1));
  opened = refl;
  from = sym s.0;
  to = refl;
  message = refl;
}

from_sends : (n : ℕ) (outs : List Effect) (f : Frame) → members.In f (sends n outs) →
    (to : ℕ) × (m : Message) × members.In (Send to m) outs × (f ≡ new_frame n to (Some m))
from_sends n [] f i = absurd i
from_sends n (Do w ∷ es) f i = let r = from_sends n es f i in (r.0, r.1, inr r.2, r.3)
from_sends n (Say b ∷ es) f i = let r = from_sends n es f i in (r.0, r.1, inr r.2, r.3)
from_sends n (Send to m ∷ es) f (inl is) = (to, m, inl refl, sym is)
from_sends n (Send to m ∷ es) f (inr i) = let r = from_sends n es f i in (r.0, r.1, inr r.2, r.3)

-- and nothing else is
under_then : (n : ℕ) (outs : List Effect) (frames : List Frame) → overflows frames (sends n outs) ≡ false → (p : Post) →
    Under (frames_with frames (sends n outs)) p → Then (Under frames) n outs p
under_then n outs frames fits p u = by frames (subst (members.In u.frame) (fitting frames (sends n outs) fits) u.there)
    (λ i. inl (record { frame = u.frame; there = i; opened = u.opened; from = u.from; to = u.to; message = u.message }))
  where
    sent : members.In u.frame (sends n outs) → Then (Under frames) n outs p
    sent i =
        let r = from_sends n outs u.frame i in
        let from : n ≡ p.from = ap (λ (f : Frame). f.from) (sym r.3) ∙ u.from in
        let to : r.0 ≡ p.to = ap (λ (f : Frame). f.to) (sym r.3) ∙ u.to in
        let message : r.1 ≡ p.message = some_is r.1 p.message (ap (λ (f : Frame). f.message) (sym r.3) ∙ u.message) in
        inr (sym from, subst (λ e. members.In e outs) (λ i. Send (to i) (message i)) r.2)

    by : (fs : List Frame) → members.In u.frame (fs ++ sends n outs) → (members.In u.frame fs → Then (Under frames) n outs p) →
        Then (Under frames) n outs p
    by [] i old = sent i
    by (f ∷ fs) (inl is) old = old (inl is)
    by (f ∷ fs) (inr i) old = by fs i (λ there. old (inr there))

-- ---- lines

body_there : (n j : ℕ) (outs : List Effect) (b : Body) → members.In (Say b) outs → members.In b (bodies n j outs)
body_there n j [] b i = absurd i
body_there n j (Do w ∷ es) b (inl is) = absurd (cc is)
body_there n j (Do w ∷ es) b (inr i) = body_there n j es b i
body_there n j (Say c ∷ es) b (inl is) = inl (same c b is)
  where
    same : (x y : Body) → Say x ≡ Say y → x ≡ y
    same x y is = cc is
body_there n j (Say c ∷ es) b (inr i) = inr (body_there n j es b i)
body_there n j (Send to m ∷ es) b (inl is) = absurd (cc is)
body_there n j (Send to m ∷ es) b (inr i) = in_right b (sent_line (j + 1) n to _) (bodies n (j + 1) es) (body_there n (j + 1) es b i)

pub said_more : (lines more : List Line) (b : Body) → IsSaid lines b → IsSaid (lines ++ more) b
said_more lines more b s = (s.0, in_to s.0 (lines ++ more) (in_left s.0 lines more (in_from s.0 lines s.1)), s.2)

said_new : (lines : List Line) (e : ℕ) (bs : List Body) (b : Body) → members.In b bs → IsSaid (lines ++ numbered e bs) b
said_new lines e bs b i =
    (record { event = e; body = b }, in_to _ (lines ++ numbered e bs) (in_right _ lines (numbered e bs) (line bs i)), refl)
  where
    line : (cs : List Body) → members.In b cs → members.In (record { event = e; body = b }) (numbered e cs)
    line [] i = absurd i
    line (c ∷ cs) (inl is) = inl (λ i. record { event = e; body = is i })
    line (c ∷ cs) (inr i) = inr (line cs i)

then_said : (n j e : ℕ) (outs : List Effect) (lines : List Line) (b : Body) → IsSaid lines b ⊎ members.In (Say b) outs →
    IsSaid (lines ++ numbered e (bodies n j outs)) b
then_said n j e outs lines b (inl s) = said_more lines (numbered e (bodies n j outs)) b s
then_said n j e outs lines b (inr i) = said_new lines e (bodies n j outs) b (body_there n j outs b i)

-- ---- worlds

-- a world's nodes
abbrev pub nodes_in : World → ℕ → Option Node
nodes_in w k = at_place k w.nodes

-- a node put in its place
placed_here : (n : ℕ) (a : Node) (h : Here) (ns : List Node) → at_place n ns ≡ Some a →
    (λ k. at_place k (set_place n (record { number = n; disk = h.disk; live = Some h.parts }) ns)) ≡ with_here n h (λ k. at_place k ns)
placed_here n a h ns there = λ i k. by k (k == n) refl i
  where
    b : Node
    b = record { number = n; disk = h.disk; live = Some h.parts }

    apart : (k : ℕ) → (k == n) ≡ false → k ≢ n
    apart k e = grind (arith, nat_tests)

    by : (k : ℕ) (t : Bool) → (k == n) ≡ t → at_place k (set_place n b ns) ≡ (if t then Some b else at_place k ns)
    by k true e = ap (λ j. at_place j (set_place n b ns)) (eqb-true k n e) ∙ place_same n b a ns there
    by k false e = place_other n k b ns (apart k e)

-- a node that stands there already
pub there_here : (n : ℕ) (h : Here) (ns : List Node) → at_place n ns ≡ Some (record { number = n; disk = h.disk; live = Some h.parts }) →
    (λ k. at_place k ns) ≡ with_here n h (λ k. at_place k ns)
there_here n h ns there = λ i k. by k (k == n) refl i
  where
    by : (k : ℕ) (t : Bool) → (k == n) ≡ t →
        at_place k ns ≡ (if t then Some (record { number = n; disk = h.disk; live = Some h.parts }) else at_place k ns)
    by k true e = ap (λ j. at_place j ns) (eqb-true k n e) ∙ there
    by k false e = refl

-- ---- a step

-- a node that is up is there, with its memory
pub record IsLive (k : ℕ) (w : World) : Type 0 where
  pub node : Node
  pub parts : Parts
  pub there : at_place k w.nodes ≡ Some node
  pub live : node.live ≡ Some parts

pub live_at : (k : ℕ) (w : World) → is_up_at k w ≡ true → IsLive k w
live_at k w = by (at_place k w.nodes) refl
  where
    lives : (n : Node) → at_place k w.nodes ≡ Some n → (o : Option Parts) → n.live ≡ o → is_some o ≡ true → IsLive k w
    lives n there None is h = absurd (cc h)
    lives n there (Some t) is h = record { node = n; parts = t; there = there; live = is }

    by : (o : Option Node) → at_place k w.nodes ≡ o → is_up o ≡ true → IsLive k w
    by None none h = absurd (cc h)
    by (Some n) there h = lives n there n.live refl h

up_some : (k : ℕ) (w : World) (n : Node) → at_place k w.nodes ≡ Some n → is_up_at k w ≡ is_some n.live
up_some k w n there = ap is_up there

-- a step by which a node that is down stays down
abbrev KeepsDown : Node → Step → Type 0
KeepsDown n s = n.live ≡ None → s.after.live ≡ None

not_up : {P : Type 0} (o : Option Parts) → o ≡ None → is_some o ≡ true → P
not_up o none is = absurd (cc (sym (ap (λ (x : Option Parts). is_some x) none) ∙ is))

-- who is up behind such a step was up before it
up_before : (k n : ℕ) (a : Node) (s : Step) (w : World) (arm : Option Arm) → at_place n w.nodes ≡ Some a → KeepsDown a s →
    is_up_at k (step_with n a s w arm) ≡ true → is_up_at k w ≡ true
up_before k n a s w arm there down is = by arm is
  where
    apart : (k == n) ≡ false → k ≢ n
    apart e = grind (arith, nat_tests)

    -- a node that is put there
    put_there : (b : Node) → (a.live ≡ None → b.live ≡ None) → is_up (at_place k (set_place n b w.nodes)) ≡ true → is_up_at k w ≡ true
    put_there b still h = one (k == n) refl
      where
        one : (t : Bool) → (k == n) ≡ t → is_up_at k w ≡ true
        one true e =
            let at : at_place k (set_place n b w.nodes) ≡ Some b = ap (λ j. at_place j (set_place n b w.nodes)) (eqb-true k n e)
            ∙ place_same n b a w.nodes there in
            let live : is_some b.live ≡ true = sym (ap is_up at) ∙ h in
            ap (λ j. is_up_at j w) (eqb-true k n e) ∙ up_some n w a there ∙ was a.live refl live
          where
            was : (o : Option Parts) → a.live ≡ o → is_some b.live ≡ true → is_some o ≡ true
            was None none live = not_up b.live (still none) live
            was (Some t) some live = refl
        one false e = sym (ap is_up (place_other n k b w.nodes (apart e))) ∙ h

    by : (o : Option Arm) → is_up_at k (step_with n a s w o) ≡ true → is_up_at k w ≡ true
    by None h = put_there s.after down h
    by (Some r) h = two (nat_lt (count_works s.halting) r.works) h
      where
        two : (t : Bool) → is_up_at k (if t then done_step n s (armed n (record r { works = r.works - count_works s.halting }) w) else
            halted_at n a (cut (r.works - 1) r.how s.halting a.disk) (disarmed n w)) ≡ true → is_up_at k w ≡ true
        two true h = put_there s.after down h
        two false h = put_there (record a { disk = (cut (r.works - 1) r.how s.halting a.disk).disk; live = None }) (λ none. refl) h

-- a node that is up behind its own step wasn't stopped in it: whatever holds of what was done
pub was_done : (P : World → Type 0) (n : ℕ) (a : Node) (s : Step) (w : World) (arm : Option Arm) → at_place n w.nodes ≡ Some a →
    is_up_at n (step_with n a s w arm) ≡ true
    → ((arms : List (ℕ × Arm)) → P (done_step n s (record w { arms = arms }))) → P (step_with n a s w arm)
was_done P n a s w None there is each = each w.arms
was_done P n a s w (Some r) there is each = by (nat_lt (count_works s.halting) r.works) is
  where
    by : (t : Bool) → is_up_at n (if t then done_step n s (armed n (record r { works = r.works - count_works s.halting }) w) else halted_at
        n a (cut (r.works - 1) r.how s.halting a.disk) (disarmed n w)) ≡ true
        → P (if t then done_step n s (armed n (record r { works = r.works - count_works s.halting }) w) else halted_at n a
        (cut (r.works - 1) r.how s.halting a.disk) (disarmed n w))
    by true h = each (armed n (record r { works = r.works - count_works s.halting }) w).arms
    by false h = let b : Node = record a { disk = (cut (r.works - 1) r.how s.halting a.disk).disk; live = None } in
        absurd (cc (sym (ap is_up (place_same n b a w.nodes there)) ∙ h))

-- what is full stays so
full_before : (n : ℕ) (a : Node) (s : Step) (w : World) (arm : Option Arm) → (step_with n a s w arm).full ≡ false → w.full ≡ false
full_before n a s w None h = first w.full _ h
  where
    first : (x y : Bool) → (x || y) ≡ false → x ≡ false
    first true y is = absurd (cc is)
    first false y is = refl
full_before n a s w (Some r) h = by (nat_lt (count_works s.halting) r.works) h
  where
    first : (x y : Bool) → (x || y) ≡ false → x ≡ false
    first true y is = absurd (cc is)
    first false y is = refl

    by : (t : Bool) → (if t then done_step n s (armed n (record r { works = r.works - count_works s.halting }) w) else halted_at n a
        (cut (r.works - 1) r.how s.halting a.disk) (disarmed n w)).full ≡ false → w.full ≡ false
    by true h = first w.full _ h
    by false h = first w.full _ h

-- the nodes of a header
abbrev pub Of : Header → ℕ → Type 0
Of hd k = (nat_le 1 k && nat_le k hd.nodes) ≡ true

-- each of them is up
abbrev pub Ups : Header → World → Type 0
Ups hd w = (k : ℕ) → Of hd k → is_up_at k w ≡ true

-- an input that a node which is down doesn't take
abbrev IsIdle : Input → Type 0
IsIdle i = (hd : Header) (n : ℕ) (d : Disk) → (step hd (record { number = n; disk = d; live = None }) i).after.live ≡ None

down_keeps : (hd : Header) (i : Input) → IsIdle i → (a : Node) → KeepsDown a (step hd a i)
down_keeps hd i idle a none = subst (λ (x : Node). (step hd x i).after.live ≡ None)
    (λ j. record { number = a.number; disk = a.disk; live = sym none j }) (idle hd a.number a.disk)

pub steps_up : (k n : ℕ) (i : Input) (w : World) → IsIdle i → is_up_at k (steps n i w) ≡ true → is_up_at k w ≡ true
steps_up k n i w idle = by (at_place n w.nodes) refl
  where
    by : (o : Option Node) → at_place n w.nodes ≡ o → is_up_at k (step_node n i w o) ≡ true → is_up_at k w ≡ true
    by None there is = is
    by (Some a) there is = up_before k n a (step w.header a i) w (at_number n w.arms) there (down_keeps w.header i idle a) is

pub steps_full : (n : ℕ) (i : Input) (w : World) → (steps n i w).full ≡ false → w.full ≡ false
steps_full n i w = by (at_place n w.nodes)
  where
    by : (o : Option Node) → (step_node n i w o).full ≡ false → w.full ≡ false
    by None is = is
    by (Some a) is = full_before n a (step w.header a i) w (at_number n w.arms) is

pub frame_idle : (k from : ℕ) (m : Option Message) → IsIdle (input.Frame k from m)
frame_idle k from m hd n d = refl

pub tick_idle : IsIdle input.Tick
tick_idle hd n d = refl

deliver_up : (hd : Header) (k : ℕ) (w : World) → Ups hd (deliver k w) → Ups hd w
deliver_up hd k w ups j of = by (at_place k w.frames) (ups j of)
  where
    by : (o : Option Frame) → is_up_at j (deliver_frame k w o) ≡ true → is_up_at j w ≡ true
    by None is = is
    by (Some f) is = steps_up j f.to (input.Frame k f.from f.message) (change_frame k as_delivered f w) (frame_idle k f.from f.message) is

deliver_full : (k : ℕ) (w : World) → (deliver k w).full ≡ false → w.full ≡ false
deliver_full k w = by (at_place k w.frames)
  where
    by : (o : Option Frame) → (deliver_frame k w o).full ≡ false → w.full ≡ false
    by None is = is
    by (Some f) is = steps_full f.to (input.Frame k f.from f.message) (change_frame k as_delivered f w) is

-- a line is no message
said_sends : {b : Body} {to : ℕ} {m : Message} → Say b ≡ Send to m → ⊥
said_sends is = absurd (cc is)

-- a node is what stands in its place
pub seen_up : (P : Seen → Type 0) (n : ℕ) (a : Node) (t : Parts) (sent : List Post) (w : World) → at_place n w.nodes ≡ Some a →
    a.number ≡ n → a.live ≡ Some t → P (see sent w) → P (up n a.disk t (see sent w))
seen_up P n a t sent w there is live h =
    subst (λ f. P (record (see sent w) { nodes = f })) (λ i m. same m i) h
  where
    mine : Node
    mine = record { number = n; disk = a.disk; live = Some t }

    a_is : a ≡ mine
    a_is = λ i. record { number = is i; disk = a.disk; live = live i }

    by : (m : ℕ) (b : Bool) → (m == n) ≡ b → at_place m w.nodes ≡ (if b then Some mine else at_place m w.nodes)
    by m true e = ap (λ j. at_place j w.nodes) (eqb-true m n e) ∙ there ∙ ap Some a_is
    by m false e = refl

    same : (m : ℕ) → at_place m w.nodes ≡ (if m == n then Some mine else at_place m w.nodes)
    same m = by m (m == n) refl

-- a frame has a place, where it has no message
frame_placed : (k : ℕ) (f : Frame) (hd : Header) (fs : List Frame) → at_place k fs ≡ Some f →
    AllByRecursion (λ (g : Frame). HasPlace hd g.to g.message) fs → HasPlace hd f.to f.message
frame_placed zero f hd fs at all = absurd (cc at)
frame_placed (suc k) f hd fs at all = found k fs at all
  where
    found : (j : ℕ) (gs : List Frame) → slice_get gs j ≡ Some f → AllByRecursion (λ (g : Frame). HasPlace hd g.to g.message) gs →
        HasPlace hd f.to f.message
    found j [] at all = absurd (cc at)
    found zero (g ∷ gs) at all = let same : g ≡ f = cc at in subst (λ (e : Frame). HasPlace hd e.to e.message) same all.0
    found (suc j) (g ∷ gs) at all = found j gs at all.1

-- what is settled from the lowest open frame on
abbrev after_lowest : ℕ → World → Option ℕ → World
after_lowest fuel w o = elim o [ None ↦ w | Some k ↦ settle_for fuel (deliver k w) ]

pub settle_up : (hd : Header) (fuel : ℕ) (w : World) → Ups hd (settle_for fuel w) → Ups hd w
settle_up hd zero w ups = ups
settle_up hd (suc fuel) w ups = by (lowest w) (λ k. settle_up hd fuel (deliver k w)) ups
  where
    by : (o : Option ℕ) → ((k : ℕ) → Ups hd (settle_for fuel (deliver k w)) → Ups hd (deliver k w)) → Ups hd (after_lowest fuel w o) →
        Ups hd w
    by None rest ups = ups
    by (Some k) rest ups = deliver_up hd k w (rest k ups)

pub settle_full : (fuel : ℕ) (w : World) → (settle_for fuel w).full ≡ false → w.full ≡ false
settle_full zero w is = is
settle_full (suc fuel) w is = by (lowest w) (λ k. settle_full fuel (deliver k w)) is
  where
    by : (o : Option ℕ) → ((k : ℕ) → (settle_for fuel (deliver k w)).full ≡ false → (deliver k w).full ≡ false) →
        (after_lowest fuel w o).full ≡ false → w.full ≡ false
    by None rest is = is
    by (Some k) rest is = deliver_full k w (rest k is)

-- a frame's message was sent
frame_sent : (k : ℕ) (f : Frame) (m : Message) (sent : List Post) (fs : List Frame) → at_place k fs ≡ Some f → f.message ≡ Some m →
    AllByRecursion (IsSent sent) fs → In (post_of f.from f.to m) sent
frame_sent zero f m sent fs at is all = absurd (cc at)
frame_sent (suc k) f m sent fs at is all =
    subst (λ (o : Option Message). IfSome o (λ x. In (post_of f.from f.to x) sent)) is (found k fs at all)
  where
    found : (j : ℕ) (gs : List Frame) → slice_get gs j ≡ Some f → AllByRecursion (IsSent sent) gs → IsSent sent f
    found j [] at all = absurd (cc at)
    found zero (g ∷ gs) at all = let same : g ≡ f = cc at in subst (IsSent sent) same all.0
    found (suc j) (g ∷ gs) at all = found j gs at all.1

module _ (I : (ℕ → Option Node) → (Post → Type 0) → (Body → Type 0) → Type 0) (more : MayGrow I) where
  -- in the world, with its open frames and its lines
  abbrev pub Flown : World → Type 0
  Flown w = I (nodes_in w) (Under w.frames) (IsSaid w.lines)

  -- a step that was done
  pub done_flown : (n : ℕ) (a : Node) (h : Here) (outs halting : List Effect) (w : World) → at_place n w.nodes ≡ Some a →
      let s : Step = record { outs = outs; halting = halting; after = record { number = n; disk = h.disk; live = Some h.parts } } in
      (done_step n s w).full ≡ false
      → I (with_here n h (nodes_in w)) (Then (Under w.frames) n outs) (λ b. IsSaid w.lines b ⊎ members.In (Say b) outs) →
      Flown (done_step n s w)
  done_flown n a h outs halting w there fits i =
      subst (λ f. I f (Under (frames_with w.frames (sends n outs)))
      (IsSaid (w.lines ++ numbered w.event (bodies n (length w.frames) outs)))) (sym (placed_here n a h w.nodes there))
      (more (with_here n h (nodes_in w)) (Then (Under w.frames) n outs) (Under (frames_with w.frames (sends n outs)))
      (λ c. IsSaid w.lines c ⊎ members.In (Say c) outs) (IsSaid (w.lines ++ numbered w.event (bodies n (length w.frames) outs)))
      (let free = or_second w.full (overflows w.frames (sends n outs)) fits in
      (then_under n outs w.frames free, under_then n outs w.frames free)) (λ c. then_said n (length w.frames) w.event outs w.lines c) i)
    where
      or_second : (x y : Bool) → (x || y) ≡ false → y ≡ false
      or_second true y is = absurd (cc is)
      or_second false y is = is

module _ (hd : Header) (P : Seen → Type 0) (keeps : KeepsAsked hd P) (I : (ℕ → Option Node) → (Post → Type 0) → (Body → Type 0) →
    Type 0) (more : MayGrow I) (message : MessagesKeep P I) where
  -- a whole step of what a handler did, behind some lines
  pub did_flown : (n : ℕ) (d : Disk) (v : Parts) (before outs : List Effect) (G : Post → Type 0) (sent : List Post) (w : World) (a : Node) →
      at_place n w.nodes ≡ Some a → SameWay G (Under w.frames) → ((to : ℕ) (m : Message) → members.In (Send to m) before → ⊥)
      → Walks P w.event n outs (Up P n v) d (see sent w) →
      I (with_here n (record { disk = works outs d; parts = v }) (nodes_in w)) (Then G n outs) (IsSaid w.lines)
      → let q = whole n v outs d in let s : Step = record {
        outs = before ++ q.outs;
        halting = before ++ q.outs;
        after = record { number = n; disk = q.here.disk; live = Some q.here.parts };
      } in
      (arms : List (ℕ × Arm)) → (done_step n s (record w { arms = arms })).full ≡ false →
      Flown I more (done_step n s (record w { arms = arms }))
  did_flown n d v before outs G sent w a there old silent walks i arms fits =
      let q = whole n v outs d in
      let all = whole_keeps hd P keeps I more message n w.event (nodes_in w) d v outs (see sent w) G (IsSaid w.lines) refl walks (λ b l. l)
      i in
      done_flown I more n a q.here (before ++ q.outs) (before ++ q.outs) (record w { arms = arms }) there fits
      (more (with_here n q.here (nodes_in w)) (Then G n q.outs) (Then (Under w.frames) n (before ++ q.outs))
      (λ b. IsSaid w.lines b ⊎ members.In (Say b) q.outs) (λ b. IsSaid w.lines b ⊎ members.In (Say b) (before ++ q.outs)) (
        λ p. ⊎_elim (λ g. inl (old.0 p g)) (λ out. inr (out.0, in_right (Send p.to p.message) before q.outs out.1)),
        λ p. ⊎_elim (λ u. inl (old.1 p u))
            (λ s. inr (s.0, ⊎_elim (λ i. absurd (silent p.to p.message i)) (λ i. i) (in_either before q.outs (Send p.to p.message) s.1))),
      )
      (λ b. ⊎_elim (λ l. inl l) (λ i. inr (in_right (Say b) before q.outs i))) all)

  -- ---- a delivery

  module _ (k : ℕ) (f : Frame) (w : World) (h : Holds hd P w) (x : IsLive f.to w) (at : at_place k w.frames ≡ Some f)
      (opened : is_open_frame f ≡ true) (flown : Flown I more w) where
    abbrev To : ℕ
    To = f.to

    abbrev There : Node
    There = x.node

    abbrev Memory : Parts
    Memory = x.parts

    -- the node within the step
    abbrev Begins : Here
    Begins = record { disk = There.disk; parts = Memory }

    -- the world in which the frame was delivered
    abbrev Marked : World
    Marked = change_frame k as_delivered f w

    -- the node with its memory
    abbrev Mine : Node
    Mine = record { number = To; disk = There.disk; live = Some Memory }

    mine_is : There ≡ Mine
    mine_is = let num = h.stands.numbers To There x.there in λ i. record { number = num i; disk = There.disk; live = x.live i }

    mine_there : at_place To w.nodes ≡ Some Mine
    mine_there = x.there ∙ ap Some mine_is

    holds_here : P (up To There.disk Memory (see h.sent w))
    holds_here = seen_up P To There Memory h.sent w x.there (h.stands.numbers To There x.there) x.live h.holds

    here : nodes_in w ≡ with_here To Begins (nodes_in w)
    here = there_here To Begins w.nodes mine_there

    -- nothing changes but a line
    void_flown : (G : Post → Type 0) (b : Body) → SameWay G (Under Marked.frames) → I (with_here To Begins (nodes_in w)) G (IsSaid w.lines)
        → (outs halting : List Effect) → AreLooks outs → (arms : List (ℕ × Arm)) →
        let s : Step = record { outs = outs ++ Say b ∷ []; halting = halting; after = Mine } in
        (done_step To s (record Marked { arms = arms })).full ≡ false → Flown I more (done_step To s (record Marked { arms = arms }))
    void_flown G b old i outs halting looks arms fits =
        done_flown I more To Mine Begins (outs ++ Say b ∷ []) halting (record Marked { arms = arms }) mine_there fits
        (more (with_here To Begins (nodes_in w)) G (Then (Under Marked.frames) To (outs ++ Say b ∷ [])) (IsSaid w.lines)
        (λ c. IsSaid w.lines c ⊎ members.In (Say c) (outs ++ Say b ∷ [])) (
          λ p g. inl (old.0 p g),
          λ p. ⊎_elim (λ u. old.1 p u) (λ s. absurd (⊎_elim (λ i. looks_send outs p.to p.message looks i)
              (λ i. ⊎_elim (λ is. said_sends is) (λ none. none) i) (in_either outs (Say b ∷ []) (Send p.to p.message) s.1))),
        ) (λ c l. inl l) i)

    -- what the node makes of a message
    message_flown : (m : Message) → f.message ≡ Some m → (arm : Option Arm) →
        let s = handled_step k Mine (taken To There.disk Memory f.from m) in
        is_up_at To (step_with To Mine s Marked arm) ≡ true → (step_with To Mine s Marked arm).full ≡ false →
        Flown I more (step_with To Mine s Marked arm)
    message_flown m is arm = by (taken To There.disk Memory f.from m) refl
        (message To There.disk Memory f.from m (see h.sent w) holds_here sent (Under w.frames) (Under Marked.frames) (IsSaid w.lines)
        (record { frame = f; there = frame_there k f w.frames at; opened = opened; from = refl; to = refl; message = is })
        (but_delivered k f m w.frames at is) (before_delivered k f w.frames) (λ b l. l)
        (subst (λ g. I g (Under w.frames) (IsSaid w.lines)) here flown))
      where
        sent : In (post_of f.from To m) h.sent
        sent = frame_sent k f m h.sent w.frames at is h.stands.frames

        by : (r : Handled) → taken To There.disk Memory f.from m ≡ r →
            Left I To Begins (nodes_in w) (Under Marked.frames) (IsSaid w.lines) r
            → is_up_at To (step_with To Mine (handled_step k Mine r) Marked arm) ≡ true → (step_with To Mine (handled_step k Mine r)
            Marked arm).full ≡ false → Flown I more (step_with To Mine (handled_step k Mine r) Marked arm)
        by (Void outs) so i live = was_done (λ z. z.full ≡ false → Flown I more z) To Mine (handled_step k Mine (Void outs)) Marked arm
            mine_there live (λ arms fits. void_flown (Under Marked.frames) (body.Void k) (λ p u. u, λ p u. u) i outs
            (Say (body.Got k) ∷ outs) (subst LooksAlone so (taken_looks To There.disk Memory f.from m)) arms fits)
        by (Took v outs) so i live =
            was_done (λ z. z.full ≡ false → Flown I more z) To Mine (handled_step k Mine (Took v outs)) Marked arm mine_there live
            (did_flown To There.disk v (Say (body.Got k) ∷ []) outs (Under Marked.frames) h.sent Marked Mine mine_there (λ p u. u, λ p u. u)
            (λ to m i. ⊎_elim (λ is. said_sends is) (λ none. none) i)
            (keeps.message w.event To There.disk Memory v f.from m outs (see h.sent w) holds_here sent
            (taken_meant To There.disk Memory v f.from m outs so) (taken_took To There.disk Memory v f.from m outs so)) i)

    frame_flown : let i : Input = input.Frame k f.from f.message in
        is_up_at To (steps To i Marked) ≡ true → (steps To i Marked).full ≡ false → Flown I more (steps To i Marked)
    frame_flown = subst (λ o. is_up_at To (step_node To (input.Frame k f.from f.message) Marked o) ≡ true →
        (step_node To (input.Frame k f.from f.message) Marked o).full ≡ false →
        Flown I more (step_node To (input.Frame k f.from f.message) Marked o)) (sym mine_there) (by f.message refl)
      where
        by : (o : Option Message) → f.message ≡ o → is_up_at To (step_node To (input.Frame k f.from o) Marked (Some Mine)) ≡ true →
            (step_node To (input.Frame k f.from o) Marked (Some Mine)).full ≡ false →
            Flown I more (step_node To (input.Frame k f.from o) Marked (Some Mine))
        by None none live = was_done (λ z. z.full ≡ false →
            Flown I more z) To Mine (step w.header Mine (input.Frame k f.from None)) Marked (at_number To w.arms) mine_there live
            (λ arms fits. void_flown (Under w.frames) (body.Void k) (junk_delivered k f w.frames at none, before_delivered k f w.frames)
            (subst (λ g. I g (Under w.frames) (IsSaid w.lines)) here flown) [] (Say (body.Got k) ∷ []) refl arms fits)
        by (Some m) is live = message_flown m is (at_number To w.arms) live

module _ (hd : Header) (P : Seen → Type 0) (keeps : KeepsAsked hd P) (within : (M : Seen) (p : Post) → P M → In p M.sent →
    Of hd p.to) (I : (ℕ → Option Node) → (Post → Type 0) → (Body → Type 0) → Type 0) (more : MayGrow I) (message : MessagesKeep P I) where
  deliver_flown : (k : ℕ) (w : World) → Holds hd P w → lowest_from 1 w.frames ≡ Some k → Flown I more w → Ups hd (deliver k w) →
      (deliver k w).full ≡ false → Flown I more (deliver k w)
  deliver_flown k w h low flown ups = by (at_place k w.frames) refl (ups (let f = o.frame in f.to) of)
    where
      o : IsOpenAt 1 k w.frames
      o = lowest_open 1 k w.frames low

      there : at_place k w.frames ≡ Some o.frame
      there = subst (λ j. at_place j w.frames ≡ Some o.frame) (sym (o.is ∙ one o.place)) o.there
        where
          one : (j : ℕ) → 1 + j ≡ suc j
          one j = grind arith

      -- it is for a node of the header
      of : Of hd (let f = o.frame in f.to)
      of = by (let f = o.frame in f.message) refl
        where
          by : (m : Option Message) → (let f = o.frame in f.message) ≡ m → Of hd (let f = o.frame in f.to)
          by None none = subst (HasPlace hd (let f = o.frame in f.to)) none (frame_placed k o.frame hd w.frames there h.stands.junk)
          by (Some m) is = within (see h.sent w) (post_of (let f = o.frame in f.from) (let f = o.frame in f.to) m) h.holds
              (frame_sent k o.frame m h.sent w.frames there is h.stands.frames)

      by : (x : Option Frame) → at_place k w.frames ≡ x → is_up_at (let f = o.frame in f.to) (deliver_frame k w x) ≡ true →
          (deliver_frame k w x).full ≡ false → Flown I more (deliver_frame k w x)
      by None none = let no_way : ◌≡◌ {A = Option Frame} None (Some o.frame) = sym none ∙ there in absurd (cc no_way)
      by (Some f) is =
          let same : f ≡ o.frame = some_is f o.frame (sym is ∙ there) in
          let live = live_at f.to w (deliver_up hd k w ups f.to (subst (λ (g : Frame). Of hd g.to) (sym same) of)) in
          λ up fits. frame_flown hd P keeps I more message k f w h live is (subst (λ (g : Frame). is_open_frame g ≡ true) (sym same)
          o.is_open) flown (subst (λ (g : Frame). is_up_at g.to (deliver_frame k w (Some f)) ≡ true) (sym same) up) fits

  pub settle_flown : (fuel : ℕ) (w : World) → Holds hd P w → Flown I more w → Ups hd (settle_for fuel w) →
      (settle_for fuel w).full ≡ false → Flown I more (settle_for fuel w)
  settle_flown zero w h flown ups fits = flown
  settle_flown (suc fuel) w h flown ups fits = by (lowest w) refl (λ v. settle_flown fuel v) ups fits
    where
      low_is : (k : ℕ) → lowest w ≡ Some k → lowest_from 1 w.frames ≡ Some k
      low_is k = one w.full
        where
          one : (b : Bool) → (if b then None else lowest_from 1 w.frames) ≡ Some k → lowest_from 1 w.frames ≡ Some k
          one true is = absurd (cc is)
          one false is = is

      by : (o : Option ℕ) → lowest w ≡ o → ((v : World) → Holds hd P v → Flown I more v → Ups hd (settle_for fuel v) →
          (settle_for fuel v).full ≡ false → Flown I more (settle_for fuel v))
          → Ups hd (after_lowest fuel w o) → (after_lowest fuel w o).full ≡ false → Flown I more (after_lowest fuel w o)
      by None is ih ups fits = flown
      by (Some k) is ih ups fits = ih (deliver k w) (deliver_holds hd P keeps k w h)
          (deliver_flown k w h (low_is k is) flown (settle_up hd fuel (deliver k w) ups) (settle_full fuel (deliver k w) fits)) ups fits

-- ---- ticks

-- what holds of nodes and of what is under way becomes this by a node's tick
abbrev pub TicksGive : (Seen → Type 0) → ℕ → ((ℕ → Option Node) → (Post → Type 0) → (Body → Type 0) → Type 0) →
    ((ℕ → Option Node) → (Post → Type 0) → (Body → Type 0) → Type 0) → Type 1
TicksGive P n I J = (d : Disk) (t : Parts) (M : Seen) → P (up n d t M) → (F : Post → Type 0) (B : Body → Type 0) → I (up n d t M).nodes F B
    → let outs = tick_outs (record { number = n; disk = d; live = Some t }) t in J (with_here n
    (record { disk = works outs d; parts = with_coord t (again_all t.coord.doings t.coord).part }) M.nodes) (Then F n outs) B

module _ (hd : Header) (P : Seen → Type 0) (keeps : KeepsAsked hd P) (I J : (ℕ → Option Node) → (Post → Type 0) → (Body → Type 0) →
    Type 0) (more : MayGrow I) (most : MayGrow J) (message : MessagesKeep P J) where
  pub tick_flown : (n : ℕ) (w : World) → Holds hd P w → Flown I more w → TicksGive P n I J → is_up_at n w ≡ true →
      is_up_at n (steps n input.Tick w) ≡ true → (steps n input.Tick w).full ≡ false → Flown J most (steps n input.Tick w)
  tick_flown n w h flown gives was = subst (λ o. is_up_at n (step_node n input.Tick w o) ≡ true →
      (step_node n input.Tick w o).full ≡ false → Flown J most (step_node n input.Tick w o)) (sym there)
      (λ live. was_done (λ z. z.full ≡ false → Flown J most z) n mine (step w.header mine input.Tick) w (at_number n w.arms) there live
      (did_flown hd P keeps J most message n (let a = x.node in a.disk) (with_coord t (again_all (let c = t.coord in
      c.doings) t.coord).part) [] (tick_outs mine t) (Under w.frames) h.sent w mine there (λ p u. u, λ p u. u) (λ to m i. i)
      (keeps.tick w.event n (let a = x.node in a.disk) t (see h.sent w) here)
      (gives (let a = x.node in a.disk) t (see h.sent w) here (Under w.frames) (IsSaid w.lines) (subst (λ g. I g (Under w.frames)
      (IsSaid w.lines)) (there_here n (record { disk = (let a = x.node in a.disk); parts = t }) w.nodes there) flown))))
    where
      x : IsLive n w
      x = live_at n w was

      t : Parts
      t = x.parts

      mine : Node
      mine = record { number = n; disk = (let a = x.node in a.disk); live = Some t }

      there : at_place n w.nodes ≡ Some mine
      there = x.there ∙ ap Some (let num = h.stands.numbers n x.node x.there in
          λ i. record { number = num i; disk = (let a = x.node in a.disk); live = x.live i })

      here : P (up n (let a = x.node in a.disk) t (see h.sent w))
      here = seen_up P n x.node t h.sent w x.there (h.stands.numbers n x.node x.there) x.live h.holds
