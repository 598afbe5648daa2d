-- Worlds keep their nodes, and labels are of actions of these.
use Rattle.arj_law_parts.proofs.Words
use Words.{Start, ◌≡◌, ◌∙◌, ◌+◌, ◌-◌, ◌<◌, ℕ, zero, suc, Bool, true, false, not, ◌&&◌, cond, List, [], ◌∷◌, ◌++◌, map, length, refl, sym}
use Words.{ap}
use Words.{subst, arith, Option, Some, None, is_some, nat_lt, nat_le, slice_get, slice_set, ◌||◌, insert_entry, AllByRecursion, and_parts}
use Words.{nat_tests, length-append, map-append, match_ordering, Ordering, Less, Equal, Greater, Handled, Void, Took, Parts, taken}
use Words.{at_number, Node, Input, first_reason, frame_step, handled_step, numbers_to, node_by, refusal, step, step_down, step_of}
use Words.{step_unless, step_up, at_place, set_place, Event, Header, Label, Message, label_cmp, World, Arm, Frame, Giving, Labelled, armed}
use Words.{gives_label, is_known, was_given, kind_below, labels_unless, node_of, refused_at, giving, as_delivered}
use Words.{begins}
use Words.{change_frame, count_works, counted, cut, deliver, deliver_frame, disarmed, done_step, halted_at, world_from, happens, is_node}
use Words.{is_quiet, is_up_at, junk_fits, lacks_labels, limited, lose, lose_frame, lowest, no_labels, node_numbers, quiesce}
use Words.{quiet_line, reasons, run_event, run_unless, settle, settle_for, show_all, show_up, step_node, step_with, steps, tick_all}
use Words.{tick_up, Move, all_moved, moved, world_by, is_at, list_any, is_serial, most_frames}
use Words.input
use Words.body
use Words.event
use Words.frame_no
use Words.kind
use Rattle.arj_law_parts.proofs.Terms
use Terms.{IsWhole, Asked, says}
use Terms.which
use Rattle.arj_law_parts.proofs.moves.Reasons.{first_not, is_new, is_there, is_unused, not_not}
use Rattle.arj_law_parts.proofs.steps.Spoken.{given_node}
use Rattle.arj_promise.specs.Runs.{Run}

-- ---- a step keeps the node's number

frame_number : (k from : ℕ) (n : Node) (t : Parts) (m : Option Message) → (frame_step k from n t m).after.number ≡ n.number
frame_number k from n t None = refl
frame_number k from n t (Some m) = by (taken n.number n.disk t from m)
  where
    by : (v : Handled) → (handled_step k n v).after.number ≡ n.number
    by (Void outs) = refl
    by (Took u outs) = refl

up_number : (n : Node) (t : Parts) (i : Input) → (step_up i n t).after.number ≡ n.number
up_number n t (input.Frame k from m) = frame_number k from n t m
up_number n t input.Tick = refl
up_number n t input.Restart = refl
up_number n t input.Crash = refl
up_number n t (input.Show x) = refl
up_number n t (input.Begin l k p) = refl
up_number n t (input.Call l x o) = refl
up_number n t (input.Include l x s) = refl
up_number n t (input.Commit l) = refl
up_number n t (input.Abort l) = refl
up_number n t (input.GiveUp l) = refl

down_number : (hd : Header) (n : Node) (i : Input) → (step_down hd i n).after.number ≡ n.number
down_number hd n (input.Frame k from m) = refl
down_number hd n input.Tick = refl
down_number hd n input.Restart = refl
down_number hd n input.Crash = refl
down_number hd n (input.Show x) = refl
down_number hd n (input.Begin l k p) = refl
down_number hd n (input.Call l x o) = refl
down_number hd n (input.Include l x s) = refl
down_number hd n (input.Commit l) = refl
down_number hd n (input.Abort l) = refl
down_number hd n (input.GiveUp l) = refl

-- whatever a node does
pub step_number : (hd : Header) (n : Node) (i : Input) → (step hd n i).after.number ≡ n.number
step_number hd n i = by (refusal hd i n)
  where
    live : (o : Option Parts) → (step_of hd i n o).after.number ≡ n.number
    live None = down_number hd n i
    live (Some t) = up_number n t i

    by : (r : Option ℕ) → (step_unless hd i n r).after.number ≡ n.number
    by (Some c) = refl
    by None = live n.live

-- ---- nodes at their places

-- the nodes of one world are at the places of another's, with the same numbers
pub record Alike (old new : List Node) : Type 0 where
  pub places : (n : ℕ) → is_some (at_place n new) ≡ is_some (at_place n old)
  pub numbers : (n : ℕ) (m : Node) → at_place n new ≡ Some m → (o : Node) × (at_place n old ≡ Some o) × (m.number ≡ o.number)

alike_same : (ns : List Node) → Alike ns ns
alike_same ns = record { places = λ n. refl; numbers = λ n m is. (m, is, refl) }

alike_on : (a b c : List Node) → Alike a b → Alike b c → Alike a c
alike_on a b c first second = record {
  places = λ n. second.places n ∙ first.places n;
  numbers = λ n m is. let s = second.numbers n m is in let f = first.numbers n s.0 s.1 in (f.0, f.1, s.2 ∙ f.2);
}

set_places : (ns : List Node) (i j : ℕ) (x : Node) → is_some (slice_get (slice_set ns i x) j) ≡ is_some (slice_get ns j)
set_places [] i j x = refl
set_places (m ∷ ms) zero zero x = refl
set_places (m ∷ ms) zero (suc j) x = refl
set_places (m ∷ ms) (suc i) zero x = refl
set_places (m ∷ ms) (suc i) (suc j) x = set_places ms i j x

set_numbers : (ns : List Node) (i : ℕ) (x y : Node) → slice_get ns i ≡ Some y → x.number ≡ y.number → (j : ℕ) (m : Node) →
    slice_get (slice_set ns i x) j ≡ Some m → (o : Node) × (slice_get ns j ≡ Some o) × (m.number ≡ o.number)
set_numbers [] i x y at same j m is = absurd (cc at)
set_numbers (n ∷ ns) zero x y at same zero m is = let here : n ≡ y = cc at in let new : x ≡ m = cc is in
    (n, refl, ap (λ (k : Node). k.number) (sym new) ∙ (same ∙ ap (λ (k : Node). k.number) (sym here)))
set_numbers (n ∷ ns) zero x y at same (suc j) m is = (m, is, refl)
set_numbers (n ∷ ns) (suc i) x y at same zero m is = (m, is, refl)
set_numbers (n ∷ ns) (suc i) x y at same (suc j) m is = set_numbers ns i x y at same j m is

set_alike : (ns : List Node) (k : ℕ) (x y : Node) → at_place k ns ≡ Some y → x.number ≡ y.number → Alike ns (set_place k x ns)
set_alike ns zero x y at same = absurd (cc at)
set_alike ns (suc i) x y at same = record { places = places; numbers = numbers }
  where
    places : (n : ℕ) → is_some (at_place n (slice_set ns i x)) ≡ is_some (at_place n ns)
    places zero = refl
    places (suc j) = set_places ns i j x

    numbers : (n : ℕ) (m : Node) → at_place n (slice_set ns i x) ≡ Some m → (o : Node) × (at_place n ns ≡ Some o) × (m.number ≡ o.number)
    numbers zero m is = absurd (cc is)
    numbers (suc j) m is = set_numbers ns i x y at same j m is

-- ---- worlds

-- header, start and labels are the same, and nodes alike
pub record Keeps (w v : World) : Type 0 where
  pub header : v.header ≡ w.header
  pub start : v.start ≡ w.start
  pub labels : v.labels ≡ w.labels
  pub nodes : Alike w.nodes v.nodes

keeps_same : (w v : World) → v.header ≡ w.header → v.start ≡ w.start → v.labels ≡ w.labels → v.nodes ≡ w.nodes → Keeps w v
keeps_same w v header start labels nodes =
    record { header = header; start = start; labels = labels; nodes = subst (Alike w.nodes) (sym nodes) (alike_same w.nodes) }

keeps_on : (u v w : World) → Keeps u v → Keeps v w → Keeps u w
keeps_on u v w a b =
    record {
      header = b.header ∙ a.header;
      start = b.start ∙ a.start;
      labels = b.labels ∙ a.labels;
      nodes = alike_on u.nodes v.nodes w.nodes a.nodes b.nodes;
    }

steps_keep : (k : ℕ) (i : Input) (w : World) → Keeps w (steps k i w)
steps_keep k i w = by (at_place k w.nodes) refl
  where
    armed_keeps : (n : Node) (a : Arm) → at_place k w.nodes ≡ Some n → (b : Bool)
        → Keeps w
        (cond b (done_step k (step w.header n i) (armed k (record a { works = a.works - count_works (step w.header n i).halting }) w))
        (halted_at k n (cut (a.works - 1) a.how (step w.header n i).halting n.disk) (disarmed k w)))
    armed_keeps n a at true =
        record {
          header = refl;
          start = refl;
          labels = refl;
          nodes = set_alike w.nodes k (step w.header n i).after n at (step_number w.header n i);
        }
    armed_keeps n a at false = record {
      header = refl;
      start = refl;
      labels = refl;
      nodes = set_alike w.nodes k (record n { disk = (cut (a.works - 1) a.how (step w.header n i).halting n.disk).disk; live = None }) n
          at refl;
    }

    with_keeps : (n : Node) → at_place k w.nodes ≡ Some n → (a : Option Arm) → Keeps w (step_with k n (step w.header n i) w a)
    with_keeps n at None =
        record {
          header = refl;
          start = refl;
          labels = refl;
          nodes = set_alike w.nodes k (step w.header n i).after n at (step_number w.header n i);
        }
    with_keeps n at (Some a) = armed_keeps n a at (nat_lt (count_works (step w.header n i).halting) a.works)

    by : (o : Option Node) → at_place k w.nodes ≡ o → Keeps w (step_node k i w o)
    by None is = keeps_same w w refl refl refl refl
    by (Some n) is = with_keeps n is (at_number k w.arms)

deliver_keeps : (k : ℕ) (w : World) → Keeps w (deliver k w)
deliver_keeps k w = by (at_place k w.frames)
  where
    by : (o : Option Frame) → Keeps w (deliver_frame k w o)
    by None = keeps_same w w refl refl refl refl
    by (Some f) = keeps_on w (change_frame k as_delivered f w) (steps f.to (input.Frame k f.from f.message)
        (change_frame k as_delivered f w)) (keeps_same w (change_frame k as_delivered f w) refl refl refl refl)
        (steps_keep f.to (input.Frame k f.from f.message) (change_frame k as_delivered f w))

lose_keeps : (k : ℕ) (w : World) → Keeps w (lose k w)
lose_keeps k w = by (at_place k w.frames)
  where
    by : (o : Option Frame) → Keeps w (lose_frame k w o)
    by None = keeps_same w w refl refl refl refl
    by (Some f) = keeps_same w (lose_frame k w (Some f)) refl refl refl refl

settle_keeps : (fuel : ℕ) (w : World) → Keeps w (settle_for fuel w)
settle_keeps zero w = keeps_same w w refl refl refl refl
settle_keeps (suc fuel) w = by (lowest w) (λ k. settle_keeps fuel (deliver k w))
  where
    after : Option ℕ → World
    after o = elim o [ None ↦ w | Some k ↦ settle_for fuel (deliver k w) ]

    by : (o : Option ℕ) → ((k : ℕ) → Keeps (deliver k w) (settle_for fuel (deliver k w))) → Keeps w (after o)
    by None rest = keeps_same w w refl refl refl refl
    by (Some k) rest = keeps_on w (deliver k w) (settle_for fuel (deliver k w)) (deliver_keeps k w) (rest k)

tick_keeps : (n : ℕ) (w : World) → Keeps w (tick_up n w)
tick_keeps n w = by (w.full || not (is_up_at n w))
  where
    by : (b : Bool) → Keeps w (cond b w (steps n input.Tick w))
    by true = keeps_same w w refl refl refl refl
    by false = steps_keep n input.Tick w

ticks_keep : (ns : List ℕ) (w : World) → Keeps w (tick_all ns w)
ticks_keep [] w = keeps_same w w refl refl refl refl
ticks_keep (n ∷ ns) w = keeps_on w (tick_up n w) (tick_all ns (tick_up n w)) (tick_keeps n w) (ticks_keep ns (tick_up n w))

quiet_keeps : (v : World) → Keeps v (quiet_line v)
quiet_keeps v = by v.full
  where
    by : (b : Bool) → Keeps v (cond b v (says (body.Quiet (is_quiet v) ∷ []) v))
    by true = keeps_same v v refl refl refl refl
    by false = keeps_same v (says (body.Quiet (is_quiet v) ∷ []) v) refl refl refl refl

quiesce_keeps : (w : World) → Keeps w (quiesce w)
quiesce_keeps w = last (settle w) (settle_keeps most_frames w)
  where
    last : (first : World) → Keeps w first → Keeps w (quiet_line (settle (tick_all (node_numbers w) first)))
    last first keeps =
        let ticked = tick_all (node_numbers w) first in
        keeps_on w (settle ticked) (quiet_line (settle ticked)) (keeps_on w ticked (settle ticked) (keeps_on w first ticked keeps
        (ticks_keep (node_numbers w) first)) (settle_keeps most_frames ticked)) (quiet_keeps (settle ticked))

show_keeps : (x n : ℕ) (w : World) → Keeps w (show_up x n w)
show_keeps x n w = by (is_up_at n w)
  where
    by : (b : Bool) → Keeps w (cond b (steps n (input.Show x) w) w)
    by true = steps_keep n (input.Show x) w
    by false = keeps_same w w refl refl refl refl

shows_keep : (x : ℕ) (ns : List ℕ) (w : World) → Keeps w (show_all x ns w)
shows_keep x [] w = keeps_same w w refl refl refl refl
shows_keep x (n ∷ ns) w = keeps_on w (show_up x n w) (show_all x ns (show_up x n w)) (show_keeps x n w) (shows_keep x ns (show_up x n w))

limited_keeps : (v : World) → Keeps v (limited v)
limited_keeps v = by v.full
  where
    by : (b : Bool) → Keeps v (cond b (says (body.Limit which.Frames ∷ []) (record v { over = true })) v)
    by true = keeps_same v (says (body.Limit which.Frames ∷ []) (record v { over = true })) refl refl refl refl
    by false = keeps_same v v refl refl refl refl

-- ---- whole worlds

whole_kept : (w v : World) → Keeps w v → IsWhole w → IsWhole v
whole_kept w v keeps whole = record {
  nodes = λ n there. keeps.nodes.places n ∙ whole.nodes n (subst (λ hd. (nat_le 1 n && nat_le n hd.nodes) ≡ true) keeps.header there);
  numbers = λ n m is. let o = keeps.nodes.numbers n m is in o.2 ∙ whole.numbers n o.0 o.1;
  labels = subst (λ hd. AllByRecursion (λ (e : Label × Labelled). (nat_le 1 e.1.node && nat_le e.1.node hd.nodes) ≡ true) v.labels)
      (sym keeps.header)
      (subst (AllByRecursion (λ (e : Label × Labelled). is_node e.1.node w ≡ true)) (sym keeps.labels) whole.labels);
  new = subst (λ (st : Start). AllByRecursion (λ (e : Label × Labelled). list_any (is_at (label_cmp e.0)) st.given ≡ false) v.labels)
      (sym keeps.start) (subst (AllByRecursion (λ (e : Label × Labelled). was_given e.0 w ≡ false)) (sym keeps.labels) whole.new);
}

-- a label is given to an action of a node
label_put : {X : Type 0} (P : X → Type 0) (k : Label) (x : X) (es : List (Label × X)) → AllByRecursion (λ (e : Label × X). P e.1) es → P x →
    AllByRecursion (λ (e : Label × X). P e.1) (insert_entry label_cmp es k x)
label_put {X = X} P k x [] all p = (p, tt)
label_put {X = X} P k x (e ∷ es) all p = by (label_cmp k e.0) (label_put P k x es all.1 p)
  where
    by : (o : Ordering) → AllByRecursion (λ (f : Label × X). P f.1) (insert_entry label_cmp es k x) →
        AllByRecursion (λ (f : Label × X). P f.1) (match_ordering o ((k, x) ∷ e ∷ es) ((e.0, x) ∷ es) (e ∷ insert_entry label_cmp es k x))
    by Less rest = (p, all)
    by Equal rest = (p, all.1)
    by Greater rest = (all.0, rest)

-- what holds of each label
label_new : {X : Type 0} (P : Label → Type 0) (k : Label) (x : X) (es : List (Label × X)) → AllByRecursion (λ (e : Label × X). P e.0) es →
    P k → AllByRecursion (λ (e : Label × X). P e.0) (insert_entry label_cmp es k x)
label_new {X = X} P k x [] all p = (p, tt)
label_new {X = X} P k x (e ∷ es) all p = by (label_cmp k e.0) (label_new P k x es all.1 p)
  where
    by : (o : Ordering) → AllByRecursion (λ (f : Label × X). P f.0) (insert_entry label_cmp es k x) →
        AllByRecursion (λ (f : Label × X). P f.0) (match_ordering o ((k, x) ∷ e ∷ es) ((e.0, x) ∷ es) (e ∷ insert_entry label_cmp es k x))
    by Less rest = (p, all)
    by Equal rest = all
    by Greater rest = (all.0, rest)

label_given : (w : World) (g : Giving) → is_node g.node w ≡ true → was_given g.label w ≡ false → IsWhole w → IsWhole (gives_label g w)
label_given w g there unused whole = record {
  nodes = whole.nodes;
  numbers = whole.numbers;
  labels = label_put (λ (x : Labelled). is_node x.node w ≡ true) g.label (record { node = g.node; serial = is_serial g.kind }) w.labels
      whole.labels there;
  new = label_new (λ l. was_given l w ≡ false) g.label (record { node = g.node; serial = is_serial g.kind }) w.labels whole.new unused;
}

begins_whole : (w : World) (g : Giving) → is_node g.node w ≡ true → was_given g.label w ≡ false → IsWhole w → IsWhole (begins g w)
begins_whole w g there unused whole = by (refused_at i w (at_place g.node w.nodes))
  where
    i : Input
    i = input.Begin g.label g.kind g.parent

    by : (r : Option ℕ) → IsWhole (steps g.node i (labels_unless g w r))
    by None = whole_kept (gives_label g w) (steps g.node i (gives_label g w)) (steps_keep g.node i (gives_label g w))
        (label_given w g there unused whole)
    by (Some c) = whole_kept w (steps g.node i w) (steps_keep g.node i w) whole

-- ---- events

counted_whole : (w : World) → IsWhole w → IsWhole (counted w)
counted_whole w whole = whole_kept w (counted w) (keeps_same w (counted w) refl refl refl refl) whole

module _ (w : World) (whole : IsWhole w) (a : Arm) where
  kept : (v : World) → Keeps (counted w) v → IsWhole v
  kept v keeps = whole_kept (counted w) v keeps (counted_whole w whole)

  happens_whole : (e : Event) → first_reason (reasons e w) ≡ None → IsWhole (happens e a (counted w))
  happens_whole (event.Begin l n) none =
      let r = first_not 1 (not (is_node n w)) ((2, not (is_up_at n w)) ∷ (4, is_known l w) ∷ []) none in
      begins_whole (counted w) (record { label = l; kind = kind.Top; parent = None; node = n }) (not_not (is_node n w) r.0)
      (is_unused l w [] (first_not 2 (not (is_up_at n w)) ((4, is_known l w) ∷ []) r.1).1) (counted_whole w whole)
  happens_whole (event.Serial l n) none =
      let r = first_not 1 (not (is_node n w)) ((2, not (is_up_at n w)) ∷ (4, is_known l w) ∷ []) none in
      begins_whole (counted w) (record { label = l; kind = kind.Serial; parent = None; node = n }) (not_not (is_node n w) r.0)
      (is_unused l w [] (first_not 2 (not (is_up_at n w)) ((4, is_known l w) ∷ []) r.1).1) (counted_whole w whole)
  happens_whole (event.BeginIn l p) none =
      let r = is_new l w ((5, not (is_known p w)) ∷ (6, was_given p w) ∷ []) none in
      begins_whole (counted w) (record { label = l; kind = kind_below p w; parent = Some p; node = node_of p w })
      (given_node w p whole (is_there p w r.1)) (is_unused l w ((5, not (is_known p w)) ∷ (6, was_given p w) ∷ []) none)
      (counted_whole w whole)
  happens_whole (event.Top l p) none =
      let r = is_new l w ((5, not (is_known p w)) ∷ (6, was_given p w) ∷ []) none in
      begins_whole (counted w) (record { label = l; kind = kind.Independent; parent = Some p; node = node_of p w })
      (given_node w p whole (is_there p w r.1)) (is_unused l w ((5, not (is_known p w)) ∷ (6, was_given p w) ∷ []) none)
      (counted_whole w whole)
  happens_whole (event.Call l x o) none =
      kept (happens (event.Call l x o) a (counted w)) (steps_keep (node_of l w) (input.Call l x o) (counted w))
  happens_whole (event.Include l x n) none =
      kept (happens (event.Include l x n) a (counted w)) (steps_keep (node_of l w) (input.Include l x n) (counted w))
  happens_whole (event.Commit l) none =
      kept (happens (event.Commit l) a (counted w)) (steps_keep (node_of l w) (input.Commit l) (counted w))
  happens_whole (event.Abort l) none = kept (happens (event.Abort l) a (counted w)) (steps_keep (node_of l w) (input.Abort l) (counted w))
  happens_whole (event.GiveUp l) none =
      kept (happens (event.GiveUp l) a (counted w)) (steps_keep (node_of l w) (input.GiveUp l) (counted w))
  happens_whole (event.Deliver (frame_no.Number k)) none = kept (deliver k (counted w)) (deliver_keeps k (counted w))
  happens_whole (event.Deliver frame_no.Last) none =
      kept (deliver (length w.frames) (counted w)) (deliver_keeps (length w.frames) (counted w))
  happens_whole (event.Lose (frame_no.Number k)) none = kept (lose k (counted w)) (lose_keeps k (counted w))
  happens_whole (event.Lose frame_no.Last) none = kept (lose (length w.frames) (counted w)) (lose_keeps (length w.frames) (counted w))
  happens_whole (event.Tick n) none = kept (steps n input.Tick (counted w)) (steps_keep n input.Tick (counted w))
  happens_whole event.Settle none = kept (settle (counted w)) (settle_keeps most_frames (counted w))
  happens_whole event.Quiesce none = kept (quiesce (counted w)) (quiesce_keeps (counted w))
  happens_whole (event.Crash n) none = kept (steps n input.Crash (counted w)) (steps_keep n input.Crash (counted w))
  happens_whole (event.Restart n) none = kept (steps n input.Restart (counted w)) (steps_keep n input.Restart (counted w))
  happens_whole (event.Stop n c how) none = kept (says (body.Armed n ∷ []) (armed n a (counted w)))
      (keeps_same (counted w) (says (body.Armed n ∷ []) (armed n a (counted w))) refl refl refl refl)
  happens_whole (event.Junk n bytes) none = by (nat_lt (length w.frames) most_frames)
    where
      by : (b : Bool) → IsWhole (junk_fits n (counted w) b)
      by true = kept (junk_fits n (counted w) true) (keeps_same (counted w) (junk_fits n (counted w) true) refl refl refl refl)
      by false = kept (junk_fits n (counted w) false) (keeps_same (counted w) (junk_fits n (counted w) false) refl refl refl refl)
  happens_whole (event.Show x) none =
      kept (show_all x (node_numbers (counted w)) (counted w)) (shows_keep x (node_numbers (counted w)) (counted w))

pub event_whole : (e : Asked) (w : World) → IsWhole w → IsWhole (run_event e w)
event_whole e w whole = over w.over
  where
    accepted : (b : Bool) → first_reason (reasons e.event w) ≡ None →
        IsWhole (cond b (no_labels w) (limited (happens e.event e.arm (counted w))))
    accepted true none = whole_kept w (no_labels w) (keeps_same w (no_labels w) refl refl refl refl) whole
    accepted false none = whole_kept (happens e.event e.arm (counted w)) (limited (happens e.event e.arm (counted w)))
        (limited_keeps (happens e.event e.arm (counted w))) (happens_whole w whole e.arm e.event none)

    by : (r : Option ℕ) → first_reason (reasons e.event w) ≡ r → IsWhole (run_unless e.event e.arm w r)
    by (Some c) is =
        whole_kept w (says (body.Refused c ∷ []) (counted w))
        (keeps_same w (says (body.Refused c ∷ []) (counted w)) refl refl refl refl) whole
    by None is = accepted (lacks_labels (giving e.event w) w) is

    over : (b : Bool) → IsWhole (cond b w (run_unless e.event e.arm w (first_reason (reasons e.event w))))
    over true = whole
    over false = by (first_reason (reasons e.event w)) refl

-- which stops are to fall is nothing to it
pub whole_with : (arms : List (ℕ × Arm)) (w : World) → IsWhole w → IsWhole (record w { arms = arms })
whole_with arms w whole = record { nodes = whole.nodes; numbers = whole.numbers; labels = whole.labels; new = whole.new }

pub move_whole : (m : Move) (w : World) → IsWhole w → IsWhole (moved m w)
move_whole m w whole = whole_with [] (run_event m.asked (record w { arms = m.falls }))
    (event_whole m.asked (record w { arms = m.falls }) (whole_with m.falls w whole))

moves_whole : (ms : List Move) (w : World) → IsWhole w → IsWhole (all_moved ms w)
moves_whole [] w whole = whole
moves_whole (m ∷ ms) w whole = moves_whole ms (moved m w) (move_whole m w whole)

-- ---- as a run begins

-- nodes whose numbers follow one another, from this one on
abbrev AreNumbered : ℕ → List Node → Type 0
AreNumbered k [] = Unit {0}
AreNumbered k (n ∷ ns) = (n.number ≡ k) × AreNumbered (suc k) ns

one_more : (k : ℕ) (ns : List Node) (m : Node) → AreNumbered k ns → m.number ≡ k + length ns → AreNumbered k (ns ++ m ∷ [])
one_more k [] m are is = (is ∙ grind arith, tt)
one_more k (n ∷ ns) m are is = (are.0, one_more (suc k) ns m are.1 (is ∙ grind arith))

number_at : (k : ℕ) (ns : List Node) (i : ℕ) (m : Node) → AreNumbered k ns → slice_get ns i ≡ Some m → m.number ≡ k + i
number_at k [] i m are at = absurd (cc at)
number_at k (n ∷ ns) zero m are at = let here : n ≡ m = cc at in ap (λ (x : Node). x.number) (sym here) ∙ (are.0 ∙ grind arith)
number_at k (n ∷ ns) (suc i) m are at = number_at (suc k) ns i m are.1 at ∙ grind arith

some_at : (ns : List Node) (i : ℕ) → i < length ns → is_some (slice_get ns i) ≡ true
some_at [] i less = absurd (omega (arith, less))
some_at (n ∷ ns) zero less = refl
some_at (n ∷ ns) (suc i) less = some_at ns i (omega (arith, less))

module _ (hd : Header) (st : Start) where
  abbrev firsts : ℕ → List Node
  firsts n = map (node_by hd st) (numbers_to n)

  firsts_next : (n : ℕ) → firsts (suc n) ≡ firsts n ++ node_by hd st (suc n) ∷ []
  firsts_next n = map-append (node_by hd st) (numbers_to n) (suc n ∷ [])

  firsts_count : (n : ℕ) → length (firsts n) ≡ n
  firsts_count zero = refl
  firsts_count (suc n) =
      ap length (firsts_next n) ∙ (length-append (firsts n) (node_by hd st (suc n) ∷ []) ∙ (ap (λ k. k + 1) (firsts_count n) ∙ grind arith))

  firsts_numbered : (n : ℕ) → AreNumbered 1 (firsts n)
  firsts_numbered zero = tt
  firsts_numbered (suc n) = subst (AreNumbered 1) (sym (firsts_next n))
      (one_more 1 (firsts n) (node_by hd st (suc n)) (firsts_numbered n) (sym (ap (λ k. 1 + k) (firsts_count n) ∙ grind arith)))

  pub starts_whole : IsWhole (world_from hd st)
  starts_whole = record { nodes = nodes; numbers = numbers; labels = tt; new = tt }
    where
      nodes : (n : ℕ) → is_node n (world_from hd st) ≡ true → is_some (at_place n (firsts hd.nodes)) ≡ true
      nodes zero there = absurd (cc there)
      nodes (suc k) there =
          let below : nat_le (suc k) hd.nodes ≡ true = (and_parts (nat_le 1 (suc k)) (nat_le (suc k) hd.nodes) there).1 in
          let count = firsts_count hd.nodes in
          some_at (firsts hd.nodes) k (grind (arith, nat_tests, below, count))

      numbers : (n : ℕ) (m : Node) → at_place n (firsts hd.nodes) ≡ Some m → m.number ≡ n
      numbers zero m at = absurd (cc at)
      numbers (suc k) m at = number_at 1 (firsts hd.nodes) k m (firsts_numbered hd.nodes) at ∙ grind arith

pub runs_whole : (hd : Header) (r : Run hd) → IsWhole (world_by hd r)
runs_whole hd r = moves_whole r.moves (world_from hd r.start) (starts_whole hd r.start)
